-- The requests so far are under way.
use Rattle.std.proofs.Common.{Contains, take}
use Rattle.lk_members.specs.Effects.{Request}
use Rattle.lk_leader.specs.Waits.{RequestValue}
use Rattle.lk_leader.specs.Values.{IsUnderWay}
use Rattle.lk_leader.proofs.waiting.Waiting.first_new.Given as goal

abbrev pub invariant-loop-index : goal.invariant-loop-index
invariant-loop-index l =
    (r : RequestValue) → Contains (take l.index l.self) r → IsUnderWay l.executed l.proposals (Request r)
