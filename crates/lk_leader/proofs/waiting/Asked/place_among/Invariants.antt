-- None of the proposals so far is of the request.
use Rattle.std.proofs.Common.{take}
use Rattle.lk_members.specs.Effects.{Request}
use Rattle.lk_leader.specs.Values.{IsUnderWay}
use Rattle.lk_leader.proofs.waiting.Asked.place_among.Given as goal

abbrev pub invariant-loop-index : goal.invariant-loop-index
invariant-loop-index l =
    IsUnderWay l.executed (take l.index l.proposals)
    (Request (record { client = l.client; number = l.self.number; op = l.self.op })) → ⊥
