use Rattle.std.proofs.Common.{IfSome, List, ℕ, ◌≤◌, ◌*◌}
use Rattle.lk_script.specs.TableRuns.{done_in}
use Rattle.lk_script.proofs.ScriptLaws.{SoFar}
use Rattle.lk_script.proofs.script.run_script.Given as goal

abbrev pub invariant-loop-number : goal.invariant-loop-number
invariant-loop-number g l =
    (done_in l.mode ≤ 65535 * l.number)
    × IfSome (g.R.Read.remaining l.fn.reader)
    (λ (input : List ℕ). SoFar g.M.MemoryReplica.behaves input (g.W.Write.contents l.fn.writer)
    (g.W.Write.contents l.writer) (g.R.Read.remaining l.reader) l.mode l.number)
