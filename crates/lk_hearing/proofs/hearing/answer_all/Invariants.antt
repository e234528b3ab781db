use Rattle.std.proofs.Common.{◌≡◌, ◌++◌, map, take, drop}
use Rattle.lk_hearing.specs.Probes.{answered_at}
use Rattle.lk_hearing.proofs.hearing.answer_all.Given as goal

-- the report is noted at the entries so far
abbrev pub invariant-loop-entry : goal.invariant-loop-entry
invariant-loop-entry l =
    l.entries ≡ map (answered_at l.reply l.now) (take l.entry-index l.fn.entries) ++ drop l.entry-index l.fn.entries
