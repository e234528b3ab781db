use Rattle.std.proofs.Common.{◌≡◌, drop}
use Rattle.lk_hearing.specs.Probes.{is_expected}
use Rattle.lk_hearing.proofs.hearing.is_expected.Given as goal

-- the report replies to no entry so far
abbrev pub invariant-loop-entry : goal.invariant-loop-entry
invariant-loop-entry l = is_expected l.reply (drop l.entry-index l.entries) ≡ is_expected l.reply l.entries
