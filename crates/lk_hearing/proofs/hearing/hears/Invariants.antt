use Rattle.std.proofs.Common.{◌≡◌, drop}
use Rattle.lk_hearing.specs.Probes.{hears}
use Rattle.lk_hearing.proofs.hearing.hears.Given as goal

-- no entry so far counts
abbrev pub invariant-loop-entry : goal.invariant-loop-entry
invariant-loop-entry l = hears l.node l.now (drop l.entry-index l.entries) ≡ hears l.node l.now l.entries
