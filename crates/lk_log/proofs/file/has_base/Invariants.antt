use Rattle.std.proofs.Common.{◌≡◌, drop}
use Rattle.lk_store_format.specs.Bases.{has_base}
use Rattle.lk_log.proofs.file.has_base.Given as goal

abbrev pub invariant-loop-entry : goal.invariant-loop-entry
invariant-loop-entry l = has_base (drop l.entry-index l.entries) ≡ has_base l.entries
