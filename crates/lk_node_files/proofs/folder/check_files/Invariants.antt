-- nothing was written
use Rattle.std.proofs.Common.{◌≡◌}
use Rattle.lk_node_files.proofs.folder.check_files.Given as goal

abbrev pub invariant-files : goal.invariant-files
invariant-files g l = l.err ≡ l.initial.err
