use Rattle.std.proofs.Common.{◌≡◌, take}
use Rattle.lk_status.specs.Targets.{targets_at}
use Rattle.lk_status.proofs.target.targets_at.Given as goal

-- those of the members so far
abbrev pub invariant-members : goal.invariant-members
invariant-members l = l.targets.items ≡ targets_at (take l.member-index l.members)
