-- The nodes of the members so far.
use Rattle.std.proofs.Common.{◌≡◌, take}
use Rattle.lk_members.specs.Nodes.{nodes_of}
use Rattle.lk_members.proofs.nodes.nodes_of.Given as goal

abbrev pub invariant-members : goal.invariant-members
invariant-members l = l.nodes.items ≡ nodes_of (take l.member-index l.members)
