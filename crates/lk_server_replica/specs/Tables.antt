-- What a replica has executed: its lock table, the greatest number that has joined, and the members.
use Rattle.std.specs.Prelude.{ℕ, List, [], Option, Some, None, slice_get}
use Rattle.lk_types.specs.declared.member.Member.{Member}
use Rattle.lk_locks.specs.Packed.{table_in}
use Rattle.lk_locks.specs.Plain.{Table}
use Rattle.lk_replica.specs.ReplicaValue.{ReplicaValue}

-- the table that the replica has executed
abbrev pub table_of : ReplicaValue → Table
table_of r = table_in r.node.learner.whole.text

-- the greatest number that was ever a member's
abbrev pub greatest_of : ReplicaValue → ℕ
greatest_of r = r.node.learner.whole.roster.greatest

-- these members, or nobody
abbrev pub or_nobody : Option (List Member) → List Member
or_nobody None = []
or_nobody (Some ms) = ms

-- the members of the next position: a replica has some for each of the next positions
abbrev pub members_of : ReplicaValue → List Member
members_of r = or_nobody (slice_get r.node.learner.whole.roster.sets 0)
