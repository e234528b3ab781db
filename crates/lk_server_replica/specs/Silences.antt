-- For how many periods a replica has heard no leader.
use Rattle.std.specs.Prelude.{◌==◌, ◌&&◌, ◌||◌, ℕ, Bool, false, nat_lt, is_some, Option, Some, None, if◌then◌else◌}
use Rattle.lk_disk.specs.Disk.{one_more}
use Rattle.lk_server_replica.specs.declared.replica_status.ReplicaStatus.{ReplicaStatus}

-- that node sent it, and is this one
abbrev pub is_from : Option ℕ → Option ℕ → Bool
is_from None leader = false
is_from (Some node) None = false
is_from (Some node) (Some leader) = node == leader

-- whether a replica begins its count anew at an input: it has a term, or its count fell, or its count is 0 and the node
-- sent it that the replica follows
abbrev pub begins_anew : Option ℕ → ReplicaStatus → ReplicaStatus → Bool
begins_anew sender before after =
    is_some after.term || nat_lt after.silence before.silence || (after.silence == 0 && is_from sender after.known)

-- how many periods count whose ticks were withheld, after an input that this node sent, if one did
abbrev pub quiet_after : Option ℕ → ReplicaStatus → ReplicaStatus → ℕ → ℕ
quiet_after sender before after quiet = if begins_anew sender before after then 0 else quiet

-- the same after one more such period: a replica with a term counts no silence
abbrev pub quiet_withheld : ReplicaStatus → ℕ → ℕ
quiet_withheld status quiet = if is_some status.term then quiet else one_more quiet
