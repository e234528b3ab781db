-- Whether a step of a replica has brought it what others are ahead of it.
use Rattle.std.specs.Prelude.{◌+◌, ◌||◌, Bool, nat_lt}
use Rattle.lk_server_replica.specs.declared.replica_status.ReplicaStatus.{ReplicaStatus}

-- it has gathered more of a snapshot, has installed one, or has executed two positions or more
abbrev pub is_fed : ReplicaStatus → ReplicaStatus → Bool
is_fed before after =
    nat_lt before.gathered after.gathered || nat_lt before.executed after.snapshot
    || nat_lt (before.executed + 1) after.executed
