-- Rising clients are separated by the one that is looked for.
use Rattle.std.proofs.Common.{rules, ℕ, nat_lt}
use Rattle.std.proofs.lemmas.List.Sorted.{IsPartitionPoint-from_clause, IsPartitionedBy-ltb}
use Rattle.lk_locks.specs.SharerLaws.{clients_rise, index_is_before}
use Rattle.lk_locks.proofs.sharers.index_of.Goals as goal

pub returns-clause-index : goal.returns-clause-index
returns-clause-index c =
    let parted = IsPartitionedBy-ltb (λ (n : ℕ). n) c.args.clients.now c.args.client
    (clients_rise 0 c.args.clients.now c.requires) in
    let point = IsPartitionPoint-from_clause
    (λ (n : ℕ). nat_lt n c.args.client) c.args.clients.now c.partition_point.result
    c.partition_point.ensures.partitioned parted (λ a r q k. search rules) in
    index_is_before c.args.client c.partition_point.result c.args.clients.now point c.partition_point.ensures.bound
