-- Rising clients are separated by the one that is looked for.
use Rattle.std.proofs.Common.{rules, nat_lt}
use Rattle.std.proofs.lemmas.List.Sorted.{IsPartitionPoint-from_clause, IsPartitionedBy-ltb}
use Rattle.lk_state.specs.Sessions.{Session}
use Rattle.lk_state.proofs.SessionLaws.{clients_rise, index_is_before}
use Rattle.lk_state.proofs.session.index_of.Goals as goal

pub returns-clause-index : goal.returns-clause-index
returns-clause-index c =
    let parted = IsPartitionedBy-ltb (λ (s : Session). s.client) c.args.sessions.now c.args.client
    (clients_rise 0 c.args.sessions.now c.requires) in
    let point = IsPartitionPoint-from_clause
    (λ (s : Session). nat_lt s.client c.args.client) c.args.sessions.now c.partition_point.result
    c.partition_point.ensures.partitioned parted (λ a r q k. search rules) in
    index_is_before c.args.client c.partition_point.result c.args.sessions.now point c.partition_point.ensures.bound
