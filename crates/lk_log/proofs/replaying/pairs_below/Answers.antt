-- Rising positions are separated by the one that is looked for.
use Rattle.std.proofs.Common.{ℕ, rules, nat_lt}
use Rattle.std.proofs.lemmas.List.Sorted.{IsPartitionPoint-from_clause, IsPartitionedBy-ltb}
use Rattle.lk_types.specs.declared.command.Command.{Command}
use Rattle.lk_store_format.proofs.Halving.{pairs_rise, point_is_below}
use Rattle.lk_log.proofs.replaying.pairs_below.Goals as goal

pub returns-clause-value : goal.returns-clause-value
returns-clause-value c =
    let parted = IsPartitionedBy-ltb (λ (p : ℕ × Command). p.0) c.args.pairs.now c.args.position
    (pairs_rise c.args.pairs.now c.requires) in
    let point = IsPartitionPoint-from_clause
    (λ (p : ℕ × Command). nat_lt p.0 c.args.position) c.args.pairs.now c.partition_point.result
    c.partition_point.ensures.partitioned parted (λ a r q k. search rules) in
    point_is_below (λ (p : ℕ × Command). p.0) c.args.position c.partition_point.result c.args.pairs.now point
    c.partition_point.ensures.bound
