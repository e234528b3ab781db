-- Rising positions are separated by the one that is looked for.
use Rattle.std.proofs.Common.{rules, nat_lt}
use Rattle.std.proofs.lemmas.List.Sorted.{IsPartitionPoint-from_clause, IsPartitionedBy-ltb}
use Rattle.lk_learner.specs.Pairs.{Pair}
use Rattle.lk_learner.proofs.PairLaws.{pairs_rise, index_is_before}
use Rattle.lk_learner.proofs.pair.index_of.Goals as goal

pub returns-clause-index : goal.returns-clause-index
returns-clause-index c =
    let parted = IsPartitionedBy-ltb (λ (p : Pair). p.0) c.args.pairs.now c.args.position
    (pairs_rise c.args.low c.args.pairs.now c.requires) in
    let point = IsPartitionPoint-from_clause
    (λ (p : Pair). nat_lt p.0 c.args.position) c.args.pairs.now c.partition_point.result
    c.partition_point.ensures.partitioned parted (λ a r q k. search rules) in
    index_is_before c.args.position c.partition_point.result c.args.pairs.now point c.partition_point.ensures.bound
