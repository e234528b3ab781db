-- Rising positions are separated by the one that is looked for.
use Rattle.std.proofs.Common.{rules, nat_lt}
use Rattle.std.proofs.lemmas.List.Sorted.{IsPartitionPoint-from_clause, IsPartitionedBy-ltb}
use Rattle.lk_types.specs.declared.vote.Vote.{Vote}
use Rattle.lk_store_format.proofs.VotesHalved.{rising_votes_rise, point_is_below}
use Rattle.lk_store_format.proofs.votes.count_below.Goals as goal

pub returns-clause-value : goal.returns-clause-value
returns-clause-value c =
    let parted = IsPartitionedBy-ltb (λ (v : Vote). v.position) c.args.votes.now c.args.position
    (rising_votes_rise c.args.votes.now c.requires) in
    let point = IsPartitionPoint-from_clause
    (λ (v : Vote). nat_lt v.position c.args.position) c.args.votes.now c.partition_point.result
    c.partition_point.ensures.partitioned parted (λ a r q k. search rules) in
    point_is_below c.args.position c.partition_point.result c.args.votes.now point c.partition_point.ensures.bound
