use Rattle.std.proofs.Common.{◌∙◌, [], List, length, ap, sym, arith}
use Rattle.lk_types.specs.declared.vote.Vote.{Vote}
use Rattle.lk_codec.specs.FieldReading.{read_vote}
use Rattle.lk_codec.specs.Parser.{many}
use Rattle.lk_types.specs.Votes.{are_votes_above}
use Rattle.lk_messages.proofs.Walks.{cut, unmade, votes_read}
use Rattle.lk_messages.proofs.promise.Votes.of.Goals as goal

pub invariant_of-result : goal.invariant_of-result
invariant_of-result c =
    let a = unmade (are_votes_above c.args.low)
    (many read_vote c.args.count) c.args.bytes.now c.in_ok-rising.rising c.in_ok-rising.rest.now
    c.in_ok-rising.ensures in
    (cut _ _ _ (votes_read c.args.count) [] a.0 c.args.bytes.now c.in_ok-rising.rest.now c.front_of-bytes.result.now
    (λ i. omega (arith, c.type_inv.bytes i)) a.1 c.front_of-bytes.ensures).0

pub returns-clause-found : goal.returns-clause-found
returns-clause-found c =
    let a = unmade (are_votes_above c.args.low)
    (many read_vote c.args.count) c.args.bytes.now c.in_ok-rising.rising c.in_ok-rising.rest.now
    c.in_ok-rising.ensures in
    (cut _ _ _ (votes_read c.args.count) [] a.0 c.args.bytes.now c.in_ok-rising.rest.now c.front_of-bytes.result.now
    (λ i. omega (arith, c.type_inv.bytes i)) a.1 c.front_of-bytes.ensures).1

pub returns-clause-rising : goal.returns-clause-rising
returns-clause-rising c =
    let a = unmade (are_votes_above c.args.low)
    (many read_vote c.args.count) c.args.bytes.now c.in_ok-rising.rising c.in_ok-rising.rest.now
    c.in_ok-rising.ensures in
    sym a.2 ∙ ap (λ (vs : List Vote). are_votes_above c.args.low vs)
    (sym (cut _ _ _ (votes_read c.args.count) [] a.0 c.args.bytes.now c.in_ok-rising.rest.now
    c.front_of-bytes.result.now (λ i. omega (arith, c.type_inv.bytes i)) a.1 c.front_of-bytes.ensures).2)

pub returns-clause-count : goal.returns-clause-count
returns-clause-count c =
    let a = unmade (are_votes_above c.args.low)
    (many read_vote c.args.count) c.args.bytes.now c.in_ok-rising.rising c.in_ok-rising.rest.now
    c.in_ok-rising.ensures in
    let same = (cut _ _ _ (votes_read c.args.count) [] a.0 c.args.bytes.now c.in_ok-rising.rest.now
    c.front_of-bytes.result.now (λ i. omega (arith, c.type_inv.bytes i)) a.1 c.front_of-bytes.ensures).2 in
    ap (λ (vs : List Vote). length vs) same
    ∙ ((votes_read c.args.count).takes c.args.bytes.now a.0 c.in_ok-rising.rest.now
    (λ i. omega (arith, c.type_inv.bytes i)) a.1).fits.0
