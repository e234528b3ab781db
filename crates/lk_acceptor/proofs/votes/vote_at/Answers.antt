-- A vote at the position stands after those below it.
use Rattle.std.proofs.Common.{◌≡◌, Option, length, Bor, refl, sym, subst}
use Rattle.std.specs.Prelude.{MatchOption}
use Rattle.std.proofs.lemmas.Bool.{ltb-true, ltb-false}
use Rattle.std.proofs.lemmas.Option.{slice_get_read}
use Rattle.lk_types.specs.declared.vote.Vote.{Vote}
use Rattle.lk_acceptor.specs.VoteLists.{IsVoteAt}
use Rattle.lk_acceptor.proofs.Searching.{none_stands, one_stands}
use Rattle.lk_acceptor.proofs.votes.vote_at.Goals as goal

pub returns-in_err-vote : goal.returns-in_err-vote
returns-in_err-vote c =
    subst (λ (o : Option (Bor Vote)). MatchOption o ((v : Vote) → IsVoteAt c.args.position c.args.votes.now v → ⊥)
    (λ v. IsVoteAt c.args.position c.args.votes.now v.now
    × ((w : Vote) → IsVoteAt c.args.position c.args.votes.now w → w ≡ v.now)))
    (sym c.from_residual.ensures)
    (none_stands c.args.position c.count_below.result c.args.votes.now c.requires c.count_below.ensures.value
    (ltb-false c.count_below.result (length c.args.votes.now) (sym c.in_err-vote.ensures.lookup.0)))

pub returns : goal.returns
returns c =
    let found = c.in_ok-vote.ensures.lookup in
    let at = slice_get_read c.args.votes.now _ c.count_below.result c.in_ok-vote.vote.now refl
    (ltb-true c.count_below.result (length c.args.votes.now) (sym found.0)) found.1 in
    subst (λ (o : Option (Bor Vote)). MatchOption o ((v : Vote) → IsVoteAt c.args.position c.args.votes.now v → ⊥)
    (λ v. IsVoteAt c.args.position c.args.votes.now v.now
    × ((w : Vote) → IsVoteAt c.args.position c.args.votes.now w → w ≡ v.now)))
    (sym c.then_some.ensures)
    (one_stands c.args.position c.count_below.result c.args.votes.now c.in_ok-vote.vote c.eq.result c.requires
    c.count_below.ensures.value at c.eq.ensures)
