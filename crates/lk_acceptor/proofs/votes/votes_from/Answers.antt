use Rattle.std.proofs.Common.{sym, Result, Ok, Err, arith, ◌∙◌}
use Rattle.std.specs.Prelude.{OnErr}
use Rattle.std.proofs.lemmas.List.{take_all}
use Rattle.lk_acceptor.proofs.Searching.{rest_is_from, rest_has}
use Rattle.lk_acceptor.proofs.votes.votes_from.Goals as goal

on_err : {T E P : Type 0} (r : Result T E) → P → OnErr r P
on_err (Ok x) p = tt
on_err (Err e) p = p

pub returns-in_err-push-clause-memory : goal.returns-in_err-push-clause-memory
returns-in_err-push-clause-memory c =
    on_err c.from_residual.result
    (rest_has c.args.first c.count_below.result c.loop-vote.vote-index c.args.votes.now c.vote-item.result c.requires
    c.count_below.ensures.value (omega (arith, c.loop-vote-test.true)) (sym c.vote-item.is))

pub returns-clause-ok : goal.returns-clause-ok
returns-clause-ok c =
    c.loop-vote.invariant ∙ take_all c.loop-vote.vote-index _ c.loop-vote-test.false
    ∙ rest_is_from c.args.first c.count_below.result c.args.votes.now c.requires c.count_below.ensures.value
