use Rattle.std.proofs.Common.{◌≤◌, List, IsTrue, refl, sym, subst, ◌∙◌, ap, arith, rules}
use Rattle.lk_types.specs.declared.vote.Vote.{Vote}
use Rattle.lk_messages.specs.Values.{are_votes_from}
use Rattle.lk_acceptor.specs.AcceptorValue.{AcceptorValue}
use Rattle.lk_acceptor.specs.States.{IsOrdered}
use Rattle.lk_acceptor.specs.VoteLists.{votes_from}
use Rattle.lk_acceptor.proofs.Rising.{from_fits}
use Rattle.lk_acceptor.proofs.acceptor.Acceptor.prepare.Goals as goal

pub unwrap-promise-requires : goal.unwrap-promise-requires
unwrap-promise-requires c =
    let grants = c.if-not-grants_prepare.ensures.0 refl in
    let now = c.args.self.now in
    let kept = subst (λ (a : AcceptorValue). IsOrdered a.state) c.self.view_is c.self.invariant.2 in
    let alpha = subst (λ (a : AcceptorValue). a.alpha ≤ 64) c.self.view_is c.self.invariant.0.1 in
    let all = c.deref.ensures.value ∙ ap (λ (a : AcceptorValue). a.state.votes) c.self.view_is in
    let votes = c.in_ok-votes.ensures.ok ∙ ap (votes_from c.args.first) all in
    c.of.ensures.some.1 (subst (λ (l : List Vote). IsTrue (are_votes_from c.args.first l)) (sym votes)
    (from_fits now.state.snapshot_position c.args.first now.alpha now.state.votes
    (omega (arith, grants.above)) alpha kept.rising grants.near))

pub returns-then-not-grants_prepare-clause-reply : goal.returns-then-not-grants_prepare-clause-reply
returns-then-not-grants_prepare-clause-reply c = search rules
