use Rattle.std.proofs.Common.{List, Contains, ◌<◌, sym, subst, ◌∙◌, ap, rules}
use Rattle.std.specs.List.{AllByRecursion}
use Rattle.lk_types.specs.Votes.{IsVote}
use Rattle.lk_types.specs.declared.vote.Vote.{Vote}
use Rattle.lk_agreement_laws.specs.Acceptors.{AcceptorState}
use Rattle.lk_types.specs.Ballots.{IsAtMost}
use Rattle.lk_acceptor.specs.AcceptorValue.{AcceptorValue}
use Rattle.lk_acceptor.specs.States.{IsOrdered, with_state}
use Rattle.lk_store_format.specs.VoteLists.{votes_with}
use Rattle.lk_acceptor.proofs.Searching.{ranges_with}
use Rattle.lk_acceptor.proofs.Keeping.{vote_kept, still_kept}
use Rattle.lk_acceptor.proofs.acceptor.Acceptor.vote.Goals as goal

pub returns-then-holds-clause-state : goal.returns-then-holds-clause-state
returns-then-holds-clause-state c =
    let kept = subst (λ (a : AcceptorValue). IsOrdered a.state) c.self.view_is c.self.invariant.2 in
    let votes = c.deref.ensures.value ∙ ap (λ (a : AcceptorValue). a.state.votes) c.self.view_is in
    let listed = subst (λ (l : List Vote). Contains l c.args.vote.now) votes (c.holds.ensures.0 c.if-holds.true) in
    ap (with_state c.args.self.now)
    (sym (still_kept c.args.self.now.state c.args.vote.now kept c.requires.ballot listed))

pub invariant_of-self-2 : goal.invariant_of-self-2
invariant_of-self-2 c =
    let state : AcceptorState =
    record {
      promised = c.self.inside.promised;
      votes = c.self.inside.votes.items;
      snapshot_position = c.self.inside.snapshot_position;
    } in
    let most = subst (λ (a : AcceptorValue). IsAtMost a.state.promised c.args.vote.now.ballot)
    (sym c.self.view_is) c.requires.ballot in
    let above = subst (λ (a : AcceptorValue). a.state.snapshot_position < c.args.vote.now.position)
    (sym c.self.view_is) c.requires.above in
    let votes = ap (λ (v : Vote). votes_with v c.self.inside.votes.items) (sym c.copy.ensures)
    ∙ sym c.in_ok-keep_vote.ensures.ok in (
      c.self.invariant.0,
      subst (AllByRecursion IsVote) votes
          (ranges_with c.args.vote.now c.self.inside.votes.items c.facts.ensures c.self.invariant.1),
      subst IsOrdered (λ i. record {
        promised = sym c.get-self-inside.ensures.value i;
        votes = votes i;
        snapshot_position = c.self.inside.snapshot_position;
      })
          (vote_kept state c.args.vote.now most above c.self.invariant.2),
    )

pub returns-clause-entry : goal.returns-clause-entry
returns-clause-entry c = search rules
