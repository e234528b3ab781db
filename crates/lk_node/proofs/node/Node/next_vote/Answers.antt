-- What the leader answers.
use Rattle.std.proofs.Common.{ap, sym, ◌∙◌}
use Rattle.lk_state.specs.States.{WholeValue}
use Rattle.lk_node.proofs.Proposals.{vote_is_next, none_is_next, next_promised}
use Rattle.lk_node.proofs.node.Node.next_vote.Goals as goal

pub returns-in_default-propose : goal.returns-in_default-propose
returns-in_default-propose g c =
    none_is_next c.args.self.now _ c.propose.new.self c.roster-roster.result.now c.self.view_is
    (c.roster-roster.ensures ∙ ap (λ (w : WholeValue). w.roster) c.whole.ensures)
    (c.propose.ensures.none c.in_default-propose.is)

pub invariant_of-self-2 : goal.invariant_of-self-2
invariant_of-self-2 g c = (
  next_promised c.self.inside.acceptor c.self.inside.leader c.propose.new.self c.roster-roster.result.now
      _ _ c.self.invariant.0 c.in-Some-propose.ensures.some c.in-Some-propose.ensures.term,
  c.self.invariant.1,
  tt,
)

pub returns : goal.returns
returns g c =
    vote_is_next c.args.self.now _ c.propose.new.self c.roster-roster.result.now c.in-Some.ballot _ _ c.self.view_is
    (c.roster-roster.ensures ∙ ap (λ (w : WholeValue). w.roster) c.whole.ensures)
    (sym c.ballot.ensures ∙ c.in-Some.is) c.in-Some-propose.ensures.some
    c.in-Some-propose.ensures.term
