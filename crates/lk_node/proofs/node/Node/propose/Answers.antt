-- One proposal more, and the last.
use Rattle.std.proofs.Common.{[], refl, sym, subst}
use Rattle.lk_node.specs.Leading.{NothingToPropose}
use Rattle.lk_node.proofs.HeardNothing.{is_known}
use Rattle.lk_node.proofs.Proposals.{next_fewer, next_continues, next_done}
use Rattle.lk_node.proofs.SafeSteps.{then_goes_on}
use Rattle.lk_node.proofs.node.Node.propose.Goals as goal

pub votes-smaller : goal.votes-smaller
votes-smaller g c =
    next_fewer c.in_ok-propose_next.field-0 c.votes.self c.propose_next.new.self c.votes.out c.propose_next.new.out
    c.if-branch.true c.in_ok-propose_next.ensures.exact

pub votes-preserved : goal.votes-preserved
votes-preserved g c = (
  then_goes_on _ (λ h. Unit {0}) c.args.self.now c.votes.self c.propose_next.new.self c.args.out.now c.votes.out
      c.propose_next.new.out c.votes.invariant.0 c.in_ok-propose_next.ensures.safe,
  next_continues c.in_ok-propose_next.field-0 c.args.self.now c.votes.self c.propose_next.new.self c.args.out.now
      c.votes.out c.propose_next.new.out c.if-branch.true c.votes.invariant.1 c.in_ok-propose_next.ensures.exact,
)

-- ---- where nothing is left

pub returns-then-self-clause-done : goal.returns-then-self-clause-done
returns-then-self-clause-done g c =
    subst NothingToPropose c.self.view_is
    (is_known c.self.inside.nothing_to_propose c.self.inside.leader c.self.inside.learner.whole.roster
    c.if-self.true c.self.invariant.2)

pub returns-then-self-clause-exact : goal.returns-then-self-clause-exact
returns-then-self-clause-exact g c = ([], (returns-then-self-clause-done g c, refl, refl))

-- ---- where all is proposed

pub returns-clause-done : goal.returns-clause-done
returns-clause-done g c =
    subst NothingToPropose (sym c.self-2.view_is)
    (next_done c.in_ok-propose_next.field-0 c.votes.self c.propose_next.new.self c.votes.out c.propose_next.new.out
    c.if-branch.false c.in_ok-propose_next.ensures.exact)

pub invariant_of-self : goal.invariant_of-self
invariant_of-self g c = (c.self-2.invariant.0, c.self-2.invariant.1, returns-clause-done g c)
