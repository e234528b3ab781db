use Rattle.std.proofs.Common.{rules}
use Rattle.lk_node.proofs.BallotLaws.{starts_goes_on}
use Rattle.lk_node.proofs.NearLaws.{own_near}
use Rattle.lk_node.proofs.node.Node.begin.Goals as goal

pub invariant_of-self : goal.invariant_of-self
invariant_of-self g c = (
  search rules,
  own_near c.self.inside.acceptor c.own.new.self c.self.inside.learner _ c.self.invariant.1 c.own.ensures.state,
  c.self.invariant.2,
)

pub invariant_of-self-in-Some : goal.invariant_of-self-in-Some
invariant_of-self-in-Some g c = (
  search rules,
  own_near c.self.inside.acceptor c.own.new.self c.self.inside.learner
      _ c.self.invariant.1 c.own.ensures.state,
  tt,
)

pub invariant_of-self-in_default : goal.invariant_of-self-in_default
invariant_of-self-in_default g c = (
  search rules,
  own_near c.self.inside.acceptor c.own.new.self c.self.inside.learner
      _ c.self.invariant.1 c.own.ensures.state,
  tt,
)

pub returns-clause-safe : goal.returns-clause-safe
returns-clause-safe g c =
    starts_goes_on _ _ c.args.self.now _ c.args.ballot _ c.requires.own c.requires.below (search rules)
