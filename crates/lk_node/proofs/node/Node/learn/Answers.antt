use Rattle.std.proofs.Common.{rules}
use Rattle.lk_node.proofs.LearnerLaws.{learns_goes_on}
use Rattle.lk_node.proofs.NearLaws.{decided_near}
use Rattle.lk_node.proofs.node.Node.learn.Goals as goal

pub invariant_of-self : goal.invariant_of-self
invariant_of-self g c = (
  c.self.invariant.0,
  decided_near c.self.inside.acceptor c.self.inside.learner c.decided.new.self
      (c.args.position, c.args.command.now) c.decided.result c.self.invariant.1 c.decided.ensures.kept
      c.decided.ensures.unchanged,
  tt,
)

pub invariant_of-self-2 : goal.invariant_of-self-2
invariant_of-self-2 g c = (
  c.self.invariant.0,
  decided_near c.self.inside.acceptor c.self.inside.learner c.decided.new.self
      (c.args.position, c.args.command.now) c.decided.result c.self.invariant.1 c.decided.ensures.kept
      c.decided.ensures.unchanged,
  tt,
)

pub returns-clause-safe : goal.returns-clause-safe
returns-clause-safe g c = learns_goes_on _ c.args.position c.args.command.now _ _ _ _ (search rules)
