use Rattle.lk_node.proofs.InstallLaws.{forgotten_near}
use Rattle.lk_node.proofs.node.Node.forget_gathered.Goals as goal

pub invariant_of-self : goal.invariant_of-self
invariant_of-self g c = (
  c.self.invariant.0,
  forgotten_near c.self.inside.acceptor c.self.inside.learner c.forget_gathered.new.self c.self.invariant.1
      c.forget_gathered.ensures,
  tt,
)
