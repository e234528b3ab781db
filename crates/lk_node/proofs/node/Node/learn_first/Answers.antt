use Rattle.std.proofs.Common.{rules}
use Rattle.lk_learner.specs.Learners.{IsWanted}
use Rattle.lk_node.proofs.LearnerLaws.{stepped_over}
use Rattle.lk_node.proofs.node.Node.learn_first.Goals as goal

pub returns-then-not-is_wanted-clause-some : goal.returns-then-not-is_wanted-clause-some
returns-then-not-is_wanted-clause-some g c =
    let other : IsWanted c.args.self.now.learner c.args.position → ⊥ = search rules in
    stepped_over _ c.args.position c.args.told.now c.skip.result c.args.self.now c.execute.new.self c.args.out.now
    c.execute.new.out other c.in_ok-execute.ensures.exact c.in_ok-execute.ensures.safe c.skip.ensures.some
