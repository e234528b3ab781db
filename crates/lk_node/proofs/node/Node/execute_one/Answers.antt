use Rattle.std.proofs.Common.{rules, subst, true}
use Rattle.lk_learner.specs.Learners.{IsLearner}
use Rattle.lk_node.specs.NodeValue.{NodeValue}
use Rattle.lk_node.proofs.ExecutionLaws.{one_goes_on}
use Rattle.lk_node.proofs.node.Node.execute_one.Goals as goal

pub returns-clause-safe : goal.returns-clause-safe
returns-clause-safe g c =
    one_goes_on _ _ true c.args.self.now c.args.out.now c.end_term_outside.new.self c.reply_if_answered.new.out
    (subst (λ (k : NodeValue). IsLearner k.learner) c.self.view_is c.facts.ensures) (search rules)
