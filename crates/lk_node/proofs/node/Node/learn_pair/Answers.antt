use Rattle.lk_node.proofs.LearnerLaws.{pair_goes_on}
use Rattle.lk_node.proofs.node.Node.learn_pair.Goals as goal

pub returns-clause-safe : goal.returns-clause-safe
returns-clause-safe g c =
    pair_goes_on _ c.args.position c.args.command.now _ c.learn.new.self _ _ c.learn.new.out
    _ c.in_ok-learn.ensures.safe c.in_ok-execute.ensures.safe
