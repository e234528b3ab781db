use Rattle.std.proofs.Common.{◌∙◌, sym, ap}
use Rattle.lk_node.proofs.NoneOpen.{step_open}
use Rattle.lk_node.specs.NodeValue.{NodeValue}
use Rattle.lk_node.proofs.NothingLeft.{step_leaves_nothing}
use Rattle.lk_node.proofs.Waking.{step_wakes}
use Rattle.lk_node.proofs.node.Node.step.Goals as goal

pub returns-in-Ok-clause-runs : goal.returns-in-Ok-clause-runs
returns-in-Ok-clause-runs g c =
    step_leaves_nothing g.M.Machine.meaning g.M.Machine.IsText c.args.self.now c.args.input c.handle_input.new.self
    c.in-Ok.outbox c.in-Ok.ensures.exact

pub returns-in-Ok-clause-done : goal.returns-in-Ok-clause-done
returns-in-Ok-clause-done g c =
    step_open g.M.Machine.meaning g.M.Machine.IsText c.args.self.now c.args.input c.handle_input.new.self
    c.in-Ok.outbox c.in-Ok.ensures.exact

pub returns-in-Ok-clause-awake : goal.returns-in-Ok-clause-awake
returns-in-Ok-clause-awake g c =
    step_wakes g.M.Machine.meaning g.M.Machine.IsText c.args.self.now c.args.input c.handle_input.new.self
    c.in-Ok.outbox c.in-Ok.ensures.exact
    ∙ sym (ap (λ (node : NodeValue). node.halted) c.self.view_is) ∙ c.if-self.false
