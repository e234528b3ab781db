use Rattle.std.proofs.Common.{rules, ◌∙◌, ap}
use Rattle.lk_state.specs.States.{WholeValue}
use Rattle.lk_node.proofs.NearLaws.{here_near}
use Rattle.lk_node.proofs.node.Node.set_snapshot.Goals as goal

pub invariant_of-self : goal.invariant_of-self
invariant_of-self g c = (
  search rules,
  here_near c.self.inside.acceptor c.forget.new.self c.self.inside.learner c.set_snapshot.new.self
      c.executed-executed.result c.self.invariant.1
      (c.executed-executed.ensures ∙ ap (λ (w : WholeValue). w.roster.executed) c.whole.ensures)
      c.forget.ensures c.set_snapshot.ensures,
  tt,
)
