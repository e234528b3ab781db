-- The leader's answer is one or the other, and both go on.
use Rattle.std.proofs.Common.{ap, ◌∙◌}
use Rattle.lk_state.specs.States.{WholeValue}
use Rattle.lk_node.proofs.TermLaws.{kept_or_dropped, promise_goes_on, report_promised}
use Rattle.lk_node.proofs.node.Node.handle_promise.Goals as goal

pub invariant_of-self-2 : goal.invariant_of-self-2
invariant_of-self-2 g c = (
  report_promised c.self.inside.acceptor c.self.inside.leader c.promise.new.self c.roster-roster.result.now
      c.args.from c.ballot-ballot.result _ _ c.self.invariant.0 c.in_ok-promise.ensures.kept
      c.in_ok-promise.ensures.other,
  c.self.invariant.1,
  tt,
)

pub returns-clause-exact : goal.returns-clause-exact
returns-clause-exact g c = (
  kept_or_dropped c.args.self.now _ c.promise.new.self c.roster-roster.result.now c.args.from c.args.promise.now
      c.ballot-ballot.result c.first-first.result c.votes.result.now _ c.self.view_is
      (c.roster-roster.ensures ∙ ap (λ (w : WholeValue). w.roster) c.whole.ensures) c.ballot-ballot.ensures
      c.first-first.ensures c.votes.ensures c.in_ok-promise.ensures.kept c.in_ok-promise.ensures.other,
  c.new.ensures,
)

pub returns-clause-safe : goal.returns-clause-safe
returns-clause-safe g c =
    promise_goes_on _ c.args.self.now _ c.args.from c.args.promise.now c.new.result (returns-clause-exact g c)
