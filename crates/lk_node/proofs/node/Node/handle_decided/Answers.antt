use Rattle.std.proofs.Common.{◌≡◌, ◌∙◌, ℕ, ◌+◌, List, length, ap, sym, subst, arith}
use Rattle.lk_types.specs.declared.command.Command.{Command}
use Rattle.lk_messages.specs.declared.message.NodeMessage.TheVariants as kinds
use Rattle.lk_state.specs.Meanings.{Meaning}
use Rattle.lk_agreement_laws.specs.Datagrams.{HasSent}
use Rattle.lk_node_interface.specs.Outboxes.{OutboxValue, nothing}
use Rattle.lk_node.specs.DecidedPairs.{LearnsFirst, LearnsPairs, none_yet}
use Rattle.lk_node.specs.SafeSteps.{ActsSafely}
use Rattle.lk_node.proofs.LearnerLaws.{told_goes_on, takes_more, walked, not_walked}
use Rattle.lk_node.proofs.SafeSteps.{rests_here}
use Rattle.lk_node.proofs.node.Node.handle_decided.Goals as goal

pub pairs-init : goal.pairs-init
pairs-init g c =
    let m : Meaning = g.M.Machine.meaning in (
      subst (λ (o : OutboxValue). LearnsPairs m c.args.decided.now.first c.args.decided.now.commands c.args.self.now
          nothing 0 c.args.self.now o) (sym c.new-out.ensures) none_yet,
      λ from. subst (λ (o : OutboxValue). ActsSafely m
          (λ h. HasSent h.genesis h.sent from (kinds.Decided c.args.decided.now)) c.args.self.now c.args.self.now
          nothing o) (sym c.new-out.ensures) (rests_here m _ c.args.self.now nothing),
      c.copy-rest.ensures ∙ c.commands.ensures,
    )

pub pairs-preserved : goal.pairs-preserved
pairs-preserved g c =
    let place : c.position_behind-position.result ≡ c.args.decided.now.first + c.pairs.index =
    c.position_behind-position.ensures ∙ ap (λ (i : ℕ). i + c.pairs.index) c.first.ensures in
    let many : c.len-index-end.result ≡ length c.args.decided.now.commands = c.len-index-end.ensures
    ∙ ap (λ (l : List Command). length l) c.commands-2.ensures in
    let taken : LearnsFirst g.M.Machine.meaning c.position_behind-position.result c.pairs.rest c.in-Some.others
    c.pairs.self c.pairs.out c.learn_first.new.self c.learn_first.new.out =
    rw c.in-Some.is at c.in_ok-others.ensures.some in
    let went = walked c.args.decided.now.commands c.pairs.rest c.in-Some.others c.pairs.index taken.command
    c.pairs.invariant.2 (omega (arith, many, c.pairs-test.true)) taken.stands in (
      takes_more _ c.args.decided.now c.pairs.index c.position_behind-position.result taken.command _ c.pairs.self
          _ _ c.pairs.out _ place went.0 c.pairs.invariant.0 taken.learns,
      λ from. told_goes_on _ from c.args.decided.now c.pairs.index c.position_behind-position.result taken.command
          _ c.pairs.self _ _ c.pairs.out _ place went.0 (c.pairs.invariant.1 from) taken.goes_on,
      went.1,
    )

pub returns-in_default-clause-exact : goal.returns-in_default-clause-exact
returns-in_default-clause-exact g c =
    let many : c.len-index-end.result ≡ length c.args.decided.now.commands = c.len-index-end.ensures
    ∙ ap (λ (l : List Command). length l) c.commands-2.ensures in
    absurd (not_walked c.args.decided.now.commands c.pairs.rest c.pairs.index c.pairs.invariant.2
    (omega (arith, many, c.pairs-test.true)) (c.in_ok-others.ensures.none c.in_default.is))

pub returns-in_default-clause-safe : goal.returns-in_default-clause-safe
returns-in_default-clause-safe g c =
    let many : c.len-index-end.result ≡ length c.args.decided.now.commands = c.len-index-end.ensures
    ∙ ap (λ (l : List Command). length l) c.commands-2.ensures in
    absurd (not_walked c.args.decided.now.commands c.pairs.rest c.pairs.index c.pairs.invariant.2
    (omega (arith, many, c.pairs-test.true)) (c.in_ok-others.ensures.none c.in_default.is))
