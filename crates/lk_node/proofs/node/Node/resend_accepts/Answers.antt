use Rattle.std.proofs.Common.{◌≡◌, ◌∙◌, ℕ, ◌+◌, ◌≤◌, inl, inr, refl, sym, ap, subst, arith}
use Rattle.lk_types.specs.Limits.{max_count}
use Rattle.lk_state.specs.Meanings.{Meaning}
use Rattle.lk_state.specs.States.{WholeValue}
use Rattle.lk_learner.specs.Learners.{executed}
use Rattle.lk_node_interface.specs.Outboxes.{OutboxValue}
use Rattle.lk_node.specs.NodeValue.{NodeValue}
use Rattle.lk_node.specs.Reminding.{OffersAgain, OffersFirst, none_offered, one_offered}
use Rattle.lk_node.specs.SafeSteps.{ActsSafely}
use Rattle.lk_node.proofs.SafeSteps.{rests_here, then_goes_on}
use Rattle.lk_node.proofs.node.Node.resend_accepts.Goals as goal
use Rattle.lk_node.proofs.node.Node.resend_accepts.Goals.{in-Some+in_ok-resend_accept, in_default}

pub ahead-init : goal.ahead-init
ahead-init g c = (none_offered, rests_here _ _ c.args.self.now c.args.out.now)

pub ahead-preserved : goal.ahead-preserved
ahead-preserved g c =
    let m : Meaning = g.M.Machine.meaning in
    let So : OutboxValue → Type 0 = λ o. OffersFirst c.args.self.now c.args.ballot c.args.out.now (c.ahead.ahead + 1) o
    × ActsSafely m (λ h. Unit {0}) c.args.self.now c.args.self.now c.args.out.now o in
    let next : c.get-next.result ≡ executed c.args.self.now.learner =
    c.get-next.ensures.value ∙ c.executed.ensures ∙ ap (λ (w : WholeValue). w.roster.executed) c.whole.ensures
    ∙ ap (λ (k : NodeValue). executed k.learner) c.self.view_is in
    elim c.match-of.branch [
      | in-Some+in_ok-resend_accept w ↦
          let at : w.in-Some.position ≡ executed c.args.self.now.learner + 1 + c.ahead.ahead =
          (let is = w.in-Some.ensures.value in omega (arith, next, is, c.from.ensures)) in
          subst So (sym w.out-is) (
            one_offered c.ahead.invariant.0
                (inl (subst (λ (i : ℕ). OffersAgain c.args.self.now c.args.ballot i c.ahead.out
                w.resend_accept.new.out) at w.in_ok-resend_accept.ensures.exact)),
            then_goes_on m _ c.args.self.now c.args.self.now c.args.self.now c.args.out.now c.ahead.out
                w.resend_accept.new.out c.ahead.invariant.1 w.in_ok-resend_accept.ensures.safe,
          )
      | in_default w ↦
          let far : c.get-next.result + 1 + c.from.result ≤ max_count
          → ⊥ = λ near. (let some = w.in_default.ensures.some.1 (omega arith, near) in cc some) in
          subst So (sym w.out-is) (
            one_offered c.ahead.invariant.0
                (inr (omega (arith, next, far, c.from.ensures), refl)),
            c.ahead.invariant.1,
          )
    ]
