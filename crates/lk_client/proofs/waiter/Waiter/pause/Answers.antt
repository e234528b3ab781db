use Rattle.std.proofs.Common.{◌∙◌, refl, subst, sym}
use Rattle.lk_watch.specs.declared.watch.Watch.{Watch}
use Rattle.lk_client.specs.Waits.{WatchesFor}
use Rattle.lk_client.proofs.Sending.{own_sends, sends_both, sends_nothing, sends_to}
use Rattle.lk_client.proofs.waiter.Waiter.pause.Goals as goal

pub steps-init : goal.steps-init
steps-init g c = ((c.requires, refl), λ tells. sends_nothing refl)

pub steps-preserved : goal.steps-preserved
steps-preserved g c = (
  (
    subst (λ (w : Watch). WatchesFor c.args.question.now w) (sym c.listen_until.ensures.keeps.0)
        c.renew.ensures.stays.0,
    c.listen_until.ensures.keeps.1 ∙ c.renew.ensures.stays.1 ∙ c.steps.invariant.0.1,
  ),
  λ tells.
      sends_to c.listen_until.ensures.unchanged
      (sends_both (c.steps.invariant.1 tells)
      (own_sends c.steps.self.is_watching c.args.question.now _ _ (c.renew.ensures.sends tells))),
)
