-- What happens in the place of an event that is refused.
use Rattle.std.proofs.Common.{◌≡◌, ℕ, inl, inr, subst}
use Rattle.lk_replica.specs.Behaviours.{Behaviour}
use Rattle.lk_sim.specs.Events.{IsExecuted, IsRefused}
use Rattle.lk_sim.specs.Refusals.{IsRejectedFor}
use Rattle.lk_sim.specs.WorldStates.{WorldState}
use Rattle.lk_sim.specs.declared.event.Event.{Event}
use Rattle.lk_sim.specs.declared.event.Event.TheVariants.{Tick, Restart}
use Rattle.lk_sim_nodes.specs.declared.refused.Refused.{Refused}
use Rattle.lk_sim_nodes.specs.declared.refused.Refused.TheVariants.{NotUp}
use Rattle.lk_random_schedules.specs.Schedules.{IsReplaced, ReplacesEvent, Happens}

-- a refusal that is passed by has changed nothing
pub refused_by : {R : Type 0} (b : Behaviour R) (old new : WorldState R) (e : Event) (r : Refused) → IsReplaced r
    → IsRefused b old e r new → IsRejectedFor old e r × (new ≡ old)
refused_by b old new e r by (inl not_now) = not_now
refused_by b old new e r by (inr wants) = absurd (subst IsReplaced wants.0 by)

-- node 1 was down, and has come up again
pub passes_again : {R : Type 0} (b : Behaviour R) (old mid new : WorldState R) (n : ℕ) → n ≡ 1
    → IsRejectedFor old (Tick n) NotUp
    → mid ≡ old → IsExecuted b mid (Restart n) new → ReplacesEvent b old new
passes_again b old mid new n one not_up same does =
    inr (
      subst (λ k. IsRejectedFor old (Tick k) NotUp) one not_up,
      subst (λ w. IsExecuted b w (Restart 1) new) same (subst (λ k. IsExecuted b mid (Restart k) new) one does),
    )

-- it has changed nothing
pub happens_instead : {R : Type 0} (b : Behaviour R) (old mid new : WorldState R) (e : Event) (r : Refused)
    → IsReplaced r → IsRejectedFor old e r → mid ≡ old → ReplacesEvent b mid new → Happens b old e new
happens_instead b old mid new e r by not_now same passes =
    inr (r, by, not_now, subst (λ w. ReplacesEvent b w new) same passes)
