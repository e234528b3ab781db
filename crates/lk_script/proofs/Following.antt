-- Events of a line, one after another.
use Rattle.std.proofs.Common.{◌≡◌, ℕ, ◌+◌, ◌<◌, zero, suc, replicate, List, [], ◌∷◌, take, slice_get, Option, Some}
use Rattle.std.proofs.Common.{None, Result, Ok, Err, IfOk, refl, sym, ap, subst, ◌∙◌, add-one, arith}
use Rattle.std.proofs.Math.Seq.{take-length}
use Rattle.std.proofs.lemmas.List.{take-replicate, length-replicate}
use Rattle.lk_replica.specs.Behaviours.{Behaviour}
use Rattle.lk_sim.specs.Events.{IsExecuted, IsRefused}
use Rattle.lk_sim.specs.Runs.{AreExecuted}
use Rattle.lk_sim.specs.WorldStates.{WorldState}
use Rattle.lk_sim.specs.declared.event.Event.{Event}
use Rattle.lk_sim_nodes.specs.declared.refused.Refused.{Refused}
use Rattle.lk_script_lines.specs.WorldLines.{SpellsInstruction}
use Rattle.lk_script.specs.Worlds.{events_of, Follows}
use Rattle.lk_script_lines.specs.declared.instruction.Instruction.{Instruction}
use Rattle.lk_script.specs.declared.world_run.WorldRun.{WorldRun}

module _ {R : Type 0} (b : Behaviour R) where
  -- a line was followed
  abbrev pub GoesOn : WorldRun R → List ℕ → Option Refused → WorldRun R → Type 0
  GoesOn old line refused new =
      (o : Instruction) × (k : ℕ) × SpellsInstruction line o × Follows b old.world (events_of o) k refused new.world
      × (new.done ≡ old.done + k)

  -- where none was refused, all events have happened
  pub all_passed : (events : List Event) (k : ℕ) (old new : WorldState R) → Follows b old events k None new
      → AreExecuted b events old new
  all_passed events k old new f =
      subst (λ w. AreExecuted b events old w) (sym f.stops.1)
      (subst (λ es. AreExecuted b es old f.last) (ap (λ n. take n events) f.stops.0 ∙ take-length events)
      f.are_executed)

  -- ---- one event

  pub once : {E : Type 0} (e : Event) (result : Result (Option Refused) E) (old new : WorldState R) (before after : ℕ)
      → (result ≡ Ok None → IsExecuted b old e new × (after ≡ before + 1))
      → ((r : Refused) → result ≡ Ok (Some r) → IsRefused b old e r new × (after ≡ before))
      → IfOk result (λ refused. (k : ℕ) × Follows b old (e ∷ []) k refused new × (after ≡ before + k))
  once e (Ok None) old new before after does refused = let did = does refl in
      (1, record { last = new; are_executed = (new, did.0, refl); stops = (refl, refl) }, did.1)
  once e (Ok (Some r)) old new before after does refused =
      let cut = refused r refl in
      (0, record { last = old; are_executed = refl; stops = (e, refl, cut.0) }, omega (arith, cut.1))
  once e (Err x) old new before after does refused = tt

  -- ---- the same event many times

  module _ (e : Event) where
    more : (n : ℕ) (old mid new : WorldState R) → AreExecuted b (replicate n e) old mid → IsExecuted b mid e new
        → AreExecuted b (replicate (suc n) e) old new
    more zero old mid new p d = (new, subst (λ w. IsExecuted b w e new) p d, refl)
    more (suc n) old mid new p d = (p.0, p.1, more n p.0 mid new p.2 d)

    pub one_more : (n : ℕ) (old mid new : WorldState R) → AreExecuted b (replicate n e) old mid → IsExecuted b mid e new
        → AreExecuted b (replicate (n + 1) e) old new
    one_more n old mid new p d =
        subst (λ k. AreExecuted b (replicate k e) old new) (sym (add-one n)) (more n old mid new p d)

    at : (times i : ℕ) → i < times → slice_get (replicate times e) i ≡ Some e
    at zero i below = absurd (omega (arith, below))
    at (suc times) zero below = refl
    at (suc times) (suc i) below = at times i (omega (arith, below))

    -- the next one was refused
    pub cut_short : (times i : ℕ) (old mid new : WorldState R) (r : Refused) → i < times
        → AreExecuted b (replicate i e) old mid
        → IsRefused b mid e r new → Follows b old (replicate times e) i (Some r) new
    cut_short times i old mid new r below p refused = record {
      last = mid;
      are_executed = subst (λ es. AreExecuted b es old mid) (sym (take-replicate i times e (omega (arith, below)))) p;
      stops = (e, at times i below, refused);
    }

    -- none was
    pub done : (times : ℕ) (old new : WorldState R) → AreExecuted b (replicate times e) old new
        → Follows b old (replicate times e) times None new
    done times old new p = record {
      last = new;
      are_executed = subst (λ es. AreExecuted b es old new) (sym (take-replicate times times e (omega arith))) p;
      stops = (sym (length-replicate times e), refl);
    }
