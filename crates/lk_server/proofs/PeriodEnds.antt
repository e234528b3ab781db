-- What a replica takes at the end of a period.
use Rattle.std.proofs.Common.{◌≡◌, ℕ, List, [], ◌∷◌, Option, None, Result, Ok, Err, OnOk, OnErr, subst, subst₂}
use Rattle.lk_node_interface.specs.declared.input.Input.{Input}
use Rattle.lk_node.specs.Calls.{heard_by}
use Rattle.lk_replica.specs.Groups.{GroupValue}
use Rattle.lk_server_replica.specs.Groups.{Sayings, Gatherings, GathersMore, SaysNoMore}
use Rattle.lk_server.specs.Servers.{ServerValue, EndsPeriod, TakesPeriodEnd, one_more_tick}

module _ {R T E : Type 0} (result : Result T E) (i : Input) (group now : GroupValue) where
  -- by a call that went on it has taken what ends the period that was counted before
  pub takes_end : (Takes : R → GroupValue → Input → R → GroupValue → Type 0)
      (old counted new : ServerValue R) (begun : R) → counted ≡ record old { ticks = one_more_tick old.ticks }
      → begun ≡ old.replica → EndsPeriod counted i
      → OnOk result (Takes begun group i new.replica now) → OnOk result (TakesPeriodEnd Takes group now old new)
  takes_end Takes old counted new begun is same ends = at result
    where
      at : (r : Result T E) → OnOk r (Takes begun group i new.replica now)
          → OnOk r (TakesPeriodEnd Takes group now old new)
      at (Ok x) takes = record {
        input = i;
        ends = subst (λ (s : ServerValue R). EndsPeriod s i) is ends;
        takes = subst (λ (r : R). Takes r group i new.replica now) same takes;
      }
      at (Err e) takes = tt

  -- it has no bytes
  pub gathers_end : (G : Gatherings R) (old begun new : R) → heard_by i ≡ None → begun ≡ old
      → OnOk result (GathersMore G (heard_by i ∷ []) group now begun new)
      → OnOk result (GathersMore G (None ∷ []) group now old new)
  gathers_end G old begun new timed same =
      subst₂ (λ (o : Option (List ℕ)) (r : R). OnOk result (GathersMore G (o ∷ []) group now r new)) timed same

  pub silent_end : (S : Sayings R) (G : Gatherings R) (old begun new : R) → heard_by i ≡ None → begun ≡ old
      → OnErr result (SaysNoMore S G (heard_by i ∷ []) group begun new)
      → OnErr result (SaysNoMore S G (None ∷ []) group old new)
  silent_end S G old begun new timed same =
      subst₂ (λ (o : Option (List ℕ)) (r : R). OnErr result (SaysNoMore S G (o ∷ []) group r new)) timed same
