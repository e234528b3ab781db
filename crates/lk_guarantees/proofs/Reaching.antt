-- What events make of a reachable world is reachable.
use Rattle.std.proofs.Common.{ℕ, List, [], ◌∷◌, ◌++◌, take, Option, Some, None, refl, sym, subst, inl, inr}
use Rattle.lk_types.specs.declared.genesis.Genesis.{Genesis}
use Rattle.lk_replica.specs.ReplicaValue.{ReplicaValue}
use Rattle.lk_sim.specs.WorldStates.{WorldState}
use Rattle.lk_sim.specs.declared.end.RunEnd.{RunEnd}
use Rattle.lk_sim.specs.declared.event.Event.{Event}
use Rattle.lk_sim_nodes.specs.declared.refused.Refused.{Refused}
use Rattle.lk_guarantees.specs.Events.{nothing, AreDone, EndsSo, IsRun, Happens, HappenAll, IsReachable}

one_more : (worlds : List (WorldState ReplicaValue)) (first old new : WorldState ReplicaValue)
    → HappenAll first worlds old
    → Happens old new → HappenAll first (worlds ++ new ∷ []) new
one_more [] first old new same h = (subst (λ (w : WorldState ReplicaValue). Happens w new) same h, refl)
one_more (next ∷ worlds) first old new all h = (all.0, one_more worlds next old new all.1 h)

module _ (genesis : Genesis) where
  reach : (old new : WorldState ReplicaValue) → IsReachable genesis old → Happens old new → IsReachable genesis new
  reach old new reached h = (reached.0 ++ new ∷ [], one_more reached.0 (nothing genesis) old new reached.1 h)

  reach_all : (events : List Event) (old new : WorldState ReplicaValue) → IsReachable genesis old
      → AreDone events old new
      → IsReachable genesis new
  reach_all [] old new reached same = subst (IsReachable genesis) (sym same) reached
  reach_all (e ∷ events) old new reached all = reach_all events all.0 new (reach old all.0 reached (e, inl all.1)) all.2

  reach_end : (events : List Event) (done : ℕ) (refused : Option Refused) (last new : WorldState ReplicaValue)
      → IsReachable genesis last → EndsSo events done refused last new → IsReachable genesis new
  reach_end events done None last new reached ends = subst (IsReachable genesis) (sym ends.1) reached
  reach_end events done (Some refused) last new reached ends = reach last new reached (ends.0, inr (refused, ends.2))

  pub stay_reachable : (world : WorldState ReplicaValue) (events : List Event) (how : RunEnd)
      (new : WorldState ReplicaValue)
      → IsReachable genesis world → IsRun world events how new → IsReachable genesis new
  stay_reachable world events how new reached run =
      reach_end events how.done how.refused run.last new
      (reach_all (take how.done events) world run.last reached run.done) run.ends
