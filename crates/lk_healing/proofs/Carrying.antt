-- What rejects an event of a node that is up, and what a world tells of its nodes.
use Rattle.std.proofs.Common.{◌≡◌, ◌⊎◌, inl, inr, ℕ, ◌<◌, List, Contains, length, refl, sym, subst}
use Rattle.std.specs.Prelude.{Option}
use Rattle.lk_memory_disk.specs.Memory.{Memory}
use Rattle.lk_agreement_laws.specs.Datagrams.{Datagram}
use Rattle.lk_agreement_laws.specs.declared.party.Party.{Party}
use Rattle.lk_types.specs.declared.command.Request.{Request as RequestValue}
use Rattle.lk_state.specs.Meanings.{Meaning}
use Rattle.lk_replica.specs.ReplicaValue.{ReplicaValue}
use Rattle.lk_sim.specs.Events.{IsRefused}
use Rattle.lk_sim.specs.Refusals.{NoDelivery, NoStep, NoneBound}
use Rattle.lk_sim.specs.WorldStates.{WorldState}
use Rattle.lk_sim.specs.declared.event.Event.{Event}
use Rattle.lk_sim.specs.declared.event.Event.TheVariants as event
use Rattle.lk_sim_nodes.specs.SimNodes.{HasNo, IsDown, IsUp, Sits}
use Rattle.lk_sim_nodes.specs.declared.refused.Refused.{Refused}
use Rattle.lk_sim_nodes.specs.declared.refused.Refused.TheVariants.{NoSuchNode, NotUp, AlreadyUp, NoSuchDatagram}
use Rattle.lk_sim_nodes.specs.declared.refused.Refused.TheVariants.{Forged, WorldFull, WorldMemory}
use Rattle.lk_sim_nodes.specs.declared.sim_node.SimNode.{SimNode}
use Rattle.lk_sim_nodes.specs.declared.sim_node.RunState.{RunState}
use Rattle.lk_sim_nodes.specs.declared.sim_node.RunState.TheVariants.{Up, Down}
use Rattle.lk_world_progress.proofs.Stepping.{one_run_state, same_sim_node}
use Rattle.lk_world_progress.specs.Stepping.{behaviour, Holds, IsUpAs, Lives}
use Rattle.lk_healing.specs.Halts.{MayBeTaken, NeedsRoomAlone}

-- ---- lives

pub lives_of : (w : WorldState ReplicaValue) (n : ℕ) (run_state : RunState ReplicaValue) → Sits w.sim_nodes n run_state
    → Lives w n run_state
lives_of w n run_state s =
    subst (λ (x : SimNode ReplicaValue). Contains w.sim_nodes x) (same_sim_node s.1 n run_state s.3 s.4)
    (s.0, s.2.0, s.2.1)

pub up_of : (w : WorldState ReplicaValue) (n : ℕ) → (up : IsUp w.sim_nodes n) → IsUpAs w n up.0
up_of w n up = lives_of w n (Up up.0) up.1

pub is_up : (w : WorldState ReplicaValue) (n : ℕ) (r : ReplicaValue) → IsUpAs w n r → IsUp w.sim_nodes n
is_up w n r c = (r, (c.0, record { number = n; run_state = Up r }, (c.1, c.2), refl, refl))

module _ (m : Meaning) (IsText : List ℕ → Type 0) (w : WorldState ReplicaValue) (holds : Holds m IsText w) where
  pub not_down : (n : ℕ) → IsUp w.sim_nodes n → IsDown w.sim_nodes n → ⊥
  not_down n up down =
      up_or_down up.0 down.0 (one_run_state m IsText w holds n (Up up.0) (Down down.0) (up_of w n up)
      (lives_of w n (Down down.0) down.1))
    where
      up_or_down : (r : ReplicaValue) (d : Memory) → Up r ≡ Down d → ⊥
      up_or_down r d e = cc e

  not_missing : (n : ℕ) → IsUp w.sim_nodes n → HasNo w.sim_nodes n → ⊥
  not_missing n up none = none up.1.0 up.1.1 up.1.2 up.1.3

  -- ---- events

  step_needs : (n : ℕ) → IsUp w.sim_nodes n → (r : Refused) → NoStep w.sim_nodes w.sent n r
      → (r ≡ WorldFull) × (99000 < length w.sent)
  step_needs n up NoSuchNode bad = absurd (not_missing n up bad)
  step_needs n up NotUp bad = absurd (not_down n up bad)
  step_needs n up WorldFull full = (refl, full.1)
  step_needs n up AlreadyUp bad = absurd bad
  step_needs n up NoSuchDatagram bad = absurd bad
  step_needs n up Forged bad = absurd bad
  step_needs n up WorldMemory bad = absurd bad

  pub tick_needs : (n : ℕ) → IsUp w.sim_nodes n → NeedsRoomAlone w (event.Tick n)
  tick_needs n up r bad = step_needs n up r bad

  pub delivery_needs : (k : ℕ) → MayBeTaken w k → NeedsRoomAlone w (event.Deliver k)
  delivery_needs k may r bad =
      step_needs may.1 may.4 r (subst (λ (p : Party). NoneBound w.sim_nodes w.sent p r) may.3
      (subst (λ (o : Option Datagram). NoDelivery w.sim_nodes w.sent o r) may.2 bad))

  pub request_needs : (n : ℕ) (q : RequestValue) → IsUp w.sim_nodes n → NeedsRoomAlone w (event.Client n q)
  request_needs n q up NoSuchNode bad = absurd (not_missing n up bad)
  request_needs n q up WorldFull full = (refl, full.1)
  request_needs n q up NotUp bad = absurd bad
  request_needs n q up AlreadyUp bad = absurd bad
  request_needs n q up NoSuchDatagram bad = absurd bad
  request_needs n q up Forged bad = absurd bad
  request_needs n q up WorldMemory bad = absurd bad

-- ---- refusals

pub refused_for : (m : Meaning) (IsText : List ℕ → Type 0) (old new : WorldState ReplicaValue) (e : Event) (r : Refused)
    → NeedsRoomAlone old e → IsRefused (behaviour m IsText) old e r new
    → ((r ≡ WorldMemory) ⊎ ((r ≡ WorldFull) × (99000 < length new.sent)))
refused_for m IsText old new e r needs (inl rejected) =
    let why = needs r rejected.0 in
    inr (why.0, subst (λ (w : WorldState ReplicaValue). 99000 < length w.sent) (sym rejected.1) why.1)
refused_for m IsText old new e r needs (inr memory) = inl memory.0
