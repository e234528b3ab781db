-- A node that was started is stopped and restarted, and others are down or up as before.
use Rattle.std.proofs.Common.{◌≡◌, inl, inr, ℕ, ◌+◌, ◌++◌, eqb, List, [], ◌∷◌, take}
use Rattle.std.proofs.Common.{Some, slice_get, refl, sym, subst, add-one}
use Rattle.std.proofs.lemmas.Bool.{cases_Bool, eqb-false, eqb-true}
use Rattle.std.specs.Prelude.{⊤, Result, Ok, Err, OnOk, IfErr}
use Rattle.lk_memory_disk.specs.Memory.{Memory}
use Rattle.lk_state.specs.Meanings.{Meaning}
use Rattle.lk_replica.specs.ReplicaValue.{ReplicaValue}
use Rattle.lk_sim.specs.Events.{GoesDown, IsExecuted, IsRefused}
use Rattle.lk_sim.specs.WorldStates.{WorldState}
use Rattle.lk_sim.specs.declared.event.Event.TheVariants as event
use Rattle.lk_sim_nodes.proofs.Tellings.{take_next}
use Rattle.lk_sim_nodes.specs.Refusals.{NoneUp}
use Rattle.lk_sim_nodes.specs.SimNodes.{IsDown, IsStarted, Sits}
use Rattle.lk_sim_nodes.specs.declared.refused.Refused.{Refused}
use Rattle.lk_sim_nodes.specs.declared.refused.Refused.TheVariants.{NoSuchNode, NotUp, AlreadyUp, NoSuchDatagram}
use Rattle.lk_sim_nodes.specs.declared.refused.Refused.TheVariants.{Forged, WorldFull, WorldMemory}
use Rattle.lk_sim_nodes.specs.declared.sim_node.RunState.{RunState}
use Rattle.lk_sim_nodes.specs.declared.sim_node.RunState.TheVariants.{Up, Down}
use Rattle.lk_world_progress.proofs.Stepping.{is_there, stay_there}
use Rattle.lk_world_progress.specs.Restarting.{NodeRestarts, RestartInTurn, StopsAndRestarts}
use Rattle.lk_world_progress.specs.Stepping.{behaviour, GoesWell, Holds, Lives}
use Rattle.lk_healing.proofs.Carrying.{lives_of, not_down}
use Rattle.lk_healing.specs.Halts.{NeedsRoomAlone}
use Rattle.lk_healing.specs.Restarts.{AreStarted, HasStopped}

-- ---- lives

-- the node of a run state is there
pub sits_of : (w : WorldState ReplicaValue) (n : ℕ) (run_state : RunState ReplicaValue) → Lives w n run_state
    → Sits w.sim_nodes n run_state
sits_of w n run_state c = (c.0, record { number = n; run_state = run_state }, (c.1, c.2), refl, refl)

pub down_of : (w : WorldState ReplicaValue) (n : ℕ) (d : Memory) → Lives w n (Down d) → IsDown w.sim_nodes n
down_of w n d c = (d, sits_of w n (Down d) c)

module _ (m : Meaning) (IsText : List ℕ → Type 0) where
  -- ---- a stop

  pub stopped : (old new : WorldState ReplicaValue) (n : ℕ) → Holds m IsText old → Holds m IsText new
      → IsExecuted (behaviour m IsText) old (event.Stop n 0 0) new → HasStopped m IsText n old new
  stopped old new n before after done = by_stop done.1
    where
      by_stop : GoesDown (behaviour m IsText) old new n 0 0 → HasStopped m IsText n old new
      by_stop k = (
        down_of new n _ (is_there old new n k.sim_node k.next k.number k.replaces _ k.down),
        inr (0, 0, record { before = before; done = done; alive = k.ended; after = after }),
      )

  pub was_down : (old new : WorldState ReplicaValue) (n : ℕ) (r : Refused) → IsStarted old.sim_nodes n
      → IsRefused (behaviour m IsText) old (event.Stop n 0 0) r new → HasStopped m IsText n old new
  was_down old new n r started (inl rejected) = (
    subst (λ (w : WorldState ReplicaValue). IsDown w.sim_nodes n) (sym rejected.1) (by_cause r rejected.0),
    inl rejected.1,
  )
    where
      by_cause : (c : Refused) → NoneUp old.sim_nodes n c → IsDown old.sim_nodes n
      by_cause NoSuchNode none = absurd (none started.1.0 started.1.1 started.1.2 started.1.3)
      by_cause NotUp down = down
      by_cause AlreadyUp bad = absurd bad
      by_cause NoSuchDatagram bad = absurd bad
      by_cause Forged bad = absurd bad
      by_cause WorldFull bad = absurd bad
      by_cause WorldMemory bad = absurd bad
  was_down old new n r started (inr wants) = absurd wants.2

  -- either is what comes of it
  pub stop_comes : (old new : WorldState ReplicaValue) (n : ℕ) (result : Result ⊤ Refused) → IsStarted old.sim_nodes n
      → Holds m IsText old → Holds m IsText new
      → OnOk result (IsExecuted (behaviour m IsText) old (event.Stop n 0 0) new)
      → IfErr result (λ e. IsRefused (behaviour m IsText) old (event.Stop n 0 0) e new) → HasStopped m IsText n old new
  stop_comes old new n (Ok t) started before after done refused = stopped old new n before after done
  stop_comes old new n (Err e) started before after done refused = was_down old new n e started refused

  -- ---- a restart

  pub restart_needs : (w : WorldState ReplicaValue) (n : ℕ) → Holds m IsText w → IsDown w.sim_nodes n
      → NeedsRoomAlone w (event.Restart n)
  restart_needs w n holds down NoSuchNode none = absurd (none down.1.0 down.1.1 down.1.2 down.1.3)
  restart_needs w n holds down AlreadyUp up = absurd (not_down m IsText w holds n up down)
  restart_needs w n holds down NotUp bad = absurd bad
  restart_needs w n holds down NoSuchDatagram bad = absurd bad
  restart_needs w n holds down Forged bad = absurd bad
  restart_needs w n holds down WorldFull bad = absurd bad
  restart_needs w n holds down WorldMemory bad = absurd bad

  pub restarted : (old mid new : WorldState ReplicaValue) (n : ℕ) → HasStopped m IsText n old mid
      → GoesWell m IsText mid (event.Restart n) new → StopsAndRestarts m IsText n old new
  restarted old mid new n k goes = elim k.1 [
    | inl same ↦ inl (subst (λ (w : WorldState ReplicaValue). GoesWell m IsText w (event.Restart n) new) same goes)
    | inr stops ↦ inr (stops.0, stops.1, mid, stops.2, goes)
  ]

  -- ---- several

  turn_more : (ns : List ℕ) (n : ℕ) (old mid new : WorldState ReplicaValue) → RestartInTurn m IsText ns old mid
      → StopsAndRestarts m IsText n mid new → RestartInTurn m IsText (ns ++ n ∷ []) old new
  turn_more [] n old mid new same one =
      (new, subst (λ (w : WorldState ReplicaValue). StopsAndRestarts m IsText n w new) same one, refl)
  turn_more (j ∷ ns) n old mid new turn one = (turn.0, turn.1, turn_more ns n turn.0 mid new turn.2 one)

  started_still : NodeRestarts m IsText → (old new : WorldState ReplicaValue) (n j : ℕ) → StopsAndRestarts m
      IsText n old new
      → IsStarted old.sim_nodes j → IsStarted new.sim_nodes j
  started_still law old new n j k started = by_case k
    where
      by_restart : (mid : WorldState ReplicaValue) → GoesWell m IsText mid (event.Restart n) new
          → ((j ≡ n → ⊥) → Lives mid j started.0) → IsStarted new.sim_nodes j
      by_restart mid goes lives =
          let r = law mid new n goes in
          elim (cases_Bool (eqb j n)) [
            | inl t ↦ (
              Up r.after,
              subst (λ (i : ℕ). Sits new.sim_nodes i (Up r.after)) (sym (eqb-true j n t))
                  (sits_of new n (Up r.after) r.is),
            )
            | inr t ↦ (
              started.0,
              sits_of new j started.0
                  (r.others j started.0 (eqb-false j n t) (lives (eqb-false j n t))),
            )
          ]

      by_case : StopsAndRestarts m IsText n old new → IsStarted new.sim_nodes j
      by_case (inl goes) = by_restart old goes (λ ne. lives_of old j started.0 started.1)
      by_case (inr stops) =
          let down : GoesDown (behaviour m IsText) old stops.2 n stops.0 stops.1 = stops.3.done.1 in
          by_restart stops.2 stops.4 (λ ne. stay_there old stops.2 n down.sim_node down.next down.number down.replaces j
          started.0 ne (lives_of old j started.0 started.1))

  -- so many of them have restarted
  abbrev pub RestartsEach : List ℕ → WorldState ReplicaValue → ℕ → WorldState ReplicaValue → Type 0
  RestartsEach nodes old i now = RestartInTurn m IsText (take i nodes) old now × AreStarted now nodes

  pub restarted_one : NodeRestarts m IsText →
      (nodes : List ℕ) (i n : ℕ) (old mid new : WorldState ReplicaValue) → slice_get nodes i ≡ Some n
      → RestartsEach nodes old i mid → StopsAndRestarts m IsText n mid new → RestartsEach nodes old (i + 1) new
  restarted_one law nodes i n old mid new at so_far one = (
    subst (λ (j : ℕ). RestartInTurn m IsText (take j nodes) old new) (sym (add-one i))
        (subst (λ (ns : List ℕ). RestartInTurn m IsText ns old new) (sym (take_next nodes i n at))
        (turn_more (take i nodes) n old mid new so_far.0 one)),
    λ j c. started_still law mid new n j one (so_far.1 j c),
  )
