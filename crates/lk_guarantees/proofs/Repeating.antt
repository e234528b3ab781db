-- A node of a world that is stopped and restarted again and again is the same.
use Rattle.std.proofs.Common.{◌≡◌, ℕ, List, [], ◌∷◌, ◌++◌, set, slice_get, Some, Ok, refl, ap, sym, ◌∙◌, subst, inl}
use Rattle.std.proofs.Common.{inr, append-nil, append_assoc}
use Rattle.lk_types.specs.declared.genesis.Genesis.{Genesis}
use Rattle.lk_memory_disk.specs.Memory.{Memory}
use Rattle.lk_store_format.specs.Values.{HeaderValue}
use Rattle.lk_locks.specs.Meaning.{table_meaning}
use Rattle.lk_locks.specs.Packed.{IsTableText}
use Rattle.lk_node_interface.specs.declared.note.Note.{Note}
use Rattle.lk_node.specs.Leavings.{header_of}
use Rattle.lk_replica.specs.ReplicaValue.{ReplicaValue, device_of}
use Rattle.lk_replica.specs.Revived.{RevivesTo}
use Rattle.lk_sim.specs.WorldStates.{WorldState}
use Rattle.lk_sim.specs.declared.event.Event.TheVariants as event
use Rattle.lk_sim_nodes.specs.declared.sim_node.SimNode.{SimNode}
use Rattle.lk_sim_nodes.specs.declared.sim_node.RunState.{RunState}
use Rattle.lk_sim_nodes.specs.declared.sim_node.RunState.TheVariants.{Up, Down}
use Rattle.lk_sim.proofs.Networks.{set_twice}
use Rattle.lk_guarantees.specs.Events.{remaining, IsStopped, IsRestarted, IsNotRestarted, IsUp, IsDone, AreDone}
use Rattle.lk_guarantees.specs.Events.{IsReachable}
use Rattle.lk_guarantees.specs.Restarting.{ComesUp, IsLeftBy, FindsFormatTwo, stops_and_restarts, as_often, IsTheSame}
use Rattle.lk_guarantees.proofs.Apart.{Apart, is_there, get_set_here, set_same, one_place, one_sim_node, not_up}
use Rattle.lk_guarantees.proofs.Apart.{done_apart}
use Rattle.lk_guarantees.proofs.Apart.{reachable_apart}
use Rattle.lk_guarantees.proofs.Restarting.{Stands, first_stands, now, same_node, same_notes, same_file, still_today}

module _ (genesis : Genesis) (n : ℕ) where
  abbrev header : HeaderValue
  header = header_of genesis n

  abbrev up : ReplicaValue → SimNode ReplicaValue
  up replica = record { number = n; run_state = Up replica }

  abbrev down : Memory → SimNode ReplicaValue
  down device = record { number = n; run_state = Down device }

  same_up : (q r : ReplicaValue) → up q ≡ up r → q ≡ r
  same_up q r e = lives (ap (λ (s : SimNode ReplicaValue). s.run_state) e)
    where
      lives : ◌≡◌ {A = RunState ReplicaValue} (Up q) (Up r) → q ≡ r
      lives e = cc e

  same_down : (c d : Memory) → down c ≡ down d → c ≡ d
  same_down c d e = lives (ap (λ (s : SimNode ReplicaValue). s.run_state) e)
    where
      lives : ◌≡◌ {A = RunState ReplicaValue} (Down c) (Down d) → c ≡ d
      lives e = cc e

  up_not_down : (r : ReplicaValue) (d : Memory) → up r ≡ down d → ⊥
  up_not_down r d e = lives (ap (λ (s : SimNode ReplicaValue). s.run_state) e)
    where
      lives : ◌≡◌ {A = RunState ReplicaValue} (Up r) (Down d) → ⊥
      lives e = cc e

  -- the node has restarted, and is up at this place
  record IsAt (world : WorldState ReplicaValue) (index : ℕ) (replica : ReplicaValue) (notes : List Note) : Type 0 where
    apart : Apart world.sim_nodes
    begun : world.genesis ≡ genesis
    here : slice_get world.sim_nodes index ≡ Some (up replica)
    stands : Stands header replica notes

  -- it is the same after what the notes say
  record Comes (world : WorldState ReplicaValue) (index : ℕ) (replica : ReplicaValue) (notes : List Note)
      (all : List Note)
      (last : WorldState ReplicaValue) : Type 0 where
    again : ReplicaValue
    is_at : IsAt last index again notes
    sim_nodes : last.sim_nodes ≡ set world.sim_nodes index (up again)
    node : again.node ≡ replica.node
    file : again.store.live_disk ≡ replica.store.live_disk
    trace : last.trace ≡ world.trace ++ all
    sent : last.sent ≡ world.sent

  -- ---- a stop and a restart

  module _ (world mid next : WorldState ReplicaValue) (index : ℕ) (replica : ReplicaValue) (notes : List Note)
      (w : IsAt world index replica notes) (x y : ℕ)
      (stop : IsDone world (event.Stop n x y) mid) (restart : IsDone mid (event.Restart n) next) where
    abbrev stopped : IsStopped world mid n x y
    stopped = stop.stops

    at_place : stopped.index ≡ index
    at_place =
        one_place world.sim_nodes w.apart stopped.index index (up stopped.replica) (up replica)
        stopped.was_up w.here refl

    of_replica : stopped.replica ≡ replica
    of_replica = same_up stopped.replica replica
        (one_sim_node world.sim_nodes w.apart stopped.index index (up stopped.replica) (up replica)
        stopped.was_up w.here refl)

    left : IsLeftBy replica stopped.device
    left = (
      x,
      y,
      stopped.disk_a ∙ ap (λ (r : ReplicaValue). remaining x (device_of r.store).a) of_replica,
      stopped.disk_b ∙ ap (λ (r : ReplicaValue). remaining y (device_of r.store).b) of_replica,
    )

    mid_sim_nodes : mid.sim_nodes ≡ set world.sim_nodes index (down stopped.device)
    mid_sim_nodes = stopped.is_down ∙ ap (λ (k : ℕ). set world.sim_nodes k (down stopped.device)) at_place

    mid_apart : Apart mid.sim_nodes
    mid_apart = done_apart world mid (event.Stop n x y) stop w.apart

    mid_here : slice_get mid.sim_nodes index ≡ Some (down stopped.device)
    mid_here = ap (λ (l : List (SimNode ReplicaValue)). slice_get l index) mid_sim_nodes
        ∙ get_set_here world.sim_nodes index (up replica) (down stopped.device) w.here

    mid_begun : mid.genesis ≡ genesis
    mid_begun = stop.grows.2 ∙ w.begun

    next_apart : Apart next.sim_nodes
    next_apart = done_apart mid next (event.Restart n) restart mid_apart

    module _ (r : IsRestarted mid n next) where
      there : r.index ≡ index
      there = one_place mid.sim_nodes mid_apart r.index index (down r.device) (down stopped.device) r.was_down
          mid_here refl

      of_device : r.device ≡ stopped.device
      of_device = same_down r.device stopped.device
          (one_sim_node mid.sim_nodes mid_apart r.index index (down r.device) (down stopped.device) r.was_down
          mid_here refl)

      comes_up : ComesUp header stopped.device r.replica r.notes
      comes_up =
          subst (λ (d : Memory). RevivesTo table_meaning IsTableText d header (Ok (r.replica, r.notes))) of_device
          (subst (λ (g : Genesis). RevivesTo table_meaning IsTableText r.device (header_of g n)
          (Ok (r.replica, r.notes))) mid_begun r.revives)

      noted_same : r.notes ≡ notes
      noted_same = same_notes header replica notes w.stands stopped.device left r.replica r.notes comes_up

      next_sim_nodes : next.sim_nodes ≡ set world.sim_nodes index (up r.replica)
      next_sim_nodes =
          r.is_up ∙ ap (λ (k : ℕ). set mid.sim_nodes k (up r.replica)) there
          ∙ ap (λ (l : List (SimNode ReplicaValue)). set l index (up r.replica)) mid_sim_nodes
          ∙ set_twice world.sim_nodes index (down stopped.device) (up r.replica)

      round : Comes world index replica notes notes next
      round = record {
        again = r.replica;
        is_at = record {
          apart = next_apart;
          begun = restart.grows.2 ∙ mid_begun;
          here = ap (λ (l : List (SimNode ReplicaValue)). slice_get l index) next_sim_nodes
              ∙ get_set_here world.sim_nodes index (up replica) (up r.replica) w.here;
          stands = subst (λ (l : List Note). Stands header r.replica l) noted_same
              (now header replica notes w.stands stopped.device left r.replica r.notes comes_up);
        };
        sim_nodes = next_sim_nodes;
        node = same_node header replica notes w.stands stopped.device left r.replica r.notes comes_up;
        file = same_file header replica notes w.stands stopped.device left r.replica r.notes comes_up;
        trace = r.noted ∙ ap (λ (l : List Note). l ++ r.notes) stopped.nothing_noted
            ∙ ap (λ (l : List Note). world.trace ++ l) noted_same;
        sent = r.nothing_sent ∙ stopped.nothing_sent;
      }

  -- ---- however often

  -- a node that is down is not stopped, so it is not up in the end
  never_up : (more : List (ℕ × ℕ)) (world last : WorldState ReplicaValue) → Apart world.sim_nodes
      → (index : ℕ) (device : Memory) → slice_get world.sim_nodes index ≡ Some (down device)
      → AreDone (stops_and_restarts n more) world last → IsUp last.sim_nodes n → ⊥
  never_up [] world last apart index device here same is_up =
      not_up world.sim_nodes apart n index device here (subst (λ (w : WorldState ReplicaValue). IsUp w.sim_nodes
      n) same is_up)
  never_up (most ∷ more) world last apart index device here all is_up =
      let k : IsStopped world all.0 n most.0 most.1 = all.1.stops in
      up_not_down k.replica device
      (one_sim_node world.sim_nodes apart k.index index (up k.replica) (down device) k.was_up here refl)

  -- nothing has happened yet
  still : (world last : WorldState ReplicaValue) (index : ℕ) (replica : ReplicaValue) (notes : List Note)
      → IsAt world index replica notes → last ≡ world → Comes world index replica notes [] last
  still world last index replica notes w same = record {
    again = replica;
    is_at = subst (λ (s : WorldState ReplicaValue). IsAt s index replica notes) (sym same) w;
    sim_nodes = ap (λ (s : WorldState ReplicaValue). s.sim_nodes) same
        ∙ sym (set_same world.sim_nodes index (up replica) w.here);
    node = refl;
    file = refl;
    trace = ap (λ (s : WorldState ReplicaValue). s.trace) same ∙ sym (append-nil world.trace);
    sent = ap (λ (s : WorldState ReplicaValue). s.sent) same;
  }

  after : (world mid last : WorldState ReplicaValue) (index : ℕ) (replica : ReplicaValue) (notes front back : List Note)
      (c : Comes world index replica notes front mid)
      → Comes mid index c.again notes back last → Comes world index replica notes (front ++ back) last
  after world mid last index replica notes front back c d = record {
    again = d.again;
    is_at = d.is_at;
    sim_nodes = d.sim_nodes ∙ ap (λ (l : List (SimNode ReplicaValue)). set l index (up d.again)) c.sim_nodes
        ∙ set_twice world.sim_nodes index (up c.again) (up d.again);
    node = d.node ∙ c.node;
    file = d.file ∙ c.file;
    trace = d.trace ∙ ap (λ (l : List Note). l ++ back) c.trace ∙ append_assoc world.trace front back;
    sent = d.sent ∙ c.sent;
  }

  comes : (more : List (ℕ × ℕ)) (world last : WorldState ReplicaValue) (index : ℕ) (replica : ReplicaValue)
      (notes : List Note) → IsAt world index replica notes
      → AreDone (stops_and_restarts n more) world last → IsUp last.sim_nodes n
      → Comes world index replica notes (as_often more notes) last
  comes [] world last index replica notes w same is_up = still world last index replica notes w same
  comes (most ∷ more) world last index replica notes w all is_up =
      let mid : WorldState ReplicaValue = all.0 in
      let next : WorldState ReplicaValue = all.2.0 in
      let stop : IsDone world (event.Stop n most.0 most.1) mid = all.1 in
      let restart : IsDone mid (event.Restart n) next = all.2.1 in
      elim restart.restarts [
        | inl r ↦
            let c : Comes world index replica notes notes next =
            round world mid next index replica notes w most.0 most.1 stop restart r in
            after world next last index replica notes notes (as_often more notes) c
            (comes more next last index c.again notes c.is_at all.2.2 is_up)
        | inr f ↦ absurd
            (never_up more next last
            (next_apart world mid next index replica notes w most.0 most.1 stop restart) f.index f.rest
            (ap (λ (l : List (SimNode ReplicaValue)). slice_get l f.index) f.is_down
            ∙ get_set_here mid.sim_nodes f.index (down f.device) (down f.rest) f.was_down) all.2.2 is_up)
      ]

-- ---- in a world

module _ (world first last : WorldState ReplicaValue) (n : ℕ) (more : List (ℕ × ℕ)) (apart : Apart world.sim_nodes)
    (today : FindsFormatTwo world n)
    (restart : IsDone world (event.Restart n) first) (all : AreDone (stops_and_restarts n more) first last)
    (is_up : IsUp last.sim_nodes n) where
  first_apart : Apart first.sim_nodes
  first_apart = done_apart world first (event.Restart n) restart apart

  module _ (r : IsRestarted world n first) where
    abbrev sim_node : SimNode ReplicaValue
    sim_node = record { number = n; run_state = Down r.device }

    here : slice_get first.sim_nodes r.index ≡ Some (record { number = n; run_state = Up r.replica })
    here = ap (λ (l : List (SimNode ReplicaValue)). slice_get l r.index) r.is_up
        ∙ get_set_here world.sim_nodes r.index sim_node (record { number = n; run_state = Up r.replica }) r.was_down

    starts : IsAt world.genesis n first r.index r.replica r.notes
    starts = record {
      apart = first_apart;
      begun = restart.grows.2;
      here = here;
      stands = first_stands (header_of world.genesis n) r.device r.replica r.notes
          (today r.device (is_there world.sim_nodes r.index sim_node r.was_down)) r.revives;
    }

    is_the_same : IsTheSame n world first more last
    is_the_same =
        let c : Comes world.genesis n first r.index r.replica r.notes (as_often more r.notes) last =
        comes world.genesis n more first last r.index r.replica r.notes starts all is_up in
        record {
          index = r.index;
          once = r.replica;
          again = c.again;
          was_up = here;
          is_up = c.sim_nodes;
          same_node = c.node;
          same_file = c.file;
          format_two =
              λ left stopped. still_today (header_of world.genesis n) c.again r.notes c.is_at.stands left stopped;
          notes = r.notes;
          noted = r.noted;
          noted_again = c.trace;
          nothing_sent = c.sent ∙ r.nothing_sent;
        }

  not_down : IsNotRestarted world n first → ⊥
  not_down f =
      never_up world.genesis n more first last first_apart f.index f.rest
      (ap (λ (l : List (SimNode ReplicaValue)). slice_get l f.index) f.is_down
      ∙ get_set_here world.sim_nodes f.index (record { number = n; run_state = Down f.device })
      (record { number = n; run_state = Down f.rest }) f.was_down) all is_up

  comes_the_same : IsTheSame n world first more last
  comes_the_same = elim restart.restarts [ inl r ↦ is_the_same r | inr f ↦ absurd (not_down f) ]

pub comes_back_the_same : (genesis : Genesis) (world first last : WorldState ReplicaValue) (n : ℕ) (more : List (ℕ × ℕ))
    → IsReachable genesis world → FindsFormatTwo world n
    → IsDone world (event.Restart n) first → AreDone (stops_and_restarts n more) first last → IsUp last.sim_nodes n
    → IsTheSame n world first more last
comes_back_the_same genesis world first last n more reached today restart all is_up =
    comes_the_same world first last n more (reachable_apart genesis world reached) today restart all is_up
