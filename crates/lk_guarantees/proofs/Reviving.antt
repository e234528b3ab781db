-- What a restart leaves, in the words of the guarantee.
use Rattle.std.proofs.Common.{◌≡◌, ℕ, ◌⊎◌, List, [], ◌∷◌, ◌++◌, set, slice_get, Option, Some, None, Result, Ok, Err}
use Rattle.std.proofs.Common.{refl, ap, ◌∙◌, subst, inl, inr, append-nil}
use Rattle.std.proofs.lemmas.Option.{slice_get-get_or}
use Rattle.lk_memory_disk.specs.Memory.{Memory, empty}
use Rattle.lk_disk.specs.Meters.{stopping}
use Rattle.lk_store_format.specs.Values.{HeaderValue}
use Rattle.lk_locks.specs.Meaning.{table_meaning}
use Rattle.lk_locks.specs.Packed.{IsTableText}
use Rattle.lk_node_interface.specs.declared.note.Note.{Note}
use Rattle.lk_node.specs.Leavings.{header_of}
use Rattle.lk_replica.specs.Behaviours.{Behaviour}
use Rattle.lk_replica.specs.ReplicaValue.{ReplicaValue}
use Rattle.lk_replica.specs.Revived.{RevivesTo}
use Rattle.lk_sim_nodes.specs.Ends.{StaysDown, end_by}
use Rattle.lk_sim.specs.Events.{ReplacesSeat, EndsByFault, IsRevived, IsAdded, IsBack, HasEffect}
use Rattle.lk_sim.specs.WorldStates.{WorldState}
use Rattle.lk_sim_nodes.specs.SimNodes.{rested_on}
use Rattle.lk_sim_nodes.specs.declared.end.End.{End}
use Rattle.lk_sim.specs.declared.event.Event.{Event}
use Rattle.lk_sim.specs.declared.event.Event.TheVariants as event
use Rattle.lk_sim_nodes.specs.declared.sim_node.SimNode.{SimNode}
use Rattle.lk_sim_nodes.specs.declared.sim_node.RunState.{RunState}
use Rattle.lk_sim_nodes.specs.declared.sim_node.RunState.TheVariants.{Up, Down}
use Rattle.lk_guarantees.specs.Events.{IsRestarted, EndsOn, IsNotRestarted, IsBegun, IsNotBegun, RestartsAsStated}

pub same_sim_node : (s : SimNode ReplicaValue) (n : ℕ) (run_state : RunState ReplicaValue) → s.number ≡ n
    → s.run_state ≡ run_state
    → s ≡ record { number = n; run_state = run_state }
same_sim_node s n run_state number is =
    let made : ℕ → RunState ReplicaValue → SimNode ReplicaValue = λ k l. record { number = k; run_state = l } in
    ap (λ (k : ℕ). made k s.run_state) number ∙ ap (made n) is

pub stands_at : (old new : List (SimNode ReplicaValue)) (s t : SimNode ReplicaValue) (k : ReplacesSeat old new s t)
    → slice_get old k.index ≡ Some s
stands_at old new s t k = slice_get-get_or old k.index s k.at.0 ∙ ap Some k.at.1

-- how a node ended that a fault ended
pub ends_on : (o : Option ℕ) (n number : ℕ) (left : Memory) (ended : Option End) → ended ≡ Some (end_by o n number)
    → EndsOn o n number left (rested_on o left) ended
ends_on None n number left ended e = (e, refl, refl)
ends_on (Some bytes) n number left ended e = (e, refl, refl)

module _ (b : Behaviour ReplicaValue)
    (contract : (device : Memory) (whose : HeaderValue) (came : Result (ReplicaValue × List Note) (ℕ × Memory))
    → b.Revives device whose came → RevivesTo table_meaning IsTableText device whose came)
    (old new : WorldState ReplicaValue) (n : ℕ) (k : IsBack b old new n) where
  number : k.next.number ≡ n
  number = k.replaces.number ∙ k.number

  was_down : slice_get old.sim_nodes k.replaces.index ≡ Some (record { number = n; run_state = Down k.device })
  was_down =
      stands_at old.sim_nodes new.sim_nodes k.sim_node k.next k.replaces ∙ ap Some (same_sim_node k.sim_node n
      (Down k.device) k.number k.down)

  -- by the contract of a replica, under the header of this node
  told : (came : Result (ReplicaValue × List Note) (ℕ × Memory))
      → b.Revives k.device (header_of old.genesis k.next.number) came
      → RevivesTo table_meaning IsTableText k.device (header_of old.genesis n) came
  told came r = contract k.device (header_of old.genesis n) came
      (subst (λ (m : ℕ). b.Revives k.device (header_of old.genesis m) came) number r)

  restarted : IsRevived b old new k.next k.device → IsRestarted old n new
  restarted r = record {
    index = k.replaces.index;
    device = k.device;
    was_down = was_down;
    replica = r.replica;
    notes = r.notes;
    revives = told (Ok (r.replica, r.notes)) r.revives;
    is_up = k.replaces.sim_nodes ∙ ap (set old.sim_nodes k.replaces.index) (same_sim_node k.next n (Up r.replica)
        number r.up);
    noted = r.adds.trace;
    nothing_sent = r.adds.sent ∙ append-nil old.sent;
    none_ended = r.ended;
  }

  not_restarted : EndsByFault (StaysDown b k.device (header_of old.genesis k.next.number)) old new k.next []
      → IsNotRestarted old n new
  not_restarted f = record {
    index = k.replaces.index;
    device = k.device;
    was_down = was_down;
    number = f.number;
    left = f.left;
    fails = told (Err (f.number, f.left)) f.ends.0;
    no_memory = f.no_want.memory;
    not_starved = f.no_want.starved;
    rest = rested_on (stopping f.left.meter) f.left;
    is_down = k.replaces.sim_nodes ∙ ap (set old.sim_nodes k.replaces.index)
        (same_sim_node k.next n (Down (rested_on (stopping f.left.meter) f.left)) number f.down);
    ends = ends_on (stopping f.left.meter) n f.number f.left new.ended
        (f.ended ∙ ap (λ (m : ℕ). Some (end_by (stopping f.left.meter) m f.number)) number);
    nothing_noted = f.adds.trace ∙ append-nil old.trace;
    nothing_sent = f.adds.sent ∙ append-nil old.sent;
  }

  is_back : IsRestarted old n new ⊎ IsNotRestarted old n new
  is_back = elim k.comes [ inl r ↦ inl (restarted r) | inr f ↦ inr (not_restarted f) ]

-- ---- a new node

module _ (b : Behaviour ReplicaValue)
    (contract : (device : Memory) (whose : HeaderValue) (came : Result (ReplicaValue × List Note) (ℕ × Memory))
    → b.Revives device whose came → RevivesTo table_meaning IsTableText device whose came)
    (old new : WorldState ReplicaValue) (n : ℕ) (k : IsAdded b old new n) where
  told_new : (came : Result (ReplicaValue × List Note) (ℕ × Memory))
      → b.Revives empty (header_of old.genesis k.sim_node.number) came
      → RevivesTo table_meaning IsTableText empty (header_of old.genesis n) came
  told_new came r = contract empty (header_of old.genesis n) came
      (subst (λ (m : ℕ). b.Revives empty (header_of old.genesis m) came) k.number r)

  stands_new : (run_state : RunState ReplicaValue) → k.sim_node.run_state ≡ run_state
      → new.sim_nodes ≡ old.sim_nodes ++ record { number = n; run_state = run_state } ∷ []
  stands_new run_state is =
      k.sim_nodes ∙ ap (λ (s : SimNode ReplicaValue). old.sim_nodes ++ s ∷ []) (same_sim_node k.sim_node n
      run_state k.number is)

  begun : IsRevived b old new k.sim_node empty → IsBegun old n new
  begun r = record {
    replica = r.replica;
    notes = r.notes;
    revives = told_new (Ok (r.replica, r.notes)) r.revives;
    is_up = stands_new (Up r.replica) r.up;
    noted = r.adds.trace;
    nothing_sent = r.adds.sent ∙ append-nil old.sent;
    none_ended = r.ended;
  }

  not_begun : EndsByFault (StaysDown b empty (header_of old.genesis k.sim_node.number)) old new k.sim_node []
      → IsNotBegun old n new
  not_begun f = record {
    number = f.number;
    left = f.left;
    fails = told_new (Err (f.number, f.left)) f.ends.0;
    no_memory = f.no_want.memory;
    not_starved = f.no_want.starved;
    rest = rested_on (stopping f.left.meter) f.left;
    is_down = stands_new (Down (rested_on (stopping f.left.meter) f.left)) f.down;
    ends = ends_on (stopping f.left.meter) n f.number f.left new.ended
        (f.ended ∙ ap (λ (m : ℕ). Some (end_by (stopping f.left.meter) m f.number)) k.number);
    nothing_noted = f.adds.trace ∙ append-nil old.trace;
    nothing_sent = f.adds.sent ∙ append-nil old.sent;
  }

  is_new : IsBegun old n new ⊎ IsNotBegun old n new
  is_new = elim k.comes [ inl r ↦ inl (begun r) | inr f ↦ inr (not_begun f) ]

-- ---- any event

module _ (b : Behaviour ReplicaValue)
    (contract : (device : Memory) (whose : HeaderValue) (came : Result (ReplicaValue × List Note) (ℕ × Memory))
    → b.Revives device whose came → RevivesTo table_meaning IsTableText device whose came) where
  pub restarts_as_told : (old new : WorldState ReplicaValue) (e : Event) → HasEffect b old e new
      → RestartsAsStated old e new
  restarts_as_told old new (event.Start n) k = is_new b contract old new n k
  restarts_as_told old new (event.Restart n) k = is_back b contract old new n k
  restarts_as_told old new (event.Tick n) k = tt
  restarts_as_told old new (event.Nudge n reason) k = tt
  restarts_as_told old new (event.Compact n) k = tt
  restarts_as_told old new (event.Client n q) k = tt
  restarts_as_told old new (event.Deliver i) k = tt
  restarts_as_told old new (event.Group n group_inputs) k = tt
  restarts_as_told old new (event.Inject n bytes) k = tt
  restarts_as_told old new (event.Stop n x y) k = tt
  restarts_as_told old new (event.FailAt n count) k = tt
  restarts_as_told old new (event.Arm n count bytes) k = tt
