-- What an event has done, by what its calls came to.
use Rattle.std.proofs.Common.{◌≡◌, ℕ, ◌⊎◌, List, [], ◌++◌, length, set, Option, Some, None, Ok, refl, ap, sym, ◌∙◌}
use Rattle.std.proofs.Common.{subst, subst₂, inl, inr, append_assoc, append-nil}
use Rattle.std.proofs.lemmas.List.{get_or_default}
use Rattle.lk_memory_disk.specs.Memory.{Memory}
use Rattle.lk_disk.specs.Meters.{stopping}
use Rattle.lk_store_format.specs.Values.{HeaderValue}
use Rattle.lk_state.specs.Meanings.{Meaning}
use Rattle.lk_agreement_laws.specs.Nodes.{PaxosState}
use Rattle.lk_node_interface.specs.declared.input.Input.{Input}
use Rattle.lk_node_interface.specs.declared.note.Note.{Note}
use Rattle.lk_node.specs.Histories.{History, Genesis, Datagram, RequestValue}
use Rattle.lk_node.specs.Holdings.{Holding}
use Rattle.lk_node.specs.Leavings.{header_of}
use Rattle.lk_sim_nodes.specs.Told.{NotesReplies}
use Rattle.lk_sim.specs.Traces.{asked_in, happened, asked_note}
use Rattle.lk_sim.specs.WorldStates.{WorldState}
use Rattle.lk_sim_nodes.specs.SimNodes.{At, SimNodeFits, SimNodeGoes, stopped_on, fallen_on, rested_on, device_in}
use Rattle.lk_replica.specs.Behaviours.{Behaviour, TrapsAlone, disks_by}
use Rattle.lk_sim_nodes.specs.Ends.{Breaks, StaysDown, FailsToCompact, IsEndByCalls, end_by, end_at}
use Rattle.lk_sim_nodes.specs.Sends.{stop_among, after_sends}
use Rattle.lk_sim.specs.Events.{AreOfNodes, Adds, EndsByFault, Comes, IsGiven, IsBack, ComesUp, GoesOnCompacted}
use Rattle.lk_sim.specs.Events.{IsCompacted}
use Rattle.lk_sim.specs.Events.{IsHalted, LeftBy, LeftByRevival}
use Rattle.lk_sim_nodes.specs.Outcomes.{HasEndedByFault, HasTaken, HasRevived, HasCompacted, HasStoppedOutOfMemory}
use Rattle.lk_sim_nodes.specs.Outcomes.{StopsIfArmed}
use Rattle.lk_sim.specs.Concluded.{HasAdded, HasConcluded, HasGivenUp}
use Rattle.lk_sim.specs.Worlds.{WorldInvariant}
use Rattle.lk_sim_nodes.specs.declared.end.End.{End}
use Rattle.lk_sim_nodes.specs.declared.sim_node.SimNode.{SimNode}
use Rattle.lk_sim_nodes.specs.declared.sim_node.RunState.{RunState}
use Rattle.lk_sim_nodes.specs.declared.sim_node.RunState.TheVariants.{Up, Down}
use Rattle.lk_sim.proofs.Ending.{goes_fits}
use Rattle.lk_sim_nodes.proofs.Faults.{told_as}
use Rattle.lk_sim.proofs.Lists.{at_set_here}
use Rattle.lk_sim_nodes.proofs.Stopping.{rested, nothing_sent, stopped_sent}
use Rattle.lk_sim.proofs.Given.{set_twice, asked_maybe, went_down, went_off, went_on}

-- one thing stands at a place
pub at_same : {X : Type 0} (xs : List X) (i : ℕ) (x y : X) → At xs i x → At xs i y → x ≡ y
at_same xs i x y a b = sym a.1 ∙ get_or_default xs i x y a.0 ∙ b.1

nothing_told : (batch : List Datagram) (told : List Note) → batch ≡ [] → NotesReplies batch told → told ≡ []
nothing_told batch told none tells = subst (λ l. NotesReplies l told) none tells

-- a stop leaves of the node's device what it leaves of such a one
abbrev pub StopsOn : {R : Type 0} → Behaviour R → (Memory → Type 0) → RunState R → Type 0
StopsOn b Left run_state = (d : Memory) × Left d × (stopped_on 0 0 (device_in b run_state) ≡ stopped_on 0 0 d)

module _ {R : Type 0} (b : Behaviour R) (old new : WorldState R) where
  -- a node that a fault ended, or an armed stop at a call of its device, has added nothing of its own
  pub falls : (Ends : ℕ → Memory → Type 0) (t next : SimNode R) (asked mine told : List Note) (batch : List Datagram)
      (how : Option End) (stop : Option ℕ) → Adds old new ((asked ++ mine) ++ told) batch
      → NotesReplies batch told → new.ended ≡ how
      → next.number ≡ t.number → StopsIfArmed b stop t next → IsEndByCalls how
      → HasEndedByFault Ends t mine batch how stop
      → EndsByFault Ends old new next asked
  falls Ends t next asked mine told batch how stop a tells ended number rests tellable f = record {
    number = f.number;
    left = f.left;
    ends = f.ends;
    no_want = f.no_want;
    down = subst (λ z. next.run_state ≡ Down (rested_on z f.left)) f.stop_is (rested b stop t next f.left f.down rests);
    told = told_as new.ended how ended tellable;
    ended = ended ∙ f.ended ∙ ap (λ z. Some (end_by z t.number f.number)) f.stop_is
        ∙ ap (λ k. Some (end_by (stopping f.left.meter) k f.number)) (sym number);
    adds = record {
      genesis = a.genesis;
      sent = a.sent ∙ ap (λ l. old.sent ++ l) f.no_batch;
      trace = a.trace ∙ ap (λ l. old.trace ++ l)
          (ap (λ l. (asked ++ mine) ++ l) (nothing_told batch told f.no_batch tells) ∙ append-nil (asked ++ mine)
          ∙ ap (λ l. asked ++ l) f.no_notes ∙ append-nil asked);
    };
  }

  -- a node that went on, up to an armed stop at a send if there was one
  went : (r : R) (t next : SimNode R) (x : Input) (asked mine told : List Note) (batch : List Datagram)
      (how : Option End) (stop : Option ℕ) → (k : HasTaken b r x t mine batch how stop) → AreOfNodes mine
      → Adds old new ((asked ++ mine) ++ told) batch → NotesReplies batch told → new.ended ≡ how
      → next.number ≡ t.number
      → StopsIfArmed b stop t next → Comes b old new r next x asked
  went r t next x asked mine told batch how None k of_nodes adds tells ended number rests = inl (record {
    replica = k.replica;
    notes = mine;
    told = told;
    batch = batch;
    takes = subst (λ l. b.Takes r x k.replica (Ok (mine, l))) (sym k.sends.2) k.takes;
    calls = k.calls;
    calls_succeed = k.calls_succeed;
    no_stop = subst (λ l. stop_among (b.memory k.replica).meter.trap (length l) ≡ None) (sym k.sends.2) k.sends.0;
    up = ap (λ (z : SimNode R). z.run_state) rests ∙ k.up
        ∙ ap Up (k.sends.1 ∙ ap (λ l. after_sends b (length l) k.replica) (sym k.sends.2));
    of_nodes = of_nodes;
    tells = tells;
    adds = adds;
    ended = ended ∙ k.ended;
  })
  went r t next x asked mine told batch how (Some bytes) k of_nodes adds tells ended number rests = inr (inl (record {
    replica = k.replica;
    notes = mine;
    told = told;
    batch = k.all;
    takes = k.takes;
    calls = k.calls;
    calls_succeed = k.calls_succeed;
    sends = k.sends.0;
    bytes = bytes;
    stop = k.sends.1;
    down = rests ∙ ap (λ (z : RunState R). Down (stopped_on bytes bytes (device_in b z))) (k.up ∙ ap Up k.sends.2);
    of_nodes = of_nodes;
    tells = subst (λ l. NotesReplies l told) k.sends.3 tells;
    adds = subst (λ l. Adds old new ((asked ++ mine) ++ told) l) k.sends.3 adds;
    ended = ended ∙ k.ended ∙ ap (λ z. end_at (Some bytes) z) (sym number);
  }))

  -- a node that was given something
  pub given : (Shows : R → Genesis → ℕ → Holding → Type 0) (m : Meaning) (i n : ℕ) (s t : SimNode R) (r : R)
      (x : Input) (asked mine : List Note) (batch : List Datagram) (how : Option End) (stop : Option ℕ)
      → At old.sim_nodes i s → s.number ≡ n → s.run_state ≡ Up r → t.number ≡ s.number
      → ((q : R) → t.run_state ≡ Up q → AreOfNodes mine)
      → HasConcluded Shows b m (record old { sim_nodes = set old.sim_nodes i t }) i new asked mine batch how stop
      → IsEndByCalls how
      → HasTaken b r x t mine batch how stop ⊎ HasEndedByFault (Breaks b r x) t mine batch how stop
      → IsGiven b old new n x asked
  given Shows m i n s t r x asked mine batch how stop at is up number of_nodes k tellable cases = record {
    sim_node = s;
    number = is;
    replica = r;
    up = up;
    next = k.next;
    replaces = record {
      index = i;
      at = at;
      number = on ∙ number;
      sim_nodes =
          k.sim_nodes ∙ set_twice old.sim_nodes i t k.next;
    };
    comes_to = elim cases [
      | inl q ↦ went r t k.next x asked mine k.told batch how stop q
          (of_nodes q.after q.up) adds k.tells k.ended on rests
      | inr f ↦ inr (inr (falls
          (Breaks b r x) t k.next asked mine k.told batch how stop adds k.tells k.ended on rests tellable f))
    ];
  }
    where
      same : k.sim_node ≡ t
      same = at_same (set old.sim_nodes i t) i k.sim_node t k.at (at_set_here old.sim_nodes i t at.0)

      on : k.next.number ≡ t.number
      on = k.number ∙ ap (λ (z : SimNode R). z.number) same

      rests : StopsIfArmed b stop t k.next
      rests = subst (λ z. StopsIfArmed b stop z k.next) same k.rests

      adds : Adds old new ((asked ++ mine) ++ k.told) batch
      adds = record { genesis = k.adds.genesis; sent = k.adds.sent; trace = k.adds.trace }

  pub comes : (t next : SimNode R) (d : Memory) (n : ℕ) (mine told : List Note) (batch : List Datagram)
      (how : Option End) (stop : Option ℕ)
      → t.number ≡ n → next.number ≡ t.number → StopsIfArmed b stop t next → ((q : R) → t.run_state ≡ Up q
      → AreOfNodes mine)
      → Adds old new (([] ++ mine) ++ told) batch → NotesReplies batch told → new.ended ≡ how → IsEndByCalls how
      → HasRevived b d (header_of old.genesis n) t mine batch how stop
      ⊎ HasEndedByFault (StaysDown b d (header_of old.genesis n)) t mine batch how stop → ComesUp b old new next d
  comes t next d n mine told batch how stop number on rests of_nodes a tells ended tellable cases = elim cases [
    | inl k ↦ inl (record {
      replica = k.replica;
      up = ap (λ (z : SimNode R). z.run_state) (subst (λ z. StopsIfArmed b z t next) k.no_stop rests) ∙ k.up;
      notes = mine;
      revives = subst (λ z. b.Revives d (header_of old.genesis z) (Ok (k.replica, mine))) (sym (on ∙ number)) k.revives;
      calls = k.calls;
      calls_succeed = k.calls_succeed;
      of_nodes = of_nodes k.replica k.up;
      adds = record {
        genesis = a.genesis;
        sent = a.sent ∙ ap (λ l. old.sent ++ l) k.no_batch;
        trace = a.trace ∙ ap (λ l. old.trace ++ l)
            (ap (λ l. mine ++ l) (nothing_told batch told k.no_batch tells) ∙ append-nil mine);
      };
      ended = ended ∙ k.ended;
    })
    | inr f ↦ inr (falls (StaysDown b d (header_of old.genesis next.number)) t next [] mine told batch how stop a tells
        ended on rests tellable (subst
        (λ z. HasEndedByFault (StaysDown b d (header_of old.genesis z)) t mine batch how stop) (sym (on ∙ number)) f))
  ]

  -- a node that came up
  pub back : (Shows : R → Genesis → ℕ → Holding → Type 0) (m : Meaning) (i n : ℕ) (s t : SimNode R) (d : Memory)
      (mine : List Note) (batch : List Datagram) (how : Option End) (stop : Option ℕ)
      → At old.sim_nodes i s → s.number ≡ n → s.run_state ≡ Down d → t.number ≡ s.number
      → ((q : R) → t.run_state ≡ Up q → AreOfNodes mine)
      → HasConcluded Shows b m (record old { sim_nodes = set old.sim_nodes i t }) i new [] mine batch how stop
      → IsEndByCalls how
      → HasRevived b d (header_of old.genesis s.number) t mine batch how stop
      ⊎ HasEndedByFault (StaysDown b d (header_of old.genesis s.number)) t mine batch how stop → IsBack b old new n
  back Shows m i n s t d mine batch how stop at is down number of_nodes k tellable cases =
      let same : k.sim_node ≡ t =
      at_same (set old.sim_nodes i t) i k.sim_node t k.at (at_set_here old.sim_nodes i t at.0) in
      let on : k.next.number ≡ t.number = k.number ∙ ap (λ (z : SimNode R). z.number) same in
      record {
        sim_node = s;
        number = is;
        device = d;
        down = down;
        next = k.next;
        replaces = record {
          index = i;
          at = at;
          number = on ∙ number;
          sim_nodes = k.sim_nodes
              ∙ set_twice old.sim_nodes i t k.next;
        };
        comes = comes t k.next d s.number mine k.told batch how stop number on
            (subst (λ z. StopsIfArmed b stop z k.next) same k.rests) of_nodes
            (record { genesis = k.adds.genesis; sent = k.adds.sent; trace = k.adds.trace })
            k.tells k.ended tellable cases;
      }

  packs : (t next : SimNode R) (r : R) (mine told : List Note) (batch : List Datagram) (how : Option End)
      (stop : Option ℕ)
      → next.number ≡ t.number → StopsIfArmed b stop t next → Adds old new (([] ++ mine) ++ told) batch
      → NotesReplies batch told
      → new.ended ≡ how → IsEndByCalls how
      → HasCompacted b r t mine batch how stop ⊎ HasEndedByFault (FailsToCompact b r) t mine batch how stop
      → GoesOnCompacted b old new r next ⊎ EndsByFault (FailsToCompact b r) old new next []
  packs t next r mine told batch how stop on rests a tells ended tellable cases = elim cases [
    | inl k ↦ inl (record {
      replica = k.replica;
      compacts = k.compacts;
      calls_succeed = k.calls_succeed;
      up = ap (λ (z : SimNode R). z.run_state) (subst (λ z. StopsIfArmed b z t next) k.no_stop rests) ∙ k.up;
      adds = record {
        genesis = a.genesis;
        sent = a.sent ∙ ap (λ l. old.sent ++ l) k.no_batch;
        trace = a.trace ∙ ap (λ l. old.trace ++ l)
            (ap (λ l. mine ++ l) (nothing_told batch told k.no_batch tells) ∙ append-nil mine ∙ k.no_notes);
      };
      ended = ended ∙ k.ended;
    })
    | inr f ↦ inr (falls (FailsToCompact b r) t next [] mine told batch how stop a tells ended on rests tellable f)
  ]

  -- a node that was told to compact
  pub compacted : (Shows : R → Genesis → ℕ → Holding → Type 0) (m : Meaning) (i n : ℕ) (s t : SimNode R) (r : R)
      (mine : List Note) (batch : List Datagram) (how : Option End) (stop : Option ℕ)
      → At old.sim_nodes i s → s.number ≡ n → s.run_state ≡ Up r → t.number ≡ s.number
      → HasConcluded Shows b m (record old { sim_nodes = set old.sim_nodes i t }) i new [] mine batch how stop
      → IsEndByCalls how
      → HasCompacted b r t mine batch how stop ⊎ HasEndedByFault (FailsToCompact b r) t mine batch how stop
      → IsCompacted b old new n
  compacted Shows m i n s t r mine batch how stop at is up number k tellable cases =
      let same : k.sim_node ≡ t =
      at_same (set old.sim_nodes i t) i k.sim_node t k.at (at_set_here old.sim_nodes i t at.0) in
      let on : k.next.number ≡ t.number = k.number ∙ ap (λ (z : SimNode R). z.number) same in
      record {
        sim_node = s;
        number = is;
        replica = r;
        up = up;
        next = k.next;
        replaces = record {
          index = i;
          at = at;
          number = on ∙ number;
          sim_nodes = k.sim_nodes
              ∙ set_twice old.sim_nodes i t k.next;
        };
        comes_to = packs t k.next r mine k.told batch how stop on (subst
            (λ z. StopsIfArmed b stop z k.next) same k.rests)
            (record { genesis = k.adds.genesis; sent = k.adds.sent; trace = k.adds.trace })
            k.tells k.ended tellable cases;
      }

  -- a node that was given up
  pub given_up : (Left : RunState R → Memory → Type 0) (Shows : R → Genesis → ℕ → Holding → Type 0)
      (m : Meaning) (i n : ℕ)
      (s t : SimNode R) → At old.sim_nodes i s → s.number ≡ n → t.number ≡ s.number
      → StopsOn b (Left s.run_state) t.run_state → HasGivenUp Shows b m (record old {
        sim_nodes =
            set old.sim_nodes i t;
      }) i new
      → IsHalted Left old new n
  given_up Left Shows m i n s t at is number stood k =
      let same : k.sim_node ≡ t =
      at_same (set old.sim_nodes i t) i k.sim_node t k.at (at_set_here old.sim_nodes i t at.0) in
      record {
        sim_node = s;
        number = is;
        next = k.next;
        replaces = record {
          index = i;
          at = at;
          number = k.number ∙ ap (λ (z : SimNode R). z.number) same ∙ number;
          sim_nodes = k.sim_nodes ∙ set_twice old.sim_nodes i t k.next;
        };
        device = stood.0;
        left = stood.1;
        down = k.halted ∙ ap (λ (z : SimNode R). Down (stopped_on 0 0 (device_in b z.run_state))) same
            ∙ ap Down stood.2;
        adds = record { genesis = k.adds.genesis; sent = k.adds.sent; trace = k.adds.trace };
        ended = k.ended;
      }

-- whatever a node's call came to of which something was to be kept, a stop leaves of its device what it leaves of the
-- one that the call left
module _ {R : Type 0} (b : Behaviour R) where
  pub taken_left : TrapsAlone b
      → (r : R) (x : Input) (run_state : RunState R) (t : SimNode R) (mine : List Note) (batch : List Datagram)
      (how : Option End) (stop : Option ℕ) → (mine ≡ [] → batch ≡ [] → ⊥)
      → run_state ≡ Up r → HasTaken b r x t mine batch how stop ⊎ HasEndedByFault (Breaks b r x) t mine batch how stop
      → StopsOn b (LeftBy b x run_state) t.run_state
  taken_left alone r x run_state t mine batch how stop some up cases = elim cases [
    | inl k ↦ (
      b.memory k.replica,
      (
        r,
        k.replica,
        Ok (mine, k.all),
        up,
        k.takes,
        refl,
        λ silent idle. some silent (nothing_sent b stop k.replica k.after k.all batch k.sends idle),
      ),
      ap (λ (z : RunState R). stopped_on 0 0 (device_in b z)) k.up
          ∙ stopped_sent b alone stop k.replica k.after k.all batch k.sends,
    )
    | inr f ↦ absurd (some f.no_notes f.no_batch)
  ]

  pub revived_left : (d : Memory) (header : HeaderValue) (run_state : RunState R) (t : SimNode R) (mine : List Note)
      (batch : List Datagram) (how : Option End) (stop : Option ℕ) → (mine ≡ [] → batch ≡ [] → ⊥)
      → run_state ≡ Down d → HasRevived b d header t mine batch how stop
      ⊎ HasEndedByFault (StaysDown b d header) t mine batch how stop
      → StopsOn b (LeftByRevival b header run_state) t.run_state
  revived_left d header run_state t mine batch how stop some down cases = elim cases [
    | inl k ↦ (
      b.memory k.replica,
      (d, Ok (k.replica, mine), down, k.revives, (refl, λ none. some none k.no_batch)),
      ap (λ (z : RunState R). stopped_on 0 0 (device_in b z)) k.up,
    )
    | inr f ↦ absurd (some f.no_notes f.no_batch)
  ]

-- of one that was told to compact nothing is to be kept
module _ {R : Type 0} (b : Behaviour R) where
  pub packed_none : (r : R) (t : SimNode R) (mine : List Note) (batch : List Datagram) (how : Option End)
      (stop : Option ℕ) → (mine ≡ [] → batch ≡ [] → ⊥)
      → HasCompacted b r t mine batch how stop ⊎ HasEndedByFault (FailsToCompact b r) t mine batch how stop → ⊥
  packed_none r t mine batch how stop some cases =
      elim cases [ inl k ↦ some k.no_notes k.no_batch | inr f ↦ some f.no_notes f.no_batch ]

-- a node that was stopped when out of memory
module _ {R : Type 0} (old : WorldState R) (Left : RunState R → Memory → Type 0) (Ends : ℕ → Memory → Type 0) where
  pub wanted : (i n : ℕ) (s t : SimNode R) → At old.sim_nodes i s → s.number ≡ n → t.number ≡ s.number
      → (k : HasStoppedOutOfMemory Ends t) → Left s.run_state k.left
      → IsHalted Left old (record old { sim_nodes = set old.sim_nodes i t }) n
  wanted i n s t at is number k left = record {
    sim_node = s;
    number = is;
    next = t;
    replaces = record { index = i; at = at; number = number; sim_nodes = refl };
    device = k.left;
    left = left;
    down = k.down;
    adds = record { genesis = refl; sent = sym (append-nil old.sent); trace = sym (append-nil old.trace) };
    ended = refl;
  }

-- a node is up, or was ended with nothing added
pub record Ends {R : Type 0} (t : SimNode R) (mine : List Note) (batch : List Datagram) : Type 0 where
  pub device : Memory
  pub down : t.run_state ≡ Down device
  pub no_notes : mine ≡ []
  pub no_batch : batch ≡ []

pub taken_cases : {R : Type 0} (b : Behaviour R) (r : R) (x : Input) (t : SimNode R) (mine : List Note)
    (batch : List Datagram) (how : Option End) (stop : Option ℕ)
    → HasTaken b r x t mine batch how stop ⊎ HasEndedByFault (Breaks b r x) t mine batch how stop
    → ((q : R) × (t.run_state ≡ Up q)) ⊎ Ends t mine batch
taken_cases b r x t mine batch how stop cases = elim cases [
  | inl k ↦ inl (k.after, k.up)
  | inr f ↦ inr (record { device = fallen_on f.left; down = f.down; no_notes = f.no_notes; no_batch = f.no_batch })
]

pub revived_cases : {R : Type 0} (b : Behaviour R) (d : Memory) (whose : HeaderValue) (t : SimNode R) (mine : List Note)
    (batch : List Datagram) (how : Option End) (stop : Option ℕ)
    → HasRevived b d whose t mine batch how stop ⊎ HasEndedByFault (StaysDown b d whose) t mine batch how stop
    → ((q : R) × (t.run_state ≡ Up q)) ⊎ Ends t mine batch
revived_cases b d whose t mine batch how stop cases = elim cases [
  | inl k ↦ inl (k.replica, k.up)
  | inr f ↦ inr (record { device = fallen_on f.left; down = f.down; no_notes = f.no_notes; no_batch = f.no_batch })
]

pub packed_cases : {R : Type 0} (b : Behaviour R) (r : R) (t : SimNode R) (mine : List Note) (batch : List Datagram)
    (how : Option End) (stop : Option ℕ)
    → HasCompacted b r t mine batch how stop ⊎ HasEndedByFault (FailsToCompact b r) t mine batch how stop
    → ((q : R) × (t.run_state ≡ Up q)) ⊎ Ends t mine batch
packed_cases b r t mine batch how stop cases = elim cases [
  | inl k ↦ inl (k.replica, k.up)
  | inr f ↦ inr (record { device = fallen_on f.left; down = f.down; no_notes = f.no_notes; no_batch = f.no_batch })
]

module _ {R : Type 0} (Shows : R → Genesis → ℕ → Holding → Type 0) (b : Behaviour R) (m : Meaning) (genesis : Genesis)
    (sim_nodes : List (SimNode R)) (sent : List Datagram) (trace : List Note)
    (w : WorldInvariant Shows (disks_by b) m genesis sim_nodes sent trace) (i : ℕ) (s t : SimNode R)
    (at : At sim_nodes i s)
    (number : t.number ≡ s.number) (o : Option RequestValue) where
  abbrev asked : List Note
  asked = trace ++ asked_note o

  abbrev h : History
  h = happened genesis sent asked

  pub since : WorldInvariant Shows (disks_by b) m genesis sim_nodes sent asked
  since = asked_maybe Shows (disks_by b) m genesis sim_nodes sent trace w o

  -- a node that was halted keeps all that holds
  pub halted_holds : (off : SimNode R) → off.number ≡ s.number → (d : Memory) → off.run_state ≡ Down d
      → (v : PaxosState)
      → SimNodeFits Shows (disks_by b) m h v off → WorldInvariant Shows (disks_by b) m genesis
      (set sim_nodes i off) sent trace
  halted_holds off same d down v f =
      went_off Shows (disks_by b) m genesis sim_nodes sent trace w i s off at same (asked_in asked) v d down f

  module _ (mine : List Note) (batch : List Datagram)
      (goes : (q : R) → t.run_state ≡ Up q → SimNodeGoes Shows (disks_by b) m h t mine batch)
      (down : (d : Memory) → t.run_state ≡ Down d → SimNodeFits Shows (disks_by b) m h (since.states s.number) t)
      (cases : ((q : R) × (t.run_state ≡ Up q)) ⊎ Ends t mine batch) where
    abbrev mid : Option End → WorldState R
    mid ended = record { genesis = genesis; sim_nodes = set sim_nodes i t; sent = sent; trace = trace; ended = ended }

    added : (told : List Note) → NotesReplies batch told
        → WorldInvariant Shows (disks_by b) m genesis (set sim_nodes i t) (sent ++ batch) (trace
        ++ ((asked_note o ++ mine) ++ told))
    added told tells = elim cases [
      | inl u ↦ subst (λ l. WorldInvariant Shows (disks_by b) m genesis (set sim_nodes i t) (sent ++ batch) l)
          (append_assoc trace (asked_note o) (mine ++ told)
          ∙ ap (λ l. trace ++ l) (sym (append_assoc (asked_note o) mine told)))
          (went_on Shows (disks_by b) m genesis sim_nodes sent asked since i s t at number mine told
          batch (goes u.0 u.1) tells)
      | inr e ↦ subst₂ (λ x y. WorldInvariant Shows (disks_by b) m genesis (set sim_nodes i t) x y)
          (sym (ap (λ l. sent ++ l) e.no_batch ∙ append-nil sent))
          (sym (ap (λ l. trace ++ l)
          (ap (λ l. (asked_note o ++ mine) ++ l) (nothing_told batch told e.no_batch tells)
          ∙ append-nil (asked_note o ++ mine) ∙ ap (λ l. asked_note o ++ l) e.no_notes ∙ append-nil (asked_note o))))
          (went_down Shows (disks_by b) m genesis sim_nodes sent asked since i s t at number (down e.device e.down))
    ]

    -- what the node has added keeps all that holds
    pub added_holds : (before how : Option End) (new : WorldState R)
        → HasAdded (mid before) new (asked_note o) mine batch how
        → WorldInvariant Shows (disks_by b) m new.genesis new.sim_nodes new.sent new.trace
    added_holds before how new k =
        subst (λ g. WorldInvariant Shows (disks_by b) m g new.sim_nodes new.sent new.trace) (sym k.adds.genesis)
        (subst (λ z. WorldInvariant Shows (disks_by b) m genesis z new.sent new.trace) (sym k.sim_nodes)
        (subst₂ (λ x y. WorldInvariant Shows (disks_by b) m genesis (set sim_nodes i t) x y) (sym k.adds.sent)
        (sym k.adds.trace) (added k.told k.tells)))

    -- what the node has added, and an armed stop to which it has come, keeps all that holds
    pub settled_holds : (before how : Option End) (stop : Option ℕ) (new : WorldState R)
        → HasConcluded Shows b m (mid before) i new (asked_note o) mine batch how stop
        → WorldInvariant Shows (disks_by b) m new.genesis new.sim_nodes new.sent new.trace
    settled_holds before how stop new k =
        let same : k.sim_node ≡ t = at_same (set sim_nodes i t) i k.sim_node t k.at (at_set_here sim_nodes i t at.0) in
        let here : At (set sim_nodes i t) i t = at_set_here sim_nodes i t at.0 in
        let now : List Note = trace ++ ((asked_note o ++ mine) ++ k.told) in
        let w2 : WorldInvariant Shows (disks_by b) m genesis (set sim_nodes i t) (sent
        ++ batch) now = added k.told k.tells in
        let f : SimNodeFits Shows (disks_by b) m (happened genesis (sent ++ batch) now) (w2.states t.number) t =
        w2.as_sim_nodes i t here in
        subst (λ g. WorldInvariant Shows (disks_by b) m g new.sim_nodes new.sent new.trace) (sym k.adds.genesis)
        (subst (λ z. WorldInvariant Shows (disks_by b) m genesis z new.sent new.trace) (sym k.sim_nodes)
        (subst₂ (λ x y. WorldInvariant Shows (disks_by b) m genesis (set (set sim_nodes i t) i k.next) x y)
        (sym k.adds.sent) (sym k.adds.trace)
        (went_down Shows (disks_by b) m genesis (set sim_nodes i t) (sent ++ batch) now w2 i t k.next here
        (k.number ∙ ap (λ (z : SimNode R). z.number) same)
        (k.fits _ _ (subst (λ z. SimNodeFits Shows (disks_by b) m (happened genesis (sent ++ batch) now)
        (w2.states t.number) z) (sym same) f)))))

    -- it fits some state
    fits_some : (v : PaxosState) × SimNodeFits Shows (disks_by b) m h v t
    fits_some = elim cases [
      | inl u ↦ (let f = goes u.0 u.1 in
          (f.goes.holding.paxos, goes_fits Shows (disks_by b) m genesis sent (asked_in asked) t mine batch f))
      | inr e ↦ (since.states s.number, down e.device e.down)
    ]

    -- that it was given up does too
    pub given_up_holds : (before : Option End) (new : WorldState R) → HasGivenUp Shows b m (mid before) i new
        → WorldInvariant Shows (disks_by b) m new.genesis new.sim_nodes new.sent new.trace
    given_up_holds before new k =
        let same : k.sim_node ≡ t = at_same (set sim_nodes i t) i k.sim_node t k.at (at_set_here sim_nodes i t at.0) in
        let f = fits_some in
        subst (λ g. WorldInvariant Shows (disks_by b) m g new.sim_nodes new.sent new.trace) (sym k.adds.genesis)
        (subst (λ z. WorldInvariant Shows (disks_by b) m genesis z new.sent new.trace)
        (sym (k.sim_nodes ∙ set_twice sim_nodes i t k.next))
        (subst₂ (λ x y. WorldInvariant Shows (disks_by b) m genesis (set sim_nodes i k.next) x y)
        (sym (k.adds.sent ∙ append-nil sent)) (sym (k.adds.trace ∙ append-nil trace))
        (halted_holds k.next (k.number ∙ ap (λ (z : SimNode R). z.number) same ∙ number)
        (stopped_on 0 0 (device_in b k.sim_node.run_state)) k.halted f.0
        (k.fits h f.0 (subst (λ z. SimNodeFits Shows (disks_by b) m h f.0 z) (sym same) f.1)))))
