-- What stands once a node was given a group.
use Rattle.std.proofs.Common.{◌≡◌, ℕ, ◌⊎◌, List, [], ◌∷◌, ◌++◌, length, min, take, drop, map, set, Option, Some, None}
use Rattle.std.proofs.Common.{Ok, refl, ap, sym, ◌∙◌, subst, subst₂, inl, inr, append-nil}
use Rattle.std.specs.List.{AllByRecursion}
use Rattle.std.proofs.Math.Seq.{take-append_seam, drop-append_seam}
use Rattle.std.proofs.lemmas.List.{length-take, take-append-drop}
use Rattle.lk_disk.specs.Disk.{Disk, after_stop}
use Rattle.lk_memory_disk.specs.Memory.{Memory, disk_of}
use Rattle.lk_disk.specs.declared.device.Side.{Side}
use Rattle.lk_disk.specs.declared.device.Side.TheVariants.{A, B}
use Rattle.lk_state.specs.Meanings.{Meaning}
use Rattle.lk_node_interface.specs.declared.input.Input.{Input}
use Rattle.lk_node_interface.specs.declared.input.Input.TheVariants.{Tick, Nudge, Datagram as Heard}
use Rattle.lk_node_interface.specs.declared.note.Note.{Note}
use Rattle.lk_node.specs.Calls.{InputFits}
use Rattle.lk_node.specs.Histories.{History, Genesis, Datagram}
use Rattle.lk_node.specs.Holdings.{Holding}
use Rattle.lk_node.specs.Leavings.{DisksFit}
use Rattle.lk_replica.specs.Behaviours.{Behaviour, TrapsAlone, disks_by}
use Rattle.lk_replica.specs.Together.{Said, sent_of, parts_of, EachLeavesFit}
use Rattle.lk_replica.specs.declared.taken.Step.{Step}
use Rattle.lk_sim_nodes.specs.Ends.{BreaksTogether, IsEndByCalls, end_at}
use Rattle.lk_sim_nodes.specs.Sends.{after_sends, stop_among}
use Rattle.lk_sim.specs.Events.{Adds, AreAllOfNodes, EndsByFault, ComesTogether, IsGivenTogether, LeftByGroup}
use Rattle.lk_sim.specs.Groups.{WasSentTo, WereSentTo, AreNotesOf, bringing, given_by}
use Rattle.lk_sim_nodes.specs.Outcomes.{HasTakenTogether, HasFallenTogether, StopsIfArmed}
use Rattle.lk_sim.specs.Concluded.{HasConcludedSteps, HasGivenUp}
use Rattle.lk_sim.specs.Refusals.{AreFor, IsFor}
use Rattle.lk_sim_nodes.specs.Rooms.{AreShort}
use Rattle.lk_sim.specs.WorldStates.{WorldState}
use Rattle.lk_sim_nodes.specs.SimNodes.{At, SimNodeFits, stopped_on, fallen_on, device_in}
use Rattle.lk_sim_nodes.specs.Told.{NotesReplies}
use Rattle.lk_sim.specs.Traces.{happened}
use Rattle.lk_sim.specs.Worlds.{WorldInvariant}
use Rattle.lk_sim_nodes.specs.declared.end.End.{End}
use Rattle.lk_sim.specs.declared.event.GroupInput.{GroupInput}
use Rattle.lk_sim.specs.declared.event.GroupInput.TheVariants as group_input
use Rattle.lk_sim_nodes.specs.declared.sim_node.SimNode.{SimNode}
use Rattle.lk_sim_nodes.specs.declared.sim_node.RunState.{RunState}
use Rattle.lk_sim_nodes.specs.declared.sim_node.RunState.TheVariants.{Up, Down}
use Rattle.lk_sim.proofs.Doing.{StopsOn, at_same, falls}
use Rattle.lk_sim_nodes.proofs.Fitting.{stopped_fit, down_fits}
use Rattle.lk_sim.proofs.Given.{set_twice, went_down}
use Rattle.lk_sim.proofs.Grouping.{group_holds, group_own}
use Rattle.lk_sim.proofs.Hearing.{heard_sent, datagram_listed}
use Rattle.lk_sim.proofs.Lists.{at_set_here}
use Rattle.lk_sim_nodes.proofs.Shortness.{kept_short}
use Rattle.lk_sim_nodes.proofs.Stopping.{nothing_sent, stopped_sent}
use Rattle.lk_sim_nodes.proofs.Together.{parts_cut, still_whole}

-- ---- what it may be given

-- datagrams that were sent may be heard
pub all_heard : {R : Type 0} (Shows : R → Genesis → ℕ → Holding → Type 0) (disks : R → Side → Disk) (m : Meaning)
    (genesis : Genesis) (sim_nodes : List (SimNode R)) (sent : List Datagram) (trace : List Note)
    → WorldInvariant Shows disks m genesis sim_nodes sent trace → (is : List Input) → WereSentTo sent is
    → AllByRecursion (InputFits (happened genesis sent trace)) is
all_heard Shows disks m genesis sim_nodes sent trace w [] were = tt
all_heard Shows disks m genesis sim_nodes sent trace w (Tick ∷ is) were =
    (tt, all_heard Shows disks m genesis sim_nodes sent trace w is were.1)
all_heard Shows disks m genesis sim_nodes sent trace w (Nudge reason ∷ is) were =
    (tt, all_heard Shows disks m genesis sim_nodes sent trace w is were.1)
all_heard Shows disks m genesis sim_nodes sent trace w (Heard bytes ∷ is) were = (
  heard_sent Shows disks m genesis sim_nodes sent trace w were.0.0 were.0.1 bytes were.0.2,
  all_heard Shows disks m genesis sim_nodes sent trace w is were.1,
)

-- the inputs of a group bring what was sent
was_brought : (sent : List Datagram) (n : ℕ) (t : GroupInput) (i : Input) → IsFor sent n t
    → i ≡ given_by sent t → WasSentTo sent i
was_brought sent n t Tick is same = tt
was_brought sent n t (Nudge reason) is same = tt
was_brought sent n group_input.Tick (Heard bytes) is same = absurd cc
was_brought sent n (group_input.Nudge reason) (Heard bytes) is same = absurd cc
was_brought sent n (group_input.Deliver k) (Heard bytes) is same =
    let brought : Heard bytes ≡ Heard is.0.bytes = same ∙ ap bringing is.1 in
    (is.0, datagram_listed sent k is.0 is.1, cc brought)

pub were_brought : (sent : List Datagram) (n : ℕ) (group_inputs : List GroupInput) (is : List Input)
    → AreFor sent n group_inputs
    → is ≡ map (given_by sent) group_inputs → WereSentTo sent is
were_brought sent n group_inputs [] for_it same = tt
were_brought sent n [] (i ∷ is) for_it same = absurd cc
were_brought sent n (t ∷ group_inputs) (i ∷ is) for_it same =
    (was_brought sent n t i for_it.0 (cc same), were_brought sent n group_inputs is for_it.1 (cc same))

-- ---- what it has done

module _ {R : Type 0} (b : Behaviour R) (old new : WorldState R) where
  -- a node that went on, up to an armed stop at a send if there was one
  went_together : (r : R) (t next : SimNode R) (given : List Input) (steps : List Step) (notes : List Note)
      (batch : List Datagram) (how : Option End) (stop : Option ℕ)
      → (k : HasTakenTogether b r given t steps batch how stop)
      → AreAllOfNodes (parts_of steps k.all) → AreNotesOf (parts_of steps batch) notes → Adds old new notes batch
      → new.ended ≡ how → next.number ≡ t.number → StopsIfArmed b stop t next → ComesTogether b old new r next given
  went_together r t next given steps notes batch how None k of_nodes tells adds ended number rests =
      let whole : batch ≡ sent_of (parts_of steps k.all) = k.sends.2 ∙ k.whole in
      inl (record {
        replica = k.replica;
        said = parts_of steps k.all;
        notes = notes;
        takes = k.takes;
        calls = k.calls;
        calls_succeed = k.calls_succeed;
        no_stop = subst (λ (l : List Datagram). stop_among (b.memory k.replica).meter.trap (length l) ≡ None) k.whole
            k.sends.0;
        up = ap (λ (z : SimNode R). z.run_state) rests ∙ k.up
            ∙ ap Up (k.sends.1 ∙ ap (λ (l : List Datagram). after_sends b (length l) k.replica) k.whole);
        of_nodes = of_nodes;
        tells = subst (λ (l : List Datagram). AreNotesOf (parts_of steps l) notes) k.sends.2 tells;
        adds = subst (λ (l : List Datagram). Adds old new notes l) whole adds;
        ended = ended ∙ k.ended;
      })
  went_together r t next given steps notes batch how (Some bytes) k of_nodes tells adds ended number rests =
      inr (inl (record {
        replica = k.replica;
        said = parts_of steps k.all;
        notes = notes;
        takes = k.takes;
        calls = k.calls;
        calls_succeed = k.calls_succeed;
        sends = k.sends.0;
        bytes = bytes;
        stop = subst (λ (l : List Datagram). stop_among (b.memory k.replica).meter.trap (length l)
            ≡ Some (k.sends.0, bytes)) k.whole k.sends.1;
        down = rests ∙ ap (λ (z : RunState R). Down (stopped_on bytes bytes (device_in b z))) (k.up ∙ ap Up k.sends.2);
        of_nodes = of_nodes;
        tells = subst (λ (l : List Said). AreNotesOf l notes)
            (ap (parts_of steps) k.sends.3 ∙ parts_cut steps k.all k.sends.0) tells;
        adds = subst (λ (l : List Datagram). Adds old new notes l) (k.sends.3 ∙ ap (take k.sends.0) k.whole) adds;
        ended = ended ∙ k.ended ∙ ap (λ z. end_at (Some bytes) z) (sym number);
      }))

  -- nothing is noted of no steps
  no_notes : (steps : List Step) (batch : List Datagram) (notes : List Note) → steps ≡ []
      → AreNotesOf (parts_of steps batch) notes → notes ≡ []
  no_notes steps batch notes none tells = subst (λ (l : List Step). AreNotesOf (parts_of l batch) notes) none tells

  fell_together : (Ends : ℕ → Memory → Type 0) (t next : SimNode R) (steps : List Step) (notes : List Note)
      (batch : List Datagram) (how : Option End) (stop : Option ℕ) → HasFallenTogether Ends t steps batch how stop
      → AreNotesOf (parts_of steps batch) notes → Adds old new notes batch → new.ended ≡ how → next.number ≡ t.number
      → StopsIfArmed b stop t next → IsEndByCalls how → EndsByFault Ends old new next []
  fell_together Ends t next steps notes batch how stop f tells adds ended number rests tellable =
      falls b old new Ends t next [] [] [] batch how stop
      (subst (λ (l : List Note). Adds old new l batch) (no_notes steps batch notes f.no_steps tells) adds)
      (nothing f.fallen.no_batch) ended number rests tellable f.fallen
    where
      nothing : batch ≡ [] → NotesReplies batch []
      nothing none = subst (λ (l : List Datagram). NotesReplies l []) (sym none) refl

  -- a node that was given a group
  pub given_together : (Shows : R → Genesis → ℕ → Holding → Type 0) (m : Meaning) (i n : ℕ) (s t : SimNode R) (r : R)
      (given : List Input) (steps : List Step) (batch : List Datagram) (how : Option End) (stop : Option ℕ)
      → At old.sim_nodes i s → s.number ≡ n → s.run_state ≡ Up r → t.number ≡ s.number
      → ((k : HasTakenTogether b r given t steps batch how stop) → AreAllOfNodes (parts_of steps k.all))
      → HasConcludedSteps Shows b m (record old { sim_nodes = set old.sim_nodes i t }) i new steps batch how stop
      → IsEndByCalls how
      → HasTakenTogether b r given t steps batch how stop
      ⊎ HasFallenTogether (BreaksTogether b r given) t steps batch how stop → IsGivenTogether b old new n given
  given_together Shows m i n s t r given steps batch how stop at is up number of_nodes k tellable cases = record {
    sim_node = s;
    number = is;
    replica = r;
    up = up;
    next = k.next;
    replaces = record {
      index = i;
      at = at;
      number = on ∙ number;
      sim_nodes =
          k.sim_nodes ∙ set_twice old.sim_nodes i t k.next;
    };
    comes_to = elim cases [
      | inl q ↦ went_together r t k.next given steps k.notes batch how stop q (of_nodes q) k.tells adds k.ended on rests
      | inr f ↦ inr (inr (fell_together
          (BreaksTogether b r given) t k.next steps k.notes batch how stop f k.tells adds k.ended on rests tellable))
    ];
  }
    where
      same : k.sim_node ≡ t
      same = at_same (set old.sim_nodes i t) i k.sim_node t k.at (at_set_here old.sim_nodes i t at.0)

      on : k.next.number ≡ t.number
      on = k.number ∙ ap (λ (z : SimNode R). z.number) same

      rests : StopsIfArmed b stop t k.next
      rests = subst (λ z. StopsIfArmed b stop z k.next) same k.rests

      adds : Adds old new k.notes batch
      adds = record { genesis = k.adds.genesis; sent = k.adds.sent; trace = k.adds.trace }

none_taken : (steps : List Step) (sent : List Datagram) → parts_of steps sent ≡ [] → steps ≡ []
none_taken [] sent e = refl
none_taken (s ∷ steps) sent e = absurd (cc e)

-- whatever a group came to, a stop leaves of the node's device what it leaves of the one that the call left
pub group_left : {R : Type 0} (b : Behaviour R) → TrapsAlone b
    → (r : R) (given : List Input) (run_state : RunState R) (t : SimNode R) (steps : List Step) (batch : List Datagram)
    (how : Option End) (stop : Option ℕ)
    → (steps ≡ [] → batch ≡ [] → ⊥) → run_state ≡ Up r
    → HasTakenTogether b r given t steps batch how stop
    ⊎ HasFallenTogether (BreaksTogether b r given) t steps batch how stop
    → StopsOn b (LeftByGroup b given run_state) t.run_state
group_left b alone r given run_state t steps batch how stop some up (inl k) = (
  b.memory k.replica,
  (
    r,
    k.replica,
    Ok (parts_of steps k.all),
    up,
    k.takes,
    refl,
    λ none. some (none_taken steps k.all none)
        (nothing_sent b stop k.replica k.after k.all batch k.sends (k.whole ∙ ap sent_of none)),
  ),
  ap (λ (z : RunState _). stopped_on 0 0 (device_in b z)) k.up
      ∙ stopped_sent b alone stop k.replica k.after k.all batch k.sends,
)
group_left b alone r given run_state t steps batch how stop some up (inr f) = absurd (some f.no_steps f.fallen.no_batch)

-- ---- what keeps all that holds

kept_none : (m : Memory) (s : Side) → (k : ℕ) × (disk_of (stopped_on 0 0 m) s ≡ after_stop k (disk_of m s))
kept_none m A = (0, refl)
kept_none m B = (0, refl)

module _ {R : Type 0} (Shows : R → Genesis → ℕ → Holding → Type 0) (b : Behaviour R) (m : Meaning) (genesis : Genesis)
    (sim_nodes : List (SimNode R)) (sent : List Datagram) (trace : List Note)
    (w : WorldInvariant Shows (disks_by b) m genesis sim_nodes sent trace) (i : ℕ) (s t : SimNode R)
    (at : At sim_nodes i s)
    (number : t.number ≡ s.number) where
  abbrev h : History
  h = happened genesis sent trace

  -- a node that went down on such disks
  pub down_holds : (off : SimNode R) → off.number ≡ s.number → (d : Memory) → off.run_state ≡ Down d
      → DisksFit m h off.number (disk_of d) → AreShort (disk_of d)
      → WorldInvariant Shows (disks_by b) m genesis (set sim_nodes i off) sent trace
  down_holds off same d down fit short =
      went_down Shows (disks_by b) m genesis sim_nodes sent trace w i s off at same
      (down_fits Shows (disks_by b) m h (w.states s.number) off d down fit short)

  -- one that is up, with what it noted and sent
  taken_holds : (r q : R) (is : List Input) (steps : List Step) (batch : List Datagram) (notes : List Note)
      → s.run_state ≡ Up r → t.run_state ≡ Up q → WereSentTo sent is
      → EachLeavesFit Shows (disks_by b) m s.number r is q (parts_of steps batch)
      → batch ≡ sent_of (parts_of steps batch) → AreNotesOf (parts_of steps batch) notes
      → WorldInvariant Shows (disks_by b) m genesis (set sim_nodes i t) (sent ++ batch) (trace ++ notes)
  taken_holds r q is steps batch notes was up were goes whole tells =
      let made : ℕ → RunState R → SimNode R = λ k l. record { number = k; run_state = l } in
      let same : made s.number (Up q) ≡ t = ap (λ k. made k (Up q)) (sym number) ∙ ap (made t.number) (sym up) in
      subst (λ (z : SimNode R). WorldInvariant Shows (disks_by b) m genesis (set sim_nodes i z) (sent ++ batch) (trace
      ++ notes)) same
      (subst (λ (l : List Datagram). WorldInvariant Shows (disks_by b) m genesis
      (set sim_nodes i (made s.number (Up q)))
      (sent ++ l) (trace ++ notes)) (sym whole)
      (group_holds Shows (disks_by b) m genesis i is r q
      (parts_of steps batch) sim_nodes sent trace notes s w at was were goes tells))

  module _ (before : Option End) (steps : List Step) (batch : List Datagram) (how : Option End) (stop : Option ℕ) where
    abbrev mid : WorldState R
    mid = record { genesis = genesis; sim_nodes = set sim_nodes i t; sent = sent; trace = trace; ended = before }

    -- the node rests, where it has come to an armed stop
    rested_holds : (new : WorldState R) → (k : HasConcludedSteps Shows b m mid i new steps batch how stop)
        → WorldInvariant Shows (disks_by b) m genesis (set sim_nodes i t) (sent ++ batch) (trace ++ k.notes)
        → WorldInvariant Shows (disks_by b) m new.genesis new.sim_nodes new.sent new.trace
    rested_holds new k now =
        let same : k.sim_node ≡ t = at_same (set sim_nodes i t) i k.sim_node t k.at (at_set_here sim_nodes i t at.0) in
        let here : At (set sim_nodes i t) i t = at_set_here sim_nodes i t at.0 in
        let f : SimNodeFits Shows (disks_by b) m (happened genesis (sent ++ batch) (trace ++ k.notes))
        (now.states t.number) t = now.as_sim_nodes i t here in
        subst (λ g. WorldInvariant Shows (disks_by b) m g new.sim_nodes new.sent new.trace) (sym k.adds.genesis)
        (subst (λ z. WorldInvariant Shows (disks_by b) m genesis z new.sent new.trace) (sym k.sim_nodes)
        (subst₂ (λ x y. WorldInvariant Shows (disks_by b) m genesis (set (set sim_nodes i t) i k.next) x y)
        (sym k.adds.sent) (sym k.adds.trace)
        (went_down Shows (disks_by b) m genesis (set sim_nodes i t) (sent ++ batch) (trace ++ k.notes) now i
        t k.next here
        (k.number ∙ ap (λ (z : SimNode R). z.number) same)
        (k.fits _ _ (subst (λ z. SimNodeFits Shows (disks_by b) m (happened genesis (sent ++ batch) (trace ++ k.notes))
        (now.states t.number) z) (sym same) f)))))

    -- what a group came to keeps all that holds
    pub settled_steps_hold : (new : WorldState R) (r : R) (is : List Input) (given : List Input)
        (Ends : ℕ → Memory → Type 0) → s.run_state ≡ Up r → WereSentTo sent is
        → ((q : R) → t.run_state ≡ Up q → EachLeavesFit Shows (disks_by b) m s.number r is q (parts_of steps batch))
        → DisksFit m h t.number (disk_of (device_in b t.run_state)) → AreShort (disk_of (device_in b t.run_state))
        → HasTakenTogether b r given t steps batch how stop ⊎ HasFallenTogether Ends t steps batch how stop
        → HasConcludedSteps Shows b m mid i new steps batch how stop
        → WorldInvariant Shows (disks_by b) m new.genesis new.sim_nodes new.sent new.trace
    settled_steps_hold new r is given Ends was were goes left short cases k = rested_holds new k (elim cases [
      | inl q ↦ taken_holds r q.after is steps batch k.notes was q.up were (goes q.after q.up)
          (still_whole b stop q.replica q.after steps q.all batch q.sends q.whole) k.tells
      | inr f ↦ subst₂ (λ x y. WorldInvariant Shows (disks_by b) m genesis (set sim_nodes i t) x y)
          (sym (ap (λ l. sent ++ l) f.fallen.no_batch ∙ append-nil sent))
          (sym (ap (λ l. trace ++ l)
          (subst (λ (l : List Step). AreNotesOf (parts_of l batch) k.notes) f.no_steps k.tells) ∙ append-nil trace))
          (down_holds t number (fallen_on f.fallen.left) f.fallen.down
          (subst (λ (l : RunState R). DisksFit m h t.number (disk_of (device_in b l))) f.fallen.down left)
          (subst (λ (l : RunState R). AreShort (disk_of (device_in b l))) f.fallen.down short))
    ])

    -- that it was given up does too
    pub given_up_still : (new : WorldState R) → DisksFit m h t.number (disk_of (device_in b t.run_state))
        → AreShort (disk_of (device_in b t.run_state)) → HasGivenUp Shows b m mid i new
        → WorldInvariant Shows (disks_by b) m new.genesis new.sim_nodes new.sent new.trace
    given_up_still new left short k =
        let same : k.sim_node ≡ t = at_same (set sim_nodes i t) i k.sim_node t k.at (at_set_here sim_nodes i t at.0) in
        let device = device_in b t.run_state in
        let off : k.next.number ≡ t.number = k.number ∙ ap (λ (z : SimNode R). z.number) same in
        let down : k.next.run_state ≡ Down (stopped_on 0 0 device) = k.halted
        ∙ ap (λ (z : SimNode R). Down (stopped_on 0 0 (device_in b z.run_state))) same in
        subst (λ g. WorldInvariant Shows (disks_by b) m g new.sim_nodes new.sent new.trace) (sym k.adds.genesis)
        (subst (λ z. WorldInvariant Shows (disks_by b) m genesis z new.sent new.trace)
        (sym (k.sim_nodes ∙ set_twice sim_nodes i t k.next))
        (subst₂ (λ x y. WorldInvariant Shows (disks_by b) m genesis (set sim_nodes i k.next) x y)
        (sym (k.adds.sent ∙ append-nil sent)) (sym (k.adds.trace ∙ append-nil trace))
        (down_holds k.next (off ∙ number) (stopped_on 0 0 device) down
        (subst (λ n. DisksFit m h n (disk_of (stopped_on 0 0 device))) (sym off)
        (stopped_fit m h t.number (disk_of device) (disk_of (stopped_on 0 0 device)) (kept_none device) left))
        (kept_short (disk_of device) (disk_of (stopped_on 0 0 device)) (kept_none device) short))))

-- ---- what the steps note is their own

own_too : (steps : List Step) (some others : List Datagram) → AreAllOfNodes (parts_of steps some)
    → AreAllOfNodes (parts_of steps others)
own_too [] some others of_nodes = tt
own_too (s ∷ steps) some others of_nodes = (
  of_nodes.0,
  own_too steps (drop s.sends some)
      (drop s.sends others) of_nodes.1,
)

pub all_own : {R : Type 0} (Shows : R → Genesis → ℕ → Holding → Type 0) (disks : R → Side → Disk) (m : Meaning)
    (genesis : Genesis) (sim_nodes : List (SimNode R)) (sent : List Datagram) (trace notes : List Note)
    → WorldInvariant Shows disks m genesis sim_nodes sent trace → (i : ℕ) (s : SimNode R) → At sim_nodes i s
    → (is : List Input) (r q : R) (steps : List Step) (batch all : List Datagram) → s.run_state ≡ Up r
    → WereSentTo sent is
    → EachLeavesFit Shows disks m s.number r is q (parts_of steps batch) → AreNotesOf (parts_of steps batch) notes
    → AreAllOfNodes (parts_of steps all)
all_own Shows disks m genesis sim_nodes sent trace notes w i s at is r q steps batch all up were goes tells =
    own_too steps batch all (group_own Shows disks m genesis i is r q
    (parts_of steps batch) sim_nodes sent trace notes s w at up were goes tells)

-- ---- no more than there are
pub take_min : {X : Type 0} (k : ℕ) (xs : List X) → take (min k (length xs)) xs ≡ take k xs
take_min k xs = ap (λ j. take j xs) (sym (length-take k xs))
    ∙ ap (take (length (take k xs))) (sym (take-append-drop k xs)) ∙ take-append_seam (take k xs) (drop k xs)

pub drop_min : {X : Type 0} (k : ℕ) (xs : List X) → drop (min k (length xs)) xs ≡ drop k xs
drop_min k xs = ap (λ j. drop j xs) (sym (length-take k xs))
    ∙ ap (drop (length (take k xs))) (sym (take-append-drop k xs)) ∙ drop-append_seam (take k xs) (drop k xs)
