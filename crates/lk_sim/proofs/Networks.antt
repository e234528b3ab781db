-- What holds of each world holds of each network of processes.
use Rattle.std.proofs.Common.{◌≡◌, ℕ, Option, Some, None, List, [], ◌∷◌, ◌++◌, Contains, refl, ap, sym, ◌∙◌, subst}
use Rattle.std.proofs.Common.{subst₂, inl, inr, append_assoc, append-nil, set, arith}
use Rattle.lk_disk.specs.Disk.{Disk, after_stop}
use Rattle.lk_memory_disk.specs.Memory.{Memory, disk_of}
use Rattle.lk_disk.specs.declared.device.Side.{Side}
use Rattle.lk_messages.specs.Grammar.{Spells}
use Rattle.lk_state.specs.Meanings.{Meaning}
use Rattle.lk_agreement_laws.specs.Datagrams.{said_by}
use Rattle.lk_agreement_laws.proofs.Histories.{contains_more}
use Rattle.lk_node_interface.specs.declared.note.Note.{Note}
use Rattle.lk_node.specs.Calls.{LeavesFit, NodeFits}
use Rattle.lk_node.specs.Histories.{History, Genesis, Datagram, RequestValue, IsHeard, IsLawful}
use Rattle.lk_node.specs.Holdings.{Holding}
use Rattle.lk_node.specs.Leavings.{DisksFit}
use Rattle.lk_sim_nodes.specs.Rooms.{AreShort}
use Rattle.lk_sim.specs.Events.{Adds}
use Rattle.lk_sim.specs.Networks.{MayCome, IsRequestIn, AreAsking, MayHear, RecordsReplies, Appears, Restarts}
use Rattle.lk_sim.specs.Networks.{IsStillDown}
use Rattle.lk_sim.specs.Networks.{GoesOn}
use Rattle.lk_sim.specs.Networks.{Ends, Stops, Steps, StepsAll, nothing}
use Rattle.lk_sim.specs.WorldStates.{WorldState}
use Rattle.lk_sim_nodes.specs.SimNodes.{UpFits, SimNodeFits, SimNodeGoes, At}
use Rattle.lk_sim_nodes.specs.Told.{NotesReplies}
use Rattle.lk_sim.specs.Traces.{asked_in, happened, asked_note}
use Rattle.lk_sim.specs.Worlds.{WorldInvariant}
use Rattle.lk_sim_nodes.specs.declared.sim_node.SimNode.{SimNode}
use Rattle.lk_sim_nodes.specs.declared.sim_node.RunState.{RunState}
use Rattle.lk_sim_nodes.specs.declared.sim_node.RunState.TheVariants.{Up, Down}
use Rattle.lk_sim.proofs.Asking.{asked_last}
use Rattle.lk_sim_nodes.proofs.Fitting.{stopped_fit, node_fits, down_fits}
use Rattle.lk_sim.proofs.Explaining.{lawful, asked as all_asked, explains, agree, states, ordered, told_in_time}
use Rattle.lk_sim.proofs.Keeping.{room, covered, kept}
use Rattle.lk_sim.specs.Guarantees.{WorldGuarantee}
use Rattle.lk_replica.specs.Behaviours.{Behaviour, disks_by}
use Rattle.lk_state.specs.States.{WholeValue, SumsUp}
pub use Rattle.lk_sim.proofs.Given.{asked_maybe, set_twice, went_down}
use Rattle.lk_sim.proofs.Given.{went_on}
use Rattle.lk_sim_nodes.proofs.Shortness.{kept_short}
pub use Rattle.lk_sim.proofs.Lists.{at_set, at_set_here}
pub use Rattle.lk_sim.proofs.Starting.{at_push, nothing_holds}
use Rattle.lk_sim.proofs.Starting.{starts}

-- ---- what comes may be heard, once what it asks is noted

heard_bytes : (genesis : Genesis) (sent : List Datagram) (trace : List Note) (bytes : List ℕ) (o : Option RequestValue)
    → MayCome genesis sent (Some bytes) → IsRequestIn genesis.cluster bytes o
    → IsHeard (happened genesis sent (trace ++ asked_note o)) bytes
heard_bytes genesis sent trace bytes o may asks =
    record { said = may; asked = λ r said. noted r (asks.only r said) }
  where
    noted : (r : RequestValue) → o ≡ Some r → Contains (asked_in (trace ++ asked_note o)) r
    noted r e =
        subst (λ (p : Option RequestValue). Contains (asked_in (trace ++ asked_note p)) r) (sym e) (asked_last trace r)

pub heard : (genesis : Genesis) (sent : List Datagram) (trace : List Note) (came : Option (List ℕ))
    (o : Option RequestValue) → MayCome genesis sent came → AreAsking genesis.cluster came o
    → MayHear (happened genesis sent (trace ++ asked_note o)) came
heard genesis sent trace None o may asks = tt
heard genesis sent trace (Some bytes) o may asks = heard_bytes genesis sent trace bytes o may asks

-- ---- what may go out reads

pub tells_all : (batch : List Datagram) (told : List Note)
    → ((d : Datagram) → Contains batch d → (m : _) × Spells m d.bytes) → RecordsReplies batch told
    → NotesReplies batch told
tells_all [] told reads tells = tells
tells_all (d ∷ batch) told reads (inl t) =
    (t.0, t.1, t.2, t.3, tells_all batch t.1 (λ x c. reads x (contains_more d batch x c)) t.4)
tells_all (d ∷ batch) told reads (inr t) = let r = reads d (0, omega arith, refl) in absurd (t.0 r.0 r.1)

module _ {R : Type 0} (Shows : R → Genesis → ℕ → Holding → Type 0) (disks : R → Side → Disk) (m : Meaning) where
  -- what holds of the parts of a network
  abbrev pub HoldsOf : WorldState R → Type 0
  HoldsOf w = WorldInvariant Shows disks m w.genesis w.sim_nodes w.sent w.trace

  moved : (old new : WorldState R) (sim_nodes : List (SimNode R)) (notes : List Note) (batch : List Datagram)
      → new.sim_nodes ≡ sim_nodes
      → Adds old new notes batch
      → WorldInvariant Shows disks m old.genesis sim_nodes (old.sent ++ batch) (old.trace ++ notes) → HoldsOf new
  moved old new sim_nodes notes batch same a w =
      subst (λ g. WorldInvariant Shows disks m g new.sim_nodes new.sent new.trace) (sym a.genesis)
      (subst (λ z. WorldInvariant Shows disks m old.genesis z new.sent new.trace) (sym same)
      (subst₂ (λ x y. WorldInvariant Shows disks m old.genesis sim_nodes x y) (sym a.sent) (sym a.trace) w))

  moved_still : (old new : WorldState R) (sim_nodes : List (SimNode R)) (notes : List Note)
      → new.sim_nodes ≡ sim_nodes → Adds old new notes []
      → WorldInvariant Shows disks m old.genesis sim_nodes old.sent (old.trace ++ notes) → HoldsOf new
  moved_still old new sim_nodes notes same a w =
      moved old new sim_nodes notes [] same a
      (subst (λ l. WorldInvariant Shows disks m old.genesis sim_nodes l (old.trace ++ notes))
      (sym (append-nil old.sent)) w)

  moved_silent : (old new : WorldState R) (sim_nodes : List (SimNode R)) → new.sim_nodes ≡ sim_nodes
      → Adds old new [] []
      → WorldInvariant Shows disks m old.genesis sim_nodes old.sent old.trace → HoldsOf new
  moved_silent old new sim_nodes same a w =
      moved_still old new sim_nodes [] same a
      (subst (λ l. WorldInvariant Shows disks m old.genesis sim_nodes old.sent l) (sym (append-nil old.trace)) w)

  appears : (old new : WorldState R) → HoldsOf old → Appears old new → HoldsOf new
  appears old new w a = moved_silent old new (old.sim_nodes ++ a.sim_node ∷ []) a.sim_nodes a.adds
      (starts Shows disks m old.genesis old.sim_nodes old.sent old.trace w a.sim_node a.unused a.device a.down a.empty)

  restarts : (old new : WorldState R) → HoldsOf old → Restarts Shows disks m old new → HoldsOf new
  restarts old new w a =
      let h = happened old.genesis old.sent old.trace in
      let f = w.as_sim_nodes a.replaces.index a.sim_node a.replaces.at in
      let g = a.restarts.goes h refl (lawful Shows disks m old.genesis old.sim_nodes old.sent old.trace w)
      (f.down a.device a.down) in
      let sim_node_goes : SimNodeGoes Shows disks m h a.next a.notes [] = record {
        replica = a.replica;
        up = a.up;
        goes =
            subst (λ k. LeavesFit m h k (Shows a.replica old.genesis k) (disks a.replica) a.notes [])
            (sym a.replaces.number) g;
        room = a.restarts.short (f.room a.device a.down);
      } in
      let went = went_on Shows disks m old.genesis old.sim_nodes old.sent old.trace w a.replaces.index a.sim_node a.next
      a.replaces.at a.replaces.number a.notes [] [] sim_node_goes refl in
      moved old new (set old.sim_nodes a.replaces.index a.next) a.notes [] a.replaces.sim_nodes a.adds
      (subst (λ l. WorldInvariant Shows disks m old.genesis (set old.sim_nodes a.replaces.index a.next) (old.sent ++ [])
      (old.trace ++ l)) (append-nil a.notes) went)

  -- of a node that is down, the history is lawful, and its disks fit it
  pub holds_down : (c : WorldState R) → HoldsOf c → (index : ℕ) (s : SimNode R) → At c.sim_nodes index s
      → (d : Memory) → s.run_state ≡ Down d
      → IsLawful m (happened c.genesis c.sent c.trace)
      × DisksFit m (happened c.genesis c.sent c.trace) s.number (disk_of d)
  holds_down c w index s at d down =
      (lawful Shows disks m c.genesis c.sim_nodes c.sent c.trace w, (w.as_sim_nodes index s at).down d down)

  rests : (old new : WorldState R) → HoldsOf old → IsStillDown m old new → HoldsOf new
  rests old new w a =
      let h = happened old.genesis old.sent old.trace in
      let f = w.as_sim_nodes a.replaces.index a.sim_node a.replaces.at in
      let left = a.rests.ends h refl (lawful Shows disks m old.genesis old.sim_nodes old.sent old.trace w)
      (f.down a.device a.down) in
      moved_silent old new (set old.sim_nodes a.replaces.index a.next) a.replaces.sim_nodes a.adds
      (went_down Shows disks m old.genesis old.sim_nodes old.sent old.trace w a.replaces.index a.sim_node a.next
      a.replaces.at a.replaces.number
      (down_fits Shows disks m h (w.states a.sim_node.number) a.next a.left a.still
      (subst (λ k. DisksFit m h k (disk_of a.left)) (sym a.replaces.number) left)
      (a.rests.short (f.room a.device a.down))))

  module _ (old new : WorldState R) (w : HoldsOf old) (a : Stops disks old new) where
    abbrev before : History
    before = happened old.genesis old.sent old.trace

    fit : SimNodeFits Shows disks m before (w.states a.sim_node.number) a.sim_node
    fit = w.as_sim_nodes a.replaces.index a.sim_node a.replaces.at

    stopped_by : (was : Side → Disk) → ((s : Side) → (k : ℕ) × (disk_of a.left s ≡ after_stop k (was s)))
        → DisksFit m before a.sim_node.number was → AreShort was
        → SimNodeFits Shows disks m before (w.states a.sim_node.number) a.next
    stopped_by was kept f short = down_fits Shows disks m before (w.states a.sim_node.number) a.next a.left a.down
        (subst (λ k. DisksFit m before k (disk_of a.left)) (sym a.replaces.number)
        (stopped_fit m before a.sim_node.number was (disk_of a.left) kept f))
        (kept_short was (disk_of a.left) kept short)

    of_run_state : (run_state : RunState R) → a.sim_node.run_state ≡ run_state → SimNodeFits Shows disks m before
        (w.states a.sim_node.number) a.next
    of_run_state (Up r) is = stopped_by (disks r) (a.was_up r is) (fit.up r is).left (fit.up r is).room
    of_run_state (Down d) is = stopped_by (disk_of d) (a.was_down d is) (fit.down d is) (fit.room d is)

    stops : HoldsOf new
    stops = moved_silent old new (set old.sim_nodes a.replaces.index a.next) a.replaces.sim_nodes a.adds
        (went_down Shows disks m old.genesis old.sim_nodes old.sent old.trace w a.replaces.index a.sim_node a.next
        a.replaces.at
        a.replaces.number (of_run_state a.sim_node.run_state refl))

  -- what a step began with, once what was asked is noted
  module _ (old : WorldState R) (w : HoldsOf old) (o : Option RequestValue) where
    abbrev asked : List Note
    asked = old.trace ++ asked_note o

    since : WorldInvariant Shows disks m old.genesis old.sim_nodes old.sent asked
    since = asked_maybe Shows disks m old.genesis old.sim_nodes old.sent old.trace w o

    fits_before : (index : ℕ) (sim_node : SimNode R) → At old.sim_nodes index sim_node → (r : R)
        → sim_node.run_state ≡ Up r
        → UpFits Shows disks m (happened old.genesis old.sent asked) (since.states sim_node.number) sim_node.number r
    fits_before index sim_node at r was = (since.as_sim_nodes index sim_node at).up r was

    node_before : (index : ℕ) (sim_node : SimNode R) → At old.sim_nodes index sim_node → (r : R)
        → sim_node.run_state ≡ Up r
        → NodeFits m (happened old.genesis old.sent asked) sim_node.number
        (Shows r old.genesis sim_node.number) (disks r)
    node_before index sim_node at r was =
        node_fits Shows disks m (happened old.genesis old.sent asked) (since.states sim_node.number) sim_node.number r
        (lawful Shows disks m old.genesis old.sim_nodes old.sent asked since) (fits_before index sim_node at r was)

  goes_on : (old new : WorldState R) → HoldsOf old → GoesOn Shows disks m old new → HoldsOf new
  goes_on old new w a =
      let n : ℕ = a.sim_node.number in
      let trace : List Note = old.trace ++ asked_note a.request in
      let now = since old w a.request in
      let hears = heard old.genesis old.sent old.trace a.came a.request a.may a.asks in
      let g = a.goes.goes (happened old.genesis old.sent trace)
      (node_before old w a.request a.replaces.index a.sim_node a.replaces.at a.before a.was) hears in
      let sim_node_goes : SimNodeGoes Shows disks m (happened old.genesis old.sent trace) a.next a.notes
      a.batch = record {
        replica = a.after;
        up = a.up;
        goes = subst (λ k. LeavesFit m (happened old.genesis old.sent trace) k (Shows a.after old.genesis k)
            (disks a.after) a.notes a.batch) (sym a.replaces.number) g;
        room = a.goes.short (fits_before old w a.request a.replaces.index a.sim_node a.replaces.at a.before a.was).room;
      } in
      let tells = tells_all a.batch a.told
      (λ d c. let p = g.may d c in (said_by old.genesis n p.message, p.spelled)) a.tells in
      let went = went_on Shows disks m old.genesis old.sim_nodes old.sent trace now a.replaces.index a.sim_node a.next
      a.replaces.at
      a.replaces.number a.notes a.told a.batch sim_node_goes tells in
      moved old new (set old.sim_nodes a.replaces.index a.next)
      ((asked_note a.request ++ a.notes) ++ a.told) a.batch a.replaces.sim_nodes a.adds
      (subst (λ l. WorldInvariant Shows disks m old.genesis (set old.sim_nodes a.replaces.index a.next) (old.sent
      ++ a.batch) l)
      (append_assoc old.trace (asked_note a.request) (a.notes ++ a.told)
      ∙ ap (λ l. old.trace ++ l) (sym (append_assoc (asked_note a.request) a.notes a.told))) went)

  ends : (old new : WorldState R) → HoldsOf old → Ends Shows disks m old new → HoldsOf new
  ends old new w a =
      let trace : List Note = old.trace ++ asked_note a.request in
      let h = happened old.genesis old.sent trace in
      let now = since old w a.request in
      let hears = heard old.genesis old.sent old.trace a.came a.request a.may a.asks in
      let left = a.ends.ends h
      (node_before old w a.request a.replaces.index a.sim_node a.replaces.at a.before a.was) hears in
      let room = a.ends.short (fits_before old w a.request a.replaces.index a.sim_node a.replaces.at a.before
      a.was).room in
      moved_still old new (set old.sim_nodes a.replaces.index a.next) (asked_note a.request) a.replaces.sim_nodes a.adds
      (went_down Shows disks m old.genesis old.sim_nodes old.sent trace now a.replaces.index a.sim_node a.next
      a.replaces.at a.replaces.number
      (down_fits Shows disks m h (now.states a.sim_node.number) a.next a.left a.down
      (subst (λ k. DisksFit m h k (disk_of a.left)) (sym a.replaces.number) left) room))

  -- a step keeps all that holds
  pub step_holds : (old new : WorldState R) → HoldsOf old → Steps Shows disks m old new → HoldsOf new
  step_holds old new w (inl a) = appears old new w a
  step_holds old new w (inr (inl a)) = restarts old new w a
  step_holds old new w (inr (inr (inl a))) = rests old new w a
  step_holds old new w (inr (inr (inr (inl a)))) = goes_on old new w a
  step_holds old new w (inr (inr (inr (inr (inl a))))) = ends old new w a
  step_holds old new w (inr (inr (inr (inr (inr a))))) = stops old new w a

  -- so do many
  pub steps_hold : (first last : WorldState R) (world_states : List (WorldState R)) → HoldsOf first
      → StepsAll Shows disks m first world_states last → HoldsOf last
  steps_hold first last [] w all = subst HoldsOf (sym all) w
  steps_hold first last (next ∷ world_states) w all =
      steps_hold next last world_states (step_holds first next w all.0) all.1

  -- whatever has happened since nothing had
  pub network_holds : (genesis : Genesis) (world_states : List (WorldState R)) (last : WorldState R)
      → StepsAll Shows disks m (nothing genesis) world_states last → HoldsOf last
  network_holds genesis world_states last all =
      steps_hold (nothing genesis) last world_states (nothing_holds Shows disks m genesis) all

-- what is guaranteed of a world is guaranteed of a network
pub promises_of : {R : Type 0} (Shows : R → Genesis → ℕ → Holding → Type 0) (b : Behaviour R)
    (whole : R → WholeValue) (m : Meaning)
    → ((r : R) (g : Genesis) (n : ℕ) (x : Holding) → Shows r g n x → SumsUp m g x.paxos.done (whole r))
    → (w : WorldState R)
    → WorldInvariant Shows (disks_by b) m w.genesis w.sim_nodes w.sent w.trace → WorldGuarantee b whole m w
promises_of Shows b whole m sums w h = record {
  explained = (h.list, h.chosen, explains Shows (disks_by b) m w.genesis w.sim_nodes w.sent w.trace h);
  asked = all_asked Shows (disks_by b) m w.genesis w.sim_nodes w.sent w.trace h;
  agree = agree Shows (disks_by b) m w.genesis w.sim_nodes w.sent w.trace h;
  told = h.told;
  states = states Shows (disks_by b) m w.genesis w.sim_nodes w.sent w.trace h whole sums;
  covered = covered Shows (disks_by b) m w.genesis w.sim_nodes w.sent w.trace h;
  kept = λ L i v chosen. kept Shows (disks_by b) m w.genesis w.sim_nodes w.sent w.trace h L chosen i v;
  order = ordered Shows (disks_by b) m w.genesis w.sim_nodes w.sent w.trace h;
  told_in_time = told_in_time Shows (disks_by b) m w.genesis w.sim_nodes w.sent w.trace h;
  ballots = record { own = h.world.sound.own; once = h.world.sound.one_value };
  room = room Shows (disks_by b) m w.genesis w.sim_nodes w.sent w.trace h;
}
