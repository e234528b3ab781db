-- An event that goes well is a step of its node.
use Rattle.std.proofs.Common.{◌≡◌, ◌∙◌, ◌⊎◌, inl, inr, ℕ, ◌+◌, ◌<◌, ◌++◌, List, [], Some, None, Contains, length, set}
use Rattle.std.specs.Prelude.{⊤}
use Rattle.std.proofs.Common.{◌≤◌, refl, ap, sym, subst, arith}
use Rattle.std.proofs.lemmas.Bool.{cases_lt}
use Rattle.std.proofs.lemmas.List.{get_or-set_other, length-set}
use Rattle.std.proofs.lemmas.Grind.{get_or-set_at}
use Rattle.std.proofs.lemmas.Option.{slice_get-get_or}
use Rattle.lk_disk.specs.Disk.{contents}
use Rattle.lk_disk.specs.declared.trap.Trap.{Trap}
use Rattle.lk_disk.specs.declared.trap.Trap.TheVariants.{Off, Fail, Arm}
use Rattle.lk_agreement_laws.specs.Datagrams.{Datagram}
use Rattle.lk_agreement_laws.specs.declared.party.Party.TheVariants as party
use Rattle.lk_state.specs.Meanings.{Meaning}
use Rattle.lk_store_format.specs.Values.{HeaderValue}
use Rattle.lk_node_interface.specs.Envelopes.{EnvelopeValue, batch_of}
use Rattle.lk_node_interface.specs.declared.input.Input.{Input}
use Rattle.lk_node_interface.specs.declared.input.Input.TheVariants.{Datagram as Heard}
use Rattle.lk_node_interface.specs.declared.note.Note.{Note}
use Rattle.lk_node.specs.Holdings.{Holding}
use Rattle.lk_node.specs.Keeping.{ReplicaHolds}
use Rattle.lk_node.specs.Leavings.{header_of}
use Rattle.lk_learner.specs.Learners.{executed}
use Rattle.lk_node.specs.NewBases.{snapshot_span, with_snapshot}
use Rattle.lk_node.specs.NodeValue.{NodeValue}
use Rattle.lk_recovery.specs.Compacting.{IsDue}
use Rattle.lk_replica.specs.Behaviours.{Behaviour, disks_by}
use Rattle.lk_replica.specs.ReplicaValue.{ReplicaValue}
use Rattle.lk_replica.specs.Taking.{IsTaken, IsTakenAs}
use Rattle.lk_sim.specs.Events.{GoesOn, IsDelivered, IsGiven, IsInjected, ReplacesSeat}
use Rattle.lk_sim.specs.WorldStates.{WorldState}
use Rattle.lk_sim.specs.Traces.{asked_note, happened}
use Rattle.lk_sim.specs.declared.event.Event.TheVariants as event
use Rattle.lk_sim_nodes.specs.SimNodes.{At, UpFits}
use Rattle.lk_sim_nodes.specs.Sends.{after_sends, counting}
use Rattle.lk_sim_nodes.specs.declared.sim_node.RunState.{RunState}
use Rattle.lk_sim_nodes.specs.declared.sim_node.RunState.TheVariants.{Up}
use Rattle.lk_sim_nodes.specs.declared.sim_node.SimNode.{SimNode}
use Rattle.lk_world_progress.specs.Stepping.{behaviour, EventIsStep, Gives, Holds, IsFound, IsUpAs, Lives}
use Rattle.lk_world_progress.specs.Stepping.{Shows, TakesStep}

-- ---- places

at_here : {X : Type 0} (xs : List X) (i : ℕ) (y : X) → i < length xs → At (set xs i y) i y
at_here xs i y lt = (subst (λ l. i < l) (sym (length-set xs i y)) lt, get_or-set_at xs i i y y refl lt)

at_other : {X : Type 0} (xs : List X) (i : ℕ) (y : X) (j : ℕ) (x : X) → (j ≡ i → ⊥) → At xs j x → At (set xs i y) j x
at_other xs i y j x ne at =
    (subst (λ l. j < l) (sym (length-set xs i y)) at.0, get_or-set_other xs i j y x ne ∙ at.1)

same_some : {X : Type 0} (x y : X) → Some x ≡ Some y → x ≡ y
same_some x y e = cc e

-- one element is at a place
pub at_one : {X : Type 0} (xs : List X) (i : ℕ) (x y : X) → At xs i x → At xs i y → x ≡ y
at_one xs i x y a b = same_some x y
    (sym (slice_get-get_or xs i x a.0 ∙ ap Some a.1) ∙ slice_get-get_or xs i y b.0 ∙ ap Some b.1)

at_of : {X : Type 0} (xs : List X) (x : X) (c : Contains xs x) → At xs c.0 x
at_of xs x c = (c.1, c.2)

pub same_sim_node : (s : SimNode ReplicaValue) (n : ℕ) (run_state : RunState ReplicaValue) → s.number ≡ n
    → s.run_state ≡ run_state
    → s ≡ record { number = n; run_state = run_state }
same_sim_node s n run_state number is =
    let made : ℕ → RunState ReplicaValue → SimNode ReplicaValue = λ k l. record { number = k; run_state = l } in
    ap (λ (k : ℕ). made k s.run_state) number ∙ ap (made n) is

same_replica : (r q : ReplicaValue) → Up r ≡ Up q → r ≡ q
same_replica r q e = cc e

same_node : (n k : ℕ) → party.Node n ≡ party.Node k → n ≡ k
same_node n k e = cc e

-- what replacing one node leaves
module _ (old new : WorldState ReplicaValue) (n : ℕ) (s t : SimNode ReplicaValue) (number : s.number ≡ n)
    (k : ReplacesSeat old.sim_nodes new.sim_nodes s t) where
  pub was_there : (run_state : RunState ReplicaValue) → s.run_state ≡ run_state → Lives old n run_state
  was_there run_state is =
      subst (λ (x : SimNode ReplicaValue). Contains old.sim_nodes x) (same_sim_node s n run_state number is)
      (k.index, k.at.0, k.at.1)

  pub is_there : (run_state : RunState ReplicaValue) → t.run_state ≡ run_state → Lives new n run_state
  is_there run_state is =
      let here = at_here old.sim_nodes k.index t k.at.0 in
      subst (λ (l : List (SimNode ReplicaValue)). Contains l (record {
        number = n;
        run_state =
            run_state;
      })) (sym k.sim_nodes)
      (subst (λ (x : SimNode ReplicaValue). Contains (set old.sim_nodes k.index t) x)
      (same_sim_node t n run_state (k.number ∙ number) is)
      (k.index, here.0, here.1))

  pub stay_there : (j : ℕ) (run_state : RunState ReplicaValue) → (j ≡ n → ⊥) → Lives old j run_state
      → Lives new j run_state
  stay_there j run_state ne c =
      let x : SimNode ReplicaValue = record { number = j; run_state = run_state } in
      let elsewhere : c.0 ≡ k.index → ⊥ = λ e. ne
      (ap (λ (y : SimNode ReplicaValue). y.number)
      (at_one old.sim_nodes k.index x s (subst (λ (p : ℕ). At old.sim_nodes p x) e (at_of old.sim_nodes x c)) k.at)
      ∙ number) in
      let at : At (set old.sim_nodes k.index t) c.0 x =
      at_other old.sim_nodes k.index t c.0 x elsewhere (at_of old.sim_nodes x c) in
      subst (λ (l : List (SimNode ReplicaValue)). Contains l x) (sym k.sim_nodes) (c.0, at.0, at.1)

-- ---- what holds of a world

module _ (m : Meaning) (IsText : List ℕ → Type 0) (w : WorldState ReplicaValue) (holds : Holds m IsText w) where
  -- a number is that of one node
  pub one_run_state : (n : ℕ) (a b : RunState ReplicaValue) → Lives w n a → Lives w n b → a ≡ b
  one_run_state n a b c d =
      let s : SimNode ReplicaValue = record { number = n; run_state = a } in
      let t : SimNode ReplicaValue = record { number = n; run_state = b } in
      let index : c.0 ≡ d.0 = holds.apart c.0 d.0 s t (at_of w.sim_nodes s c) (at_of w.sim_nodes t d) refl in
      ap (λ (x : SimNode ReplicaValue). x.run_state)
      (at_one w.sim_nodes d.0 s t (subst (λ (i : ℕ). At w.sim_nodes i s) index (at_of w.sim_nodes s c))
      (at_of w.sim_nodes t d))

  pub one_replica : (n : ℕ) (r q : ReplicaValue) → IsUpAs w n r → IsUpAs w n q → r ≡ q
  one_replica n r q c d = same_replica r q (one_run_state n (Up r) (Up q) c d)

  pub up_fits : (n : ℕ) (r : ReplicaValue) → IsUpAs w n r
      → UpFits (Shows m) (disks_by (behaviour m IsText)) m (happened w.genesis w.sent w.trace) (holds.states n) n r
  up_fits n r c =
      let s : SimNode ReplicaValue = record { number = n; run_state = Up r } in
      (holds.as_sim_nodes c.0 s (at_of w.sim_nodes s c)).up r refl

  -- a node that is up holds what its contract shows
  pub shown : (n : ℕ) (r : ReplicaValue) → IsUpAs w n r
      → (x : Holding) × ReplicaHolds m r.node r.store w.genesis n x
  shown n r c = let fits = up_fits n r c in (fits.holding, fits.shown)

  -- and has its header
  pub has_header : (n : ℕ) (r : ReplicaValue) → IsUpAs w n r → r.node.header ≡ header_of w.genesis n
  has_header n r c = (shown n r c).1.whose

-- ---- what a step finds

not_both : (m n : ℕ) → m < n → n ≤ m → ⊥
not_both m n less least = omega (arith, less, least)

pub due_or_not : (r : ReplicaValue) → IsDue r.node r.store ⊎ (IsDue r.node r.store → ⊥)
due_or_not r =
    let old = r.node.acceptor.state.snapshot_position + snapshot_span r.node.header.alpha in
    let long = length (contents r.store.live_disk) in
    elim (cases_lt long 131072) [
      | inl short ↦ elim (cases_lt (executed r.node.learner) old) [
        | inl few ↦ inr (λ d. elim d [
          | inl most ↦ not_both long 131072 short most
          | inr many ↦ not_both (executed r.node.learner) old few many
        ])
        | inr many ↦ inl (inr many)
      ]
      | inr most ↦ inl (inl most)
    ]

pub found_is : (r : ReplicaValue) (node : NodeValue) → IsFound r node
    → (node ≡ r.node) ⊎ (node ≡ with_snapshot r.node)
found_is r node found = elim (due_or_not r) [ inl d ↦ inr (found.due d) | inr d ↦ inl (found.rests d) ]

pub found_header : (r : ReplicaValue) (node : NodeValue) → IsFound r node → node.header ≡ r.node.header
found_header r node found = elim (found_is r node found) [
  | inl e ↦ ap (λ (x : NodeValue). x.header) e
  | inr e ↦ ap (λ (x : NodeValue). x.header) e
]

-- ---- a step

module _ (m : Meaning) (IsText : List ℕ → Type 0) where
  abbrev b : Behaviour ReplicaValue
  b = behaviour m IsText

  pub counted : (t : Trap) (sends : ℕ) (r : ReplicaValue) → (counting b t sends r).node ≡ r.node
  counted Off sends r = refl
  counted (Fail count) sends r = refl
  counted (Arm count bytes) sends r = refl

  module _ (old new : WorldState ReplicaValue) (n : ℕ) (i : Input) (asked : List Note) (holds : Holds m IsText old)
      (k : IsGiven b old new n i asked) where
    was : IsUpAs old n k.replica
    was = was_there old new n k.sim_node k.next k.number k.replaces (Up k.replica) k.up

    number : k.replica.node.header.node ≡ n
    number = ap (λ (h : HeaderValue). h.node) (has_header m IsText old holds n k.replica was)

    went : GoesOn b old new k.replica k.next i asked → TakesStep m IsText old n i new
    went g = record {
      before = k.replica;
      was = was;
      number = number;
      start = taken.mid;
      found = record { due = λ d. (taken.rebases.due d).becomes; rests = λ d. (taken.rebases.rests d).0 };
      last = taken.stepped;
      out = taken.out;
      steps = taken.steps;
      after = after;
      left = record {
        rebases = λ e. same ∙ (taken.writes.rebases e).becomes;
        rests = λ e. same ∙ (taken.writes.puts e).0;
      };
      is = is_there old new n k.sim_node k.next k.number k.replaces (Up after) g.up;
      sent = g.adds.sent ∙ ap (λ (l : List Datagram). old.sent ++ l)
          (is_taken.batch ∙ (λ j. batch_of (number j) (sym taken.sent j)));
      others = stay_there old new n k.sim_node k.next k.number k.replaces;
      genesis = g.adds.genesis;
    }
      where
        is_taken : IsTakenAs m IsText k.replica i g.replica g.notes g.batch
        is_taken = g.takes

        taken : IsTaken m IsText ⊤ k.replica i g.replica g.notes (λ (ls : List EnvelopeValue). ls ≡ is_taken.envelopes)
        taken = is_taken.taken

        after : ReplicaValue
        after = after_sends b (length g.batch) g.replica

        same : after.node ≡ g.replica.node
        same = counted (b.memory g.replica).meter.trap (length g.batch) g.replica

    pub steps_if_given : new.ended ≡ None → TakesStep m IsText old n i new
    steps_if_given alive = elim k.comes_to [
      | inl g ↦ went g
      | inr (inl g) ↦ absurd (cc (sym alive ∙ g.ended))
      | inr (inr g) ↦ absurd (cc (sym alive ∙ g.ended))
    ]

  delivered : (old new : WorldState ReplicaValue) (place n : ℕ) (i : Input) → IsDelivered b old new place
      → Gives old (event.Deliver place) n i → IsGiven b old new n i []
  delivered old new place n i k gives =
      let same : k.datagram ≡ gives.0 = same_some k.datagram gives.0 (sym k.stands ∙ gives.1) in
      let whose : k.node ≡ n = same_node k.node n
      (sym k.bound ∙ ap (λ (d : Datagram). d.to) same ∙ gives.2) in
      subst (λ (j : ℕ). IsGiven b old new j i []) whose
      (subst (λ (x : Input). IsGiven b old new k.node x [])
      (ap (λ (d : Datagram). Heard d.bytes) same ∙ sym gives.3) k.given)

  pub event_steps : EventIsStep m IsText
  event_steps old new (event.Tick k) n i g gives = steps_if_given old new n i [] g.before
      (subst (λ (j : ℕ). IsGiven b old new j i []) (sym gives.0)
      (subst (λ (x : Input). IsGiven b old new k x []) (sym gives.1) g.done.1)) g.alive
  event_steps old new (event.Nudge k reason) n i g gives = steps_if_given old new n i [] g.before
      (subst (λ (j : ℕ). IsGiven b old new j i []) (sym gives.0)
      (subst (λ (x : Input). IsGiven b old new k x []) (sym gives.1) g.done.1)) g.alive
  event_steps old new (event.Deliver place) n i g gives =
      steps_if_given old new n i [] g.before (delivered old new place n i g.done.1 gives) g.alive
  event_steps old new (event.Inject k bytes) n i g gives =
      let given : IsInjected b old new k bytes.items = g.done.1 in
      steps_if_given old new n i (asked_note given.request) g.before
      (subst (λ (j : ℕ). IsGiven b old new j i (asked_note given.request)) (sym gives.0)
      (subst (λ (x : Input). IsGiven b old new k x (asked_note given.request)) (sym gives.1) given.given)) g.alive
  event_steps old new (event.Start k) n i g gives = absurd gives
  event_steps old new (event.Restart k) n i g gives = absurd gives
  event_steps old new (event.Compact k) n i g gives = absurd gives
  event_steps old new (event.Client k r) n i g gives = absurd gives
  event_steps old new (event.Group k inputs) n i g gives = absurd gives
  event_steps old new (event.Stop k x y) n i g gives = absurd gives
  event_steps old new (event.FailAt k count) n i g gives = absurd gives
  event_steps old new (event.Arm k count bytes) n i g gives = absurd gives
