-- A group that a replica takes together, step by step.
use Rattle.std.proofs.Common.{◌≡◌, ℕ, ◌+◌, ◌-◌, Bool, ◌⊎◌, false, inl, inr, List, [], ◌∷◌, ◌++◌, length, take, drop}
use Rattle.std.proofs.Common.{Contains, refl, sym, ap, ◌∙◌, subst, arith, append_assoc, append-nil, length-append}
use Rattle.std.proofs.Common.{zero, suc}
use Rattle.std.specs.List.{AllByRecursion}
use Rattle.std.specs.Prelude.{⊤}
use Rattle.std.proofs.Math.Nat.{add-sub_cancel_left}
use Rattle.std.proofs.Math.Seq.{take-append_seam, drop-append_seam}
use Rattle.std.proofs.lemmas.List.{append_cancel_left}
use Rattle.lk_disk.specs.Disk.{Disk}
use Rattle.lk_memory_disk.specs.Memory.{disk_of}
use Rattle.lk_disk.specs.Meters.{CallsSucceed, start}
use Rattle.lk_disk.specs.declared.device.Side.{Side}
use Rattle.lk_disk.specs.declared.device.Side.TheVariants.{A, B}
use Rattle.lk_disk.proofs.Devices.{passes_on}
use Rattle.lk_log.proofs.Room.{within_first, within_more, within_same}
use Rattle.lk_log.specs.Rooms.{StaysWithin}
use Rattle.lk_log.specs.StoreValue.{StoreValue, disks}
use Rattle.lk_state.specs.Meanings.{Meaning}
use Rattle.lk_messages.specs.Grammar.{Spells}
use Rattle.lk_store_format.specs.Values.{HeaderValue}
use Rattle.lk_agreement_laws.specs.Datagrams.{NodeMessage, said_by}
use Rattle.lk_node_interface.specs.Envelopes.{EnvelopeValue, datagram_of, batch_of}
use Rattle.lk_node_interface.specs.declared.input.Input.{Input}
use Rattle.lk_node_interface.specs.declared.note.Note.{Note}
use Rattle.lk_node.specs.Calls.{InputFits, NodeFits, LeavesFit}
use Rattle.lk_node.specs.Histories.{History, Genesis, Datagram, later}
use Rattle.lk_node.specs.Holdings.{Holding}
use Rattle.lk_node.specs.Keeping.{ReplicaHolds}
use Rattle.lk_node.specs.Leavings.{DisksFit, AllCover}
use Rattle.lk_node.specs.NodeValue.{NodeValue}
use Rattle.lk_replica.specs.Groups.{GroupValue, Adds, IsGroupCovered, KeepsGroup, LeavesInGroup}
use Rattle.lk_replica.specs.Groups.{IsGathered, IsGroupSynced}
use Rattle.lk_replica.specs.Groups.{IsRefusedInGroup, StepSaid, envelopes_of, GoesThrough, synced_if, with_step}
use Rattle.lk_replica.specs.Groups.{empty_group, group_that}
use Rattle.lk_replica.specs.Groups.{add_step_calls, RemembersInGroup, GroupStays}
use Rattle.lk_replica.specs.Posts.{AreOf}
use Rattle.lk_recovery.specs.Remembering.{ReplicaRemembers}
use Rattle.lk_replica.specs.ReplicaValue.{ReplicaValue, device_of}
use Rattle.lk_recovery.specs.Rooms.{max_after}
use Rattle.lk_node_interface.specs.Faults.{RefusedAfter}
use Rattle.lk_replica.specs.Together.{Said, sent_of, parts_of, said_by_steps, EachLeavesFit, GathersAll, IsGatheredFrom}
use Rattle.lk_replica.specs.Together.{IsTakenTogether, IsNotKept, IsNotSent, IsTogetherRefused}
use Rattle.lk_replica.specs.declared.taken.Step.{Step}
use Rattle.lk_recovery.proofs.Recoveries.{refused_on}
use Rattle.lk_replica.proofs.Grouped.{begun, begin_fits, room_as_sent, settled_node_fits, settled_covers}

-- ---- steps

-- the steps noted this, and as many of the envelopes are their own
abbrev pub AreStepsOf : List Step → List StepSaid → Type 0
AreStepsOf [] said = said ≡ []
AreStepsOf (s ∷ steps) said =
    (envelopes : List EnvelopeValue) × (rest : List StepSaid) × (said ≡ (s.notes.items, envelopes) ∷ rest)
    × (s.sends ≡ length envelopes) × AreStepsOf steps rest

one_step_more : (steps : List Step) (said : List StepSaid) (s : Step) (envelopes : List EnvelopeValue)
    → AreStepsOf steps said → s.sends ≡ length envelopes
    → AreStepsOf (steps ++ s ∷ []) (said ++ (s.notes.items, envelopes) ∷ [])
one_step_more [] said s envelopes are sends =
    (envelopes, [], ap (λ (l : List StepSaid). l ++ (s.notes.items, envelopes) ∷ []) are, sends, refl)
one_step_more (x ∷ steps) said s envelopes are sends = (
  are.0,
  are.1 ++ (s.notes.items, envelopes) ∷ [],
  ap (λ (l : List StepSaid). l ++ (s.notes.items, envelopes) ∷ []) are.2,
  are.3,
  one_step_more steps are.1 s envelopes are.4 sends,
)

batch_append : (n : ℕ) (xs ys : List EnvelopeValue) → batch_of n (xs ++ ys) ≡ batch_of n xs ++ batch_of n ys
batch_append n [] ys = refl
batch_append n (x ∷ xs) ys = ap (λ (l : List Datagram). datagram_of n x ∷ l) (batch_append n xs ys)

batch_length : (n : ℕ) (xs : List EnvelopeValue) → length (batch_of n xs) ≡ length xs
batch_length n [] = refl
batch_length n (x ∷ xs) = omega (arith, batch_length n xs)

own_of : (n k : ℕ) (envelopes more : List EnvelopeValue) → k ≡ length envelopes
    → take k (batch_of n (envelopes ++ more)) ≡ batch_of n envelopes
own_of n k envelopes more is =
    ap (λ (j : ℕ). take j (batch_of n (envelopes ++ more))) (is ∙ sym (batch_length n envelopes))
    ∙ ap (take (length (batch_of n envelopes))) (batch_append n envelopes more)
    ∙ take-append_seam (batch_of n envelopes) (batch_of n more)

later_of : (n k : ℕ) (envelopes more : List EnvelopeValue) → k ≡ length envelopes
    → drop k (batch_of n (envelopes ++ more)) ≡ batch_of n more
later_of n k envelopes more is =
    ap (λ (j : ℕ). drop j (batch_of n (envelopes ++ more))) (is ∙ sym (batch_length n envelopes))
    ∙ ap (drop (length (batch_of n envelopes))) (batch_append n envelopes more)
    ∙ drop-append_seam (batch_of n envelopes) (batch_of n more)

-- each step takes its own
pub parts_are : (n : ℕ) (steps : List Step) (said : List StepSaid) → AreStepsOf steps said
    → parts_of steps (batch_of n (envelopes_of said)) ≡ said_by_steps n said
parts_are n [] said are = ap (said_by_steps n) (sym are)
parts_are n (s ∷ steps) said are =
    let own = own_of n s.sends are.0 (envelopes_of are.1) are.3 in
    let rest = ap (parts_of steps) (later_of n s.sends are.0 (envelopes_of are.1) are.3)
    ∙ parts_are n steps are.1 are.4 in
    let whole : parts_of (s ∷ steps) (batch_of n (envelopes_of ((s.notes.items, are.0) ∷ are.1)))
    ≡ said_by_steps n ((s.notes.items, are.0) ∷ are.1) = λ i. (s.notes.items, own i) ∷ rest i in
    subst (λ (l : List StepSaid). parts_of (s ∷ steps) (batch_of n (envelopes_of l)) ≡ said_by_steps n l)
    (sym are.2) whole

-- and all of them take all
pub all_sent : (n : ℕ) (said : List StepSaid) → batch_of n (envelopes_of said) ≡ sent_of (said_by_steps n said)
all_sent n [] = refl
all_sent n (x ∷ xs) =
    batch_append n x.1 (envelopes_of xs) ∙ ap (λ (l : List Datagram). batch_of n x.1 ++ l) (all_sent n xs)

-- ---- what was gathered

module _ (m : Meaning) (IsText : List ℕ → Type 0) where
  gathers_on : (node : NodeValue) (store : StoreValue) (needs_sync : Bool) (done : List Input) (mid : NodeValue)
      (between : StoreValue) (still : Bool) (steps : List StepSaid)
      → GathersAll m IsText node store needs_sync done mid between still steps
      → (i : Input) (new : NodeValue) (later : StoreValue) (one : GroupValue)
      → IsGathered m IsText ⊤ mid between (group_that still) i new later one
      → GathersAll m IsText node store needs_sync (done ++ i ∷ []) new later one.needs_sync
      (steps ++ (one.notes, one.envelopes) ∷ [])
  gathers_on node store needs_sync [] mid between still steps g i new later one e = (
    new,
    later,
    one,
    [],
    ap (λ (l : List StepSaid). l ++ (one.notes, one.envelopes) ∷ []) g.3,
    subst (λ (k : NodeValue). IsGathered m IsText ⊤ k store
        (group_that needs_sync) i new later one) g.0
        (subst (λ (k : StoreValue). IsGathered m IsText ⊤ mid k
        (group_that needs_sync) i new later one) g.1
        (subst (λ (w : Bool). IsGathered m IsText ⊤ mid between
        (group_that w) i new later one) g.2 e)),
    (refl, refl, refl, refl),
  )
  gathers_on node store needs_sync (x ∷ done) mid between still steps g i new later one e = (
    g.0,
    g.1,
    g.2,
    g.3 ++ (one.notes, one.envelopes) ∷ [],
    ap (λ (l : List StepSaid). l ++ (one.notes, one.envelopes) ∷ []) g.4,
    g.5,
    gathers_on g.0 g.1 g.2.needs_sync done mid between still g.3 g.6 i new later one e,
  )

-- what a replica has come to that has taken some of the inputs, of which these are still to come
pub record TakenSoFar (m : Meaning) (IsText : List ℕ → Type 0) (begun_as : ReplicaValue) (all : List Input)
    (now : ReplicaValue) (g : GroupValue) (steps : List Step) (rest : List Input) : Type 0 where
  pub said : List StepSaid
  pub counted : AreStepsOf steps said
  pub envelopes : envelopes_of said ≡ g.envelopes
  pub no_notes : g.notes ≡ []
  pub done : List Input
  pub parts : done ++ rest ≡ all
  pub gathered : IsGatheredFrom m IsText begun_as done now g.needs_sync said
  pub recalls : (genesis : Genesis) (n : ℕ) → ReplicaRemembers begun_as.node begun_as.store genesis n
      → RemembersInGroup now.node now.store g.needs_sync genesis n
  pub covered : (genesis : Genesis) (n : ℕ) → ReplicaRemembers begun_as.node begun_as.store genesis n
      → IsGroupCovered m genesis n g now.store
  pub covers : (genesis : Genesis) (n : ℕ) (x : NodeMessage) → ReplicaRemembers begun_as.node begun_as.store genesis n
      → AllCover m genesis n (disks begun_as.store) x → AllCover m genesis n (disks now.store) x
  pub stays : (h : History) (n : ℕ)
      → NodeFits m h n (ReplicaHolds m begun_as.node begun_as.store h.genesis n) (disks begun_as.store)
      → AllByRecursion (InputFits h) all
      → GroupStays m h n now.node now.store g.needs_sync × AllByRecursion (InputFits h) rest
  pub goes : (genesis : Genesis) (k : ℕ) → ReplicaRemembers begun_as.node begun_as.store genesis k
      → (n : ℕ) (q : ReplicaValue) (more : List StepSaid)
      → GoesThrough m n (record { node = now.node; store = synced_if g.needs_sync now.store; failed = false }) rest q
      more → GoesThrough m n begun_as all q (said ++ more)
  pub room : StaysWithin max_after (disks begun_as.store) (disks now.store)
  pub calls : ℕ
  pub passes : CallsSucceed begun_as.store.meter now.store.meter calls

-- nothing
nothing_taken : (m : Meaning) (IsText : List ℕ → Type 0) (r : ReplicaValue) (all : List Input)
    → TakenSoFar m IsText r all r empty_group [] all
nothing_taken m IsText r all = record {
  said = [];
  counted = refl;
  envelopes = refl;
  no_notes = refl;
  done = [];
  parts = refl;
  gathered = record { gathers = (refl, refl, refl, refl); alive = inl refl };
  recalls = λ genesis n k. begun r.node r.store genesis n k;
  covered = λ genesis n k x d listed. absurd (omega (arith, listed.1));
  covers = λ genesis n x k c. c;
  stays = λ h n f fits. (begin_fits m h n r.node r.store f, fits);
  goes = λ genesis k rem n q more goes. unfailed n all q more goes;
  room = within_same 132704 (disks r.store) (disks r.store) (λ s. refl);
  calls = 0;
  passes = start;
}
  where
    unfailed : (n : ℕ) (all : List Input) (q : ReplicaValue) (more : List StepSaid)
        → GoesThrough m n (record { node = r.node; store = r.store; failed = false }) all q more
        → GoesThrough m n r all q more
    unfailed n [] q more goes = goes
    unfailed n (i ∷ is) q more goes = goes

pub taken_nothing : (m : Meaning) (IsText : List ℕ → Type 0) (r : ReplicaValue) (all rest : List Input)
    (g : GroupValue) (steps : List Step) → g ≡ empty_group
    → steps ≡ [] → rest ≡ all
    → TakenSoFar m IsText r all r g steps rest
taken_nothing m IsText r all rest g steps none no_steps same =
    subst (λ (k : GroupValue). TakenSoFar m IsText r all r k steps rest) (sym none)
    (subst (λ (l : List Step). TakenSoFar m IsText r all r
    empty_group l rest) (sym no_steps)
    (subst (λ (l : List Input). TakenSoFar m IsText r all r
    empty_group [] l) (sym same) (nothing_taken m IsText r all)))

-- one more
module _ (m : Meaning) (IsText : List ℕ → Type 0) (begun_as : ReplicaValue) (all : List Input) (old now : ReplicaValue)
    (g new : GroupValue) (steps : List Step) (i : Input) (rest : List Input) (step : Step)
    (s : TakenSoFar m IsText begun_as all old g steps (i ∷ rest))
    (goes : Adds g new (λ notes envelopes. (genesis : Genesis) (k : ℕ)
    → RemembersInGroup old.node old.store g.needs_sync genesis k
    → (h : History) (n : ℕ) → NodeFits m h n (ReplicaHolds m old.node (synced_if g.needs_sync old.store) h.genesis n)
    (disks (synced_if g.needs_sync old.store)) → InputFits h i
    → (sent : List EnvelopeValue) → AreOf sent envelopes
    → LeavesFit m h n (ReplicaHolds m now.node (synced_if new.needs_sync now.store) h.genesis n)
    (disks (synced_if new.needs_sync now.store)) notes (batch_of n sent)))
    (exact : IsGathered m IsText ⊤ old.node old.store g i now.node now.store new)
    (notes : step.notes.items ≡ new.notes) (sends : step.sends ≡ length new.envelopes - length g.envelopes) where
  abbrev one : GroupValue
  one = with_step exact.needs_sync exact.out (group_that g.needs_sync)

  said_is : new.envelopes ≡ g.envelopes ++ one.envelopes
  said_is = ap (λ (k : GroupValue). k.envelopes) exact.adds

  noted_is : new.notes ≡ g.notes ++ one.notes
  noted_is = ap (λ (k : GroupValue). k.notes) exact.adds

  same_envelopes : goes.envelopes ≡ one.envelopes
  same_envelopes = append_cancel_left g.envelopes goes.envelopes one.envelopes (sym goes.said ∙ said_is)

  same_notes : goes.notes ≡ one.notes
  same_notes = append_cancel_left g.notes goes.notes one.notes (sym goes.noted ∙ noted_is)

  fresh : IsGathered m IsText ⊤ old.node old.store
      (group_that g.needs_sync) i now.node now.store one
  fresh = record {
    mid = exact.mid;
    between = exact.between;
    needs_sync = exact.needs_sync;
    room = exact.room;
    out = exact.out;
    steps = exact.steps;
    adds = refl;
  }

  own_notes : step.notes.items ≡ one.notes
  own_notes = notes ∙ noted_is ∙ ap (λ l. l ++ one.notes) s.no_notes

  loopback : step.sends ≡ length one.envelopes
  loopback = sends ∙ ap (λ l. length l - length g.envelopes) said_is
      ∙ ap (λ k. k - length g.envelopes) (length-append g.envelopes one.envelopes)
      ∙ add-sub_cancel_left (length g.envelopes) (length one.envelopes)

  envelopes_more : (xs ys : List StepSaid) → envelopes_of (xs ++ ys) ≡ envelopes_of xs ++ envelopes_of ys
  envelopes_more [] ys = refl
  envelopes_more (x ∷ xs) ys =
      ap (λ l. x.1 ++ l) (envelopes_more xs ys) ∙ sym (append_assoc x.1 (envelopes_of xs) (envelopes_of ys))

  -- in each history it goes on by it, as by a call of its own
  link : (genesis : Genesis) (k : ℕ) → RemembersInGroup old.node old.store g.needs_sync genesis k
      → (n : ℕ) (h : History)
      → NodeFits m h n (ReplicaHolds m old.node (synced_if g.needs_sync old.store) h.genesis n)
      (disks (synced_if g.needs_sync old.store)) → InputFits h i
      → (sent : List EnvelopeValue) → AreOf sent one.envelopes
      → LeavesFit m h n (ReplicaHolds m now.node (synced_if new.needs_sync now.store) h.genesis n)
      (disks (synced_if new.needs_sync now.store)) one.notes (batch_of n sent)
  link genesis k was n h f heard sent among =
      subst (λ (l : List Note). LeavesFit m h n (ReplicaHolds m now.node
      (synced_if new.needs_sync now.store) h.genesis n)
      (disks (synced_if new.needs_sync now.store)) l (batch_of n sent)) same_notes
      (goes.are genesis k was h n f heard sent
      (subst (λ (l : List EnvelopeValue). AreOf sent l) (sym same_envelopes) among))

  module _ (keeps : KeepsGroup m (λ h. InputFits h i) old.node old.store g now.node now.store new)
      (leaves : LeavesInGroup m (λ h. InputFits h i) 132704 old.node old.store g.needs_sync (disks now.store))
      (alive : now.failed ≡ false) where
    -- the calls of the device by which room was made, and of the step
    abbrev calls : ℕ
    calls = (exact.room.calls tt).0 + add_step_calls exact.out

    passes : CallsSucceed old.store.meter now.store.meter calls
    passes = let k = exact.room.calls tt in
        passes_on k.0 k.2 (add_step_calls exact.out) (exact.steps.calls tt)

    pub one_taken : TakenSoFar m IsText begun_as all now (record new { notes = [] }) (steps ++ step ∷ []) rest
    one_taken = record {
      said = s.said ++ (step.notes.items, one.envelopes) ∷ [];
      counted = one_step_more steps s.said step one.envelopes s.counted loopback;
      envelopes = envelopes_more s.said ((step.notes.items, one.envelopes) ∷ [])
          ∙ (λ k. s.envelopes k ++ append-nil one.envelopes k) ∙ sym said_is;
      no_notes = refl;
      done = s.done ++ i ∷ [];
      parts = append_assoc s.done (i ∷ []) rest ∙ s.parts;
      gathered = record {
        gathers = subst (λ (l : List Note). GathersAll m IsText begun_as.node begun_as.store false
            (s.done ++ i ∷ []) now.node now.store new.needs_sync (s.said ++ (l, one.envelopes) ∷ [])) (sym own_notes)
            (subst (λ (w : Bool). GathersAll m IsText begun_as.node begun_as.store false
            (s.done ++ i ∷ []) now.node now.store w (s.said ++ (one.notes, one.envelopes) ∷ []))
            (sym (ap (λ (k : GroupValue). k.needs_sync) exact.adds))
            (gathers_on m IsText begun_as.node begun_as.store false s.done old.node old.store g.needs_sync s.said
            s.gathered.gathers i now.node now.store one fresh));
        alive = inr alive;
      };
      recalls = λ genesis n r. keeps.recalls genesis n (s.recalls genesis n r);
      covered = λ genesis n r x d listed spelled. keeps.said genesis n (s.recalls genesis n r)
          (s.covered genesis n r) x d listed spelled;
      covers = λ genesis n x r c. leaves.covers genesis n x (s.recalls genesis n r) (s.covers genesis n x r c);
      stays = λ h n f fit. let was = s.stays h n f fit in (keeps.stays h n was.0 was.1.0, was.1.1);
      goes = λ genesis k r n q more through.
          subst (λ (l : List StepSaid). GoesThrough m n begun_as all q l)
          (sym (append_assoc s.said ((step.notes.items, one.envelopes) ∷ []) more))
          (subst (λ (l : List Note). GoesThrough m n begun_as all q (s.said ++ (l, one.envelopes) ∷ more))
          (sym own_notes)
          (s.goes genesis k r n q ((one.notes, one.envelopes) ∷ more) (
            record { node = now.node; store = synced_if new.needs_sync now.store; failed = false },
            one.notes,
            one.envelopes,
            more,
            refl,
            (λ h f heard sent among. link genesis k (s.recalls genesis k r) n h f heard sent among),
            room_as_sent 132704 g.needs_sync new.needs_sync old.store now.store leaves.room,
            through,
          )));
      room = within_first 132704 (disks begun_as.store) (disks old.store) (disks now.store) s.room leaves.room;
      calls = s.calls + calls;
      passes = passes_on s.calls s.passes calls passes;
    }

-- ---- all are taken

module _ (m : Meaning) (n : ℕ) where
  abbrev pub ShowsBy : ReplicaValue → Genesis → ℕ → Holding → Type 0
  ShowsBy r genesis k x = ReplicaHolds m r.node r.store genesis k x

  abbrev pub DisksBy : ReplicaValue → Side → Disk
  DisksBy r = disks r.store

  -- in words of datagrams
  pub goes_all : (is : List Input) (r q : ReplicaValue) (said : List StepSaid) → GoesThrough m n r is q said
      → EachLeavesFit ShowsBy DisksBy m n r is q (said_by_steps n said)
  goes_all [] r q said goes = (ap (said_by_steps n) goes.0, λ h f. rests h (goes.1 h f), goes.2)
    where
      rests : (h : History) → NodeFits m h n (ReplicaHolds m q.node q.store h.genesis n) (disks q.store)
          → LeavesFit m h n (ReplicaHolds m q.node q.store h.genesis n) (disks q.store) [] []
      rests h f = record {
        holding = f.holding;
        shown = f.shown;
        fits = f.fits;
        may = λ d c. absurd (omega (arith, c.1));
        noted = λ x c. absurd (omega (arith, c.1));
        left = λ k. subst (λ (l : List Datagram). DisksFit m (later h l) n (disks q.store)) (nothing_in_front k)
            (subst (λ (l : List Datagram). DisksFit m (record h { sent = l }) n (disks q.store))
            (sym (append-nil h.sent)) f.left);
      }
        where
          nothing_in_front : (k : ℕ) → let none : List Datagram = [] in none ≡ take k none
          nothing_in_front zero = refl
          nothing_in_front (suc k) = refl
  goes_all (i ∷ is) r q said goes = (
    goes.0,
    (goes.1, batch_of n goes.2),
    said_by_steps n goes.3,
    ap (said_by_steps n) goes.4,
    λ h f heard. goes.5 h f heard goes.2 (λ l c. c),
    goes.6,
    goes_all is goes.0 q goes.3 goes.7,
  )

-- a device in memory has the disks of its store
same_disks : (s : StoreValue) (side : Side) → disks s side ≡ disk_of (device_of s) side
same_disks s A = refl
same_disks s B = refl

pub goes_in_memory : (m : Meaning) (n : ℕ) (is : List Input) (r q : ReplicaValue) (said : List Said)
    → EachLeavesFit (ShowsBy m n) (DisksBy m n) m n r is q said
    → EachLeavesFit (λ (r : ReplicaValue) genesis k x. ReplicaHolds m r.node r.store genesis k x)
    (λ (r : ReplicaValue). disk_of (device_of r.store)) m n r is q said
goes_in_memory m n is r q said goes =
    subst (λ (d : ReplicaValue → Side → Disk). EachLeavesFit (ShowsBy m n) d m n r is q said)
    (λ i k side. same_disks k.store side i) goes

-- all are taken, and what waits is synced
pub goes_to_the_end : (m : Meaning) (IsText : List ℕ → Type 0) (begun_as : ReplicaValue) (all : List Input)
    (now q : ReplicaValue) (g : GroupValue) (steps : List Step) (rest : List Input)
    (s : TakenSoFar m IsText begun_as all now g steps rest)
    → rest ≡ [] → IsGroupSynced ⊤ now g.needs_sync q → StaysWithin 0 (disks now.store) (disks q.store)
    → (genesis : Genesis) (k : ℕ) → ReplicaRemembers begun_as.node begun_as.store genesis k → (n : ℕ)
    → GoesThrough m n begun_as all q s.said
goes_to_the_end m IsText begun_as all now q g steps rest s none is_synced room genesis k r n =
    subst (λ (l : List StepSaid). GoesThrough m n begun_as all q l) (append-nil s.said)
    (s.goes genesis k r n q []
    (subst (λ (l : List Input). GoesThrough m n
    (record { node = now.node; store = synced_if g.needs_sync now.store; failed = false }) l q []) (sym none) (
      refl,
      (λ h f. ended h f),
      room_as_sent 132704 g.needs_sync false now.store q.store
          (within_more 132704 (disks now.store) (disks q.store) room),
    )))
  where
    ended : (h : History) → NodeFits m h n (ReplicaHolds m now.node (synced_if g.needs_sync now.store) h.genesis n)
        (disks (synced_if g.needs_sync now.store)) → NodeFits m h n (ReplicaHolds m q.node q.store h.genesis n)
        (disks q.store)
    ended h f = settled_node_fits m ⊤ now g.needs_sync q is_synced genesis k (s.recalls genesis k r) h n f

-- ---- what a call leaves, where a part of it ended so

-- the calls of the device so far, and of a part that was refused
pub refused_further : (m : Meaning) (IsText : List ℕ → Type 0) (begun_as : ReplicaValue) (all : List Input)
    (now new : ReplicaValue) (g : GroupValue) (steps : List Step) (rest : List Input) (number : ℕ)
    → TakenSoFar m IsText begun_as all now g steps rest
    → RefusedAfter number now.store.meter new.store.meter → RefusedAfter number begun_as.store.meter new.store.meter
refused_further m IsText begun_as all now new g steps rest number s by =
    refused_on s.calls s.passes new.store.meter number by

pub refused_in_all : (m : Meaning) (IsText : List ℕ → Type 0) (begun_as : ReplicaValue) (all : List Input)
    (now new : ReplicaValue) (g : GroupValue) (steps : List Step) (rest : List Input) (number : ℕ)
    → TakenSoFar m IsText begun_as all now g steps rest
    → IsRefusedInGroup ⊤ ⊤ now new number ⊎ IsNotKept now new number ⊎ IsNotSent now g.needs_sync new number
    → IsTogetherRefused m IsText begun_as all new number
refused_in_all m IsText begun_as all now new g steps rest number s why = record {
  done = s.done;
  rest = rest;
  are = s.parts;
  mid = now;
  needs_sync = g.needs_sync;
  steps = s.said;
  gathered = s.gathered;
  refused = why;
}

-- all were taken together
pub taken_in_all : (m : Meaning) (IsText : List ℕ → Type 0) (begun_as : ReplicaValue) (all : List Input)
    (now new : ReplicaValue) (g : GroupValue) (steps : List Step) (rest : List Input) (sent : List Datagram)
    → (s : TakenSoFar m IsText begun_as all now g steps rest) → rest ≡ []
    → IsGroupSynced ⊤ now g.needs_sync new → new.failed ≡ false → sent ≡ batch_of begun_as.node.header.node g.envelopes
    → (sent ≡ sent_of (parts_of steps sent))
    × IsTakenTogether m IsText begun_as all new (parts_of steps sent)
taken_in_all m IsText begun_as all now new g steps rest sent s none is_synced alive batch =
    let n : ℕ = begun_as.node.header.node in
    let envelopes : sent ≡ batch_of n (envelopes_of s.said) = batch ∙ ap (batch_of n) (sym s.envelopes) in
    let parts : parts_of steps sent ≡ said_by_steps n s.said = ap (parts_of steps) envelopes
    ∙ parts_are n steps s.said s.counted in
    let whole : s.done ≡ all = sym (append-nil s.done) ∙ ap (λ (l : List Input). s.done ++ l) (sym none) ∙ s.parts in (
      envelopes ∙ all_sent n s.said ∙ ap sent_of (sym parts),
      record {
        mid = now;
        needs_sync = g.needs_sync;
        steps = s.said;
        gathered = subst (λ (l : List Input). IsGatheredFrom m IsText begun_as l now g.needs_sync s.said) whole
            s.gathered;
        is_synced = is_synced;
        sends = parts;
        alive = alive;
      },
    )

-- and in each history it has gone on by each of them
pub gone_in_all : (m : Meaning) (IsText : List ℕ → Type 0) (begun_as : ReplicaValue) (all : List Input)
    (now new : ReplicaValue) (g : GroupValue) (steps : List Step) (rest : List Input) (sent : List Datagram)
    → (s : TakenSoFar m IsText begun_as all now g steps rest) → rest ≡ []
    → IsGroupSynced ⊤ now g.needs_sync new → StaysWithin 0 (disks now.store) (disks new.store)
    → sent ≡ batch_of begun_as.node.header.node g.envelopes
    → (genesis : Genesis) (n : ℕ) → ReplicaRemembers begun_as.node begun_as.store genesis n
    → EachLeavesFit (λ (r : ReplicaValue) genesis k x. ReplicaHolds m r.node r.store genesis k x)
    (λ (r : ReplicaValue). disk_of (device_of r.store)) m n begun_as all new (parts_of steps sent)
gone_in_all m IsText begun_as all now new g steps rest sent s none is_synced room batch genesis n r =
    let own : begun_as.node.header.node ≡ n = ap (λ (w : HeaderValue). w.node) r.whose in
    let envelopes : sent ≡ batch_of n (envelopes_of s.said) = batch ∙ ap (λ (k : ℕ). batch_of k g.envelopes) own
    ∙ ap (batch_of n) (sym s.envelopes) in
    let parts : parts_of steps sent ≡ said_by_steps n s.said = ap (parts_of steps) envelopes
    ∙ parts_are n steps s.said s.counted in
    subst (λ (l : List Said). EachLeavesFit (λ (r : ReplicaValue) genesis k x. ReplicaHolds m r.node r.store genesis k
    x)
    (λ (r : ReplicaValue). disk_of (device_of r.store)) m n begun_as all new l) (sym parts)
    (goes_in_memory m n all begun_as new (said_by_steps n s.said)
    (goes_all m n all begun_as new s.said
    (goes_to_the_end m IsText begun_as all now new g steps rest s none is_synced room genesis n r n)))

-- what was sent every image covers
pub covered_in_all : (m : Meaning) (IsText : List ℕ → Type 0) (begun_as : ReplicaValue) (all : List Input)
    (now new : ReplicaValue) (g : GroupValue) (steps : List Step) (rest : List Input) (sent : List Datagram)
    → TakenSoFar m IsText begun_as all now g steps rest
    → IsGroupSynced ⊤ now g.needs_sync new → sent ≡ batch_of begun_as.node.header.node g.envelopes
    → (genesis : Genesis) (n : ℕ) (x : NodeMessage) → ReplicaRemembers begun_as.node begun_as.store genesis n
    → (d : Datagram) → Contains sent d → Spells (said_by genesis n x) d.bytes → AllCover m genesis n (disks new.store) x
covered_in_all m IsText begun_as all now new g steps rest sent s is_synced batch genesis n x r d listed spelled =
    let own : begun_as.node.header.node ≡ n = ap (λ (w : HeaderValue). w.node) r.whose in
    let envelopes : sent ≡ batch_of n g.envelopes = batch ∙ ap (λ (k : ℕ). batch_of k g.envelopes) own in
    settled_covers m genesis n now.node now.store new.store g.needs_sync is_synced.syncs_all (s.recalls genesis n r) x
    (s.covered genesis n r x d (subst (λ (l : List Datagram). Contains l d) envelopes listed) spelled)
