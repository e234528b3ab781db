-- What a replica has taken into a group, and has said by it.
use Rattle.std.proofs.Common.{◌≡◌, ℕ, ◌<◌, inl, inr, Bool, true, false, List, [], ◌∷◌, ◌++◌, length, map, Contains}
use Rattle.std.proofs.Common.{Option, Result, Ok, Err, refl, sym, ◌∙◌, ap, subst, subst₂, append_assoc, append-nil}
use Rattle.std.proofs.Common.{length-append, arith}
use Rattle.std.specs.Prelude.{IfOk, IfErr, OnOk, OnErr, IsErrOf, ⊤}
use Rattle.std.specs.List.{AllByRecursion}
use Rattle.std.proofs.lemmas.List.{map-append, append_cancel_left}
use Rattle.lk_disk.specs.Disk.{Disk}
use Rattle.lk_disk.specs.declared.device.Side.{Side}
use Rattle.lk_messages.specs.Grammar.{Spells}
use Rattle.lk_log.specs.Rooms.{StaysWithin}
use Rattle.lk_log.specs.StoreValue.{StoreValue, disks}
use Rattle.lk_log.proofs.Room.{within_same, within_more, within_still, within_first}
use Rattle.lk_state.specs.Meanings.{Meaning}
use Rattle.lk_agreement_laws.specs.Datagrams.{NodeMessage, said_by}
use Rattle.lk_node_interface.specs.Envelopes.{EnvelopeValue, batch_of}
use Rattle.lk_node_interface.specs.declared.input.Input.{Input}
use Rattle.lk_node_interface.specs.declared.note.Note.{Note}
use Rattle.lk_node.specs.Calls.{heard_by, InputFits, NodeFits, LeavesFit}
use Rattle.lk_node.specs.Histories.{History, Genesis, Datagram}
use Rattle.lk_node.specs.Keeping.{ReplicaHolds}
use Rattle.lk_node.specs.Leavings.{AllCover}
use Rattle.lk_node.specs.NodeValue.{NodeValue}
use Rattle.lk_node_interface.specs.Faults.{fault_number, IsNumberOfCalls}
use Rattle.lk_replica.specs.Groups.{Adds, GroupValue, StepSaid, envelopes_of, KeepsGroup, LeavesInGroup, MakesRoom}
use Rattle.lk_replica.specs.Groups.{IsGathered, IsGroupSynced, IsRefusedInGroup, GoesThrough}
use Rattle.lk_replica.specs.Groups.{IsGroupCovered, RemembersInGroup}
use Rattle.lk_replica.specs.Groups.{synced_if, empty_group}
use Rattle.lk_replica.specs.Groups.{with_step}
use Rattle.lk_replica.specs.Posts.{AreOf, GivesEnvelopes, IsDelivered, TellsSends}
use Rattle.lk_replica.specs.ReplicaValue.{ReplicaValue}
use Rattle.lk_recovery.specs.Rooms.{GrowsFromBase, GrowsBySteps}
use Rattle.lk_node_interface.specs.declared.fault.ReplicaFault.{ReplicaFault}
use Rattle.lk_node_interface.specs.declared.fault.ReplicaFault.TheVariants as fault
use Rattle.lk_replica.proofs.Replicas.{begun, begin_fits, room_as_sent}
use Rattle.lk_server_replica.specs.Refusals.{IsOfGroups}
use Rattle.lk_server_replica.specs.Sayings.{AreGathered, GroupLeaves, SaysOf, GathersOf}

-- all of one list and of another
all_parts : {X : Type 0} (P : X → Type 0) (xs ys : List X) → AllByRecursion P (xs ++ ys)
    → AllByRecursion P xs × AllByRecursion P ys
all_parts P [] ys all = (tt, all)
all_parts P (x ∷ xs) ys all = let rest = all_parts P xs ys all.1 in ((all.0, rest.0), rest.1)

-- the envelopes of one more step
said_more : (said : List StepSaid) (notes : List Note) (envelopes : List EnvelopeValue)
    → envelopes_of (said ++ (notes, envelopes) ∷ []) ≡ envelopes_of said ++ envelopes
said_more [] notes envelopes = append-nil envelopes
said_more (x ∷ said) notes envelopes =
    ap (λ (l : List EnvelopeValue). x.1 ++ l) (said_more said notes envelopes)
    ∙ sym (append_assoc x.1 (envelopes_of said) envelopes)

-- one more input of a group
gathered_more : (m : Meaning) (IsText : List ℕ → Type 0) (Metered : Type 0) (node : NodeValue) (store : StoreValue)
    (group : GroupValue) (inputs : List Input) (said : List StepSaid) (mid : NodeValue)
    (between : StoreValue) (gathered : GroupValue)
    (i : Input) (new : NodeValue) (after : StoreValue) (now : GroupValue)
    → AreGathered m IsText Metered node store group inputs said mid between gathered
    → (e : IsGathered m IsText Metered mid between gathered i new after now)
    → AreGathered m IsText Metered node store group (inputs ++ i ∷ [])
    (said ++ (e.out.notes, e.out.envelopes) ∷ []) new after now
gathered_more m IsText Metered node store group [] said mid between gathered i new after now all e =
    let room : MakesRoom Metered node store group.needs_sync e.mid e.between e.needs_sync =
    subst (λ (x : GroupValue). MakesRoom Metered node store x.needs_sync e.mid e.between e.needs_sync) all.3
    (subst₂ (λ (n : NodeValue) (s : StoreValue). MakesRoom Metered n s gathered.needs_sync e.mid e.between
    e.needs_sync) all.1 all.2 e.room) in
    let first : IsGathered m IsText Metered node store group i new after now =
    record {
      mid = e.mid;
      between = e.between;
      needs_sync = e.needs_sync;
      room = room;
      out = e.out;
      steps = e.steps;
      adds = e.adds ∙ ap (with_step e.needs_sync e.out) all.3;
    } in (
      new,
      after,
      now,
      first,
      [],
      ap (λ (l : List StepSaid). l ++ (e.out.notes, e.out.envelopes) ∷ []) all.0,
      (refl, refl, refl, refl),
    )
gathered_more m IsText Metered node store group (j ∷ inputs) said mid between gathered i new after now all e = (
  all.0,
  all.1,
  all.2,
  all.3,
  all.4 ++ (e.out.notes, e.out.envelopes) ∷ [],
  ap (λ (l : List StepSaid). l ++ (e.out.notes, e.out.envelopes) ∷ []) all.5,
  gathered_more m IsText Metered all.0 all.1 all.2 inputs all.4 mid between gathered i new after now all.6 e,
)

-- how the files grow by steps, apart from a Base
grown_none : (d : Side → Disk) → GrowsBySteps 0 d d
grown_none d s = omega arith

grown_step : (inputs : List Input) (i : Input) (first old new : Side → Disk) → GrowsBySteps (length inputs) first old
    → GrowsFromBase old new → GrowsBySteps (length (inputs ++ i ∷ [])) first new
grown_step inputs i first old new many one s = omega (arith, many s, one s, length-append inputs (i ∷ []))

grown_still : (steps : ℕ) (first old new : Side → Disk) → GrowsBySteps steps first old → StaysWithin 0 old new
    → GrowsBySteps steps first new
grown_still steps first old new many still s = omega (arith, many s, still s)

other_than : (k : ℕ) → 8 < k → k < 11 → IsNumberOfCalls k → ⊥
other_than k low high (inl is) = omega (arith, low, is)
other_than k low high (inr (inl is)) = omega (arith, low, is)
other_than k low high (inr (inr (inl is))) = omega (arith, high, is)
other_than k low high (inr (inr (inr (inl is)))) = omega (arith, high, is)
other_than k low high (inr (inr (inr (inr is)))) = omega (arith, high, is)

of_group : (e : ReplicaFault) → IsNumberOfCalls (fault_number e) → (fault_number e ≡ 15 → ⊥) → IsOfGroups e
of_group fault.Device told other = tt
of_group fault.NoMemory told other = tt
of_group fault.Damaged told other = other_than 9 (omega arith) (omega arith) told
of_group fault.WrongStore told other = other_than 10 (omega arith) (omega arith) told
of_group fault.Failed told other = tt
of_group fault.Halted told other = tt
of_group (fault.Send notes) told other = other refl

no_ok : {T : Type 0} (x : T) → ◌≡◌ {A = Result T ReplicaFault} (Ok x) (Err fault.Failed) → ⊥
no_ok x e = cc e

module _ (m : Meaning) (IsText : List ℕ → Type 0) (Honest Metered : Type 0) where
  -- what a group says, and what it gathers, on a device
  abbrev Said : ReplicaValue → List (Option (List ℕ)) → List EnvelopeValue → ReplicaValue → Type 0
  Said old given envelopes new = Honest → SaysOf m IsText Metered old given envelopes new

  abbrev Gathered : ReplicaValue → List (Option (List ℕ)) → GroupValue → ReplicaValue → Type 0
  Gathered first given group now = Honest → GathersOf m IsText Metered first given group now

  -- a group that begins
  pub gathers_nothing : (r : ReplicaValue) (group : GroupValue) → group ≡ empty_group → Gathered r [] group r
  gathers_nothing r group is honest = subst (λ (x : GroupValue). GathersOf m IsText Metered r [] x r) (sym is) (record {
    inputs = [];
    are_given = refl;
    said = [];
    are_said = refl;
    steps = (refl, refl, refl, refl);
    goes = λ genesis k remembers n more q rest goes. unfailed n more q rest goes;
    recalls = λ genesis n remembers. (
      begun r.node r.store genesis n remembers,
      λ x d listed. absurd (omega (arith, listed.1)),
    );
    stays = λ h n f all. begin_fits m h n r.node r.store f;
    covers = λ genesis n x remembers every. every;
    room = within_same 132704 (disks r.store) (disks r.store) (λ s. refl);
    grows = grown_none (disks r.store);
    up = λ some. absurd (some refl);
    once = λ was. refl;
  })
    where
      unfailed : (n : ℕ) (more : List Input) (q : ReplicaValue) (rest : List StepSaid)
          → GoesThrough m n (record { node = r.node; store = r.store; failed = false }) more q rest
          → GoesThrough m n r more q rest
      unfailed n [] q rest goes = goes
      unfailed n (j ∷ more) q rest goes = goes

  -- what ends a replica
  pub ended_of : {T : Type 0} (r : Result T ReplicaFault) (old new : ReplicaValue)
      → IfErr r (λ e. IsRefusedInGroup Honest Metered old new (fault_number e)) → OnErr r (new.failed ≡ true)
  ended_of (Ok x) old new refused = tt
  ended_of (Err e) old new refused = refused.ends

  pub of_groups : {T : Type 0} (r : Result T ReplicaFault) (old new : ReplicaValue)
      → IfErr r (λ e. IsRefusedInGroup Honest Metered old new (fault_number e)) → IfErr r IsOfGroups
  of_groups (Ok x) old new refused = tt
  of_groups (Err e) old new refused = of_group e refused.told refused.no_send

  -- ---- one more input

  module _ (first old new : ReplicaValue) (given : List (Option (List ℕ))) (group now : GroupValue) (i : Input)
      (g : GathersOf m IsText Metered first given group old) where
    given_more : map heard_by (g.inputs ++ i ∷ []) ≡ given ++ heard_by i ∷ []
    given_more =
        map-append heard_by g.inputs (i ∷ []) ∙ ap (λ (l : List (Option (List ℕ))). l ++ heard_by i ∷ []) g.are_given

    -- what the step says of its notes and envelopes
    abbrev Links : List Note → List EnvelopeValue → Type 0
    Links notes envelopes = (genesis : Genesis) (k : ℕ) → RemembersInGroup old.node old.store group.needs_sync genesis k
        → (h : History) (n : ℕ) → NodeFits m h n (ReplicaHolds m old.node
        (synced_if group.needs_sync old.store) h.genesis n)
        (disks (synced_if group.needs_sync old.store)) → InputFits h i
        → (sent : List EnvelopeValue) → AreOf sent envelopes
        → LeavesFit m h n (ReplicaHolds m new.node (synced_if now.needs_sync new.store) h.genesis n)
        (disks (synced_if now.needs_sync new.store)) notes (batch_of n sent)

    -- they are those of its outbox
    links_of : Adds group now Links
        → (e : IsGathered m IsText Metered old.node old.store group i new.node new.store now)
        → Links e.out.notes e.out.envelopes
    links_of a e =
        subst₂ Links (append_cancel_left group.notes a.notes e.out.notes
        (sym a.noted ∙ ap (λ (x : GroupValue). x.notes) e.adds))
        (append_cancel_left group.envelopes a.envelopes e.out.envelopes
        (sym a.said ∙ ap (λ (x : GroupValue). x.envelopes) e.adds)) a.are

    gathers_one : Adds group now Links
        → KeepsGroup m (λ h. InputFits h i) old.node old.store group new.node new.store now
        → LeavesInGroup m (λ h. InputFits h i) 132704 old.node old.store group.needs_sync (disks new.store)
        → GrowsFromBase (disks old.store) (disks new.store)
        → IsGathered m IsText Metered old.node old.store group i new.node new.store now
        → (new.store.failed ≡ false) × (new.node.halted ≡ false) → (old.failed ≡ true → ⊥)
        → GathersOf m IsText Metered first (given ++ heard_by i ∷ []) now new
    gathers_one a keeps leaves grows e up lives = record {
      inputs = g.inputs ++ i ∷ [];
      are_given = given_more;
      said = g.said ++ (e.out.notes, e.out.envelopes) ∷ [];
      are_said = ap (λ (x : GroupValue). x.envelopes) e.adds
          ∙ ap (λ (l : List EnvelopeValue). l ++ e.out.envelopes) g.are_said
          ∙ sym (said_more g.said e.out.notes e.out.envelopes);
      steps = gathered_more m IsText Metered first.node first.store empty_group g.inputs g.said old.node old.store
          group i new.node new.store now g.steps e;
      goes = λ genesis k remembers n more q rest goes.
          subst₂ (λ (is : List Input) (l : List StepSaid). GoesThrough m n first is q l)
          (sym (append_assoc g.inputs (i ∷ []) more))
          (sym (append_assoc g.said ((e.out.notes, e.out.envelopes) ∷ []) rest))
          (g.goes genesis k remembers n (i ∷ more) q ((e.out.notes, e.out.envelopes) ∷ rest) (
            record { node = new.node; store = synced_if now.needs_sync new.store; failed = false },
            e.out.notes,
            e.out.envelopes,
            rest,
            refl,
            λ h f heard sent among. links_of a e genesis k (g.recalls genesis k remembers).0 h n f heard sent among,
            room_as_sent 132704 group.needs_sync now.needs_sync old.store new.store leaves.room,
            goes,
          ));
      recalls = λ genesis n remembers. let k = g.recalls genesis n remembers in
          (keeps.recalls genesis n k.0, keeps.said genesis n k.0 k.1);
      stays = λ h n f all. let parts = all_parts (InputFits h) g.inputs (i ∷ []) all in
          keeps.stays h n (g.stays h n f parts.0) parts.1.0;
      covers = λ genesis n x remembers every. leaves.covers genesis n x (g.recalls genesis n remembers).0
          (g.covers genesis n x remembers every);
      room = within_first 132704 (disks first.store) (disks old.store) (disks new.store) g.room leaves.room;
      grows = grown_step g.inputs i (disks first.store) (disks old.store) (disks new.store) g.grows grows;
      up = λ some. up;
      once = λ was. absurd (lives (ap (λ (r : ReplicaValue). r.failed) (g.once was) ∙ was));
    }

    gathers_none : (number : ℕ) → IsRefusedInGroup Honest Metered old new number
        → LeavesInGroup m (λ h. InputFits h i) 132704 old.node old.store group.needs_sync (disks new.store)
        → GrowsFromBase (disks old.store) (disks new.store)
        → SaysOf m IsText Metered first (given ++ heard_by i ∷ []) [] new
    gathers_none number refused leaves grows = record {
      inputs = g.inputs ++ i ∷ [];
      are_given = given_more;
      comes = inr (record { none = refl; ended = refused.ends });
      leaves = record {
        ends = λ h n f all. let parts = all_parts (InputFits h) g.inputs (i ∷ []) all in
            leaves.ends h n (g.stays h n f parts.0) parts.1.0;
        covers = λ genesis n x remembers every. leaves.covers genesis n x (g.recalls genesis n remembers).0
            (g.covers genesis n x remembers every);
        room = within_first 132704 (disks first.store) (disks old.store) (disks new.store) g.room leaves.room;
        grows = grown_step g.inputs i (disks first.store) (disks old.store) (disks new.store) g.grows grows;
      };
      once = λ was. (refused.once (ap (λ (r : ReplicaValue). r.failed) (g.once was) ∙ was)).1 ∙ g.once was;
    }

  module _ (old new : ReplicaValue) (group now : GroupValue) (i : Input) where
    -- what a call of `add_step` tells
    pub gathers_of : {T : Type 0} (r : Result T ReplicaFault)
        → (Honest → OnOk r (Adds group now
        (λ notes envelopes. (genesis : Genesis) (k : ℕ) → RemembersInGroup old.node old.store group.needs_sync genesis k
        → (h : History) (n : ℕ) → NodeFits m h n (ReplicaHolds m old.node
        (synced_if group.needs_sync old.store) h.genesis n)
        (disks (synced_if group.needs_sync old.store)) → InputFits h i
        → (sent : List EnvelopeValue) → AreOf sent envelopes
        → LeavesFit m h n (ReplicaHolds m new.node (synced_if now.needs_sync new.store) h.genesis n)
        (disks (synced_if now.needs_sync new.store)) notes (batch_of n sent))))
        → (Honest → OnOk r (KeepsGroup m (λ h. InputFits h i) old.node old.store group new.node new.store now))
        → (Honest → LeavesInGroup m (λ h. InputFits h i) 132704 old.node old.store group.needs_sync (disks new.store))
        → (Honest → GrowsFromBase (disks old.store) (disks new.store))
        → (Honest → OnOk r (IsGathered m IsText Metered old.node old.store group i new.node new.store now))
        → OnOk r ((new.failed ≡ false) × (new.store.failed ≡ false) × (new.node.halted ≡ false))
        → (old.failed ≡ true → IsErrOf r fault.Failed)
        → OnOk r ((first : ReplicaValue) (given : List (Option (List ℕ))) → Gathered first given group old
        → Gathered first (given ++ heard_by i ∷ []) now new)
    gathers_of (Ok x) goes keeps leaves grows exact alive dead = λ first given was honest.
        gathers_one first old new given group now i (was honest) (goes honest) (keeps honest) (leaves honest)
        (grows honest) (exact honest) (alive.1, alive.2) (λ was. no_ok x (dead was))
    gathers_of (Err e) goes keeps leaves grows exact alive dead = tt

    pub silent_of : {T : Type 0} (r : Result T ReplicaFault)
        → IfErr r (λ e. IsRefusedInGroup Honest Metered old new (fault_number e))
        → (Honest → LeavesInGroup m (λ h. InputFits h i) 132704 old.node old.store group.needs_sync (disks new.store))
        → (Honest → GrowsFromBase (disks old.store) (disks new.store))
        → OnErr r ((first : ReplicaValue) (given : List (Option (List ℕ))) → Gathered first given group old
        → Said first (given ++ heard_by i ∷ []) [] new)
    silent_of (Ok x) refused leaves grows = tt
    silent_of (Err e) refused leaves grows =
        λ first given was honest. gathers_none first old new given group now i (was honest) (fault_number e) refused
        (leaves honest) (grows honest)

  -- ---- the end of a group

  module _ {P : Type 0} (Carries : P → EnvelopeValue → Bool → P → Type 0) (old new : ReplicaValue)
      (group : GroupValue) (before after : P) where
    so_leaves : (first : ReplicaValue) (given : List (Option (List ℕ)))
        (g : GathersOf m IsText Metered first given group old)
        → LeavesInGroup m (λ h. ⊤) 0 old.node old.store group.needs_sync (disks new.store)
        → GroupLeaves m (λ h. AllByRecursion (InputFits h) g.inputs) 132704
        (length g.inputs) first.node first.store (disks new.store)
    so_leaves first given g leaves = record {
      ends = λ h n f all. leaves.ends h n (g.stays h n f all) tt;
      covers = λ genesis n x remembers every. leaves.covers genesis n x (g.recalls genesis n remembers).0
          (g.covers genesis n x remembers every);
      room = within_still 132704 (disks first.store) (disks old.store) (disks new.store) g.room leaves.room;
      grows = grown_still (length g.inputs) (disks first.store) (disks old.store) (disks new.store) g.grows leaves.room;
    }

    says_all : (first : ReplicaValue) (given : List (Option (List ℕ)))
        → GathersOf m IsText Metered first given group old
        → ((genesis : Genesis) (k : ℕ) → RemembersInGroup old.node old.store group.needs_sync genesis k
        → (h : History) (n : ℕ)
        → NodeFits m h n (ReplicaHolds m old.node (synced_if group.needs_sync old.store) h.genesis n)
        (disks (synced_if group.needs_sync old.store))
        → NodeFits m h n (ReplicaHolds m new.node new.store h.genesis n) (disks new.store))
        → LeavesInGroup m (λ h. ⊤) 0 old.node old.store group.needs_sync (disks new.store)
        → ((genesis : Genesis) (n : ℕ) (x : NodeMessage)
        → RemembersInGroup old.node old.store group.needs_sync genesis n
        → IsGroupCovered m genesis n group old.store
        → (d : Datagram) → Contains (batch_of n group.envelopes) d → Spells (said_by genesis n x) d.bytes
        → AllCover m genesis n (disks new.store) x)
        → IsGroupSynced Metered old group.needs_sync new → new.failed ≡ false
        → SaysOf m IsText Metered first given group.envelopes new
    says_all first given g fits leaves syncs is_synced alive = record {
      inputs = g.inputs;
      are_given = g.are_given;
      comes = inl (record {
        inputs = g.inputs;
        are_given = g.are_given;
        said = g.said;
        are_said = g.are_said;
        taken = record {
          node = old.node;
          store = old.store;
          group = group;
          steps = g.steps;
          same = is_synced.node;
          syncs_all = is_synced.syncs_all;
          calls = is_synced.calls;
          alive = alive;
          store_alive = λ some. is_synced.store_alive (g.up some).0;
          awake = λ some. ap (λ (x : NodeValue). x.halted) is_synced.node ∙ (g.up some).1;
        };
        goes = λ genesis k remembers n.
            subst₂ (λ (is : List Input) (l : List StepSaid). GoesThrough m n first is new l)
            (append-nil g.inputs) (append-nil g.said)
            (g.goes genesis k remembers n [] new [] (
              refl,
              λ h f. fits genesis k (g.recalls genesis k remembers).0 h n f,
              room_as_sent 132704 group.needs_sync false old.store new.store
                  (within_more 132704 (disks old.store) (disks new.store) leaves.room),
            ));
        syncs = λ genesis n x remembers d listed said. let k = g.recalls genesis n remembers in
            syncs genesis n x k.0 k.1 d listed said;
      });
      leaves = so_leaves first given g leaves;
      once = λ was. absurd (let both : true ≡ false = sym was ∙ sym (ap (λ (r : ReplicaValue). r.failed) (g.once was))
          ∙ is_synced.lived in cc both);
    }

    says_none : (first : ReplicaValue) (given : List (Option (List ℕ)))
        → GathersOf m IsText Metered first given group old → (number : ℕ)
        → IsRefusedInGroup Honest Metered old new number
        → LeavesInGroup m (λ h. ⊤) 0 old.node old.store group.needs_sync (disks new.store)
        → SaysOf m IsText Metered first given [] new
    says_none first given g number refused leaves = record {
      inputs = g.inputs;
      are_given = g.are_given;
      comes = inr (record { none = refl; ended = refused.ends });
      leaves = so_leaves first given g leaves;
      once = λ was. (refused.once (ap (λ (r : ReplicaValue). r.failed) (g.once was) ∙ was)).1 ∙ g.once was;
    }

    -- what a call of `sync_and_send` tells
    pub synced_of : (sent : P → List EnvelopeValue) (failures : P → ℕ) (Observable : Type 0)
        (r : Result Bool ReplicaFault)
        → (Honest → (genesis : Genesis) (k : ℕ) → RemembersInGroup old.node old.store group.needs_sync genesis k
        → (h : History) (n : ℕ) → NodeFits m h n (ReplicaHolds m old.node
        (synced_if group.needs_sync old.store) h.genesis n)
        (disks (synced_if group.needs_sync old.store))
        → IfOk r (λ all. NodeFits m h n (ReplicaHolds m new.node new.store h.genesis n) (disks new.store)))
        → (Honest → LeavesInGroup m (λ h. ⊤) 0 old.node old.store group.needs_sync (disks new.store))
        → (Honest → (genesis : Genesis) (n : ℕ) (x : NodeMessage)
        → RemembersInGroup old.node old.store group.needs_sync genesis n → IsGroupCovered m genesis n group old.store
        → IfOk r (λ all. (d : Datagram) → Contains (batch_of n group.envelopes) d → Spells (said_by genesis n x) d.bytes
        → AllCover m genesis n (disks new.store) x))
        → IfOk r (λ all. IsDelivered Carries sent failures Observable group.envelopes all before after)
        → (Honest → OnOk r (IsGroupSynced Metered old group.needs_sync new)) → OnOk r (new.failed ≡ false)
        → OnOk r (GivesEnvelopes Carries before after
        (λ envelopes. (first : ReplicaValue) (given : List (Option (List ℕ))) → Gathered first given group old
        → Said first given envelopes new))
    synced_of sent failures Observable (Ok all) fits leaves syncs delivers exact alive = record {
      envelopes = group.envelopes;
      carried = delivers.carried;
      holds = λ first given was honest. says_all first given (was honest) (fits honest) (leaves honest)
          (syncs honest) (exact honest) alive;
    }
    synced_of sent failures Observable (Err e) fits leaves syncs delivers exact alive = tt

    pub tells_of : (sent : P → List EnvelopeValue) (failures : P → ℕ) (Observable : Type 0)
        (r : Result Bool ReplicaFault)
        → IfOk r (λ all. IsDelivered Carries sent failures Observable group.envelopes all before after)
        → IfOk r (λ all. TellsSends all (failures before) (failures after))
    tells_of sent failures Observable (Ok all) delivers = delivers.tells
    tells_of sent failures Observable (Err e) delivers = tt

    pub unsynced_of : (r : Result Bool ReplicaFault)
        → IfErr r (λ e. IsRefusedInGroup Honest Metered old new (fault_number e))
        → (Honest → LeavesInGroup m (λ h. ⊤) 0 old.node old.store group.needs_sync (disks new.store))
        → OnErr r ((first : ReplicaValue) (given : List (Option (List ℕ))) → Gathered first given group old
        → Said first given [] new)
    unsynced_of (Ok all) refused leaves = tt
    unsynced_of (Err e) refused leaves =
        λ first given was honest. says_none first given (was honest) (fault_number e) refused (leaves honest)
