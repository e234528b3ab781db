-- A group of one: what `add_step` and then `sync_and_send` leave is what a call of `take` does.
use Rattle.std.proofs.Common.{◌≡◌, ℕ, ◌+◌, ◌||◌, Bool, true, false, not, List, [], ◌++◌, Contains, inl, inr, refl, sym}
use Rattle.std.proofs.Common.{◌∙◌, ap, subst, subst₂, arith}
use Rattle.std.specs.Prelude.{⊤, if◌then◌else◌}
use Rattle.lk_disk.specs.Disk.{Disk}
use Rattle.lk_disk.specs.declared.device.Side.{Side}
use Rattle.lk_disk.specs.Meters.{CallsSucceed}
use Rattle.lk_disk.proofs.Devices.{passes_on}
use Rattle.lk_messages.specs.Grammar.{Spells}
use Rattle.lk_store_format.specs.Entries.{plain}
use Rattle.lk_store_format.specs.declared.stored.Stored.{Stored}
use Rattle.lk_log.specs.Causes.{calls_for}
use Rattle.lk_log.specs.Rooms.{StaysWithin}
use Rattle.lk_log.specs.StoreValue.{StoreValue, disks}
use Rattle.lk_log.specs.Stores.{HoldsEntries, KeepsItsFile}
use Rattle.lk_log.proofs.Room.{within_still}
use Rattle.lk_state.specs.Meanings.{Meaning}
use Rattle.lk_agreement_laws.specs.Datagrams.{NodeMessage, said_by}
use Rattle.lk_node_interface.specs.Envelopes.{EnvelopeValue, batch_of}
use Rattle.lk_node_interface.specs.Outboxes.{OutboxValue}
use Rattle.lk_node_interface.specs.Faults.{failures_by}
use Rattle.lk_node_interface.specs.declared.input.Input.{Input}
use Rattle.lk_node_interface.specs.declared.note.Note.{Note}
use Rattle.lk_node.specs.Calls.{InputFits, NodeFits, LeavesFit}
use Rattle.lk_node.specs.Histories.{History, Genesis, Datagram}
use Rattle.lk_node.specs.Keeping.{ReplicaHolds}
use Rattle.lk_node.specs.Leavings.{header_of, AllCover}
use Rattle.lk_node.specs.NodeValue.{NodeValue}
use Rattle.lk_recovery.specs.Compacting.{KeepsOrSwitchesFiles, Rebases}
use Rattle.lk_recovery.specs.Rebased.{LeavesDisks}
use Rattle.lk_recovery.specs.Remembering.{ReplicaRemembers}
use Rattle.lk_recovery.specs.Rooms.{GrowsFromBase}
use Rattle.lk_recovery.proofs.Recoveries.{file_after, kept_then, refused_on}
use Rattle.lk_replica.specs.Groups.{Adds, FitsOnceSynced, GroupValue, IsGathered, IsGroupSynced, IsRefusedInGroup}
use Rattle.lk_replica.specs.Groups.{KeepsGroup, LeavesFitOnceSynced, LeavesInGroup, RemembersInGroup, SyncsIfNeeded}
use Rattle.lk_replica.specs.Groups.{empty_group, add_step_calls, needs_sync_after, sync_calls}
use Rattle.lk_replica.specs.Posts.{AreOf}
use Rattle.lk_replica.specs.ReplicaValue.{ReplicaValue}
use Rattle.lk_replica.specs.Taking.{CallsOfStep, IsRefused, IsTaken, Writes, write_calls}
use Rattle.lk_replica.proofs.Going.{remembered}
use Rattle.lk_replica.proofs.Grouped.{begin_fits, begun, none_still, settled_covers, settled_goes, settled_keeps}

-- ---- what waits after one step

-- a step that rebases leaves nothing that waits
based : (r s : Bool) (old new : StoreValue) → r ≡ true
    → SyncsIfNeeded (if r then false else (false || s)) old new → new ≡ old
based true s old new is same = same
based false s old new is same = absurd (cc is)

-- where something waits for a sync or a flush, the step has not rebased
waits_put : (r x : Bool) → ((if r then false else x) || not r) ≡ true → r ≡ false
waits_put false x is = refl
waits_put true x is = absurd (cc is)

-- any other, what it asked to sync
put_then : (r s : Bool) (old new : StoreValue) → r ≡ false → SyncsIfNeeded (if r then false else (false || s)) old new
    → (ks ls : List Stored) → HoldsEntries old ks ls
    → (s ≡ false → HoldsEntries new ks ls) × (s ≡ true → HoldsEntries new (ks ++ ls) [])
put_then true s old new is syncs ks ls h = absurd (cc is)
put_then false false old new is syncs ks ls h =
    (λ no. subst (λ (k : StoreValue). HoldsEntries k ks ls) (sym syncs) h, λ yes. absurd (cc yes))
put_then false true old new is syncs ks ls h = (λ no. absurd (cc no), λ yes. syncs ks ls h)

counted : (r s : Bool) (n : ℕ)
    → (if r then 4 else (n + 0)) + (if (if r then false else (false || s)) then 1 else 0)
    ≡ (if r then 4 else (n + (if s then 1 else 0)))
counted true s n = omega arith
counted false true n = omega arith
counted false false n = omega arith

-- its calls, and that of the sync
one_calls : (out : OutboxValue) → add_step_calls out + sync_calls (needs_sync_after false out) ≡ write_calls out
one_calls out = counted out.rebase out.sync (calls_for out.entries)

three : (k a b c : ℕ) → a + b ≡ c → (k + a) + b ≡ k + c
three k a b c is = omega (arith, is)

-- ---- the call

module _ (m : Meaning) (IsText : List ℕ → Type 0) (Metered : Type 0) (old mid new : ReplicaValue) (i : Input)
    (first g : GroupValue) (is : first ≡ empty_group)
    (gathered : IsGathered m IsText Metered old.node old.store first i mid.node mid.store g) where
  abbrev one : IsGathered m IsText Metered old.node old.store empty_group i mid.node mid.store g
  one = subst (λ (k : GroupValue). IsGathered m IsText Metered old.node old.store k i mid.node mid.store g) is gathered

  none_waits_yet : one.needs_sync ≡ false
  none_waits_yet =
      none_still Metered old.node old.store one.mid one.between false one.needs_sync refl one.room

  waits : g.needs_sync ≡ needs_sync_after false one.out
  waits = ap (λ (k : GroupValue). k.needs_sync) one.adds
      ∙ ap (λ (w : Bool). needs_sync_after w one.out) none_waits_yet

  envelopes_are : one.out.envelopes ≡ g.envelopes
  envelopes_are = sym (ap (λ (k : GroupValue). k.envelopes) one.adds)

  -- where something waits for a sync or a flush, it has switched files only by a rebase that was due
  one_file : (g.needs_sync || g.needs_flush) ≡ true → KeepsOrSwitchesFiles old.node old.store mid.store
  one_file waiting =
      let flushes : g.needs_flush ≡ not one.out.rebase = ap (λ (k : GroupValue). k.needs_flush) one.adds in
      file_after old.node one.mid old.store one.between mid.store one.room.rebases
      (one.steps.file (waits_put one.out.rebase (false || one.out.sync)
      (subst₂ (λ (s f : Bool). (s || f) ≡ true) waits flushes waiting)))

  -- the device's calls before the sync
  abbrev calls : Metered → ℕ
  calls metered = (one.room.calls metered).0 + add_step_calls one.out

  passes : (metered : Metered) → CallsSucceed old.store.meter mid.store.meter (calls metered)
  passes metered = let k = one.room.calls metered in
      passes_on k.0 k.2 (add_step_calls one.out) (one.steps.calls metered)

  module _ (synced : IsGroupSynced Metered mid g.needs_sync new)
      (room : StaysWithin 0 (disks mid.store) (disks new.store)) where
    syncs : SyncsIfNeeded (needs_sync_after false one.out) mid.store new.store
    syncs = subst (λ (w : Bool). SyncsIfNeeded w mid.store new.store) waits synced.syncs_all

    writes : Writes one.steps.stepped one.between one.out new.node new.store
    writes = record {
      rebases = λ yes. let same = based one.out.rebase one.out.sync mid.store new.store yes syncs in
          subst (λ (k : NodeValue). Rebases one.steps.stepped one.between k new.store) (sym synced.node)
          (subst (λ (s : StoreValue). Rebases one.steps.stepped one.between mid.node s) (sym same)
          (one.steps.rebases yes));
      puts = λ no. (
        synced.node ∙ (one.steps.puts no).0,
        λ ks ls h. put_then one.out.rebase one.out.sync mid.store new.store no syncs ks (ls ++ plain one.out.entries)
            ((one.steps.puts no).1 ks ls h),
      );
      grows = λ no s. omega (arith, one.steps.grows no s, room s);
    }

    pub one_passes : (metered : Metered) → CallsOfStep old.node old.store one.out new.store
    one_passes metered =
        let k = one.room.calls metered in
        let sum : calls metered + sync_calls g.needs_sync ≡ k.0 + write_calls one.out =
        ap (λ (w : Bool). calls metered + sync_calls w) waits
        ∙ three k.0 (add_step_calls one.out) (sync_calls (needs_sync_after false one.out)) (write_calls one.out)
        (one_calls one.out) in (
          k.0,
          record { due = λ due. k.1.due due; rests = λ other. k.1.rests other },
          subst (λ (j : ℕ). CallsSucceed old.store.meter new.store.meter j) sum
              (passes_on (calls metered) (passes metered) (sync_calls g.needs_sync) (synced.calls metered)),
        )

    -- it was taken
    pub one_taken : (notes : List Note) → notes ≡ g.notes → (Sends : List EnvelopeValue → Type 0) → Sends g.envelopes
        → new.failed ≡ false → new.store.failed ≡ false → new.node.halted ≡ false
        → IsTaken m IsText Metered old i new notes (λ all. (all ≡ g.envelopes) × Sends all)
    one_taken notes noted Sends sends alive store_alive awake = record {
      mid = one.mid;
      between = one.between;
      rebases = one.room.rebases;
      stepped = one.steps.stepped;
      out = one.out;
      steps = one.steps.steps;
      writes = writes;
      noted = noted ∙ ap (λ (k : GroupValue). k.notes) one.adds;
      sent = (envelopes_are, subst Sends (sym envelopes_are) sends);
      calls = one_passes;
      alive = alive;
      store_alive = store_alive;
      awake = awake;
    }

-- ---- what it keeps

module _ (m : Meaning) (old mid : ReplicaValue) (i : Input) (first g : GroupValue) (is : first ≡ empty_group)
    (kept : KeepsGroup m (λ h. InputFits h i) old.node old.store first mid.node mid.store g) where
  keeps : KeepsGroup m (λ h. InputFits h i) old.node old.store empty_group mid.node mid.store g
  keeps = subst (λ (k : GroupValue). KeepsGroup m (λ h. InputFits h i) old.node old.store k mid.node mid.store g) is
      kept

  one_recalls : (genesis : Genesis) (n : ℕ) → ReplicaRemembers old.node old.store genesis n
      → RemembersInGroup mid.node mid.store g.needs_sync genesis n
  one_recalls genesis n r = keeps.recalls genesis n (begun old.node old.store genesis n r)

  module _ (Metered : Type 0) (new : ReplicaValue) (synced : IsGroupSynced Metered mid g.needs_sync new) where
    pub one_remembers : (genesis : Genesis) (n : ℕ) → ReplicaRemembers old.node old.store genesis n
        → ReplicaRemembers new.node new.store genesis n
    one_remembers genesis n r =
        let k = one_recalls genesis n r in
        subst (λ (x : NodeValue). ReplicaRemembers x new.store genesis n) (sym synced.node)
        (record {
          whose = k.whose;
          keeps = settled_keeps (header_of genesis n) mid.store new.store g.needs_sync mid.node.acceptor.state
              synced.syncs_all k.keeps;
        })

    -- what it says is covered
    pub one_syncs : (genesis : Genesis) (n : ℕ) (x : NodeMessage) → ReplicaRemembers old.node old.store genesis n
        → (d : Datagram) → Contains (batch_of n g.envelopes) d → Spells (said_by genesis n x) d.bytes
        → AllCover m genesis n (disks new.store) x
    one_syncs genesis n x r d listed said =
        settled_covers m genesis n mid.node mid.store new.store g.needs_sync synced.syncs_all (one_recalls genesis n r)
        x (keeps.said genesis n (begun old.node old.store genesis n r)
        (λ y e none. absurd (omega (arith, none.1))) x d listed said)

    -- and permitted
    pub one_goes : Adds first g (λ notes envelopes. (genesis : Genesis) (k : ℕ)
        → RemembersInGroup old.node old.store first.needs_sync genesis k → (h : History) (n : ℕ)
        → FitsOnceSynced m h n old.node old.store first.needs_sync → InputFits h i
        → (sent : List EnvelopeValue) → AreOf sent envelopes
        → LeavesFitOnceSynced m h n mid.node mid.store g.needs_sync notes (batch_of n sent))
        → (notes : List Note) → notes ≡ g.notes → (h : History) (n : ℕ)
        → NodeFits m h n (ReplicaHolds m old.node old.store h.genesis n) (disks old.store) → InputFits h i
        → LeavesFit m h n (ReplicaHolds m new.node new.store h.genesis n) (disks new.store) notes
        (batch_of n g.envelopes)
    one_goes adds notes noted h n f heard =
        let Goes : GroupValue → List Note → List EnvelopeValue → Type 0 = λ first notes envelopes.
        (genesis : Genesis) (k : ℕ) → RemembersInGroup old.node old.store first.needs_sync genesis k
        → (h : History) (n : ℕ) → FitsOnceSynced m h n old.node old.store first.needs_sync → InputFits h i
        → (sent : List EnvelopeValue) → AreOf sent envelopes
        → LeavesFitOnceSynced m h n mid.node mid.store g.needs_sync notes (batch_of n sent) in
        let a : Adds empty_group g (Goes empty_group) =
        subst (λ (k : GroupValue). Adds k g (Goes k)) is adds in
        let r = remembered m h.genesis n f.holding old.node old.store f.shown in
        settled_goes m Metered mid g.needs_sync new synced h.genesis n (one_recalls h.genesis n r) h n notes
        (batch_of n g.envelopes)
        (subst (λ (ns : List Note). LeavesFitOnceSynced m h n mid.node mid.store g.needs_sync ns
        (batch_of n g.envelopes))
        (sym (noted ∙ a.noted))
        (subst (λ (ls : List EnvelopeValue). LeavesFitOnceSynced m h n mid.node mid.store g.needs_sync a.notes
        (batch_of n ls)) (sym a.said)
        (a.are h.genesis n (begun old.node old.store h.genesis n r) h n f heard a.envelopes (λ l c. c))))

  -- what is on the disks
  pub one_leaves : (after : Side → Disk)
      → LeavesInGroup m (λ h. InputFits h i) 132704 old.node old.store first.needs_sync (disks mid.store)
      → GrowsFromBase (disks old.store) (disks mid.store)
      → LeavesInGroup m (λ h. ⊤) 0 mid.node mid.store g.needs_sync after
      → LeavesDisks m (λ h. InputFits h i) 132704 old.node old.store after
  one_leaves after leaves grows last =
      let begins = subst (λ (k : GroupValue).
      LeavesInGroup m (λ h. InputFits h i) 132704 old.node old.store k.needs_sync (disks mid.store)) is leaves in
      record {
        ends = λ h n f heard.
            last.ends h n (keeps.stays h n (begin_fits m h n old.node old.store f) heard) tt;
        covers = λ genesis n x r every. last.covers genesis n x (one_recalls genesis n r)
            (begins.covers genesis n x (begun old.node old.store genesis n r) every);
        room = within_still 132704 (disks old.store) (disks mid.store) after begins.room last.room;
        grows = λ s. omega (arith, grows s, last.room s);
      }

-- where it was not gathered
pub none_leaves : (m : Meaning) (old : ReplicaValue) (i : Input) (first : GroupValue) → first ≡ empty_group
    → (after : Side → Disk)
    → LeavesInGroup m (λ h. InputFits h i) 132704 old.node old.store first.needs_sync after
    → GrowsFromBase (disks old.store) after
    → LeavesDisks m (λ h. InputFits h i) 132704 old.node old.store after
none_leaves m old i first is after leaves grows =
    let begins = subst (λ (k : GroupValue).
    LeavesInGroup m (λ h. InputFits h i) 132704 old.node old.store k.needs_sync after) is leaves in
    record {
      ends = λ h n f heard. begins.ends h n (begin_fits m h n old.node old.store f) heard;
      covers = λ genesis n x r every. begins.covers genesis n x (begun old.node old.store genesis n r) every;
      room = begins.room;
      grows = grows;
    }

-- ---- where its sync failed

pub one_refused : (m : Meaning) (IsText : List ℕ → Type 0) (Honest Metered : Type 0) (old mid new : ReplicaValue)
    (i : Input) (first g : GroupValue) → first ≡ empty_group
    → (Honest → IsGathered m IsText Metered old.node old.store first i mid.node mid.store g)
    → (old.failed ≡ true → ⊥) → mid.store.failures ≡ old.store.failures → mid.node.halted ≡ false
    → (number : ℕ) → IsRefusedInGroup Honest Metered mid new number → new.node ≡ mid.node
    → KeepsItsFile mid.store new.store → number ≡ 7 → (g.needs_sync || g.needs_flush) ≡ true
    → IsRefused Honest Metered old new number
one_refused m IsText Honest Metered old mid new i first g is gathered lived failures awake number was same kept seven
    waiting =
    record {
      told = was.told;
      failures = was.failures ∙ ap (failures_by number) failures;
      calls = λ metered honest. refused_on (calls m IsText Metered old mid new i first g is (gathered honest) metered)
          (passes m IsText Metered old mid new i first g is (gathered honest) metered) new.store.meter number
          (was.calls metered honest);
      earlier = λ eleven alive store_alive further. omega (arith, seven, eleven);
      second = λ honest eleven alive store_alive less. absurd (omega (arith, seven, eleven));
      once = λ ended. absurd (lived ended);
      ends = λ other. was.ends;
      file = λ honest post. switched (one_file m IsText Metered old mid new i first g is (gathered honest) waiting);
      stays = λ honest device post. absurd (device seven);
      halts = λ fourteen. absurd (omega (arith, seven, fourteen));
      awake = λ before other. ap (λ (k : NodeValue). k.halted) same ∙ awake;
    }
  where
    switched : KeepsOrSwitchesFiles old.node old.store mid.store → KeepsOrSwitchesFiles old.node old.store new.store
    switched (inl stays) = inl (kept_then old.store mid.store new.store stays kept)
    switched (inr due) = inr (due.0, kept.1 ∙ due.1)
