-- What a step of a group leaves, and the sync after it.
use Rattle.std.proofs.Common.{◌≡◌, ℕ, ◌+◌, ◌<◌, ◌||◌, Bool, true, false, List, [], ◌∷◌, ◌++◌, length}
use Rattle.std.proofs.Common.{length-append, map, Contains, inl, inr, Result, IsErrAnd, refl, sym, ◌∙◌, ap, subst}
use Rattle.std.proofs.Common.{append_assoc, append-nil, arith, take}
use Rattle.std.specs.Prelude.{⊤, IfErr, if◌then◌else◌}
use Rattle.std.specs.List.{AllByRecursion}
use Rattle.std.proofs.Math.Seq.{take-length}
use Rattle.std.proofs.lemmas.List.Elements.{Contains-append_cases}
use Rattle.lk_types.specs.declared.entry.Entry.{Entry}
use Rattle.lk_disk.specs.declared.device.Side.{Side}
use Rattle.lk_disk.specs.Disk.{contents, fully_synced}
use Rattle.lk_disk.specs.declared.device.Side.TheVariants.{A, B}
use Rattle.lk_log.specs.Rooms.{StaysWithin}
use Rattle.lk_disk.specs.Meters.{CallsSucceed}
use Rattle.lk_disk.specs.declared.meter.Meter.{Meter}
use Rattle.lk_disk.proofs.Devices.{passes_on}
use Rattle.lk_log.specs.Causes.{put_calls, rebase_calls}
use Rattle.lk_messages.specs.Grammar.{Spells}
use Rattle.lk_messages.specs.declared.message.NodeMessage.{NodeMessage}
use Rattle.lk_store_format.specs.Bases.{is_misplaced, generation}
use Rattle.lk_store_format.specs.Entries.{plain, spelling, spelling_of_all, IsStored}
use Rattle.lk_store_format.specs.Formats.{is_mixed}
use Rattle.lk_store_format.specs.Standings.{HasHeader, StandsFor, with_all}
use Rattle.lk_store_format.specs.Values.{HeaderValue, StandingValue, BaseValue}
use Rattle.lk_store_format.specs.declared.stored.Stored.{Stored}
use Rattle.lk_store_format.specs.declared.stored.Stored.TheVariants.{Base, Plain}
use Rattle.lk_store_format.proofs.Mixed.{format-append}
use Rattle.lk_store_format.proofs.Spelling.{spelled-append, spelled_long, all-append}
use Rattle.lk_log.specs.Images.{Image, IsLive, MayLeaveBoth, seen}
use Rattle.lk_log.specs.StoreValue.{StoreValue, pick, disks}
use Rattle.lk_log.specs.Stores.{HoldsEntries, IsOlder, KeepsAtLeast, FitsBase, next_base}
use Rattle.lk_log.proofs.StoreLaws.{all_stand, header_more, plain_append, holds_keeps, live_unique, one_standing}
use Rattle.lk_log.proofs.StoreLaws.{seen_left, synced_live, of_every}
use Rattle.lk_state.specs.Meanings.{Meaning}
use Rattle.lk_agreement_laws.specs.Acceptors.{AcceptorState}
use Rattle.lk_agreement_laws.specs.Datagrams.{said_by}
use Rattle.lk_agreement_laws.specs.Nodes.{PaxosState}
use Rattle.lk_node_interface.specs.Envelopes.{EnvelopeValue, datagram_of, batch_of}
use Rattle.lk_node_interface.specs.Outboxes.{OutboxValue, nothing}
use Rattle.lk_node_interface.specs.declared.input.Input.{Input}
use Rattle.lk_node_interface.specs.declared.note.Note.{Note}
use Rattle.lk_node.specs.Calls.{InputFits, NodeFits, LeavesFit}
use Rattle.lk_node.specs.Entries.{Rests}
use Rattle.lk_node.specs.Histories.{History, Genesis, Datagram, later}
use Rattle.lk_node.specs.Holdings.{Holding}
use Rattle.lk_node.specs.Keeping.{IsDecidedEntry, IsKnown, StoreKeeps, ReplicaHolds}
use Rattle.lk_node.specs.Leavings.{header_of, acceptor_of, DisksFit, AllCover}
use Rattle.lk_node.specs.NodeValue.{NodeValue}
use Rattle.lk_node.specs.NewBases.{standing_of, with_snapshot}
use Rattle.lk_node.specs.Reaching.{EntriesLieNear, RestoresNode, StillRestoresNode, HoldsNear}
use Rattle.lk_node.specs.BorneOut.{text}
use Rattle.lk_node.specs.SafeSteps.{with_entries, ActsSafely}
use Rattle.lk_node.proofs.Nodes.{with_all_behind, near_behind, told_behind, told_synced}
use Rattle.lk_recovery.specs.Compacting.{AreSame, IsDue, IsSameStore, Rebases}
use Rattle.lk_replica.specs.Groups.{as_synced, synced_if, needs_sync_after, StoreKeepsInGroup, RemembersInGroup}
use Rattle.lk_replica.specs.Groups.{HoldsInGroup, GroupFits}
use Rattle.lk_replica.specs.Groups.{GroupLeavesFit, GroupStays, SyncsIfNeeded, GroupValue, Adds}
use Rattle.lk_replica.specs.Groups.{IsGroupCovered, IsRefusedInGroup}
use Rattle.lk_replica.specs.Groups.{LeavesInGroup, IsGroupSynced, MakesRoom, sync_calls, add_step_calls}
use Rattle.lk_node_interface.specs.Faults.{IsStoreFault, fault_number, failures_by, WantsNoMemory}
use Rattle.lk_replica.specs.Posts.{AreOf}
use Rattle.lk_replica.specs.ReplicaValue.{ReplicaValue}
use Rattle.lk_replica.specs.Taking.{IsCutShort}
use Rattle.lk_node_interface.specs.declared.fault.ReplicaFault.{ReplicaFault}
use Rattle.lk_recovery.proofs.Recoveries.{err_as, failed_alone, known_rests, EntriesCover, held_fit, fit_disks}
use Rattle.lk_recovery.proofs.Recoveries.{cover_entries, cover_disks, put_fits, put_covers, same_holds}
use Rattle.lk_replica.proofs.Refusals.{number_of_calls, halted_alone}
use Rattle.lk_replica.proofs.NoSend.{sends_not}
use Rattle.lk_recovery.specs.Remembering.{ReplicaRemembers}
use Rattle.lk_replica.proofs.Behind.{installed_goes}
use Rattle.lk_replica.proofs.Going.{KeepsToo, put_leaves, put_goes, continues, bound, step_syncs, step_covers}
use Rattle.lk_replica.proofs.Standings.{entries_are, decided_leave, entries_behind}
use Rattle.lk_replica.proofs.Thinning.{batch_among}

-- ---- a store as it will be synced

generation_more : (ks more : List Stored) → 0 < generation ks → generation (ks ++ more) ≡ generation ks
generation_more [] more some = absurd (omega arith)
generation_more (Base b ∷ ks) more some = refl
generation_more (Plain e ∷ ks) more some = refl

pub as_synced_holds : (s : StoreValue) (ks ls : List Stored) → HoldsEntries s ks ls
    → HoldsEntries (as_synced s) (ks ++ ls) []
as_synced_holds s ks ls h =
    let some : 0 < generation ks = omega (arith, h.on.older.less) in
    let all = append-nil (ks ++ ls) in
    record {
      on = record {
        synced = (λ i. h.on.synced i ++ h.on.unsynced i) ∙ sym (spelled-append ks ls);
        unsynced = refl;
        fit = subst (AllByRecursion IsStored) (sym all) h.on.fit;
        base_first = subst (λ (l : List Stored). is_misplaced l ≡ false) (sym all) h.on.base_first;
        sound = subst (λ (l : List Stored). is_mixed l ≡ false) (sym all) h.on.sound;
        older = subst (IsOlder s.other_disk) (sym (generation_more ks ls some)) h.on.older;
      };
      generation_is = h.generation_is ∙ sym (generation_more ks ls some);
      format_is = h.format_is ∙ sym (format-append ks ls some);
      header_is = header_more ks ls s.header h.header_is;
    }

-- where all is synced each image has all of it
pub whole_keeps : (s : StoreValue) (ks more : List Stored) → HoldsEntries s (ks ++ more) [] → KeepsAtLeast s ks more
whole_keeps s ks more h image left = (
  length more,
  subst (λ (l : List Stored). IsLive image (ks ++ l)) (sym (take-length more))
      (synced_live s (ks ++ more) h image left),
)

-- ---- what such a store keeps

-- as it will be, it keeps what the acceptor holds
abbrev pub group_keeps : (whose : HeaderValue) (s : StoreValue) (needs_sync : Bool) (a : AcceptorState)
    → StoreKeepsInGroup whose s needs_sync a → StoreKeeps whose (synced_if needs_sync s) a
group_keeps whose s false a k = record {
  entries = k.entries;
  loose = k.loose;
  holds = k.holds;
  decided = k.decided refl;
  header = k.header;
  standing = k.standing;
  stands = k.stands;
  remembers = sym (decided_leave k.loose (acceptor_of k.standing) (k.decided refl)) ∙ k.remembers;
}
group_keeps whose s true a k = record {
  entries = k.entries ++ plain k.loose;
  loose = [];
  holds = as_synced_holds s k.entries (plain k.loose) k.holds;
  decided = tt;
  header = header_more k.entries (plain k.loose) whose k.header;
  standing = with_all k.loose k.standing;
  stands = all_stand k.entries k.standing k.loose k.stands;
  remembers = entries_are k.standing k.loose ∙ k.remembers;
}

-- a group that begins
abbrev pub group_begins : (whose : HeaderValue) (s : StoreValue) (a : AcceptorState) → StoreKeeps whose s a
    → StoreKeepsInGroup whose s false a
group_begins whose s a k = record {
  entries = k.entries;
  loose = k.loose;
  holds = k.holds;
  decided = λ none. k.decided;
  header = k.header;
  standing = k.standing;
  stands = k.stands;
  remembers = decided_leave k.loose (acceptor_of k.standing) k.decided ∙ k.remembers;
}

abbrev pub group_stands : (m : Meaning) (node : NodeValue) (s : StoreValue) (needs_sync : Bool) (genesis : Genesis)
    (n : ℕ) (x : Holding) → HoldsInGroup m node s needs_sync genesis n x
    → ReplicaHolds m node (synced_if needs_sync s) genesis n x
group_stands m node s false genesis n x g =
    record {
      whose = g.whose;
      keeps = group_keeps (header_of genesis n) s false node.acceptor.state g.keeps;
      known = g.known refl;
      held = g.held;
      told = record { near = g.near refl; tells = g.tells };
    }
group_stands m node s true genesis n x g =
    record {
      whose = g.whose;
      keeps = group_keeps (header_of genesis n) s true node.acceptor.state g.keeps;
      known = tt;
      held = g.held;
      told = record { near = tt; tells = g.tells };
    }

abbrev pub group_fits : (m : Meaning) (h : History) (n : ℕ) (node : NodeValue) (s : StoreValue) (needs_sync : Bool)
    → GroupFits m h n node s needs_sync
    → NodeFits m h n (ReplicaHolds m node (synced_if needs_sync s) h.genesis n) (disks (synced_if needs_sync s))
group_fits m h n node s needs_sync f =
    record {
      lawful = f.lawful;
      holding = f.holding;
      shown = group_stands m node s needs_sync h.genesis n f.holding f.shown;
      fits = f.fits;
      left = f.left;
    }

pub begin_fits : (m : Meaning) (h : History) (n : ℕ) (node : NodeValue) (s : StoreValue)
    → NodeFits m h n (ReplicaHolds m node s h.genesis n) (disks s) → GroupStays m h n node s false
begin_fits m h n node s f = record {
  fits = record {
    lawful = f.lawful;
    holding = f.holding;
    shown = record {
      whose = f.shown.whose;
      keeps = group_begins (header_of h.genesis n) s node.acceptor.state f.shown.keeps;
      known = λ none. f.shown.known;
      held = f.shown.held;
      tells = f.shown.told.tells;
      near = λ none. f.shown.told.near;
    };
    fits = f.fits;
    left = f.left;
  };
  rests = all_known h n f.holding.paxos f.shown.keeps.loose f.shown.known
      (known_rests h n f.holding.paxos f.fits.paxos);
  near = f.shown.told.near;
  left = f.left;
}
  where
    all_known : (h : History) (n : ℕ) (w : PaxosState) (es : List Entry) → AllByRecursion (IsKnown w) es
        → ((e : Entry) → IsKnown w e → Rests h e) → AllByRecursion (Rests h) es
    all_known h n w [] all f = tt
    all_known h n w (e ∷ es) all f = (f e all.0, all_known h n w es all.1 f)

-- ---- one more step

pub none_waits : (r w s : Bool) → r ≡ false → false ≡ (if r then false else (w || s)) → (w ≡ false) × (s ≡ false)
none_waits false false false is e = (refl, refl)
none_waits false false true is e = absurd (cc e)
none_waits false true s is e = absurd (cc e)
none_waits true w s is e = absurd (cc is)

module _ (whose : HeaderValue) (old store : StoreValue) (a b : AcceptorState) (out : OutboxValue)
    (is : out.rebase ≡ false) (written : b ≡ with_entries out.entries a)
    (unsynced : out.sync ≡ false → AllByRecursion IsDecidedEntry out.entries) where
  abbrev pub gathers_more : (needs_sync after : Bool) → after ≡ needs_sync_after needs_sync out
      → (k : StoreKeepsInGroup whose old needs_sync a)
      → HoldsEntries store k.entries (plain k.loose ++ plain out.entries)
      → StoreKeepsInGroup whose store after b
  gathers_more needs_sync after e k added = record {
    entries = k.entries;
    loose = k.loose ++ out.entries;
    holds = subst (HoldsEntries store k.entries) (sym (plain_append k.loose out.entries)) added;
    decided = λ none. let z = none_waits out.rebase needs_sync out.sync is (sym none ∙ e) in
        all-append IsDecidedEntry k.loose out.entries (k.decided z.0) (unsynced z.1);
    header = k.header;
    standing = k.standing;
    stands = k.stands;
    remembers = entries_behind k.loose out.entries (acceptor_of k.standing)
        ∙ ap (with_entries out.entries) k.remembers ∙ sym written;
  }

  -- of what it keeps as it will be, it then keeps all, and the entries
  pub keeps_more : (needs_sync after : Bool) → after ≡ needs_sync_after needs_sync out
      → (k : StoreKeepsInGroup whose old needs_sync a)
      → HoldsEntries store k.entries (plain k.loose ++ plain out.entries)
      → KeepsAtLeast (synced_if after store) (group_keeps whose old needs_sync a k).entries
      (plain (group_keeps whose old needs_sync a k).loose ++ plain out.entries)
  keeps_more false false e k added = holds_keeps store k.entries (plain k.loose ++ plain out.entries) added
  keeps_more true false e k added = absurd (let z = none_waits out.rebase true out.sync is e in cc (z.0))
  keeps_more false true e k added =
      whole_keeps (as_synced store) k.entries (plain k.loose ++ plain out.entries)
      (as_synced_holds store k.entries (plain k.loose ++ plain out.entries) added)
  keeps_more true true e k added =
      whole_keeps (as_synced store) (k.entries ++ plain k.loose) (plain out.entries)
      (subst (λ (l : List Stored). HoldsEntries (as_synced store) l [])
      (sym (append_assoc k.entries (plain k.loose) (plain out.entries)))
      (as_synced_holds store k.entries (plain k.loose ++ plain out.entries) added))

  -- and knows what it has written unsynced
  pub known_more : (w : PaxosState) (needs_sync after : Bool) → after ≡ needs_sync_after needs_sync out
      → (loose : List Entry) → (needs_sync ≡ false → AllByRecursion (IsKnown w) loose)
      → (out.sync ≡ false → AllByRecursion (IsKnown w) out.entries)
      → after ≡ false → AllByRecursion (IsKnown w) (loose ++ out.entries)
  known_more w needs_sync after e loose known news none =
      let z = none_waits out.rebase needs_sync out.sync is (sym none ∙ e) in
      all-append (IsKnown w) loose out.entries (known z.0) (news z.1)

  -- so it keeps too
  pub keeps_too : (needs_sync after : Bool) (e : after ≡ needs_sync_after needs_sync out)
      (k : StoreKeepsInGroup whose old needs_sync a)
      (added : HoldsEntries store k.entries (plain k.loose ++ plain out.entries))
      → KeepsToo whose (synced_if after store) b (group_keeps whose old needs_sync a k).standing
      (group_keeps whose old needs_sync a k).loose out.entries out.sync
  keeps_too false false e k added = record {
    keeps = group_keeps whose store false b (gathers_more false false e k added);
    known = λ w known news. known_more w false false e k.loose (λ none. known) news refl;
    told = λ ahead node now t on. told_behind ahead k.standing k.loose out.entries node now t on;
  }
  keeps_too true false e k added = absurd (let z = none_waits out.rebase true out.sync is e in cc (z.0))
  keeps_too false true e k added = record {
    keeps = group_keeps whose store true b (gathers_more false true e k added);
    known = λ w known news. tt;
    told = λ ahead node now t on. told_synced ahead k.standing (k.loose ++ out.entries) now
        (told_behind ahead k.standing k.loose out.entries node now t on);
  }
  keeps_too true true e k added = record {
    keeps = group_keeps whose store true b (gathers_more true true e k added);
    known = λ w known news. tt;
    told = λ ahead node now t on. record {
      near = tt;
      tells = subst (λ (z : StandingValue). RestoresNode ahead z now) (sym
          (with_all_behind k.loose out.entries k.standing))
          (on ahead (with_all k.loose k.standing) t.tells).1;
    };
  }

-- what it knew unsynced as it will be, it knew unsynced
known_before : (m : Meaning) (h : History) (n : ℕ) (node : NodeValue) (s : StoreValue) (needs_sync : Bool)
    (f : GroupFits m h n node s needs_sync) (w : PaxosState)
    → AllByRecursion (IsKnown w) (group_fits m h n node s needs_sync f).shown.keeps.loose → needs_sync ≡ false
    → AllByRecursion (IsKnown w) f.shown.keeps.loose
known_before m h n node s false f w known none = known
known_before m h n node s true f w known none = absurd (cc none)

module _ (m : Meaning) (h : History) (n : ℕ) (node new : NodeValue) (old store : StoreValue) (needs_sync : Bool)
    (i : Input) (out : OutboxValue)
    (f : GroupFits m h n node old needs_sync) (heard : InputFits h i)
    (g : ActsSafely m (λ k. InputFits k i) node new nothing out) (on : StillRestoresNode node new out.entries)
    (is : out.rebase ≡ false)
    (added : HoldsEntries store f.shown.keeps.entries (plain f.shown.keeps.loose ++ plain out.entries)) where
  abbrev mine : HeaderValue
  mine = header_of h.genesis n

  abbrev after : Bool
  after = needs_sync_after needs_sync out

  abbrev fits : NodeFits m h n (ReplicaHolds m node (synced_if needs_sync old) h.genesis n)
      (disks (synced_if needs_sync old))
  fits = group_fits m h n node old needs_sync f

  abbrev pub gathered_more : StoreKeepsInGroup mine store after new.acceptor.state
  gathered_more = let b = bound m (λ k. InputFits k i) node new out g in
      gathers_more mine old store node.acceptor.state new.acceptor.state out is b.written b.unsynced needs_sync
      after refl f.shown.keeps added

  at_least : KeepsAtLeast (synced_if after store) fits.shown.keeps.entries
      (plain fits.shown.keeps.loose ++ plain out.entries)
  at_least = let b = bound m (λ k. InputFits k i) node new out g in by_waits b.written b.unsynced needs_sync f added
    where
      by_waits : new.acceptor.state ≡ with_entries out.entries node.acceptor.state
          → (out.sync ≡ false → AllByRecursion IsDecidedEntry out.entries) → (w : Bool) (k : GroupFits m h n node old w)
          → HoldsEntries store k.shown.keeps.entries (plain k.shown.keeps.loose ++ plain out.entries)
          → KeepsAtLeast (synced_if (needs_sync_after w out) store)
          (group_fits m h n node old w k).shown.keeps.entries
          (plain (group_fits m h n node old w k).shown.keeps.loose ++ plain out.entries)
      by_waits written unsynced false k added =
          keeps_more mine old store node.acceptor.state new.acceptor.state out is written unsynced false
          (needs_sync_after false out) refl k.shown.keeps added
      by_waits written unsynced true k added =
          keeps_more mine old store node.acceptor.state new.acceptor.state out is written unsynced true
          (needs_sync_after true out) refl k.shown.keeps added

  too : KeepsToo mine (synced_if after store) new.acceptor.state fits.shown.keeps.standing
      fits.shown.keeps.loose out.entries out.sync
  too = let b = bound m (λ k. InputFits k i) node new out g in by_waits b.written b.unsynced needs_sync f added
    where
      by_waits : new.acceptor.state ≡ with_entries out.entries node.acceptor.state
          → (out.sync ≡ false → AllByRecursion IsDecidedEntry out.entries) → (w : Bool) (k : GroupFits m h n node old w)
          → HoldsEntries store k.shown.keeps.entries (plain k.shown.keeps.loose ++ plain out.entries)
          → KeepsToo mine (synced_if (needs_sync_after w out) store) new.acceptor.state
          (group_fits m h n node old w k).shown.keeps.standing
          (group_fits m h n node old w k).shown.keeps.loose out.entries out.sync
      by_waits written unsynced false k added =
          keeps_too mine old store node.acceptor.state new.acceptor.state out is written unsynced false
          (needs_sync_after false out) refl k.shown.keeps added
      by_waits written unsynced true k added =
          keeps_too mine old store node.acceptor.state new.acceptor.state out is written unsynced true
          (needs_sync_after true out) refl k.shown.keeps added

  pub leaves_as_sent : DisksFit m h n (disks (synced_if after store))
  leaves_as_sent =
      put_leaves m h n node new (synced_if needs_sync old) (synced_if after store) i out fits heard g on at_least

  known_now : (w : PaxosState) → AllByRecursion (IsKnown w) fits.shown.keeps.loose
      → (out.sync ≡ false → AllByRecursion (IsKnown w) out.entries) → after ≡ false
      → AllByRecursion (IsKnown w) (f.shown.keeps.loose ++ out.entries)
  known_now w known news =
      let b = bound m (λ k. InputFits k i) node new out g in
      known_more mine old store node.acceptor.state new.acceptor.state out is b.written b.unsynced w needs_sync after
      refl f.shown.keeps.loose (known_before m h n node old needs_sync f w known) news

  tells_now : RestoresNode h.genesis.alpha (with_all (f.shown.keeps.loose ++ out.entries) f.shown.keeps.standing) new
  tells_now =
      let k = f.shown.keeps in
      subst (λ (z : StandingValue). RestoresNode h.genesis.alpha z new)
      (sym (with_all_behind k.loose out.entries k.standing))
      (on h.genesis.alpha (with_all k.loose k.standing) f.shown.tells).1

  near_now : EntriesLieNear h.genesis.alpha f.shown.keeps.standing f.shown.keeps.loose
      → EntriesLieNear h.genesis.alpha f.shown.keeps.standing (f.shown.keeps.loose ++ out.entries)
  near_now near =
      let k = f.shown.keeps in
      near_behind h.genesis.alpha k.standing k.loose out.entries near
      (on h.genesis.alpha (with_all k.loose k.standing) f.shown.tells).0

  near_after : after ≡ false
      → EntriesLieNear h.genesis.alpha f.shown.keeps.standing (f.shown.keeps.loose ++ out.entries)
  near_after none = near_now (f.shown.near (none_waits out.rebase needs_sync out.sync is (sym none)).0)

  -- it goes on, and says these of its envelopes
  pub add_step_goes : (sent : List EnvelopeValue) → AreOf sent out.envelopes
      → GroupLeavesFit m h n new store after out.notes (batch_of n sent)
  add_step_goes sent among =
      let s = continues m h n node new (synced_if needs_sync old) (synced_if after store) i out fits heard g in
      let p = put_goes m h n node new (synced_if needs_sync old)
      (synced_if after store) i out fits heard g on too leaves_as_sent sent among in
      record {
        holding = s.holding;
        shown = record {
          whose = s.whose;
          keeps = gathered_more;
          known = known_now s.holding.paxos s.known s.known_unsynced;
          held = s.held;
          tells = tells_now;
          near = near_after;
        };
        fits = s.fits;
        may = λ d c. s.may d (batch_among n sent out.envelopes among d c);
        noted = s.noted;
        left = p.left;
      }

-- ---- the same in a history in which nothing of it is sent

module _ (m : Meaning) (h : History) (n : ℕ) (node new : NodeValue) (old store : StoreValue) (needs_sync : Bool)
    (i : Input) (out : OutboxValue)
    (s : GroupStays m h n node old needs_sync) (heard : InputFits h i)
    (g : ActsSafely m (λ k. InputFits k i) node new nothing out) (on : StillRestoresNode node new out.entries) where
  abbrev pretended : NodeFits m h n (ReplicaHolds m node (synced_if needs_sync old) h.genesis n)
      (disks (synced_if needs_sync old))
  pretended = group_fits m h n node old needs_sync s.fits

  -- what it writes rests on what was sent
  rests_too : AllByRecursion (Rests h) (s.fits.shown.keeps.loose ++ out.entries)
  rests_too = all-append (Rests h) s.fits.shown.keeps.loose out.entries s.rests
      (continues m h n node new (synced_if needs_sync old) old i out pretended heard g).rests

  near_too : EntriesLieNear h.genesis.alpha s.fits.shown.keeps.standing (s.fits.shown.keeps.loose ++ out.entries)
  near_too =
      let k = s.fits.shown.keeps in
      near_behind h.genesis.alpha k.standing k.loose out.entries s.near
      (on h.genesis.alpha (with_all k.loose k.standing) s.fits.shown.tells).0

  -- after any exit of the put whatever a stop may leave of the files fits
  pub group_leaves : KeepsAtLeast store s.fits.shown.keeps.entries
      (plain s.fits.shown.keeps.loose ++ plain out.entries) → DisksFit m h n (disks store)
  group_leaves keeps =
      let k = s.fits.shown.keeps in
      put_fits m h n old store k.entries k.standing k.loose out.entries k.holds k.stands keeps rests_too near_too s.left

  pub group_stays : out.rebase ≡ false
      → KeepsAtLeast store s.fits.shown.keeps.entries (plain s.fits.shown.keeps.loose ++ plain out.entries)
      → HoldsEntries store s.fits.shown.keeps.entries (plain s.fits.shown.keeps.loose ++ plain out.entries)
      → GroupStays m h n new store (needs_sync_after needs_sync out)
  group_stays is keeps added =
      let v = continues m h n node new (synced_if needs_sync old) old i out pretended heard g in
      record {
        fits = record {
          lawful = s.fits.lawful;
          holding = v.holding;
          shown = record {
            whose = v.whose;
            keeps = gathered_more m h n node new old store needs_sync i out s.fits heard g on is added;
            known = known_now m h n node new old store needs_sync i out s.fits heard g on is added
                v.holding.paxos v.known v.known_unsynced;
            held = v.held;
            tells = tells_now m h n node new old store needs_sync i out s.fits heard g on is added;
            near = near_after m h n node new old store needs_sync i out s.fits heard g on is added;
          };
          fits = v.fits;
          left = leaves_as_sent m h n node new old store needs_sync i out s.fits heard g on is added;
        };
        rests = rests_too;
        near = near_too;
        left = group_leaves keeps;
      }

-- ---- sync before send, whatever has happened

-- as it will be, it remembers
abbrev pub recalled : (node : NodeValue) (s : StoreValue) (needs_sync : Bool) (genesis : Genesis) (n : ℕ)
    → RemembersInGroup node s needs_sync genesis n → ReplicaRemembers node (synced_if needs_sync s) genesis n
recalled node s needs_sync genesis n r =
    record { whose = r.whose; keeps = group_keeps (header_of genesis n) s needs_sync node.acceptor.state r.keeps }

module _ (m : Meaning) (genesis : Genesis) (n : ℕ) (node new : NodeValue) (old store : StoreValue) (needs_sync : Bool)
    (Heard : History → Type 0) (out : OutboxValue)
    (r : RemembersInGroup node old needs_sync genesis n) (g : ActsSafely m Heard node new nothing out) (is : out.rebase
    ≡ false)
    (added : HoldsEntries store r.keeps.entries (plain r.keeps.loose ++ plain out.entries)) where
  pub add_step_recalls : RemembersInGroup new store (needs_sync_after needs_sync out) genesis n
  add_step_recalls =
      let b = bound m Heard node new out g in
      record {
        whose = b.header ∙ r.whose;
        keeps = gathers_more (header_of genesis n) old store node.acceptor.state new.acceptor.state out is b.written
            b.unsynced needs_sync (needs_sync_after needs_sync out) refl r.keeps added;
      }

  -- once all is synced that waits for it, whatever the step says is covered
  pub add_step_syncs : (x : NodeMessage) (d : Datagram) → Contains (batch_of n out.envelopes) d
      → Spells (said_by genesis n x) d.bytes
      → AllCover m genesis n (disks (synced_if (needs_sync_after needs_sync out) store)) x
  add_step_syncs x d c said =
      step_syncs m genesis n node new (synced_if needs_sync old)
      (synced_if (needs_sync_after needs_sync out) store) Heard out (recalled node old needs_sync genesis n r) g
      (group_keeps (header_of genesis n) store
      (needs_sync_after needs_sync out) new.acceptor.state add_step_recalls.keeps) x d c said

  -- and whatever was
  pub add_step_covers : (x : NodeMessage) → AllCover m genesis n (disks (synced_if needs_sync old)) x
      → AllCover m genesis n (disks (synced_if (needs_sync_after needs_sync out) store)) x
  add_step_covers x c =
      let b = bound m Heard node new out g in
      step_covers m genesis n node new (synced_if needs_sync old)
      (synced_if (needs_sync_after needs_sync out) store) Heard out (recalled node old needs_sync genesis n r) g
      (keeps_more (header_of genesis n) old store node.acceptor.state new.acceptor.state out is b.written b.unsynced
      needs_sync (needs_sync_after needs_sync out) refl r.keeps added) x c

-- of the files as they are
pub add_step_still_covers : (m : Meaning) (genesis : Genesis) (n : ℕ) (node : NodeValue) (old store : StoreValue)
    (needs_sync : Bool) (es : List Entry) (r : RemembersInGroup node old needs_sync genesis n)
    → KeepsAtLeast store r.keeps.entries (plain r.keeps.loose ++ plain es) → (x : NodeMessage)
    → AllCover m genesis n (disks old) x → AllCover m genesis n (disks store) x
add_step_still_covers m genesis n node old store needs_sync es r keeps x c =
    put_covers m genesis n old store r.keeps.entries r.keeps.loose es x r.keeps.holds keeps c

-- ---- the sync

pub settled_keeps : (whose : HeaderValue) (old new : StoreValue) (needs_sync : Bool) (a : AcceptorState)
    → SyncsIfNeeded needs_sync old new → StoreKeepsInGroup whose old needs_sync a → StoreKeeps whose new a
settled_keeps whose old new false a same k =
    subst (λ (s : StoreValue). StoreKeeps whose s a) (sym same) (group_keeps whose old false a k)
settled_keeps whose old new true a synced k = record {
  entries = k.entries ++ plain k.loose;
  loose = [];
  holds = synced k.entries (plain k.loose) k.holds;
  decided = tt;
  header = header_more k.entries (plain k.loose) whose k.header;
  standing = with_all k.loose k.standing;
  stands = all_stand k.entries k.standing k.loose k.stands;
  remembers = entries_are k.standing k.loose ∙ k.remembers;
}

-- what a sync of something that waited has made of what the node holds
abbrev settled_shown : (m : Meaning) (node : NodeValue) (old new : StoreValue) (genesis : Genesis) (n : ℕ) (x : Holding)
    → SyncsIfNeeded true old new → HoldsInGroup m node old true genesis n x → ReplicaHolds m node new genesis n x
settled_shown m node old new genesis n x synced g =
    let k = g.keeps in
    record {
      whose = g.whose;
      keeps = record {
        entries = k.entries ++ plain k.loose;
        loose = [];
        holds = synced k.entries (plain k.loose) k.holds;
        decided = tt;
        header = header_more k.entries (plain k.loose) (header_of genesis n) k.header;
        standing = with_all k.loose k.standing;
        stands = all_stand k.entries k.standing k.loose k.stands;
        remembers = entries_are k.standing k.loose ∙ k.remembers;
      };
      known = tt;
      held = g.held;
      told = record { near = tt; tells = g.tells };
    }

-- the group is over: the node fits, in the history in which all that the group said is sent
pub settled_fits : (m : Meaning) (h : History) (n : ℕ) (node : NodeValue) (old new : StoreValue) (needs_sync : Bool)
    → SyncsIfNeeded needs_sync old new → GroupFits m h n node old needs_sync
    → NodeFits m h n (ReplicaHolds m node new h.genesis n) (disks new)
settled_fits m h n node old new false same f =
    subst (λ (s : StoreValue). NodeFits m h n (ReplicaHolds m node s h.genesis n) (disks s)) (sym same)
    (group_fits m h n node old false f)
settled_fits m h n node old new true synced f =
    let k = f.shown.keeps in
    let all = k.entries ++ plain k.loose in
    record {
      lawful = f.lawful;
      holding = f.holding;
      shown = settled_shown m node old new h.genesis n f.holding synced f.shown;
      fits = f.fits;
      left = fit_disks m h n new all (with_all k.loose k.standing) [] (synced k.entries (plain k.loose) k.holds)
          (all_stand k.entries k.standing k.loose k.stands) tt tt
          (held_fit m h n (as_synced old) all [] (as_synced_holds old k.entries (plain k.loose) k.holds) f.left);
    }

-- and whatever was covered as it would be is covered
pub settled_covers : (m : Meaning) (genesis : Genesis) (n : ℕ) (node : NodeValue) (old new : StoreValue)
    (needs_sync : Bool) → SyncsIfNeeded needs_sync old new → RemembersInGroup node old needs_sync genesis n
    → (x : NodeMessage) → AllCover m genesis n (disks (synced_if needs_sync old)) x
    → AllCover m genesis n (disks new) x
settled_covers m genesis n node old new false same r x c =
    subst (λ (s : StoreValue). AllCover m genesis n (disks s) x) (sym same) c
settled_covers m genesis n node old new true synced r x c =
    let k = r.keeps in
    let all = k.entries ++ plain k.loose in
    cover_disks m genesis n new all [] x (synced k.entries (plain k.loose) k.holds)
    (of_every (EntriesCover genesis n x) (as_synced old) all [] (header_of genesis n) (text m genesis [])
    (as_synced_holds old k.entries (plain k.loose) k.holds) (cover_entries m genesis n (disks (as_synced old)) x c))

-- whatever a stop may leave fits, and covers what was covered, after any exit of it
pub settle_leaves : (m : Meaning) (h : History) (n : ℕ) (node : NodeValue) (old new : StoreValue) (needs_sync : Bool)
    → (s : GroupStays m h n node old needs_sync)
    → KeepsAtLeast new s.fits.shown.keeps.entries (plain s.fits.shown.keeps.loose) → DisksFit m h n (disks new)
settle_leaves m h n node old new needs_sync s keeps =
    let k = s.fits.shown.keeps in
    put_fits m h n old new k.entries k.standing k.loose [] k.holds k.stands
    (subst (KeepsAtLeast new k.entries) (sym (append-nil (plain k.loose))) keeps)
    (subst (AllByRecursion (Rests h)) (sym (append-nil k.loose)) s.rests)
    (subst (EntriesLieNear h.genesis.alpha k.standing) (sym (append-nil k.loose)) s.near) s.left

pub settle_covers : (m : Meaning) (genesis : Genesis) (n : ℕ) (node : NodeValue) (old new : StoreValue)
    (needs_sync : Bool) (r : RemembersInGroup node old needs_sync genesis n)
    → KeepsAtLeast new r.keeps.entries (plain r.keeps.loose) → (x : NodeMessage) → AllCover m genesis n (disks old) x
    → AllCover m genesis n (disks new) x
settle_covers m genesis n node old new needs_sync r keeps x c =
    put_covers m genesis n old new r.keeps.entries r.keeps.loose [] x r.keeps.holds
    (subst (KeepsAtLeast new r.keeps.entries) (sym (append-nil (plain r.keeps.loose))) keeps) c

-- ---- a step that rebases, after a sync where something waited for it

rebased_waits : (needs_sync : Bool) (out : OutboxValue) → out.rebase ≡ true → needs_sync_after needs_sync out ≡ false
rebased_waits needs_sync out is = by_rebase out.rebase is
  where
    by_rebase : (r : Bool) → r ≡ true → (if r then false else (needs_sync || out.sync)) ≡ false
    by_rebase true is = refl
    by_rebase false is = absurd (cc is)

begin_goes : (m : Meaning) (h : History) (n : ℕ) (node : NodeValue) (s : StoreValue) (notes : List Note)
    (batch : List Datagram) → LeavesFit m h n (ReplicaHolds m node s h.genesis n) (disks s) notes batch
    → GroupLeavesFit m h n node s false notes batch
begin_goes m h n node s notes batch g = record {
  holding = g.holding;
  shown = record {
    whose = g.shown.whose;
    keeps = group_begins (header_of h.genesis n) s node.acceptor.state g.shown.keeps;
    known = λ none. g.shown.known;
    held = g.shown.held;
    tells = g.shown.told.tells;
    near = λ none. g.shown.told.near;
  };
  fits = g.fits;
  may = g.may;
  noted = g.noted;
  left = g.left;
}

pub begun : (node : NodeValue) (s : StoreValue) (genesis : Genesis) (n : ℕ) → ReplicaRemembers node s genesis n
    → RemembersInGroup node s false genesis n
begun node s genesis n r =
    record { whose = r.whose; keeps = group_begins (header_of genesis n) s node.acceptor.state r.keeps }

pub begin_recalls : (node : NodeValue) (s : StoreValue) (genesis : Genesis) (n : ℕ) (needs_sync : Bool)
    (out : OutboxValue) → out.rebase ≡ true → ReplicaRemembers node s genesis n
    → RemembersInGroup node s (needs_sync_after needs_sync out) genesis n
begin_recalls node s genesis n needs_sync out is r =
    subst (λ (w : Bool). RemembersInGroup node s w genesis n) (sym (rebased_waits needs_sync out is))
    (begun node s genesis n r)

-- what is on its files it has synced
pub based_cover : (m : Meaning) (genesis : Genesis) (n : ℕ) (s : StoreValue) (needs_sync : Bool) (out : OutboxValue)
    (x : NodeMessage) → out.rebase ≡ true → AllCover m genesis n (disks s) x
    → AllCover m genesis n (disks (synced_if (needs_sync_after needs_sync out) s)) x
based_cover m genesis n s needs_sync out x is c =
    subst (λ (w : Bool). AllCover m genesis n (disks (synced_if w s)) x) (sym (rebased_waits needs_sync out is)) c

module _ (m : Meaning) (h : History) (n : ℕ) (node stepped : NodeValue) (mid new : StoreValue) (needs_sync : Bool)
    (i : Input) (out : OutboxValue)
    (f : NodeFits m h n (ReplicaHolds m node mid h.genesis n) (disks mid)) (heard : InputFits h i)
    (g : ActsSafely m (λ k. InputFits k i) node stepped nothing out) (is : out.rebase ≡ true)
    (may : FitsBase (standing_of stepped)) (close : HoldsNear stepped)
    (holds : HoldsEntries new (Base (next_base mid (standing_of stepped)) ∷ []) []) where
  pub based_goes : (sent : List EnvelopeValue) → AreOf sent out.envelopes
      → GroupLeavesFit m h n (with_snapshot stepped) new (needs_sync_after needs_sync out) out.notes (batch_of n sent)
  based_goes sent among =
      subst (λ (w : Bool). GroupLeavesFit m h n (with_snapshot stepped) new w out.notes (batch_of n sent))
      (sym (rebased_waits needs_sync out is))
      (begin_goes m h n (with_snapshot stepped) new out.notes (batch_of n sent)
      (installed_goes m h n node stepped mid i out f heard g is new may close holds sent among))

  pub based_stays : DisksFit m h n (disks new)
      → GroupStays m h n (with_snapshot stepped) new (needs_sync_after needs_sync out)
  based_stays left =
      let q = installed_goes m h n node stepped mid i out f heard g is new may close holds []
      (λ l c. absurd (omega (arith, c.1))) in
      subst (λ (w : Bool). GroupStays m h n (with_snapshot stepped) new w) (sym (rebased_waits needs_sync out is))
      (begin_fits m h n (with_snapshot stepped) new
      (record { lawful = f.lawful; holding = q.holding; shown = q.shown; fits = q.fits; left = left }))

-- ---- a store that was asked how long its live file is

pub asked_same : (old new : StoreValue) → IsSameStore old new → AreSame (disks old) (disks new)
asked_same old new same s i = pick (same.live i) (same.live_disk i) (same.other_disk i) s

module _ (m : Meaning) (old new : StoreValue) (same : IsSameStore old new) where
  pub same_as_sent : (needs_sync : Bool) → disks (synced_if needs_sync new) ≡ disks (synced_if needs_sync old)
  same_as_sent true = λ i. pick (same.live i) (fully_synced (same.live_disk i)) (same.other_disk i)
  same_as_sent false = λ i. pick (same.live i) (same.live_disk i) (same.other_disk i)

  abbrev same_gathers : (whose : HeaderValue) (needs_sync : Bool) (a : AcceptorState)
      → StoreKeepsInGroup whose old needs_sync a
      → StoreKeepsInGroup whose new needs_sync a
  same_gathers whose needs_sync a k = record {
    entries = k.entries;
    loose = k.loose;
    holds = same_holds m old new same k.entries (plain k.loose) k.holds;
    decided = k.decided;
    header = k.header;
    standing = k.standing;
    stands = k.stands;
    remembers = k.remembers;
  }

  pub same_recalls : (node : NodeValue) (needs_sync : Bool) (genesis : Genesis) (n : ℕ)
      → RemembersInGroup node old needs_sync genesis n → RemembersInGroup node new needs_sync genesis n
  same_recalls node needs_sync genesis n r =
      record { whose = r.whose; keeps = same_gathers (header_of genesis n) needs_sync node.acceptor.state r.keeps }

  abbrev pub same_group_fits : (h : History) (n : ℕ) (node : NodeValue) (needs_sync : Bool)
      → GroupFits m h n node old needs_sync → GroupFits m h n node new needs_sync
  same_group_fits h n node needs_sync f = record {
    lawful = f.lawful;
    holding = f.holding;
    shown = record {
      whose = f.shown.whose;
      keeps = same_gathers (header_of h.genesis n) needs_sync node.acceptor.state f.shown.keeps;
      known = f.shown.known;
      held = f.shown.held;
      tells = f.shown.tells;
      near = f.shown.near;
    };
    fits = f.fits;
    left = subst (DisksFit m h n) (sym (same_as_sent needs_sync)) f.left;
  }

  pub same_group_stays : (h : History) (n : ℕ) (node : NodeValue) (needs_sync : Bool)
      → GroupStays m h n node old needs_sync → GroupStays m h n node new needs_sync
  same_group_stays h n node needs_sync s =
      record {
        fits = same_group_fits h n node needs_sync s.fits;
        rests = s.rests;
        near = s.near;
        left = subst (DisksFit m h n) (sym (same_as_sent false)) s.left;
      }

  pub same_group_covers : (genesis : Genesis) (n : ℕ) (x : NodeMessage) (needs_sync : Bool)
      → AllCover m genesis n (disks (synced_if needs_sync old)) x
      → AllCover m genesis n (disks (synced_if needs_sync new)) x
  same_group_covers genesis n x needs_sync = subst (λ d. AllCover m genesis n d x) (sym (same_as_sent needs_sync))

-- ---- a group, in the words of single calls

-- where all bytes are synced no entry is unsynced
none_unsynced : (s : StoreValue) (ks : List Stored) (loose : List Entry)
    → HoldsEntries (as_synced s) ks (plain loose) → loose ≡ []
none_unsynced s ks [] h = refl
none_unsynced s ks (e ∷ loose) h =
    let none = ap (λ (l : List ℕ). length l) h.on.unsynced in
    absurd (omega (
      arith,
      none,
      length-append (spelling (Plain e)) (spelling_of_all (plain loose)),
      spelled_long (Plain e),
    ))

-- and what a store holds of it stands for one thing
one_told : (s : StoreValue) (ks fs : List Stored) (loose more : List Entry) (t u : StandingValue)
    → HoldsEntries (as_synced s) ks (plain loose) → StandsFor ks t → HoldsEntries s fs (plain more) → StandsFor fs u
    → with_all loose t ≡ with_all more u
one_told s ks fs loose more t u h stands k others =
    let none = none_unsynced s ks loose h in
    let alone : HoldsEntries (as_synced s) ks [] = subst
    (λ (l : List Entry). HoldsEntries (as_synced s) ks (plain l)) none h in
    let image : Image = seen (disks (as_synced s)) in
    let left : MayLeaveBoth (disks (as_synced s)) image = seen_left (disks (as_synced s)) in
    let same : ks ≡ fs ++ plain more =
    live_unique image ks (fs ++ plain more) (synced_live (as_synced s) ks alone image left)
    (synced_live (as_synced s) (fs ++ plain more) (as_synced_holds s fs (plain more) k) image left) in
    ap (λ (l : List Entry). with_all l t) none
    ∙ one_standing (fs ++ plain more) t (with_all more u) (subst (λ (es : List Stored). StandsFor es t) same stands)
    (all_stand fs u more others)

not_waiting : {A : Type 0} → true ≡ false → A
not_waiting both = absurd (cc both)

-- what it holds as it will be, it holds as it is
abbrev shown_as_gathered : (m : Meaning) (genesis own : Genesis) (k n : ℕ) (node : NodeValue) (s : StoreValue)
    (x : Holding) → RemembersInGroup node s true own k → ReplicaHolds m node (as_synced s) genesis n x
    → HoldsInGroup m node s true genesis n x
shown_as_gathered m genesis own k n node s x r f =
    let was = r.keeps in
    let now = f.keeps in
    record {
      whose = f.whose;
      keeps = record {
        entries = was.entries;
        loose = was.loose;
        holds = was.holds;
        decided = was.decided;
        header = subst (HasHeader was.entries) (sym r.whose ∙ f.whose) was.header;
        standing = was.standing;
        stands = was.stands;
        remembers = was.remembers;
      };
      known = λ none. not_waiting none;
      held = f.held;
      tells = subst (λ (z : StandingValue). RestoresNode genesis.alpha z node)
          (one_told s now.entries was.entries now.loose was.loose now.standing was.standing now.holds now.stands
          was.holds was.stands) f.told.tells;
      near = λ none. not_waiting none;
    }

-- what fits as it will be fits as it is
pub as_gathered : (m : Meaning) (genesis : Genesis) (k : ℕ) (node : NodeValue) (s : StoreValue) (needs_sync : Bool)
    → RemembersInGroup node s needs_sync genesis k → (h : History) (n : ℕ)
    → NodeFits m h n (ReplicaHolds m node (synced_if needs_sync s) h.genesis n) (disks (synced_if needs_sync s))
    → GroupFits m h n node s needs_sync
as_gathered m genesis k node s false r h n f = (begin_fits m h n node s f).fits
as_gathered m genesis k node s true r h n f = record {
  lawful = f.lawful;
  holding = f.holding;
  shown = shown_as_gathered m h.genesis genesis k n node s f.holding r f.shown;
  fits = f.fits;
  left = f.left;
}

pub goes_as_sent : (m : Meaning) (h : History) (n : ℕ) (node : NodeValue) (s : StoreValue) (needs_sync : Bool)
    (notes : List Note) (batch : List Datagram) → GroupLeavesFit m h n node s needs_sync notes batch
    → LeavesFit m h n (ReplicaHolds m node (synced_if needs_sync s) h.genesis n)
    (disks (synced_if needs_sync s)) notes batch
goes_as_sent m h n node s needs_sync notes batch g = record {
  holding = g.holding;
  shown = group_stands m node s needs_sync h.genesis n g.holding g.shown;
  fits = g.fits;
  may = g.may;
  noted = g.noted;
  left = g.left;
}

-- one more step: what it says is covered, and what was said before
pub says_more : (m : Meaning) (genesis : Genesis) (n : ℕ) (old new : GroupValue) (before after : StoreValue)
    → ((x : NodeMessage) → AllCover m genesis n (disks (synced_if old.needs_sync before)) x
    → AllCover m genesis n (disks (synced_if new.needs_sync after)) x)
    → ((x : NodeMessage) → Adds old new
    (λ notes envelopes. (d : Datagram) → Contains (batch_of n envelopes) d → Spells (said_by genesis n x) d.bytes
    → AllCover m genesis n (disks (synced_if new.needs_sync after)) x))
    → IsGroupCovered m genesis n old before → IsGroupCovered m genesis n new after
says_more m genesis n old new first last still adds was x d c said =
    let a = adds x in
    let listed : Contains (batch_of n old.envelopes ++ batch_of n a.envelopes) d =
    subst (λ (l : List Datagram). Contains l d)
    (ap (batch_of n) a.said ∙ map_append (datagram_of n) old.envelopes a.envelopes) c in
    elim (Contains-append_cases (batch_of n old.envelopes) (batch_of n a.envelopes) d listed) [
      | inl earlier ↦ still x (was x d earlier said)
      | inr now ↦ a.are d now said
    ]
  where
    map_append : {X Y : Type 0} (f : X → Y) (xs ys : List X) → map f (xs ++ ys) ≡ map f xs ++ map f ys
    map_append f [] ys = refl
    map_append f (x ∷ xs) ys = ap (λ l. f x ∷ l) (map_append f xs ys)

-- ---- the end of a group

-- what a sync leaves on the disks, after any exit
pub ended_in_group : (m : Meaning) (old : ReplicaValue) (needs_sync : Bool) (after : StoreValue)
    → ((ks ls : List Stored) → HoldsEntries old.store ks ls → KeepsAtLeast after ks ls)
    → StaysWithin 0 (disks old.store) (disks after)
    → LeavesInGroup m (λ h. ⊤) 0 old.node old.store needs_sync (disks after)
ended_in_group m old needs_sync after any room = record {
  ends = λ h n s heard. let k = s.fits.shown.keeps in
      settle_leaves m h n old.node old.store after needs_sync s (any k.entries (plain k.loose) k.holds);
  covers = λ genesis n x r every. settle_covers m genesis n old.node old.store after needs_sync r
      (any r.keeps.entries (plain r.keeps.loose) r.keeps.holds) x every;
  room = room;
}

-- the node fits to each history to which it fitted as it would be
pub settled_node_fits : (m : Meaning) (Metered : Type 0) (old : ReplicaValue) (needs_sync : Bool) (new : ReplicaValue)
    → IsGroupSynced Metered old needs_sync new → (genesis : Genesis) (k : ℕ)
    → RemembersInGroup old.node old.store needs_sync genesis k → (h : History) (n : ℕ)
    → NodeFits m h n (ReplicaHolds m old.node (synced_if needs_sync old.store) h.genesis n)
    (disks (synced_if needs_sync old.store)) → NodeFits m h n (ReplicaHolds m new.node new.store h.genesis n)
    (disks new.store)
settled_node_fits m Metered old needs_sync new s genesis k r h n f =
    subst (λ (x : NodeValue). NodeFits m h n (ReplicaHolds m x new.store h.genesis n) (disks new.store)) (sym s.node)
    (settled_fits m h n old.node old.store new.store needs_sync s.syncs_all
    (as_gathered m genesis k old.node old.store needs_sync r h n f))

-- and goes on with what it may send
pub settled_goes : (m : Meaning) (Metered : Type 0) (old : ReplicaValue) (needs_sync : Bool) (new : ReplicaValue)
    → IsGroupSynced Metered old needs_sync new → (genesis : Genesis) (k : ℕ)
    → RemembersInGroup old.node old.store needs_sync genesis k → (h : History) (n : ℕ) (notes : List Note)
    (batch : List Datagram)
    → LeavesFit m h n (ReplicaHolds m old.node (synced_if needs_sync old.store) h.genesis n)
    (disks (synced_if needs_sync old.store)) notes batch
    → LeavesFit m h n (ReplicaHolds m new.node new.store h.genesis n) (disks new.store) notes batch
settled_goes m Metered old needs_sync new s genesis k r h n notes batch f =
    subst (λ (x : NodeValue). LeavesFit m h n (ReplicaHolds m x new.store h.genesis n) (disks new.store) notes batch)
    (sym s.node) (by_waits needs_sync s.syncs_all r f)
  where
    by_waits : (w : Bool) → SyncsIfNeeded w old.store new.store → RemembersInGroup old.node old.store w genesis k
        → LeavesFit m h n (ReplicaHolds m old.node (synced_if w old.store) h.genesis n)
        (disks (synced_if w old.store)) notes batch
        → LeavesFit m h n (ReplicaHolds m old.node new.store h.genesis n) (disks new.store) notes batch
    by_waits false same r f =
        subst (λ (x : StoreValue). LeavesFit m h n (ReplicaHolds m old.node x h.genesis n) (disks x) notes batch)
        (sym same) f
    by_waits true synced r f =
        let x = shown_as_gathered m h.genesis genesis k n old.node old.store f.holding r f.shown in
        let all = x.keeps.entries ++ plain x.keeps.loose in
        record {
          holding = f.holding;
          shown = settled_shown m old.node old.store new.store h.genesis n f.holding synced x;
          fits = f.fits;
          may = f.may;
          noted = f.noted;
          left = λ j. fit_disks m (later h (take j batch)) n new.store all (with_all x.keeps.loose x.keeps.standing) []
              (synced x.keeps.entries (plain x.keeps.loose) x.keeps.holds)
              (all_stand x.keeps.entries x.keeps.standing x.keeps.loose x.keeps.stands) tt tt
              (held_fit m (later h (take j batch)) n (as_synced old.store) all []
              (as_synced_holds old.store x.keeps.entries (plain x.keeps.loose) x.keeps.holds) (f.left j));
        }

-- ---- which calls were made

pub settled_still : (old new : StoreValue) (needs_sync : Bool) → needs_sync ≡ false → new ≡ old
    → SyncsIfNeeded needs_sync old new
settled_still old new false is same = same
settled_still old new true is same = absurd (cc is)

pub settled_none : (m n : Meter) (needs_sync : Bool) → needs_sync ≡ false → CallsSucceed m n 0
    → CallsSucceed m n (sync_calls needs_sync)
settled_none m n false is none = none
settled_none m n true is none = absurd (cc is)

pub settled_once : (m n : Meter) (needs_sync : Bool) → needs_sync ≡ true → CallsSucceed m n 1
    → CallsSucceed m n (sync_calls needs_sync)
settled_once m n true is calls = calls
settled_once m n false is calls = absurd (cc is)

pub gathered_put : (m n : Meter) (o : OutboxValue) (entries : List Entry) → entries ≡ o.entries
    → o.rebase ≡ false → CallsSucceed m n (put_calls entries false) → CallsSucceed m n (add_step_calls o)
gathered_put m n o entries these not_so calls =
    subst (λ (b : Bool). CallsSucceed m n (if b then rebase_calls else put_calls o.entries false)) (sym not_so)
    (subst (λ (es : List Entry). CallsSucceed m n (put_calls es false)) these calls)

pub gathered_base : (m n : Meter) (o : OutboxValue) → o.rebase ≡ true → CallsSucceed m n rebase_calls
    → CallsSucceed m n (add_step_calls o)
gathered_base m n o so calls =
    subst (λ (b : Bool). CallsSucceed m n (if b then rebase_calls else put_calls o.entries false)) (sym so) calls

-- ---- the room for a step

-- that of a store that was asked how long its live file is
pub same_rebases : (m : Meaning) (node new : NodeValue) (old mid after : StoreValue) → IsSameStore old mid
    → Rebases node mid new after → Rebases node old new after
same_rebases m node new old mid after same r = record {
  becomes = r.becomes;
  generation = omega (arith, r.generation, same.generation);
  writes = λ ks ls h.
      let b : next_base mid (standing_of node) ≡ next_base old (standing_of node) =
      λ i. record {
        generation = same.generation i + 1;
        format = 2;
        header = same.header i;
        standing = standing_of node;
      } in
      subst (λ (x : BaseValue). HoldsEntries after (Base x ∷ []) []) b
      (r.writes ks ls (same_holds m old mid same ks ls h));
}

-- none had to be made
pub no_room_made : (Metered : Type 0) (node : NodeValue) (old new : StoreValue) (needs_sync : Bool)
    → (IsDue node old → ⊥) → IsSameStore old new → (Metered → CallsSucceed old.meter new.meter 0)
    → MakesRoom Metered node old needs_sync node new needs_sync
no_room_made Metered node old new needs_sync none same calls = record {
  rebases = record { due = λ is. absurd (none is); rests = λ other. (refl, same) };
  synced = λ is. absurd (none is);
  rests = λ other. refl;
  calls = λ metered. (0, record { due = λ is. absurd (none is); rests = λ other. refl }, calls metered);
}

-- it was made by a rebase
pub room_made : (m : Meaning) (Metered : Type 0) (node new : NodeValue) (old asked after : StoreValue)
    (needs_sync : Bool) → IsDue node old → IsSameStore old asked → Rebases node asked new after
    → (Metered → CallsSucceed old.meter asked.meter 0) → (Metered → CallsSucceed asked.meter after.meter rebase_calls)
    → MakesRoom Metered node old needs_sync new after false
room_made m Metered node new old asked after needs_sync due same rebases first then_calls =
    record {
      rebases = record {
        due = λ is. same_rebases m node new old asked after same rebases;
        rests = λ other. absurd (other due);
      };
      synced = λ is. refl;
      rests = λ other. absurd (other due);
      calls = λ metered. (
        rebase_calls,
        record { due = λ is. refl; rests = λ other. absurd (other due) },
        passes_on 0 (first metered) rebase_calls (then_calls metered),
      );
    }

-- where nothing waited for a sync, nothing waits
pub none_still : (Metered : Type 0) (node : NodeValue) (store : StoreValue) (new : NodeValue) (after : StoreValue)
    (needs_sync still : Bool) → needs_sync ≡ false → MakesRoom Metered node store needs_sync new after still
    → still ≡ false
none_still Metered node store new after needs_sync false none room = refl
none_still Metered node store new after needs_sync true none room =
    let rests : IsDue node store → ⊥ = λ due. let so : true ≡ false = room.synced due in cc so in
    let both : true ≡ false = room.rests rests ∙ none in
    absurd (cc both)

-- ---- what a refused call of a group leaves

pub group_refused : {T : Type 0} (Honest Metered File Left : Type 0) (r : Result T ReplicaFault) (f : ReplicaFault)
    (old : ReplicaValue) (node : NodeValue) (store : StoreValue)
    → IsErrAnd r (λ e. e ≡ f) → old.failed ≡ false → store.failures ≡ failures_by (fault_number f) old.store.failures
    → IsCutShort Honest Metered 2 old.node old.store node store File Left f
    → IfErr r (λ e. IsRefusedInGroup Honest Metered old
    (record { node = node; store = store; failed = true }) (fault_number e))
group_refused Honest Metered File Left r f old node store is alive failures cut =
    let kept : IsRefusedInGroup Honest Metered old
    (record { node = node; store = store; failed = true }) (fault_number f) =
    record {
      told = number_of_calls f cut.told;
      no_send = sends_not f cut.only;
      failures = failures;
      calls = cut.calls;
      earlier =
          λ number before store_alive further. cut.earlier (failed_alone f number) store_alive (omega (arith, further));
      second = λ honest number before store_alive less. cut.second honest (failed_alone f number) store_alive less;
      once = λ ended. absurd (let both : false ≡ true = sym alive ∙ ended in cc both);
      ends = refl;
      halts = λ number. cut.halts (halted_alone f number);
      awake = cut.awake;
    } in
    err_as (λ e. IsRefusedInGroup Honest Metered old (record { node = node; store = store; failed = true })
    (fault_number e)) r f is kept

-- a refusal that refused memory does not bring is one of the store
pub of_store_too : (number : ℕ) → WantsNoMemory number → IsStoreFault number
of_store_too number by = elim by [ inl device ↦ inl device | inr failed ↦ inr (inr failed) ]

-- ---- room

as_long : (needs_sync : Bool) (s : StoreValue) (side : Side)
    → length (contents (disks (synced_if needs_sync s) side)) ≡ length (contents (disks s side))
as_long false s side = refl
as_long true s side = at s.live side
  where
    at : (live side : Side) → length (contents (pick live (fully_synced s.live_disk) s.other_disk side))
        ≡ length (contents (pick live s.live_disk s.other_disk side))
    at A A = ap length (append-nil (contents s.live_disk))
    at A B = refl
    at B A = refl
    at B B = ap length (append-nil (contents s.live_disk))

-- the files as they will be are as long as they are
pub room_as_sent : (most : ℕ) (before after : Bool) (old new : StoreValue) → StaysWithin most (disks old) (disks new)
    → StaysWithin most (disks (synced_if before old)) (disks (synced_if after new))
room_as_sent most before after old new stays side =
    omega (arith, stays side, as_long before old side, as_long after new side)
