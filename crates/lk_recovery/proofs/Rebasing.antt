-- What a rebase leaves of a node and its store: the new Base covers what the old entries covered, and fits as they did.
use Rattle.std.proofs.Common.{◌≡◌, ℕ, ◌+◌, ◌≤◌, inl, inr, Bool, true, false, cond, List, [], ◌∷◌, ◌++◌, map}
use Rattle.std.proofs.Common.{length, take, Contains, refl, sym, ◌∙◌, ap, subst, subst₂, arith}
use Rattle.std.specs.Prelude.{⊤}
use Rattle.lk_types.specs.BallotValue.{BallotValue}
use Rattle.lk_types.specs.Ballots.{IsAtMost, is_below}
use Rattle.lk_types.specs.Limits.{max_base_of}
use Rattle.lk_types.specs.declared.vote.Vote.{Vote}
use Rattle.lk_types.proofs.Values.{below_by_test}
use Rattle.lk_messages.specs.declared.message.NodeMessage.{NodeMessage}
use Rattle.lk_messages.specs.declared.message.NodeMessage.TheVariants as kinds
use Rattle.lk_disk.specs.Disk.{Disk, contents}
use Rattle.lk_disk.specs.Meters.{CallsSucceed}
use Rattle.lk_store_format.specs.Standings.{greater, greatest_of, ballot_of, of_base, HasHeader, StandsFor}
use Rattle.lk_store_format.specs.Entries.{plain}
use Rattle.lk_store_format.specs.Values.{BaseValue}
use Rattle.lk_store_format.specs.declared.stored.Stored.{Stored}
use Rattle.lk_store_format.specs.declared.stored.Stored.TheVariants.{Base}
use Rattle.lk_log.specs.Causes.{rebase_calls}
use Rattle.lk_log.specs.Images.{IsLive}
use Rattle.lk_log.specs.StoreValue.{StoreValue, pick, disks}
use Rattle.lk_log.specs.Stores.{HoldsOn, HoldsEntries, FitsBase, next_base, KeepsOrIs}
use Rattle.lk_log.specs.Rooms.{StaysWithin}
use Rattle.lk_log.proofs.Room.{within_same, most_base}
use Rattle.lk_log.proofs.StoreLaws.{rising_stands, one_standing, one_header, of_every, plain_take, synced_live}
use Rattle.lk_log.proofs.StoreLaws.{rebase_every}
use Rattle.lk_state.specs.Meanings.{Meaning}
use Rattle.lk_state.specs.Packed.{packed}
use Rattle.lk_agreement_laws.specs.Acceptors.{AcceptorState, Covers, AreProposed, ForgetsVotes}
use Rattle.lk_agreement_laws.specs.Changes.{holding_acceptor, compacts}
use Rattle.lk_agreement_laws.proofs.Histories.{at_most_below, below_self, change_fits}
use Rattle.lk_acceptor.specs.States.{IsOrdered, without_votes_to}
use Rattle.lk_acceptor.proofs.Acceptors.{takes_snapshot}
use Rattle.lk_learner.specs.Learners.{executed}
use Rattle.lk_learner.proofs.Learnerships.{executed_is, here_follows}
use Rattle.lk_node.specs.Calls.{NodeFits, LeavesFit}
use Rattle.lk_node.specs.Entries.{EntriesFit}
use Rattle.lk_node.specs.Histories.{History, Genesis, IsLawful}
use Rattle.lk_node.specs.Holdings.{Holding, HoldingFits}
use Rattle.lk_node.specs.Keeping.{StoreKeeps, ReplicaHolds, HoldsBeforeRebase}
use Rattle.lk_node.specs.Leavings.{header_of, acceptor_of, DisksFit, AllCover}
use Rattle.lk_node.specs.NodeValue.{NodeValue}
use Rattle.lk_node.specs.NewBases.{standing_of, with_snapshot}
use Rattle.lk_node.specs.Reaching.{HoldsNear}
use Rattle.lk_node.specs.BorneOut.{text}
use Rattle.lk_node.proofs.Nodes.{contains_more, window_is}
use Rattle.lk_recovery.proofs.Growing.{grown_base}
use Rattle.lk_recovery.specs.Compacting.{AllStandAt, IsSameStore}
use Rattle.lk_recovery.specs.Rebased.{HasSwitchedFiles, KeepsOrBegins, StaysSafe, LeavesDisks}
use Rattle.lk_recovery.specs.Remembering.{ReplicaRemembers}
use Rattle.lk_recovery.proofs.Images.{known_rest, grown_fit, held_fit, EntriesCover, entries_fit, cover_entries}
use Rattle.lk_recovery.proofs.Images.{entries_cover, cover_disks, none_asked, cover_more}
use Rattle.lk_recovery.proofs.Ordered.{standing_ordered}
use Rattle.lk_recovery.proofs.Revivals.{nothing_later}

-- ---- ballots

greater_stays : (b c : BallotValue) → IsAtMost c b → greater b c ≡ b
greater_stays b c most = by_test (is_below b c) refl
  where
    by_test : (t : Bool) → is_below b c ≡ t → cond t c b ≡ b
    by_test true e = absurd (below_self c (at_most_below c b c most (below_by_test b c e)))
    by_test false e = refl

-- no vote is in a greater ballot than the promised one
greatest_stays : (b : BallotValue) (vs : List Vote) → ((v : Vote) → Contains vs v → IsAtMost v.ballot b)
    → greatest_of b (map ballot_of vs) ≡ b
greatest_stays b [] all = refl
greatest_stays b (v ∷ vs) all =
    ap (λ (g : BallotValue). greatest_of g (map ballot_of vs)) (greater_stays b v.ballot (all v (0, omega arith, refl)))
    ∙ greatest_stays b vs (λ w c. all w (contains_more v vs w c))

base_is : (b : BaseValue)
    → ((v : Vote) → Contains b.standing.votes v → IsAtMost v.ballot b.standing.promised) → of_base b ≡ b.standing
base_is b all = ap (λ (g : BallotValue). record b.standing { promised = g })
    (greatest_stays b.standing.promised b.standing.votes all)

-- ---- a snapshot covers what the votes covered whose place it takes

pub snapshot_covers : (old new : AcceptorState) (i : ℕ) → ForgetsVotes old i new → (x : NodeMessage)
    → Covers old x → Covers new x
snapshot_covers old new i t (kinds.Prepare b first) c = subst (IsAtMost b) (sym t.promised) c
snapshot_covers old new i t (kinds.Promise p) c = subst (IsAtMost p.ballot) (sym t.promised) c
snapshot_covers old new i t (kinds.Accept v) c = subst (IsAtMost v.ballot) (sym t.promised) c
snapshot_covers old new i t (kinds.Accepted v) c = (
  subst (IsAtMost v.ballot) (sym t.promised) c.0,
  elim c.1 [
    | inl under ↦ inl (omega (arith, under, t.later, t.snapshot))
    | inr y ↦ elim (t.above y.0 y.1)
        [ inl under ↦ inl (omega (arith, under, y.2, t.snapshot)) | inr kept ↦ inr (y.0, kept, y.2, y.3) ]
  ],
)
snapshot_covers old new i t (kinds.Nack k) c = c
snapshot_covers old new i t (kinds.Decided d) c = c
snapshot_covers old new i t (kinds.Want k) c = c
snapshot_covers old new i t (kinds.Part p) c = c
snapshot_covers old new i t (kinds.Answer k) c = c
snapshot_covers old new i t (kinds.Elsewhere k) c = c
snapshot_covers old new i t (kinds.Passed p) c = c
snapshot_covers old new i t (kinds.Lead b k) c = c

-- ---- the new Base

module _ (m : Meaning) (genesis : Genesis) (n : ℕ) (node : NodeValue) (old new : StoreValue)
    (keeps : StoreKeeps (header_of genesis n) old node.acceptor.state)
    (may : FitsBase (standing_of node)) (within : node.acceptor.state.snapshot_position ≤ executed node.learner) where
  abbrev base : BaseValue
  base = next_base old (standing_of node)

  takes : ForgetsVotes node.acceptor.state (executed node.learner)
      (without_votes_to node.acceptor.state (executed node.learner))
  takes = takes_snapshot node.acceptor.state (executed node.learner) within

  ordered : (v : Vote) → Contains node.acceptor.state.votes v → IsAtMost v.ballot node.acceptor.state.promised
  ordered = (subst IsOrdered keeps.remembers (standing_ordered keeps.entries keeps.standing keeps.stands)).promised

  pub base_stands : StandsFor (Base base ∷ []) (standing_of node)
  base_stands = subst (StandsFor (Base base ∷ [])) (base_is base (λ v c. ordered v (takes.only v c)))
      (rising_stands base may.votes_rise may.pairs_rise)

  base_header : base.header ≡ header_of genesis n
  base_header = one_header keeps.entries old.header (header_of genesis n) keeps.holds.header_is keeps.header

  -- ---- whatever has happened

  pub base_covers : (y : NodeMessage) → Covers node.acceptor.state y → EntriesCover genesis n y (Base base ∷ [])
  base_covers y c = (
    base_header,
    (
      standing_of node,
      base_stands,
      snapshot_covers node.acceptor.state (without_votes_to node.acceptor.state (executed node.learner))
          (executed node.learner) takes y c,
    ),
  )

  -- the node's acceptor covers what every image covers
  pub node_covers : (y : NodeMessage) → AllCover m genesis n (disks old) y → Covers node.acceptor.state y
  node_covers y c =
      let ks : EntriesCover genesis n y keeps.entries =
      of_every (EntriesCover genesis n y) old keeps.entries (plain keeps.loose) (header_of genesis n)
      (text m genesis []) keeps.holds (cover_entries m genesis n (disks old) y c) in
      let same : acceptor_of ks.1.0 ≡ node.acceptor.state =
      ap acceptor_of (one_standing keeps.entries ks.1.0 keeps.standing ks.1.1 keeps.stands) ∙ keeps.remembers in
      subst (λ (a : AcceptorState). Covers a y) same ks.1.2

  -- after any exit of a rebase every image covers what every image covered
  pub rebase_covers : KeepsOrIs (disks new) keeps.entries (plain keeps.loose) base → (y : NodeMessage)
      → AllCover m genesis n (disks old) y → AllCover m genesis n (disks new) y
  rebase_covers left y c =
      entries_cover m genesis n (disks new) y
      (rebase_every (EntriesCover genesis n y) (λ e. Unit {0}) old new keeps.entries
      (plain keeps.loose) keeps.loose base (header_of genesis n) (text m genesis []) keeps.holds refl left
      (cover_more genesis n y) (none_asked keeps.loose)
      (base_covers y (node_covers y c)) (cover_entries m genesis n (disks old) y c))

  -- where it was made every image covers what the node does
  pub rebase_syncs : HoldsEntries new (Base base ∷ []) [] → (y : NodeMessage) → Covers node.acceptor.state y
      → AllCover m genesis n (disks new) y
  rebase_syncs holds y c = cover_disks m genesis n new (Base base ∷ []) [] y holds (base_covers y c)

  -- and the store keeps what the acceptor then holds
  pub rebase_keeps : node.header ≡ header_of genesis n → HoldsEntries new (Base base ∷ []) []
      → ReplicaRemembers (with_snapshot node) new genesis n
  rebase_keeps whose holds = record {
    whose = whose;
    keeps = record {
      entries = Base base ∷ [];
      loose = [];
      holds = holds;
      decided = tt;
      header = base_header;
      standing = standing_of node;
      stands = base_stands;
      remembers = refl;
    };
  }

-- a node that stands, stands in the middle of a step
abbrev pub before_step : (m : Meaning) (node : NodeValue) (store : StoreValue) (genesis : Genesis) (n : ℕ)
    (x : Holding) → ReplicaHolds m node store genesis n x → HoldsBeforeRebase m node store genesis n x
before_step m node store genesis n x s =
    record {
      whose = s.whose;
      keeps = s.keeps;
      known = s.known;
      held = s.held;
      some = s.told.tells.some;
      near = s.told.near;
    }

abbrev pub before_fits : (m : Meaning) (h : History) (n : ℕ) (node : NodeValue) (store : StoreValue)
    → NodeFits m h n (ReplicaHolds m node store h.genesis n) (disks store)
    → NodeFits m h n (HoldsBeforeRebase m node store h.genesis n) (disks store)
before_fits m h n node store f =
    record {
      lawful = f.lawful;
      holding = f.holding;
      shown = before_step m node store h.genesis n f.holding f.shown;
      fits = f.fits;
      left = f.left;
    }

module _ (m : Meaning) (genesis : Genesis) (n : ℕ) (node : NodeValue) (old new : StoreValue) (x : Holding)
    (shown : HoldsBeforeRebase m node old genesis n x)
    (may : FitsBase (standing_of node)) (close : HoldsNear node) where
  window : length node.learner.whole.roster.sets ≡ genesis.alpha
  window = window_is m genesis x.paxos.done node.learner.whole shown.held.follows.sums

  -- what the node then holds
  abbrev pub here : Holding
  here = record {
    paxos = holding_acceptor x.paxos (without_votes_to x.paxos.acceptor (executed node.learner));
    waiting = x.waiting;
    gathered = x.gathered;
  }

  pub rebase_stands : HoldsEntries new (Base (next_base old (standing_of node)) ∷ []) []
      → ReplicaHolds m (with_snapshot node) new genesis n here
  unfolding rebase_keeps
  rebase_stands holds = record {
    whose = shown.whose;
    keeps = (rebase_keeps m genesis n node old new shown.keeps may close.0.snapshot shown.whose holds).keeps;
    known = tt;
    held = record {
      acceptor = ap (λ (a : AcceptorState). without_votes_to a (executed node.learner)) shown.held.acceptor;
      follows = here_follows m genesis x.paxos.done x.paxos.pairs node.learner shown.held.follows;
      leads = shown.held.leads;
      waiting = shown.held.waiting;
      gathered = shown.held.gathered;
    };
    told = record {
      near = tt;
      tells = record {
        some = shown.some;
        votes_ahead = close.0.alpha_is ∙ window;
        window = window;
        above = omega arith;
        reached = λ i low most. absurd (omega (arith, low, most));
        kept = λ p c. (p.1, c);
      };
    };
  }

-- ---- in a history

module _ (m : Meaning) (h : History) (n : ℕ) (node : NodeValue) (old new : StoreValue) (x : Holding)
    (shown : HoldsBeforeRebase m node old h.genesis n x)
    (may : FitsBase (standing_of node)) (close : HoldsNear node) (lawful : IsLawful m h)
    (fits : HoldingFits m h n x) where
  far : executed node.learner ≡ length x.paxos.done
  far = executed_is m h.genesis x.paxos.done node.learner.whole shown.held.follows.sums

  -- the snapshot and the votes above it fit
  pub base_fits : EntriesFit m h n (Base (next_base old (standing_of node)) ∷ [])
  base_fits = record {
    standing = standing_of node;
    header = base_header m h.genesis n node old new shown.keeps may close.0.snapshot;
    stands = base_stands m h.genesis n node old new shown.keeps may close.0.snapshot;
    under = x.paxos.done;
    position = sym far;
    snapshot = ap packed shown.held.follows.sums;
    covers = λ y sent. snapshot_covers node.acceptor.state
        (without_votes_to node.acceptor.state (executed node.learner)) (executed node.learner)
        (takes m h.genesis n node old new shown.keeps may close.0.snapshot) y
        (subst (λ (a : AcceptorState). Covers a y) shown.held.acceptor (fits.paxos.covers y sent));
    stems = record {
      votes = λ v c. subst (AreProposed h.genesis h.sent) shown.held.acceptor fits.paxos.stems.votes v
          ((takes m h.genesis n node old new shown.keeps may close.0.snapshot).only v c);
      done = fits.paxos.stems.done;
      snapshot = omega (arith, far);
      pairs = λ i v c. fits.paxos.stems.pairs i v (shown.held.follows.known (i, v) c);
    };
    near = record {
      votes = λ v c. (
        executed node.learner,
        λ i low most. absurd (omega (arith, low, most)),
        omega (
          arith,
          close.0.votes v ((takes m h.genesis n node old new shown.keeps may close.0.snapshot).only v c),
          window m h.genesis n node old new x shown may close,
        ),
      );
      pairs = λ p c. (
        executed node.learner,
        λ i low most. absurd (omega (arith, low, most)),
        omega (arith, close.1.near p c, window m h.genesis n node old new x shown may close),
      );
    };
  }

  -- after any exit of a rebase every image fits
  pub rebase_fits : KeepsOrIs (disks new) shown.keeps.entries (plain shown.keeps.loose)
      (next_base old (standing_of node)) → DisksFit m h n (disks old) → DisksFit m h n (disks new)
  rebase_fits keeps left =
      let k = shown.keeps in
      let rests = known_rest h n x.paxos fits.paxos k.loose shown.known in
      entries_fit m h n (disks new) (λ image kept. elim (keeps image kept) [
        | inl at ↦ (
          k.entries ++ plain (take at.0 k.loose),
          inl (subst (λ (l : List Stored). IsLive image (k.entries ++ l)) (plain_take at.0 k.loose) at.1),
          grown_fit m h n k.entries k.standing k.loose k.stands
              (held_fit m h n old k.entries (plain k.loose) k.holds left) rests shown.near at.0,
        )
        | inr alone ↦ (Base (next_base old (standing_of node)) ∷ [], inl alone, base_fits)
      ])

  pub here_fits : HoldingFits m h n (here m h.genesis n node old new x shown may close)
  here_fits = record {
    paxos = change_fits h.genesis h.sent lawful.sound n x.paxos
        (holding_acceptor x.paxos (without_votes_to x.paxos.acceptor (executed node.learner))) fits.paxos
        (compacts (executed node.learner) (without_votes_to x.paxos.acceptor (executed node.learner)) (omega
        (arith, far))
        (takes_snapshot x.paxos.acceptor (executed node.learner) (omega (arith, far, fits.paxos.stems.snapshot))));
    waiting = fits.waiting;
    proposals = fits.proposals;
    gathered = fits.gathered;
  }

  -- where it was made the node goes on, with nothing noted and nothing sent
  pub rebase_goes : HoldsEntries new (Base (next_base old (standing_of node)) ∷ []) [] → DisksFit m h n (disks new)
      → LeavesFit m h n (ReplicaHolds m (with_snapshot node) new h.genesis n) (disks new) [] []
  rebase_goes holds left = record {
    holding = here m h.genesis n node old new x shown may close;
    shown = rebase_stands m h.genesis n node old new x shown may close holds;
    fits = here_fits;
    may = λ d c. absurd (omega (arith, c.1));
    noted = λ y c. absurd (omega (arith, c.1));
    left = nothing_later m h n (disks new) left;
  }

-- each image then stands for the snapshot
module _ (m : Meaning) (genesis : Genesis) (n : ℕ) (node : NodeValue) (old new : StoreValue) (x : Holding)
    (shown : ReplicaHolds m node old genesis n x)
    (may : FitsBase (standing_of node)) (within : node.acceptor.state.snapshot_position ≤ executed node.learner) where
  pub all_stand : HoldsEntries new (Base (next_base old (standing_of node)) ∷ []) []
      → AllStandAt m genesis n (disks new) (executed node.learner) x.paxos.done
  all_stand holds image left =
      let live = synced_live new (Base (next_base old (standing_of node)) ∷ []) holds image left in (
        standing_of node,
        record {
          entries = Base (next_base old (standing_of node)) ∷ [];
          found = inl live;
          header = base_header m genesis n node old new shown.keeps may within;
          stands = base_stands m genesis n node old new shown.keeps may within;
        },
        refl,
        sym (executed_is m genesis x.paxos.done node.learner.whole shown.held.follows.sums),
        ap packed shown.held.follows.sums,
      )

-- ---- a store that stays as it was

module _ (m : Meaning) (old new : StoreValue) (same : IsSameStore old new) where
  same_disks : disks new ≡ disks old
  same_disks = λ i. pick (same.live i) (same.live_disk i) (same.other_disk i)

  pub same_holds : (ks ls : List Stored) → HoldsEntries old ks ls → HoldsEntries new ks ls
  same_holds ks ls h = record {
    on = subst₂ (λ (d o : Disk). HoldsOn d o ks ls) (sym same.live_disk) (sym same.other_disk) h.on;
    generation_is = same.generation ∙ h.generation_is;
    format_is = same.format ∙ h.format_is;
    header_is = subst (HasHeader ks) (sym same.header) h.header_is;
  }

  pub same_room : (most : ℕ) → StaysWithin most (disks old) (disks new)
  same_room most = subst (λ d. StaysWithin most (disks old) d) (sym same_disks)
      (within_same most (disks old) (disks old) (λ s. refl))

-- a node that went on with nothing noted and nothing sent fits again
pub goes_fits : (m : Meaning) (h : History) (n : ℕ) (node : NodeValue) (store : StoreValue) → IsLawful m h
    → DisksFit m h n (disks store) → LeavesFit m h n (ReplicaHolds m node store h.genesis n) (disks store) [] []
    → NodeFits m h n (ReplicaHolds m node store h.genesis n) (disks store)
goes_fits m h n node store lawful left g =
    record { lawful = lawful; holding = g.holding; shown = g.shown; fits = g.fits; left = left }

-- ---- what a rebase comes to

-- whatever waited for a sync
pub or_begins : (node : NodeValue) (old : StoreValue) (ks ls : List Stored) (new : StoreValue)
    → KeepsOrBegins node old ks ls new → KeepsOrIs (disks new) ks ls (next_base old (standing_of node))
or_begins node old ks ls new (inl keeps) = λ image left. inl (keeps image left)
or_begins node old ks ls new (inr based) = based.1

module _ (m : Meaning) (node : NodeValue) (old new : StoreValue)
    (may : FitsBase (standing_of node)) (close : HoldsNear node)
    (any : (ks ls : List Stored) → HoldsEntries old ks ls
    → KeepsOrIs (disks new) ks ls (next_base old (standing_of node))) where
  -- after any exit
  pub stays_safe : StaysWithin (max_base_of node.acceptor.alpha) (disks old) (disks new) → StaysSafe m node old new
  stays_safe room = record {
    fits = λ h n f. rebase_fits m h n node old new f.holding f.shown may close f.lawful f.fits
        (any f.shown.keeps.entries (plain f.shown.keeps.loose) f.shown.keeps.holds) f.left;
    covers = λ genesis n x keeps every. rebase_covers m genesis n node old new keeps may close.0.snapshot
        (any keeps.entries (plain keeps.loose) keeps.holds) x every;
    room = room;
  }

  -- where it was made
  pub files_switched : (Metered : Type 0) → (new.generation ≡ old.generation + 1)
      → ((ks ls : List Stored) → HoldsEntries old ks ls
      → HoldsEntries new (Base (next_base old (standing_of node)) ∷ []) [])
      → (Metered → CallsSucceed old.meter new.meter rebase_calls)
      → length (contents new.live_disk) ≤ max_base_of node.acceptor.alpha
      → HasSwitchedFiles m Metered node old (with_snapshot node) new
  files_switched Metered further writes calls short = record {
    rebases = record { becomes = refl; generation = further; writes = writes };
    calls = calls;
    short = short;
    goes = λ h n f.
        rebase_goes m h n node old new f.holding
        (before_step m node old h.genesis n f.holding f.shown) may close f.lawful f.fits
        (writes f.shown.keeps.entries (plain f.shown.keeps.loose) f.shown.keeps.holds)
        (rebase_fits m h n node old new f.holding
        (before_step m node old h.genesis n f.holding f.shown) may close f.lawful f.fits
        (any f.shown.keeps.entries (plain f.shown.keeps.loose) f.shown.keeps.holds) f.left);
    shows = λ genesis n held shown. (
      here m genesis n node old new held (before_step m node old genesis n held shown) may close,
      rebase_stands m genesis n node old new held (before_step m node old genesis n held shown) may close
          (writes shown.keeps.entries (plain shown.keeps.loose) shown.keeps.holds),
    );
    remembers = λ genesis n shown. rebase_keeps m genesis n node old new shown.keeps may close.0.snapshot shown.whose
        (writes shown.keeps.entries (plain shown.keeps.loose) shown.keeps.holds);
    syncs = λ genesis n x keeps covers. rebase_syncs m genesis n node old new keeps may close.0.snapshot
        (writes keeps.entries (plain keeps.loose) keeps.holds) x covers;
    stands = λ genesis n held shown. all_stand m genesis n node old new held shown may close.0.snapshot
        (writes shown.keeps.entries (plain shown.keeps.loose) shown.keeps.holds);
  }

-- what it leaves on the disks
pub leaves_safe : (m : Meaning) (node : NodeValue) (old new : StoreValue) → StaysSafe m node old new
    → LeavesDisks m (λ h. ⊤) (max_base_of node.acceptor.alpha) node old (disks new)
leaves_safe m node old new safe = record {
  ends = λ h n f heard. safe.fits h n (before_fits m h n node old f);
  covers = λ genesis n x shown every. safe.covers genesis n x shown.keeps every;
  room = safe.room;
  grows = grown_base (max_base_of node.acceptor.alpha) (disks old) (disks new)
      (most_base node.acceptor.alpha) safe.room;
}
