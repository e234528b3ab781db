-- What a call leaves that steps, puts what the step writes, and then sends.
use Rattle.std.proofs.Common.{◌≡◌, ℕ, Bool, true, false, List, [], ◌∷◌, ◌++◌, take, Contains, refl, sym, ◌∙◌, ap, subst}
use Rattle.std.proofs.Common.{arith, ◌⊎◌, inl, inr}
use Rattle.std.specs.List.{AllByRecursion}
use Rattle.lk_types.specs.declared.entry.Entry.{Entry}
use Rattle.lk_types.specs.declared.entry.Entry.TheVariants.{Promise, Vote, Decided}
use Rattle.lk_messages.specs.Grammar.{Spells}
use Rattle.lk_messages.specs.declared.message.NodeMessage.{NodeMessage}
use Rattle.lk_messages.specs.declared.message.NodeMessage.TheVariants as kinds
use Rattle.lk_store_format.specs.Entries.{plain}
use Rattle.lk_store_format.specs.Values.{HeaderValue, StandingValue}
use Rattle.lk_log.specs.StoreValue.{StoreValue, disks}
use Rattle.lk_log.specs.Stores.{KeepsAtLeast}
use Rattle.lk_log.proofs.StoreLaws.{one_standing}
use Rattle.lk_state.specs.Meanings.{Meaning}
use Rattle.lk_agreement_laws.specs.Acceptors.{AcceptorState, Covers, CoversSent}
use Rattle.lk_agreement_laws.specs.Datagrams.{said_by}
use Rattle.lk_agreement_laws.specs.Nodes.{PaxosState}
use Rattle.lk_agreement_laws.proofs.Histories.{said_alike, still_stems, still_was, still_chosen_at, covers_both}
use Rattle.lk_node_interface.specs.Envelopes.{EnvelopeValue, datagram_of, batch_of}
use Rattle.lk_node_interface.specs.Outboxes.{OutboxValue, nothing}
use Rattle.lk_node_interface.specs.declared.input.Input.{Input}
use Rattle.lk_node.specs.Calls.{InputFits, NodeFits, LeavesFit}
use Rattle.lk_node.specs.Entries.{EntriesFit, Rests}
use Rattle.lk_node.specs.Histories.{History, Genesis, Datagram, later}
use Rattle.lk_node.specs.Holdings.{Holding}
use Rattle.lk_node.specs.Keeping.{IsKnown, StoreKeeps, ReplicaHolds}
use Rattle.lk_node.specs.Reaching.{IsRestorable, StillRestoresNode}
use Rattle.lk_node.specs.Leavings.{header_of, acceptor_of, paxos_of, DisksFit, AllCover}
use Rattle.lk_replica.specs.Posts.{AreOf}
use Rattle.lk_recovery.specs.Remembering.{ReplicaRemembers}
use Rattle.lk_node.specs.NodeValue.{NodeValue}
use Rattle.lk_node.specs.SafeSteps.{IsNeitherPromiseNorVote, IsCoveredEnvelope, Binds, IsSafeStep}
use Rattle.lk_node.specs.SafeSteps.{ActsSafely}
use Rattle.lk_recovery.proofs.Recoveries.{known_rests, held_fit, fit_disks, cover_disks, put_fits, put_covers}
use Rattle.lk_node.proofs.Nodes.{take_contains, map_contains, envelope_spelled, told_behind}
use Rattle.lk_replica.proofs.Thinning.{batch_among}

-- ---- lists

all_append : (P : Entry → Type 0) (xs ys : List Entry) → AllByRecursion P xs → AllByRecursion P ys
    → AllByRecursion P (xs ++ ys)
all_append P [] ys a b = b
all_append P (x ∷ xs) ys a b = (a.0, all_append P xs ys a.1 b)

all_map : (P Q : Entry → Type 0) (xs : List Entry) → ((e : Entry) → P e → Q e)
    → AllByRecursion P xs → AllByRecursion Q xs
all_map P Q [] f a = tt
all_map P Q (x ∷ xs) f a = (f x a.0, all_map P Q xs f a.1)

-- ---- what is put

-- a store that keeps what it kept, and the entries: those that are not synced are the old ones and, where nothing was
-- synced, these
pub record KeepsToo (whose : HeaderValue) (new : StoreValue) (b : AcceptorState) (standing : StandingValue)
    (loose es : List Entry) (sync : Bool) : Type 0 where
  pub keeps : StoreKeeps whose new b
  pub known : (w : PaxosState) → AllByRecursion (IsKnown w) loose → (sync ≡ false → AllByRecursion (IsKnown w) es)
      → AllByRecursion (IsKnown w) keeps.loose
  pub told : (ahead : ℕ) (node now : NodeValue) → IsRestorable ahead standing loose node → StillRestoresNode node now es
      → IsRestorable ahead keeps.standing keeps.loose now

-- ---- what rests on what was sent

still_rests : (h : History) (more : List Datagram) (e : Entry) → Rests h e → Rests (later h more) e
still_rests h more (Promise b) r = tt
still_rests h more (Vote x) r = still_was h.genesis h.sent more (kinds.Accept x) r
still_rests h more (Decided i c) r = still_chosen_at h.genesis h.sent more i c r

-- ---- what is sent

-- a datagram of the batch is an envelope's
envelope_of : (n : ℕ) (envelopes : List EnvelopeValue) (d : Datagram) → Contains (batch_of n envelopes) d
    → (l : EnvelopeValue) × Contains envelopes l × (datagram_of n l ≡ d)
envelope_of n envelopes d c = map_contains (datagram_of n) envelopes d c

module _ (genesis : Genesis) (n : ℕ) (new : NodeValue) (rebase : Bool) (envelopes : List EnvelopeValue)
    (is : new.header ≡ header_of genesis n)
    (tells : (l : EnvelopeValue) → Contains envelopes l → IsCoveredEnvelope new.header new.acceptor.state
    rebase l) where
  -- what a datagram of the batch says, an envelope tells
  envelope_says : (x : NodeMessage) (d : Datagram) → Contains (batch_of n envelopes) d → (k : ℕ)
      → Spells (said_by genesis k x) d.bytes → (l : EnvelopeValue) × (c : Contains envelopes l)
      × ((tells l c).message ≡ x)
  envelope_says x d c k said =
      let l = envelope_of n envelopes d c in
      let t = tells l.0 l.1 in (
        l.0,
        l.1,
        (said_alike genesis n k t.message x d.bytes
            (subst (λ (e : Datagram). Spells (said_by genesis n t.message) e.bytes) l.2
            (envelope_spelled genesis n new.header t.message l.0.bytes is t.fits t.bytes)) said).1,
      )

  -- whatever an envelope says, the acceptor covers
  pub said_covered : (x : NodeMessage) (d : Datagram) → Contains (batch_of n envelopes) d → (k : ℕ)
      → Spells (said_by genesis k x) d.bytes → Covers new.acceptor.state x
  said_covered x d c k said = let l = envelope_says x d c k said in
      subst (Covers new.acceptor.state) l.2 (tells l.0 l.1).covers

  -- and it is neither a promise nor a vote where the step rebases
  pub said_neither : rebase ≡ true → (x : NodeMessage) (d : Datagram) → Contains (batch_of n envelopes) d → (k : ℕ)
      → Spells (said_by genesis k x) d.bytes → IsNeitherPromiseNorVote x
  said_neither rebases x d c k said = let l = envelope_says x d c k said in
      subst IsNeitherPromiseNorVote l.2 ((tells l.0 l.1).rebased rebases)

  pub batch_covered : (k : ℕ) → CoversSent genesis (take k (batch_of n envelopes)) n new.acceptor.state
  batch_covered k x sent =
      said_covered x sent.datagram (take_contains k (batch_of n envelopes) sent.datagram sent.listed) n sent.spelled

-- ---- the call

pub bound : (m : Meaning) (Heard : History → Type 0) (node new : NodeValue) (out : OutboxValue)
    → ActsSafely m Heard node new nothing out → Binds node new out
bound m Heard node new out g =
    g.binds node (record {
      header = refl;
      written = refl;
      unsynced = λ e. tt;
      still = λ e. refl;
      tells = λ l c. absurd (omega (arith, c.1));
    })

module _ (m : Meaning) (h : History) (n : ℕ) (node new : NodeValue) (old store : StoreValue)
    (i : Input) (out : OutboxValue)
    (f : NodeFits m h n (ReplicaHolds m node old h.genesis n) (disks old)) (heard : InputFits h i)
    (g : ActsSafely m (λ k. InputFits k i) node new nothing out) where
  abbrev loose : List Entry
  loose = f.shown.keeps.loose

  pub continues : IsSafeStep m h n loose new out
  continues = g.continues h n loose
      (record {
        lawful = f.lawful;
        whose = f.shown.whose;
        holding = f.holding;
        held = f.shown.held;
        fits = f.fits;
        rests = tt;
        known = f.shown.known;
        known_unsynced = λ e. tt;
        may = λ d c. absurd (omega (arith, c.1));
        noted = λ x c. absurd (omega (arith, c.1));
      }) heard

module _ (m : Meaning) (h : History) (n : ℕ) (node new : NodeValue) (old store : StoreValue)
    (i : Input) (out : OutboxValue)
    (f : NodeFits m h n (ReplicaHolds m node old h.genesis n) (disks old)) (heard : InputFits h i)
    (g : ActsSafely m (λ k. InputFits k i) node new nothing out) (on : StillRestoresNode node new out.entries) where
  abbrev unsynced : List Entry
  unsynced = f.shown.keeps.loose

  abbrev served : IsSafeStep m h n unsynced new out
  served = continues m h n node new old store i out f heard g

  -- after any exit of the put every image fits
  pub put_leaves : KeepsAtLeast store f.shown.keeps.entries (plain unsynced ++ plain out.entries)
      → DisksFit m h n (disks store)
  put_leaves keeps =
      put_fits m h n old store f.shown.keeps.entries f.shown.keeps.standing unsynced out.entries f.shown.keeps.holds
      f.shown.keeps.stands keeps
      (all_append (Rests h) unsynced out.entries
      (all_map (IsKnown f.holding.paxos) (Rests h) unsynced (known_rests h n f.holding.paxos f.fits.paxos)
      f.shown.known)
      served.rests)
      (told_behind h.genesis.alpha f.shown.keeps.standing unsynced out.entries node new f.shown.told on).near f.left

  -- these envelopes of it are sent
  module _ (k : KeepsToo (header_of h.genesis n) store new.acceptor.state f.shown.keeps.standing unsynced out.entries
      out.sync) (left : DisksFit m h n (disks store)) (sent : List EnvelopeValue)
      (among : AreOf sent out.envelopes) where
    tells : (l : EnvelopeValue) → Contains sent l → IsCoveredEnvelope new.header new.acceptor.state out.rebase l
    tells l c = (bound m (λ k. InputFits k i) node new out g).tells l (among l c)

    known : AllByRecursion (IsKnown served.holding.paxos) k.keeps.loose
    known = k.known served.holding.paxos served.known served.known_unsynced

    entries : EntriesFit m h n k.keeps.entries
    entries = held_fit m h n store k.keeps.entries (plain k.keeps.loose) k.keeps.holds left

    remembers : acceptor_of entries.standing ≡ new.acceptor.state
    remembers = ap acceptor_of
        (one_standing k.keeps.entries entries.standing k.keeps.standing entries.stands k.keeps.stands)
        ∙ k.keeps.remembers

    sent_fit : (j : ℕ) → EntriesFit m (later h (take j (batch_of n sent))) n k.keeps.entries
    sent_fit j = record {
      standing = entries.standing;
      header = entries.header;
      stands = entries.stands;
      under = entries.under;
      position = entries.position;
      snapshot = entries.snapshot;
      covers = covers_both h.genesis h.sent (take j (batch_of n sent)) n (acceptor_of entries.standing) entries.covers
          (subst (CoversSent h.genesis (take j (batch_of n sent)) n) (sym remembers)
          (batch_covered h.genesis n new out.rebase sent served.whose tells j));
      stems = still_stems h.genesis h.sent (take j (batch_of n sent))
          (paxos_of entries.standing entries.under) entries.stems;
      near = entries.near;
    }

    told : IsRestorable h.genesis.alpha k.keeps.standing k.keeps.loose new
    told = k.told h.genesis.alpha node new f.shown.told on

    loose_rest : (j : ℕ) → AllByRecursion (Rests (later h (take j (batch_of n sent)))) k.keeps.loose
    loose_rest j = all_map (IsKnown served.holding.paxos) (Rests (later h (take j (batch_of n sent)))) k.keeps.loose
        (λ e is. still_rests h (take j (batch_of n sent)) e
        (known_rests h n served.holding.paxos served.fits.paxos e is)) known

    pub put_goes : LeavesFit m h n (ReplicaHolds m new store h.genesis n) (disks store) out.notes (batch_of n sent)
    put_goes = record {
      holding = served.holding;
      shown = record { whose = served.whose; keeps = k.keeps; known = known; held = served.held; told = told };
      fits = served.fits;
      may = λ d c. served.may d (batch_among n sent out.envelopes among d c);
      noted = served.noted;
      left = λ j. fit_disks m (later h (take j (batch_of n sent))) n store k.keeps.entries k.keeps.standing
          k.keeps.loose k.keeps.holds k.keeps.stands (loose_rest j) told.near (sent_fit j);
    }

-- ---- sync before send, whatever has happened

-- a replica that stands so remembers
abbrev pub remembered : (m : Meaning) (genesis : Genesis) (n : ℕ) (held : Holding) (node : NodeValue)
    (store : StoreValue) → ReplicaHolds m node store genesis n held → ReplicaRemembers node store genesis n
remembered m genesis n held node store shown = record { whose = shown.whose; keeps = shown.keeps }

module _ (m : Meaning) (genesis : Genesis) (n : ℕ) (node new : NodeValue) (old store : StoreValue)
    (Heard : History → Type 0) (out : OutboxValue)
    (shown : ReplicaRemembers node old genesis n) (g : ActsSafely m Heard node new nothing out) where
  pub step_syncs : (k : StoreKeeps (header_of genesis n) store new.acceptor.state) (x : NodeMessage) (d : Datagram)
      → Contains (batch_of n out.envelopes) d → Spells (said_by genesis n x) d.bytes
      → AllCover m genesis n (disks store) x
  step_syncs k x d c said =
      let b = bound m Heard node new out g in
      cover_disks m genesis n store k.entries k.loose x k.holds (
        k.header,
        (
          k.standing,
          k.stands,
          subst (λ (a : AcceptorState). Covers a x) (sym k.remembers)
              (said_covered genesis n new out.rebase out.envelopes (b.header ∙ shown.whose) b.tells x d c n said),
        ),
      )

  pub step_covers : KeepsAtLeast store shown.keeps.entries (plain shown.keeps.loose ++ plain out.entries)
      → (x : NodeMessage) → AllCover m genesis n (disks old) x → AllCover m genesis n (disks store) x
  step_covers keeps x c =
      put_covers m genesis n old store shown.keeps.entries shown.keeps.loose out.entries x shown.keeps.holds keeps c

-- ---- either

-- an outbox asks for a rebase or not
pub by_kind : {P : Type 0} (rebase : Bool) → (rebase ≡ true → P) → (rebase ≡ false → P) → P
by_kind true based put = based refl
by_kind false based put = put refl

-- what holds of either holds
pub of_either : {A B P : Type 0} → A ⊎ B → (A → P) → (B → P) → P
of_either (inl a) first second = first a
of_either (inr b) first second = second b
