-- What fits to the history in every image, and what every image covers: both are facts about the entries of each image.
use Rattle.std.proofs.Common.{◌≡◌, ℕ, zero, suc, inl, inr, List, [], ◌∷◌, ◌++◌, take, refl, sym, subst, append_assoc}
use Rattle.std.proofs.Common.{append-nil}
use Rattle.std.specs.List.{AllByRecursion}
use Rattle.lk_types.specs.declared.entry.Entry.{Entry}
use Rattle.lk_types.specs.declared.entry.Entry.TheVariants.{Promise, Vote, Decided}
use Rattle.lk_disk.specs.Disk.{Disk}
use Rattle.lk_disk.specs.declared.device.Side.{Side}
use Rattle.lk_store_format.specs.Standings.{HasHeader, StandsFor, with_plain}
use Rattle.lk_store_format.specs.Entries.{plain}
use Rattle.lk_store_format.specs.Values.{StandingValue}
use Rattle.lk_store_format.specs.declared.stored.Stored.{Stored}
use Rattle.lk_store_format.specs.declared.stored.Stored.TheVariants.{Plain}
use Rattle.lk_log.specs.EveryImage.{EveryFound}
use Rattle.lk_log.specs.StoreValue.{StoreValue, disks}
use Rattle.lk_log.specs.Stores.{HoldsEntries, KeepsAtLeast, NarrowsOrIsNew}
use Rattle.lk_log.proofs.StoreLaws.{plain_stands, plain_append, header_more, holds_keeps, one_standing, of_every}
use Rattle.lk_log.proofs.StoreLaws.{keeps_every, put_keeps_every, opening_every}
use Rattle.lk_state.specs.Meanings.{Meaning}
use Rattle.lk_agreement_laws.specs.Datagrams.{NodeMessage}
use Rattle.lk_agreement_laws.specs.Acceptors.{Covers}
use Rattle.lk_agreement_laws.specs.Nodes.{PaxosState, PaxosFits}
use Rattle.lk_agreement_laws.proofs.Histories.{entry_chosen}
use Rattle.lk_node.specs.Entries.{EntriesFit, Rests}
use Rattle.lk_node.specs.Histories.{History, Genesis}
use Rattle.lk_node.specs.Keeping.{IsKnown}
use Rattle.lk_node.specs.Leavings.{header_of, acceptor_of, DisksFit, AllCover}
use Rattle.lk_node.specs.Reaching.{EntryLiesNear, EntriesLieNear}
use Rattle.lk_node.specs.BorneOut.{text}
use Rattle.lk_recovery.proofs.Adding.{adds, covers_more}

-- the entries stand for what covers the message
abbrev pub EntriesCover : Genesis → ℕ → NodeMessage → List Stored → Type 0
EntriesCover genesis n x es =
    HasHeader es (header_of genesis n) × ((s : StandingValue) × StandsFor es s × Covers (acceptor_of s) x)

-- ---- the two facts about images, as facts about entries

pub fit_entries : (m : Meaning) (h : History) (n : ℕ) (disks : Side → Disk) → DisksFit m h n disks
    → EveryFound disks (header_of h.genesis n) (text m h.genesis []) (EntriesFit m h n)
fit_entries m h n disks f image left =
    let i = f image left in (
      i.stands.entries,
      i.stands.found,
      record {
        standing = i.standing;
        header = i.stands.header;
        stands = i.stands.stands;
        under = i.under;
        position = i.position;
        snapshot = i.snapshot;
        covers = i.covers;
        stems = i.stems;
        near = i.near;
      },
    )

pub entries_fit : (m : Meaning) (h : History) (n : ℕ) (disks : Side → Disk)
    → EveryFound disks (header_of h.genesis n) (text m h.genesis []) (EntriesFit m h n) → DisksFit m h n disks
entries_fit m h n disks every image left =
    let e = every image left in
    record {
      standing = e.2.standing;
      stands = record { entries = e.0; found = e.1; header = e.2.header; stands = e.2.stands };
      under = e.2.under;
      position = e.2.position;
      snapshot = e.2.snapshot;
      covers = e.2.covers;
      stems = e.2.stems;
      near = e.2.near;
    }

pub cover_entries : (m : Meaning) (genesis : Genesis) (n : ℕ) (disks : Side → Disk) (x : NodeMessage)
    → AllCover m genesis n disks x
    → EveryFound disks (header_of genesis n) (text m genesis []) (EntriesCover genesis n x)
cover_entries m genesis n disks x f image left =
    let i = f image left in
    (i.1.entries, i.1.found, (i.1.header, (i.0, i.1.stands, i.2)))

pub entries_cover : (m : Meaning) (genesis : Genesis) (n : ℕ) (disks : Side → Disk) (x : NodeMessage)
    → EveryFound disks (header_of genesis n) (text m genesis []) (EntriesCover genesis n x)
    → AllCover m genesis n disks x
entries_cover m genesis n disks x every image left =
    let e = every image left in
    (e.2.1.0, record { entries = e.0; found = e.1; header = e.2.0; stands = e.2.1.1 }, e.2.1.2)

-- ---- an opening

pub opening_fits : (m : Meaning) (h : History) (n : ℕ) (old new : Side → Disk)
    → NarrowsOrIsNew old new (header_of h.genesis n) (text m h.genesis []) → DisksFit m h n old → DisksFit m h n new
opening_fits m h n old new o f =
    entries_fit m h n new (opening_every (EntriesFit m h n) old new (header_of h.genesis n) (text m h.genesis []) o
    (fit_entries m h n old f))

pub opening_covers : (m : Meaning) (genesis : Genesis) (n : ℕ) (old new : Side → Disk) (x : NodeMessage)
    → NarrowsOrIsNew old new (header_of genesis n) (text m genesis []) → AllCover m genesis n old x
    → AllCover m genesis n new x
opening_covers m genesis n old new x o f =
    entries_cover m genesis n new x
    (opening_every (EntriesCover genesis n x) old new (header_of genesis n) (text m genesis []) o
    (cover_entries m genesis n old x f))

-- ---- what the synced entries have, also with some of the others, each image has, and the other way round

-- what some entries have they have with more, where each of these keeps it
grown : (P : List Stored → Type 0) (Q : Entry → Type 0) (ks : List Stored) (more : List Entry)
    → ((es : List Stored) (e : Entry) → Q e → P es → P (es ++ Plain e ∷ []))
    → AllByRecursion Q more → P ks → (k : ℕ) → P (ks ++ plain (take k more))
grown P Q ks more grows all p zero = subst P (sym (append-nil ks)) p
grown P Q ks [] grows all p (suc k) = subst P (sym (append-nil ks)) p
grown P Q ks (e ∷ more) grows all p (suc k) =
    subst P (append_assoc ks (Plain e ∷ []) (plain (take k more)))
    (grown P Q (ks ++ Plain e ∷ []) more grows all.1 (grows ks e all.0 p) k)

-- what fits, fits with more entries that rest on what was sent and lie near, each after those before it
pub grown_fit : (m : Meaning) (h : History) (n : ℕ) (ks : List Stored) (s : StandingValue) (more : List Entry)
    → StandsFor ks s → EntriesFit m h n ks → AllByRecursion (Rests h) more → EntriesLieNear h.genesis.alpha s more
    → (k : ℕ) → EntriesFit m h n (ks ++ plain (take k more))
grown_fit m h n ks s more stands f rests near zero = subst (EntriesFit m h n) (sym (append-nil ks)) f
grown_fit m h n ks s [] stands f rests near (suc k) = subst (EntriesFit m h n) (sym (append-nil ks)) f
grown_fit m h n ks s (e ∷ more) stands f rests near (suc k) =
    let same : s ≡ f.standing = one_standing ks s f.standing stands f.stands in
    subst (EntriesFit m h n) (append_assoc ks (Plain e ∷ []) (plain (take k more)))
    (grown_fit m h n (ks ++ Plain e ∷ []) (with_plain e s) more (plain_stands ks s e stands)
    (adds m h n ks e rests.0 f (subst (λ (t : StandingValue). EntryLiesNear h.genesis.alpha t e) same near.0)) rests.1
    near.1 k)

pub held_fit : (m : Meaning) (h : History) (n : ℕ) (store : StoreValue) (ks ls : List Stored) → HoldsEntries store ks ls
    → DisksFit m h n (disks store) → EntriesFit m h n ks
held_fit m h n store ks ls holds f =
    of_every (EntriesFit m h n) store ks ls (header_of h.genesis n) (text m h.genesis []) holds
    (fit_entries m h n (disks store) f)

pub fit_disks : (m : Meaning) (h : History) (n : ℕ) (store : StoreValue) (ks : List Stored) (s : StandingValue)
    (loose : List Entry) → HoldsEntries store ks (plain loose) → StandsFor ks s → AllByRecursion (Rests h) loose
    → EntriesLieNear h.genesis.alpha s loose → EntriesFit m h n ks
    → DisksFit m h n (disks store)
fit_disks m h n store ks s loose holds stands rests near f =
    entries_fit m h n (disks store)
    (keeps_every (EntriesFit m h n) store ks loose (header_of h.genesis n) (text m h.genesis [])
    (holds_keeps store ks (plain loose) holds) (grown_fit m h n ks s loose stands f rests near))

-- any entries at all
pub none_asked : (es : List Entry) → AllByRecursion (λ e. Unit {0}) es
none_asked [] = tt
none_asked (e ∷ es) = (tt, none_asked es)

pub cover_more : (genesis : Genesis) (n : ℕ) (x : NodeMessage) (es : List Stored) (e : Entry) → Unit {0}
    → EntriesCover genesis n x es → EntriesCover genesis n x (es ++ Plain e ∷ [])
cover_more genesis n x es e none c = (
  header_more es (Plain e ∷ []) (header_of genesis n) c.0,
  (with_plain e c.1.0, plain_stands es c.1.0 e c.1.1, covers_more c.1.0 e x c.1.2),
)

pub cover_disks : (m : Meaning) (genesis : Genesis) (n : ℕ) (store : StoreValue) (ks : List Stored)
    (loose : List Entry) (x : NodeMessage) → HoldsEntries store ks (plain loose) → EntriesCover genesis n x ks
    → AllCover m genesis n (disks store) x
cover_disks m genesis n store ks loose x holds c =
    entries_cover m genesis n (disks store) x
    (keeps_every (EntriesCover genesis n x) store ks loose (header_of genesis n) (text m genesis [])
    (holds_keeps store ks (plain loose) holds)
    (grown (EntriesCover genesis n x) (λ e. Unit {0}) ks loose (cover_more genesis n x) (none_asked loose) c))

-- ---- after any exit of a put

pub put_fits : (m : Meaning) (h : History) (n : ℕ) (old new : StoreValue) (ks : List Stored) (s : StandingValue)
    (loose given : List Entry) → HoldsEntries old ks (plain loose) → StandsFor ks s
    → KeepsAtLeast new ks (plain loose ++ plain given)
    → AllByRecursion (Rests h) (loose ++ given) → EntriesLieNear h.genesis.alpha s (loose ++ given)
    → DisksFit m h n (disks old) → DisksFit m h n (disks new)
put_fits m h n old new ks s loose given holds stands keeps rests near f =
    let k = held_fit m h n old ks (plain loose) holds f in
    entries_fit m h n (disks new)
    (keeps_every (EntriesFit m h n) new ks (loose ++ given) (header_of h.genesis n) (text m h.genesis [])
    (subst (KeepsAtLeast new ks) (sym (plain_append loose given)) keeps)
    (grown_fit m h n ks s (loose ++ given) stands k rests near))

pub put_covers : (m : Meaning) (genesis : Genesis) (n : ℕ) (old new : StoreValue) (ks : List Stored)
    (loose given : List Entry) (x : NodeMessage) → HoldsEntries old ks (plain loose)
    → KeepsAtLeast new ks (plain loose ++ plain given)
    → AllCover m genesis n (disks old) x → AllCover m genesis n (disks new) x
put_covers m genesis n old new ks loose given x holds keeps c =
    entries_cover m genesis n (disks new) x
    (put_keeps_every (EntriesCover genesis n x) (λ e. Unit {0}) old new ks (plain loose) loose given
    (header_of genesis n) (text m genesis []) holds refl keeps (cover_more genesis n x) (none_asked (loose ++ given))
    (cover_entries m genesis n (disks old) x c))

-- ---- what is known was chosen

pub known_rests : (h : History) (n : ℕ) (w : PaxosState) → PaxosFits h.genesis h.sent n w → (e : Entry)
    → IsKnown w e → Rests h e
known_rests h n w f (Promise b) k = absurd k
known_rests h n w f (Vote x) k = absurd k
known_rests h n w f (Decided i c) (inl pair) = f.stems.pairs i c pair
known_rests h n w f (Decided i c) (inr at) = entry_chosen h.genesis h.sent w.done f.stems.done i c at

pub known_rest : (h : History) (n : ℕ) (w : PaxosState) → PaxosFits h.genesis h.sent n w → (es : List Entry)
    → AllByRecursion (IsKnown w) es → AllByRecursion (Rests h) es
known_rest h n w f [] all = tt
known_rest h n w f (e ∷ es) all = (known_rests h n w f e all.0, known_rest h n w f es all.1)
