-- What the crates above cite of a store: standings, the entries of its images, and what openings leave of these.
use Rattle.std.proofs.Common.{◌≡◌, ℕ, zero, suc, ◌<◌, ◌⊎◌, inl, inr, true, false, List, [], ◌∷◌, ◌++◌, length, take}
use Rattle.std.proofs.Common.{refl, sym, ap, subst, ◌∙◌, arith, append_assoc}
use Rattle.std.specs.List.{AllByRecursion}
use Rattle.std.proofs.lemmas.List.{append-nil, take_at}
use Rattle.lk_types.specs.declared.entry.Entry.{Entry}
use Rattle.lk_disk.specs.Disk.{Disk}
use Rattle.lk_disk.specs.declared.device.Side.{Side}
use Rattle.lk_disk.specs.declared.device.Side.TheVariants.{A, B}
use Rattle.lk_types.specs.Votes.{are_votes_above}
use Rattle.lk_store_format.specs.Entries.{IsBase, IsStored, are_pairs_above, plain}
use Rattle.lk_store_format.specs.Files.{IsFile}
use Rattle.lk_store_format.specs.Formats.{is_mixed}
use Rattle.lk_store_format.specs.Bases.{has_base, is_misplaced, generation}
use Rattle.lk_store_format.specs.Standings.{HasHeader, StandsFor, with_plain, with_all, of_base}
use Rattle.lk_store_format.specs.Values.{HeaderValue, StandingValue, BaseValue}
use Rattle.lk_store_format.specs.declared.stored.Stored.{Stored}
use Rattle.lk_store_format.specs.declared.stored.Stored.TheVariants.{Base, Plain}
use Rattle.lk_store_format.proofs.Mixed.{mixed-take}
use Rattle.lk_store_format.proofs.OneStanding as one
use Rattle.lk_store_format.proofs.Spelling.{all-left, none_begins_nil}
use Rattle.lk_store_format.proofs.StandingLaws as standings
use Rattle.lk_log.specs.EveryImage.{AllMean, EveryFound, NarrowsOrIsNewForSome}
use Rattle.lk_log.specs.Images.{Image, MayLeaveBoth, Means, IsLive, IsEmpty, IsDamaged, SameMeaning, seen}
use Rattle.lk_log.specs.StoreValue.{StoreValue, pick, disks}
use Rattle.lk_log.specs.Rooms.{StaysWithin}
use Rattle.lk_log.specs.Stores.{HoldsEntries, KeepsAtLeast, KeepsAtLeastOn, KeepsBothDisks, KeepsOrIs, first_base}
use Rattle.lk_log.specs.Stores.{Found}
use Rattle.lk_log.specs.Stores.{NarrowsOrIsNew, Opens}
use Rattle.lk_log.specs.declared.verdict.Verdict.{Verdict}
use Rattle.lk_log.specs.declared.verdict.Verdict.TheVariants.{Live, Empty, Damaged}
use Rattle.lk_log.proofs.ImageLaws as images
use Rattle.lk_log.proofs.Room.{within_same}
use Rattle.lk_log.proofs.Settle.{whole_left}
use Rattle.lk_log.proofs.Steps.{keeps_at}

-- ---- what entries stand for

-- with one more entry
pub plain_stands : (es : List Stored) (s : StandingValue) (e : Entry) → StandsFor es s
    → StandsFor (es ++ Plain e ∷ []) (with_plain e s)
plain_stands = standings.plain_stands

-- with more entries
pub all_stand : (es : List Stored) (s : StandingValue) (more : List Entry) → StandsFor es s
    → StandsFor (es ++ plain more) (with_all more s)
all_stand es s [] h = subst (λ (l : List Stored). StandsFor l s) (sym (append-nil es)) h
all_stand es s (e ∷ more) h =
    subst (λ (l : List Stored). StandsFor l (with_all more (with_plain e s)))
    (append_assoc es (Plain e ∷ []) (plain more))
    (all_stand (es ++ Plain e ∷ []) (with_plain e s) more (plain_stands es s e h))

-- a Base alone
pub base_stands : (b : BaseValue) → IsBase b → StandsFor (Base b ∷ []) (of_base b)
base_stands = standings.base_stands

-- a Base whose votes and pairs rise
pub rising_stands : (b : BaseValue) → are_votes_above b.standing.position b.standing.votes ≡ true
    → are_pairs_above b.standing.position b.standing.pairs ≡ true → StandsFor (Base b ∷ []) (of_base b)
rising_stands = standings.rising_stands

-- entries stand for one thing at most
pub one_standing : (es : List Stored) (s t : StandingValue) → StandsFor es s → StandsFor es t → s ≡ t
one_standing = one.one_standing

-- ---- after a Base all entries are plain

no_base_plain : (ls : List Stored) → has_base ls ≡ false → (more : List Entry) × (ls ≡ plain more)
no_base_plain [] e = ([], refl)
no_base_plain (Base b ∷ ls) e = absurd cc
no_base_plain (Plain x ∷ ls) e = let r = no_base_plain ls e in (x ∷ r.0, ap (λ (l : List Stored). Plain x ∷ l) r.1)

no_base_right : (ks ls : List Stored) → has_base (ks ++ ls) ≡ false → has_base ls ≡ false
no_base_right [] ls e = e
no_base_right (Base b ∷ ks) ls e = absurd cc
no_base_right (Plain x ∷ ks) ls e = no_base_right ks ls e

pub plain_behind : (ks ls : List Stored) → 0 < generation ks → is_misplaced (ks ++ ls) ≡ false
    → (more : List Entry) × (ls ≡ plain more)
plain_behind [] ls some base_first = absurd (omega arith)
plain_behind (Base b ∷ ks) ls some base_first = no_base_plain ls (no_base_right ks ls base_first)
plain_behind (Plain x ∷ ks) ls some base_first = absurd (omega arith)

-- what a store holds unsynced is plain
pub holds_plain : (s : StoreValue) (ks ls : List Stored) → HoldsEntries s ks ls → (more : List Entry)
    × (ls ≡ plain more)
holds_plain s ks ls h = plain_behind ks ls (omega (arith, h.on.older.less)) h.on.base_first

pub plain_append : (xs ys : List Entry) → plain (xs ++ ys) ≡ plain xs ++ plain ys
plain_append [] ys = refl
plain_append (x ∷ xs) ys = ap (λ (l : List Stored). Plain x ∷ l) (plain_append xs ys)

pub plain_take : (n : ℕ) (more : List Entry) → take n (plain more) ≡ plain (take n more)
plain_take zero more = refl
plain_take (suc n) [] = refl
plain_take (suc n) (x ∷ more) = ap (λ (l : List Stored). Plain x ∷ l) (plain_take n more)

-- the Base in front stays in front
pub header_more : (es more : List Stored) (whose : HeaderValue) → HasHeader es whose → HasHeader (es ++ more) whose
header_more [] more whose h = absurd h
header_more (Base b ∷ es) more whose h = h
header_more (Plain x ∷ es) more whose h = absurd h

-- well placed entries with a Base in front stand for something
pub every_standing : (es : List Stored) → AllByRecursion IsStored es → is_misplaced es ≡ false → 0 < generation es
    → (s : StandingValue) × StandsFor es s
every_standing [] fit base_first some = absurd (omega arith)
every_standing (Base b ∷ es) fit base_first some =
    let more = no_base_plain es base_first in (
      with_all more.0 (of_base b),
      subst (λ (l : List Stored). StandsFor (Base b ∷ l) (with_all more.0 (of_base b))) (sym more.1)
          (all_stand (Base b ∷ []) (of_base b) more.0 (base_stands b fit.0.0)),
    )
every_standing (Plain x ∷ es) fit base_first some = absurd (omega arith)

-- ---- an image comes to one thing

-- so does the live file of an image
pub live_stands : (image : Image) (es : List Stored) → IsLive image es → (s : StandingValue) × StandsFor es s
live_stands image es l = by_side l.side l.entries l.are l.means
  where
    by_side : (side : Side) (entries : Side → List Stored) → entries side ≡ es → Means image (Live side) entries
        → (s : StandingValue) × StandsFor es s
    by_side A entries are m =
        let w = images.wins_a (entries A) (entries B) (m.is_damaged A) (m.is_damaged B) m.is in
        let s = every_standing (entries A) (m.file A).whole.fit w.base_first (omega (arith, w.less)) in
        (s.0, subst (λ (l : List Stored). StandsFor l s.0) are s.1)
    by_side B entries are m =
        let w = images.wins_b (entries A) (entries B) (m.is_damaged A) (m.is_damaged B) m.is in
        let s = every_standing (entries B) (m.file B).whole.fit w.base_first (omega (arith, w.less)) in
        (s.0, subst (λ (l : List Stored). StandsFor l s.0) are s.1)

-- the live file has one list of entries
pub live_unique : (image : Image) (es fs : List Stored) → IsLive image es → IsLive image fs → es ≡ fs
live_unique = images.live_unique

no_live_empty : (s : Side) → Live s ≡ Empty → ⊥
no_live_empty s e = cc e

-- no image is live and empty
pub not_both : (image : Image) (es : List Stored) → IsLive image es → IsEmpty image → ⊥
not_both image es l e = no_live_empty l.side (images.one_verdict image (Live l.side) Empty l.entries e.0 l.means e.1)

no_live_damaged : (s : Side) → Live s ≡ Damaged → ⊥
no_live_damaged s e = cc e

no_empty_damaged : Empty ≡ Damaged → ⊥
no_empty_damaged e = cc e

-- nothing is found in a damaged image
pub found_sound : (image : Image) (whose : HeaderValue) (text : List ℕ) (es : List Stored)
    → Found image whose text es → IsDamaged image → ⊥
found_sound image whose text es found d = elim found [
  | inl l ↦ no_live_damaged l.side (images.one_verdict image (Live l.side) Damaged l.entries d.0 l.means d.1)
  | inr begun ↦ no_empty_damaged (images.one_verdict image Empty Damaged begun.0.0 d.0 begun.0.1 d.1)
]

-- what is found in an image that is live is its entries
pub found_live : (image : Image) (whose : HeaderValue) (text : List ℕ) (es ks : List Stored) → IsLive image ks
    → Found image whose text es → es ≡ ks
found_live image whose text es ks live found = elim found [
  | inl l ↦ live_unique image es ks l live
  | inr begun ↦ absurd (not_both image ks live begun.0)
]

-- what is found in an image that is empty is the Base of a store that is begun
pub found_begun : (image : Image) (whose : HeaderValue) (text : List ℕ) (es : List Stored) → IsEmpty image
    → Found image whose text es → es ≡ Base (first_base whose text) ∷ []
found_begun image whose text es empty found = elim found [
  | inl l ↦ absurd (not_both image es l empty)
  | inr begun ↦ begun.1
]

pub same_live : (before image : Image) (es : List Stored) → SameMeaning before image
    → IsLive before es → IsLive image es
same_live before image es same l =
    record { side = l.side; entries = l.entries; means = same (Live l.side) l.entries l.means; are = l.are }

pub same_empty : (before image : Image) → SameMeaning before image → IsEmpty before → IsEmpty image
same_empty before image same e = (e.0, same Empty e.0 e.1)

pub same_found : (before image : Image) (whose : HeaderValue) (text : List ℕ) (es : List Stored)
    → SameMeaning before image → Found before whose text es → Found image whose text es
same_found before image whose text es same found = elim found [
  | inl l ↦ inl (same_live before image es same l)
  | inr begun ↦ inr (same_empty before image same begun.0, begun.1)
]

-- what is found means something
found_means : (image : Image) (whose : HeaderValue) (text : List ℕ) (es : List Stored) → Found image whose text es
    → (v : Verdict) × (entries : Side → List Stored) × Means image v entries
found_means image whose text es found = elim found [
  | inl l ↦ (Live l.side, l.entries, l.means)
  | inr begun ↦ (Empty, begun.0.0, begun.0.1)
]

-- the Base of a store that is begun stands for itself
pub first_stands : (whose : HeaderValue) (text : List ℕ)
    → StandsFor (Base (first_base whose text) ∷ []) (first_base whose text).standing
first_stands whose text =
    record {
      snapshot = (refl, refl);
      promised = refl;
      votes = λ i above. refl;
      votes_rise = refl;
      pairs = λ i above. refl;
      pairs_rise = refl;
    }

-- what is found stands for something
pub found_stands : (image : Image) (whose : HeaderValue) (text : List ℕ) (es : List Stored) → Found image whose text es
    → (s : StandingValue) × StandsFor es s
found_stands image whose text es found = elim found [
  | inl l ↦ live_stands image es l
  | inr begun ↦ (
    (first_base whose text).standing,
    subst (λ (l : List Stored). StandsFor l (first_base whose text).standing) (sym begun.1) (first_stands whose text),
  )
]

-- ---- images of disks

-- what is read is an image
pub seen_left : (disks : Side → Disk) → MayLeaveBoth disks (seen disks)
seen_left disks s = whole_left (disks s)

empty_file : (bytes : List ℕ) → bytes ≡ [] → IsFile bytes [] false
empty_file bytes e = record { whole = record { fit = tt; rest = []; is = e; ends = none_begins_nil }; damage = refl }

-- two files without a byte are empty
pub empty_image : (image : Image) → ((s : Side) → image s ≡ []) → IsEmpty image
empty_image image e = (λ s. [], record { is_damaged = λ s. false; file = λ s. empty_file (image s) (e s); is = refl })

take_nothing : (k : ℕ) → let nil : List Stored = [] in take k nil ≡ nil
take_nothing zero = refl
take_nothing (suc k) = refl

-- an open store keeps at least what it holds
pub holds_keeps : (s : StoreValue) (ks ls : List Stored) → HoldsEntries s ks ls → KeepsAtLeast s ks ls
holds_keeps s ks ls h =
    subst (KeepsAtLeast s ks) (append-nil ls) (keeps_at s.live s.live_disk s.other_disk ks ls [] h.on)

-- and so does one with the same files
pub same_keeps : (old new : StoreValue) → KeepsBothDisks old new → new.live ≡ old.live → (ks ls : List Stored)
    → HoldsEntries old ks ls → KeepsAtLeast new ks ls
same_keeps old new same live ks ls h =
    subst (λ (s : Side). KeepsAtLeastOn s new.live_disk new.other_disk ks ls) (sym live)
    (subst (λ (d : Disk). KeepsAtLeastOn old.live d new.other_disk ks ls) (sym same.0)
    (subst (λ (d : Disk). KeepsAtLeastOn old.live old.live_disk d ks ls) (sym same.1) (holds_keeps old ks ls h)))

pub same_within : (most : ℕ) (old new : StoreValue) → KeepsBothDisks old new → new.live ≡ old.live
    → StaysWithin most (disks old) (disks new)
same_within most old new same live =
    within_same most (disks old) (disks new) (λ s i. pick (live i) (same.0 i) (same.1 i) s)

-- where all is kept that was synced, and nothing else was written, each image has just that
pub keeps_live : (s : StoreValue) (ks : List Stored) → KeepsAtLeast s ks [] → (image : Image)
    → MayLeaveBoth (disks s) image → IsLive image ks
keeps_live s ks keeps image left =
    let at = keeps image left in
    subst (IsLive image) (ap (λ (l : List Stored). ks ++ l) (take_nothing at.0) ∙ append-nil ks) at.1

-- where all is synced each image has just that
pub synced_live : (s : StoreValue) (ks : List Stored) → HoldsEntries s ks [] → (image : Image)
    → MayLeaveBoth (disks s) image → IsLive image ks
synced_live s ks h = keeps_live s ks (holds_keeps s ks [] h)

-- each image has the synced entries and a beginning of the others
pub keeps_some : (s : StoreValue) (ks : List Stored) (more : List Entry) → KeepsAtLeast s ks (plain more)
    → (image : Image) → MayLeaveBoth (disks s) image → (k : ℕ) × IsLive image (ks ++ plain (take k more))
keeps_some s ks more keeps image left =
    let at = keeps image left in
    (at.0, subst (λ (l : List Stored). IsLive image (ks ++ l)) (plain_take at.0 more) at.1)

take_one : (k : ℕ) (e : Stored) → let nil : List Stored = [] in (take k (e ∷ nil) ≡ nil) ⊎ (take k (e ∷ nil) ≡ e ∷ nil)
take_one zero e = inl refl
take_one (suc zero) e = inr refl
take_one (suc (suc k)) e = inr refl

-- after any exit of a put of one entry each image has what stood there, or that and the entry
pub put_live : (s : StoreValue) (ks : List Stored) (e : Entry) → KeepsAtLeast s ks ([] ++ plain (e ∷ []))
    → (image : Image) → MayLeaveBoth (disks s) image
    → IsLive image ks ⊎ IsLive image (ks ++ Plain e ∷ [])
put_live s ks e keeps image left =
    let at = keeps image left in
    elim (take_one at.0 (Plain e)) [
      | inl none ↦ inl (subst (IsLive image) (ap (λ (l : List Stored). ks ++ l) none ∙ append-nil ks) at.1)
      | inr all ↦ inr (subst (IsLive image) (ap (λ (l : List Stored). ks ++ l) all) at.1)
    ]

bare : Disk → Disk
bare d = record { synced = d.synced; unsynced = [] }

-- the synced entries alone are what some image has
pub synced_image : (s : StoreValue) (ks ls : List Stored) → HoldsEntries s ks ls
    → (image : Image) × MayLeaveBoth (disks s) image × IsLive image ks
unfolding bare
synced_image s ks ls h =
    let only : StoreValue = record s { live_disk = bare s.live_disk } in
    let nothing = sym (append-nil ks) in
    let alone : HoldsEntries only ks [] = record {
      on = record {
        synced = h.on.synced;
        unsynced = refl;
        fit = subst (AllByRecursion IsStored) nothing (all-left IsStored ks ls h.on.fit);
        base_first = subst (λ (l : List Stored). is_misplaced l ≡ false) (take_at ks ls (length ks) refl ∙ nothing)
            (images.misplaced-take (length ks) (ks ++ ls) h.on.base_first);
        sound = subst (λ (l : List Stored). is_mixed l ≡ false) (take_at ks ls (length ks) refl ∙ nothing)
            (mixed-take (length ks) (ks ++ ls) h.on.sound);
        older = h.on.older;
      };
      generation_is = h.generation_is;
      format_is = h.format_is;
      header_is = h.header_is;
    } in
    let image : Image = λ side. (disks s side).synced ++ take 0 (disks s side).unsynced in
    (image, λ side. (0, refl), synced_live only ks alone image (left_bare s.live))
  where
    left_bare : (live : Side)
        → MayLeaveBoth (pick live (bare s.live_disk) s.other_disk)
        (λ side. (pick live s.live_disk s.other_disk side).synced
        ++ take 0 (pick live s.live_disk s.other_disk side).unsynced)
    left_bare A A = (0, refl)
    left_bare A B = (0, refl)
    left_bare B A = (0, refl)
    left_bare B B = (0, refl)

-- what is synced stands for something
pub holds_stands : (s : StoreValue) (ks ls : List Stored) → HoldsEntries s ks ls → (t : StandingValue) × StandsFor ks t
holds_stands s ks ls h = let i = synced_image s ks ls h in live_stands i.0 ks i.2

-- ---- what every image has

-- what every image has, the synced entries have
pub of_every : (P : List Stored → Type 0) (s : StoreValue) (ks ls : List Stored) (whose : HeaderValue) (text : List ℕ)
    → HoldsEntries s ks ls → EveryFound (disks s) whose text P → P ks
of_every P s ks ls whose text h every =
    let i = synced_image s ks ls h in
    let e = every i.0 i.1 in
    subst P (found_live i.0 whose text e.0 ks i.2 e.1) e.2

-- what the synced entries have with each beginning of the others, every image has
pub keeps_every : (P : List Stored → Type 0) (s : StoreValue) (ks : List Stored) (more : List Entry)
    (whose : HeaderValue) (text : List ℕ) → KeepsAtLeast s ks (plain more)
    → ((k : ℕ) → P (ks ++ plain (take k more))) → EveryFound (disks s) whose text P
keeps_every P s ks more whose text keeps p image left =
    let at = keeps_some s ks more keeps image left in
    (ks ++ plain (take at.0 more), inl at.1, p at.0)

-- where all is synced, what the entries have every image has
pub to_every : (P : List Stored → Type 0) (s : StoreValue) (ks : List Stored) (whose : HeaderValue) (text : List ℕ)
    → HoldsEntries s ks [] → P ks → EveryFound (disks s) whose text P
to_every P s ks whose text h p image left = (ks, inl (synced_live s ks h image left), p)

-- what the synced entries have, with and without one more, every image has after any exit of its put
pub put_every : (P : List Stored → Type 0) (s : StoreValue) (ks : List Stored) (e : Entry) (whose : HeaderValue)
    (text : List ℕ) → KeepsAtLeast s ks ([] ++ plain (e ∷ []))
    → P ks → P (ks ++ Plain e ∷ []) → EveryFound (disks s) whose text P
put_every P s ks e whose text keeps p q image left = elim (put_live s ks e keeps image left) [
  | inl was ↦ (ks, inl was, p)
  | inr more ↦ (ks ++ Plain e ∷ [], inl more, q)
]

-- what any entries keep that get one more of these
grown : (P : List Stored → Type 0) (Q : Entry → Type 0) (ks : List Stored) (more : List Entry)
    → ((es : List Stored) (e : Entry) → Q e → P es → P (es ++ Plain e ∷ []))
    → AllByRecursion Q more → P ks → (k : ℕ) → P (ks ++ plain (take k more))
grown P Q ks more grows all p zero = subst P (sym (append-nil ks)) p
grown P Q ks [] grows all p (suc k) = subst P (sym (append-nil ks)) p
grown P Q ks (e ∷ more) grows all p (suc k) =
    subst P (append_assoc ks (Plain e ∷ []) (plain (take k more)))
    (grown P Q (ks ++ Plain e ∷ []) more grows all.1 (grows ks e all.0 p) k)

-- What every image has that outlasts each entry of the tail and each given one, every image has after any exit of a
-- put.
pub put_keeps_every : (P : List Stored → Type 0) (Q : Entry → Type 0) (old new : StoreValue) (ks ls : List Stored)
    (tail given : List Entry) (whose : HeaderValue) (text : List ℕ)
    → HoldsEntries old ks ls → ls ≡ plain tail → KeepsAtLeast new ks (ls ++ plain given)
    → ((es : List Stored) (e : Entry) → Q e → P es → P (es ++ Plain e ∷ []))
    → AllByRecursion Q (tail ++ given) → EveryFound (disks old) whose text P → EveryFound (disks new) whose text P
put_keeps_every P Q old new ks ls tail given whose text h is keeps grows all every =
    let whole : ls ++ plain given ≡ plain (tail ++ given) = ap (λ (l : List Stored). l ++ plain given) is
    ∙ sym (plain_append tail given) in
    keeps_every P new ks (tail ++ given) whose text (subst (KeepsAtLeast new ks) whole keeps)
    (grown P Q ks (tail ++ given) grows all (of_every P old ks ls whose text h every))

-- ---- a rebase

-- entries have one header
pub one_header : (es : List Stored) (h k : HeaderValue) → HasHeader es h → HasHeader es k → h ≡ k
one_header [] h k a b = absurd a
one_header (Base x ∷ es) h k a b = sym a ∙ b
one_header (Plain x ∷ es) h k a b = absurd a

-- What every image has that outlasts each entry of the tail, and the new Base alone has, every image has after any exit
-- of a rebase.
pub rebase_every : (P : List Stored → Type 0) (Q : Entry → Type 0) (old new : StoreValue) (ks ls : List Stored)
    (tail : List Entry) (b : BaseValue) (whose : HeaderValue) (text : List ℕ)
    → HoldsEntries old ks ls → ls ≡ plain tail → KeepsOrIs (disks new) ks ls b
    → ((es : List Stored) (e : Entry) → Q e → P es → P (es ++ Plain e ∷ []))
    → AllByRecursion Q tail → P (Base b ∷ []) → EveryFound (disks old) whose text P
    → EveryFound (disks new) whose text P
rebase_every P Q old new ks ls tail b whose text h is keeps grows all base every image left = elim (keeps image left) [
  | inl at ↦ (
    ks ++ plain (take at.0 tail),
    inl (subst (λ (l : List Stored). IsLive image (ks ++ l)) (ap (take at.0) is ∙ plain_take at.0 tail) at.1),
    grown P Q ks tail grows all (of_every P old ks ls whose text h every) at.0,
  )
  | inr alone ↦ (Base b ∷ [], inl alone, base)
]

-- ---- openings

-- what an opened store of this header holds
pub opens_holds : (before : Image) (whose : HeaderValue) (text : List ℕ) (store : StoreValue) (s : StandingValue)
    (o : Opens before whose text store s) → store.header ≡ whose → HoldsEntries store o.entries []
opens_holds before whose text store s o same =
    record {
      on = o.holds;
      generation_is = o.generation_is;
      format_is = o.format_is;
      header_is = subst (HasHeader o.entries) (sym same) o.header;
    }

-- each image then comes to something
pub every_means : (P : List Stored → Type 0) (disks : Side → Disk) (whose : HeaderValue) (text : List ℕ)
    → EveryFound disks whose text P → AllMean disks
every_means P disks whose text every image left = let e = every image left in found_means image whose text e.0 e.1

-- what one opening leaves, openings in a row may leave
pub opening_is : (old new : Side → Disk) (whose : HeaderValue) (text : List ℕ) → NarrowsOrIsNew old new whose text
    → NarrowsOrIsNewForSome old new whose text
opening_is old new whose text n image left = elim (n image left) [
  | inl was ↦ inl was
  | inr begun ↦ inr ((seen old, seen_left old, begun.0), begun.1)
]

-- one opening after another, Ok or refused
pub openings : (old mid new : Side → Disk) (whose : HeaderValue) (text : List ℕ) → AllMean old
    → NarrowsOrIsNewForSome old mid whose text → NarrowsOrIsNewForSome mid new whose text
    → NarrowsOrIsNewForSome old new whose text
openings old mid new whose text mean first second image left = elim (second image left) [
  | inl was ↦ elim (first was.0 was.1) [
    | inl w ↦ inl (w.0, w.1, λ v es m. was.2 v es (w.2 v es m))
    | inr begun ↦ inr (begun.0, same_live was.0 image (Base (first_base whose text) ∷ []) was.2 begun.1)
  ]
  | inr begun ↦ elim (first begun.0.0 begun.0.1) [
    | inl w ↦
        let it = mean w.0 w.1 in
        let is : it.0 ≡ Empty = images.one_verdict begun.0.0 it.0 Empty it.1 begun.0.2.0
        (w.2 it.0 it.1 it.2) begun.0.2.1 in
        inr ((w.0, w.1, (it.1, subst (λ (v : Verdict). Means w.0 v it.1) is it.2)), begun.1)
    | inr live ↦ absurd (not_both begun.0.0 (Base (first_base whose text) ∷ []) live.1 begun.0.2)
  ]
]

-- what every image has, every image has after openings
pub openings_every : (P : List Stored → Type 0) (old new : Side → Disk) (whose : HeaderValue) (text : List ℕ)
    → NarrowsOrIsNewForSome old new whose text → EveryFound old whose text P → EveryFound new whose text P
openings_every P old new whose text n every image left = elim (n image left) [
  | inl was ↦ let e = every was.0 was.1 in (e.0, same_found was.0 image whose text e.0 was.2 e.1, e.2)
  | inr begun ↦
      let e = every begun.0.0 begun.0.1 in
      (e.0, inl (subst (IsLive image) (sym (found_begun begun.0.0 whose text e.0 begun.0.2 e.1)) begun.1), e.2)
]

-- so after one
pub opening_every : (P : List Stored → Type 0) (old new : Side → Disk) (whose : HeaderValue) (text : List ℕ)
    → NarrowsOrIsNew old new whose text → EveryFound old whose text P → EveryFound new whose text P
opening_every P old new whose text n = openings_every P old new whose text (opening_is old new whose text n)

-- what an opening found has what every image had
pub opens_found : (P : List Stored → Type 0) (old : Side → Disk) (whose : HeaderValue) (text : List ℕ)
    (store : StoreValue) (s : StandingValue) (o : Opens (seen old) whose text store s)
    → EveryFound old whose text P → P o.entries
opens_found P old whose text store s o every =
    let e = every (seen old) (seen_left old) in
    subst P (one_found (seen old) e.0 o.entries e.1 o.found) e.2
  where
    one_found : (image : Image) (es fs : List Stored) → Found image whose text es → Found image whose text fs → es ≡ fs
    one_found image es fs found other = elim other [
      | inl l ↦ found_live image whose text es fs l found
      | inr begun ↦ found_begun image whose text es begun.0 found ∙ sym begun.1
    ]
