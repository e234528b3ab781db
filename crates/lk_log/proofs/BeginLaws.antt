-- What the beginning of a store leaves.
use Rattle.std.proofs.Common.{◌≡◌, ◌⊎◌, inl, inr, ℕ, ◌*◌, ◌≤◌, lit<, lit≤, false, not, ◌||◌, List, [], ◌∷◌, ◌++◌}
use Rattle.std.proofs.Common.{length, take, refl, sym, ◌∙◌, ap, subst, arith, length-append}
use Rattle.std.specs.List.{flat_map}
use Rattle.std.proofs.lemmas.List.Concat.{flat_map-cons}
use Rattle.std.proofs.lemmas.Bool.{cases_lt}
use Rattle.std.proofs.lemmas.List.{append-nil, take_all}
use Rattle.lk_types.specs.declared.member.Member.{Member}
use Rattle.lk_codec.specs.Fields.{two, four, eight, member}
use Rattle.lk_disk.specs.Disk.{Disk, other, contents, appended, cut_to, fully_synced, CutShort, MayLeave}
use Rattle.lk_disk.specs.declared.device.Side.{Side}
use Rattle.lk_disk.specs.declared.device.Side.TheVariants.{A, B}
use Rattle.lk_store_format.specs.Headers.{IsHeader}
use Rattle.lk_store_format.specs.Entries.{base, spelling, IsStored}
use Rattle.lk_store_format.specs.Formats.{is_mixed}
use Rattle.lk_store_format.specs.Files.{NoEntryNext, is_torn, IsFile}
use Rattle.lk_store_format.specs.Values.{HeaderValue}
use Rattle.lk_store_format.specs.declared.stored.Stored.{Stored}
use Rattle.lk_store_format.specs.declared.stored.Stored.TheVariants.{Base}
use Rattle.lk_store_format.proofs.Spelling.{front_begins_none}
use Rattle.lk_store_format.proofs.Mixed.{sound_rest}
use Rattle.lk_store_format.proofs.Torn.{entry_front_torn}
use Rattle.lk_store_format.proofs.Whole.{file_spelled, front_past}
use Rattle.lk_store_format.proofs.StandingLaws.{base_stands}
use Rattle.lk_log.specs.Images.{Image, MayLeaveBoth, IsLive, IsEmpty, Narrows, seen, SameMeaning}
use Rattle.lk_log.specs.StoreValue.{pick}
use Rattle.lk_log.specs.Stores.{first_base, IsWrittenOver, NarrowsOrIsNew, OpensOn}
use Rattle.lk_log.specs.declared.verdict.Verdict.TheVariants.{Empty}
use Rattle.lk_log.proofs.ImageLaws.{each_side, is_live, Nothing, nothing_there, means_same}
use Rattle.lk_log.proofs.Steps.{take_nil, left_front, take_within}
use Rattle.lk_log.proofs.Settle.{short_front, whole_left, both_same}

-- ---- a file that is written over

pub over_short : (old new : Disk) (bytes : List ℕ) → CutShort 0 old new → IsWrittenOver old bytes new
over_short old new bytes short c left = inl (length c, short_front old new 0 short c left)

pub over_append : (old mid new : Disk) (bytes : List ℕ) (n : ℕ) → mid ≡ cut_to 0 old
    → new ≡ appended mid (take n bytes) → IsWrittenOver old bytes new
over_append old mid new bytes n cut is c left =
    let empty : c ≡ take left.0 ([] ++ take n bytes) = left.1 ∙ (λ i. (is i).synced ++ take left.0 (is i).unsynced)
    ∙ (λ i. (cut i).synced ++ take left.0 ((cut i).unsynced ++ take n bytes)) in
    let within = take_within left.0 n [] bytes in
    inr (within.0, empty ∙ within.1)

pub over_all : (old mid new : Disk) (bytes : List ℕ) → mid ≡ cut_to 0 old → new ≡ appended mid bytes
    → IsWrittenOver old bytes new
over_all old mid new bytes cut is =
    over_append old mid new bytes (length bytes) cut
    (is ∙ ap (appended mid) (sym (take_all (length bytes) bytes (omega arith))))

pub over_whole : (old new : Disk) (bytes : List ℕ) → new ≡ record { synced = bytes; unsynced = [] }
    → IsWrittenOver old bytes new
over_whole old new bytes is c left =
    inr (
      length bytes,
      left.1 ∙ (λ i. (is i).synced ++ take left.0 (is i).unsynced)
          ∙ ap (λ (l : List ℕ). bytes ++ l) (take_nil left.0) ∙ append-nil bytes
          ∙ sym (take_all (length bytes) bytes (omega arith)),
    )

pub over_done : (old mid end new : Disk) (bytes : List ℕ) → mid ≡ cut_to 0 old → end ≡ appended mid bytes
    → new ≡ fully_synced end → new ≡ record { synced = bytes; unsynced = [] }
over_done old mid end new bytes cut add sync =
    sync ∙ ap fully_synced add ∙ ap (λ (d : Disk). fully_synced (appended d bytes)) cut

-- ---- the images

-- the front of a file with nothing in it
nothing_front : (c d : List ℕ) (p : ℕ) → IsFile c [] false → d ≡ take p c → IsFile d [] false
nothing_front c d p f is = subst (λ (l : List ℕ). IsFile l [] false) (sym is) (front_past p c [] f (omega arith))

-- the front of what an entry spells is the entry or nothing
pub entry_or_nothing : (e : Stored) (p : ℕ) (c : List ℕ) → IsStored e → is_mixed (e ∷ []) ≡ false
    → c ≡ take p (spelling e) → IsFile c [] false ⊎ IsFile c (e ∷ []) false
entry_or_nothing e p c fits sound is = elim (cases_lt p (length (spelling e))) [
  | inl short ↦ inl (record {
    whole =
        record {
          fit = tt;
          rest = c;
          is = refl;
          ends = subst (λ (l : List ℕ). NoEntryNext l) (sym is) (front_begins_none e p fits short);
        };
    damage = ap (λ (l : List ℕ). not (is_torn l) || is_mixed []) is
        ∙ sound_rest (is_torn (take p (spelling e))) (is_mixed []) (entry_front_torn e p fits short) refl;
  })
  | inr all ↦
      inr (file_spelled (e ∷ []) c (fits, tt) sound (is ∙ take_all p (spelling e) all ∙ sym (append-nil (spelling e))))
]

-- nothing stood there and nothing stands there
nothing_same : (before image : Image) → Nothing before → Nothing image → SameMeaning before image
nothing_same before image n m v es was = record {
  is_damaged = was.is_damaged;
  file = λ s. each_side (λ (t : Side). IsFile (image t) (es t) (was.is_damaged t)) A
      (both_same (before A) (image A) [] false n.a m.a (es A) (was.is_damaged A) (was.file A))
      (both_same (before B) (image B) [] false n.b m.b (es B) (was.is_damaged B) (was.file B)) s;
  is = was.is;
}

module _ (old new : Side → Disk) (h : HeaderValue) (text : List ℕ) (empty : IsEmpty (seen old)) where
  was_nothing : Nothing (seen old)
  was_nothing = nothing_there (seen old) empty.0 empty.1

  pub begins : IsStored (Base (first_base h text)) → new B ≡ old B
      → IsWrittenOver (old A) (spelling (Base (first_base h text))) (new A) → NarrowsOrIsNew old new h text
  begins fits same over image left =
      let b_front = left_front (old B) (image B) (subst (λ (d : Disk). MayLeave d (image B)) same (left B)) in
      let at_b : IsFile (image B) [] false =
      nothing_front (contents (old B)) (image B) b_front.0 was_nothing.b b_front.1 in
      let nothing_more : IsFile (image A) [] false
      → ((before : Image) × MayLeaveBoth old before × SameMeaning before image)
      ⊎ (IsEmpty (seen old) × IsLive image (Base (first_base h text) ∷ [])) =
      λ at_a. inl (
        seen old,
        λ s. whole_left (old s),
        nothing_same (seen old) image was_nothing (record { a = at_a; b = at_b }),
      ) in
      elim (over (image A) (left A)) [
        | inl was ↦ nothing_more (nothing_front (contents (old A)) (image A) was.0 was_nothing.a was.1)
        | inr now ↦ elim (entry_or_nothing (Base (first_base h text)) now.0 (image A) fits refl now.1) [
          | inl none ↦ nothing_more none
          | inr base_there ↦
              inr (empty, is_live image A (Base (first_base h text) ∷ []) [] false base_there at_b refl refl (lit< tt))
        ]
      ]

  pub begun_opens : IsStored (Base (first_base h text)) → new B ≡ old B
      → new A ≡ record { synced = spelling (Base (first_base h text)); unsynced = [] }
      → OpensOn (seen old) h text (new A) (new B) 1 2 (first_base h text).standing
  begun_opens fits same is = record {
    entries = Base (first_base h text) ∷ [];
    found = inr (empty, refl);
    holds = record {
      synced = ap (λ (d : Disk). d.synced) is ∙ sym (append-nil (spelling (Base (first_base h text))));
      unsynced = ap (λ (d : Disk). d.unsynced) is;
      fit = (fits, tt);
      base_first = refl;
      sound = refl;
      older = record {
        entries = [];
        is_damaged = false;
        file = subst (λ (d : Disk). IsFile (contents d) [] false) (sym same) was_nothing.b;
        base_first = refl;
        less = lit< tt;
      };
    };
    header = refl;
    generation_is = refl;
    format_is = refl;
    stands = base_stands (first_base h text) fits.0;
  }

-- nothing has changed
pub begins_same : (old new : Side → Disk) (h : HeaderValue) (text : List ℕ) → ((s : Side) → new s ≡ old s)
    → NarrowsOrIsNew old new h text
begins_same old new h text same image left =
    inl (image, λ s. subst (λ (d : Disk). MayLeave d (image s)) (same s) (left s), λ v es m. m)

-- nothing had changed before
pub begins_after : (old mid new : Side → Disk) (h : HeaderValue) (text : List ℕ) → ((s : Side) → mid s ≡ old s)
    → ((s : Side) → contents (mid s) ≡ contents (old s)) → NarrowsOrIsNew mid new h text
    → NarrowsOrIsNew old new h text
begins_after old mid new h text same seen_same then_on image left = elim (then_on image left) [
  | inl was ↦ inl (was.0, λ s. subst (λ (d : Disk). MayLeave d (was.0 s)) (same s) (was.1 s), was.2)
  | inr begun ↦ inr ((begun.0.0, means_same (seen mid) (seen old) Empty begun.0.0 seen_same begun.0.1), begun.1)
]

-- what narrows begins nothing
pub begins_narrows : (old new : Side → Disk) (h : HeaderValue) (text : List ℕ) → Narrows old new
    → NarrowsOrIsNew old new h text
begins_narrows old new h text n image left = inl (n image left)

-- the disks of a store are those of its device
pub begins_pick : (live : Side) (old new : Side → Disk) (h : HeaderValue) (text : List ℕ)
    → NarrowsOrIsNew old new h text → NarrowsOrIsNew old (pick live (new live) (new (other live))) h text
begins_pick A old new h text all image left =
    all image (λ s. each_side (λ (t : Side). MayLeave (new t) (image t)) A (left A) (left B) s)
begins_pick B old new h text all image left =
    all image (λ s. each_side (λ (t : Side). MayLeave (new t) (image t)) A (left A) (left B) s)

-- ---- the first Base is an entry

pub members_long : (ms : List Member) → length (flat_map member ms) ≤ 6 * length ms
unfolding two four
members_long [] = omega arith
members_long (m ∷ ms) =
    omega (arith, ap length (flat_map-cons member m ms), length-append (member m) (flat_map member ms), members_long ms)

pub first_fits : (h : HeaderValue) (text : List ℕ) → IsHeader h → 1 ≤ length text → length text ≤ 49054
    → IsStored (Base (first_base h text))
unfolding base two four eight
first_fits h text fits some few = (
  (
    (lit≤ tt, lit≤ tt),
    fits,
    (inr refl, lit≤ tt, some, omega (arith, few), lit≤ tt, tt, refl, lit≤ tt, tt, refl),
    (lit≤ tt, lit≤ tt),
  ),
  omega (arith, few, members_long h.members, fits.4.1, length-append (flat_map member h.members), length-append text),
)
