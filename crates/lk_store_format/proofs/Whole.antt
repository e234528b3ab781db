-- The whole entries of bytes, and of the front of a file.
use Rattle.std.proofs.Common.{◌≡◌, inl, inr, ℕ, zero, suc, ◌+◌, ◌-◌, ◌≤◌, Bool, true, false, not, ◌||◌, List, [], ◌∷◌}
use Rattle.std.proofs.Common.{◌++◌, length, take, drop, Option, Some, None, refl, sym, ◌∙◌, ap, arith, append_assoc}
use Rattle.std.proofs.Common.{length-append, take-append-drop}
use Rattle.std.specs.List.{AllByRecursion}
use Rattle.std.proofs.Math.Seq.{take-append-add}
use Rattle.std.proofs.lemmas.Bool.{cases_lt}
use Rattle.std.proofs.lemmas.List.{append_cancel_left, append-nil, take-append-le, take_all, nil_from_length}
use Rattle.lk_codec.proofs.Spellings.{IsBytes}
use Rattle.lk_store_format.specs.Entries.{spelling, spelling_of_all, IsStored}
use Rattle.lk_store_format.specs.Files.{NoEntryNext, AreWholeEntries, is_torn, IsFile}
use Rattle.lk_store_format.specs.Formats.{is_mixed}
use Rattle.lk_store_format.specs.Parsing.{read_entry}
use Rattle.lk_store_format.specs.declared.stored.Stored.{Stored}
use Rattle.lk_store_format.proofs.EntryLaws.{entry_reads, none_at}
use Rattle.lk_store_format.proofs.Spelling.{same_front, spelled_long, front_begins_none, none_begins_nil}
use Rattle.lk_store_format.proofs.Spelling.{spelled-append}
use Rattle.lk_store_format.proofs.Spelling.{all-append, all-take}
use Rattle.lk_store_format.proofs.Mixed.{neither, sound_rest, torn_rest, mixed-front}
use Rattle.lk_store_format.proofs.Torn.{nil_torn, entry_front_torn, torn_front}

-- the front of what entries spell is some of them, and a torn end that no entry begins
pub record Front (n : ℕ) (es : List Stored) : Type 0 where
  pub count : ℕ
  pub rest : List ℕ
  pub is : take n (spelling_of_all es) ≡ spelling_of_all (take count es) ++ rest
  pub ends : NoEntryNext rest
  pub torn : is_torn rest ≡ true

pub front : (n : ℕ) (es : List Stored) → AllByRecursion IsStored es → Front n es
front zero [] fit = record { count = 0; rest = []; is = refl; ends = none_begins_nil; torn = nil_torn }
front (suc n) [] fit = record { count = 0; rest = []; is = refl; ends = none_begins_nil; torn = nil_torn }
front n (e ∷ es) fit = elim (cases_lt n (length (spelling e))) [
  | inl short ↦ record {
    count = 0;
    rest = take n (spelling e);
    is = take-append-le n (spelling e) (spelling_of_all es) (omega arith);
    ends = front_begins_none e n fit.0 short;
    torn = entry_front_torn e n fit.0 short;
  }
  | inr long ↦
      let more = front (n - length (spelling e)) es fit.1 in
      let at : n ≡ length (spelling e) + (n - length (spelling e)) = omega arith in
      record {
        count = suc more.count;
        rest = more.rest;
        is = ap (λ (k : ℕ). take k (spelling e ++ spelling_of_all es)) at
            ∙ take-append-add (spelling e) (spelling_of_all es) (n - length (spelling e))
            ∙ ap (λ (l : List ℕ). spelling e ++ l) more.is
            ∙ sym (append_assoc (spelling e) (spelling_of_all (take more.count es)) more.rest);
        ends = more.ends;
        torn = more.torn;
      }
]

pub whole_unique : (es fs : List Stored) (c d : List ℕ) → c ≡ d → AreWholeEntries c es → AreWholeEntries d fs → es ≡ fs
whole_unique [] [] c d same a b = refl
whole_unique [] (f ∷ fs) c d same a b =
    absurd (a.ends f (spelling_of_all fs ++ b.rest) b.fit.0
    (sym a.is ∙ same ∙ b.is ∙ append_assoc (spelling f) (spelling_of_all fs) b.rest))
whole_unique (e ∷ es) [] c d same a b =
    absurd (b.ends e (spelling_of_all es ++ a.rest) a.fit.0
    (sym b.is ∙ sym same ∙ a.is ∙ append_assoc (spelling e) (spelling_of_all es) a.rest))
whole_unique (e ∷ es) (f ∷ fs) c d same a b =
    let both : spelling e ++ (spelling_of_all es ++ a.rest) ≡ spelling f ++ (spelling_of_all fs ++ b.rest) =
    sym (append_assoc (spelling e) (spelling_of_all es) a.rest) ∙ sym a.is ∙ same ∙ b.is
    ∙ append_assoc (spelling f) (spelling_of_all fs) b.rest in
    let heads = same_front e f (spelling_of_all es ++ a.rest) (spelling_of_all fs ++ b.rest) a.fit.0 b.fit.0 both in
    let rests : es ≡ fs =
    whole_unique es fs (spelling_of_all es ++ a.rest) (spelling_of_all fs ++ b.rest) heads.1
    (record { fit = a.fit.1; rest = a.rest; is = refl; ends = a.ends })
    (record { fit = b.fit.1; rest = b.rest; is = refl; ends = b.ends }) in
    λ i. heads.0 i ∷ rests i

pub rest_unique : (es fs : List Stored) (c : List ℕ) (a : AreWholeEntries c es) (b : AreWholeEntries c fs)
    → a.rest ≡ b.rest
rest_unique es fs c a b =
    let same : es ≡ fs = whole_unique es fs c c refl a b in
    append_cancel_left (spelling_of_all es) a.rest b.rest
    (sym a.is ∙ b.is ∙ ap (λ (l : List Stored). spelling_of_all l ++ b.rest) (sym same))

none_front : (k : ℕ) (rest : List ℕ) → NoEntryNext rest → NoEntryNext (take k rest)
none_front k rest none e more fits is =
    none e (more ++ drop k rest) fits
    (sym (take-append-drop k rest) ∙ ap (λ (l : List ℕ). l ++ drop k rest) is
    ∙ append_assoc (spelling e) more (drop k rest))

-- ---- files

-- these entries, and a front of what others spell
pub file_behind : (ks ls : List Stored) (n : ℕ) (fits : AllByRecursion IsStored ls) → AllByRecursion IsStored ks
    → is_mixed (ks ++ ls) ≡ false
    → IsFile (spelling_of_all ks ++ take n (spelling_of_all ls)) (ks ++ take (front n ls fits).count ls) false
file_behind ks ls n fits fit sound =
    let cut = front n ls fits in
    record {
      whole = record {
        fit = all-append IsStored ks (take cut.count ls) fit (all-take IsStored cut.count ls fits);
        rest = cut.rest;
        is = ap (λ (l : List ℕ). spelling_of_all ks ++ l) cut.is
            ∙ sym (append_assoc (spelling_of_all ks) (spelling_of_all (take cut.count ls)) cut.rest)
            ∙ ap (λ (l : List ℕ). l ++ cut.rest) (sym (spelled-append ks (take cut.count ls)));
        ends = cut.ends;
      };
      damage = sound_rest (is_torn cut.rest) (is_mixed (ks ++ take cut.count ls)) cut.torn
          (mixed-front ks ls cut.count sound);
    }

pub file_spelled : (es : List Stored) (c : List ℕ) → AllByRecursion IsStored es → is_mixed es ≡ false
    → c ≡ spelling_of_all es → IsFile c es false
file_spelled es c fit sound is =
    record {
      whole = record {
        fit = fit;
        rest = [];
        is = is ∙ sym (append-nil (spelling_of_all es));
        ends = none_begins_nil;
      };
      damage = sound_rest (is_torn []) (is_mixed es) nil_torn sound;
    }

pub file_unique : (c : List ℕ) (es fs : List Stored) (d f : Bool) → IsFile c es d → IsFile c fs f → (es ≡ fs) × (d ≡ f)
file_unique c es fs d f a b = (
  whole_unique es fs c c refl a.whole b.whole,
  sym a.damage ∙ (λ i. not (is_torn (rest_unique es fs c a.whole b.whole i))
      || is_mixed (whole_unique es fs c c refl a.whole b.whole i)) ∙ b.damage,
)

-- the front of a file
pub record FrontFile (n : ℕ) (c : List ℕ) (es : List Stored) : Type 0 where
  pub count : ℕ
  pub is_damaged : Bool
  pub file : IsFile (take n c) (take count es) is_damaged

pub front_file : (n : ℕ) (c : List ℕ) (es : List Stored) (w : AreWholeEntries c es) → FrontFile n c es
front_file n c es w = elim (cases_lt (length (spelling_of_all es)) n) [
  | inl past ↦
      let at : n ≡ length (spelling_of_all es) + (n - length (spelling_of_all es)) = omega arith in
      record {
        count = length es;
        is_damaged = not (is_torn (take (n - length (spelling_of_all es)) w.rest)) || is_mixed (take (length es) es);
        file = record {
          whole = record {
            fit = all-take IsStored (length es) es w.fit;
            rest = take (n - length (spelling_of_all es)) w.rest;
            is = ap (λ (l : List ℕ). take n l) w.is ∙ ap (λ (k : ℕ). take k (spelling_of_all es ++ w.rest)) at
                ∙ take-append-add (spelling_of_all es) w.rest (n - length (spelling_of_all es))
                ∙ ap (λ (l : List Stored). spelling_of_all l ++ take (n - length (spelling_of_all es)) w.rest)
                (sym (take_all (length es) es (omega arith)));
            ends = none_front (n - length (spelling_of_all es)) w.rest w.ends;
          };
          damage = refl;
        };
      }
  | inr within ↦
      let cut = front n es w.fit in
      record {
        count = cut.count;
        is_damaged = is_mixed (take cut.count es);
        file = record {
          whole = record {
            fit = all-take IsStored cut.count es w.fit;
            rest = cut.rest;
            is = ap (λ (l : List ℕ). take n l) w.is ∙ take-append-le n (spelling_of_all es) w.rest within ∙ cut.is;
            ends = cut.ends;
          };
          damage = torn_rest (is_torn cut.rest) (is_mixed (take cut.count es)) cut.torn;
        };
      }
]

-- a file that is not damaged does not mix the formats
pub file_sound : (c : List ℕ) (es : List Stored) → IsFile c es false → is_mixed es ≡ false
file_sound c es f = (neither (not (is_torn f.whole.rest)) (is_mixed es) f.damage).1

-- the front of a file that reaches past its entries, where these are followed by what is torn
pub front_past : (n : ℕ) (c : List ℕ) (es : List Stored) → IsFile c es false → length (spelling_of_all es) ≤ n
    → IsFile (take n c) es false
front_past n c es f past =
    let w = f.whole in
    let at : n ≡ length (spelling_of_all es) + (n - length (spelling_of_all es)) = omega arith in
    record {
      whole = record {
        fit = w.fit;
        rest = take (n - length (spelling_of_all es)) w.rest;
        is = ap (λ (l : List ℕ). take n l) w.is ∙ ap (λ (k : ℕ). take k (spelling_of_all es ++ w.rest)) at
            ∙ take-append-add (spelling_of_all es) w.rest (n - length (spelling_of_all es));
        ends = none_front (n - length (spelling_of_all es)) w.rest w.ends;
      };
      damage = sound_rest (is_torn (take (n - length (spelling_of_all es)) w.rest)) (is_mixed es)
          (torn_front w.rest (n - length (spelling_of_all es))
          (is_true (is_torn w.rest) (neither (not (is_torn w.rest)) (is_mixed es) f.damage).0)) (file_sound c es f);
    }
  where
    is_true : (b : Bool) → not b ≡ false → b ≡ true
    is_true true e = refl
    is_true false e = absurd cc

-- ---- every byte string has whole entries

record HasWhole (bytes : List ℕ) : Type 0 where
  entries : List Stored
  whole : AreWholeEntries bytes entries

decided : (n : ℕ) → ((b : List ℕ) → length b ≤ n → IsBytes b → HasWhole b) → (bytes : List ℕ) → length bytes ≤ suc n
    → IsBytes bytes → (r : Option (Stored × List ℕ)) → read_entry bytes ≡ r → HasWhole bytes
decided n shorter bytes short fits None e =
    record { entries = []; whole = record { fit = tt; rest = bytes; is = refl; ends = none_at bytes e } }
decided n shorter bytes short fits (Some x) e =
    let t = entry_reads.takes bytes x.0 x.1 fits e in
    let more = shorter x.1 (omega (arith, ap length t.parts, length-append (spelling x.0) x.1, spelled_long x.0))
    t.rest_fits in
    record {
      entries = x.0 ∷ more.entries;
      whole = record {
        fit = (t.fits, more.whole.fit);
        rest = more.whole.rest;
        is = t.parts ∙ ap (λ (l : List ℕ). spelling x.0 ++ l) more.whole.is
            ∙ sym (append_assoc (spelling x.0) (spelling_of_all more.entries) more.whole.rest);
        ends = more.whole.ends;
      };
    }

has_whole : (n : ℕ) (bytes : List ℕ) → length bytes ≤ n → IsBytes bytes → HasWhole bytes
has_whole zero bytes short fits =
    record {
      entries = [];
      whole =
          record { fit = tt; rest = []; is = nil_from_length bytes (omega arith); ends = none_begins_nil };
    }
has_whole (suc n) bytes short fits = decided n (λ b s f. has_whole n b s f) bytes short fits (read_entry bytes) refl

pub every_whole : (bytes : List ℕ) → IsBytes bytes → (es : List Stored) × AreWholeEntries bytes es
every_whole bytes fits = let h = has_whole (length bytes) bytes (omega arith) fits in (h.entries, h.whole)
