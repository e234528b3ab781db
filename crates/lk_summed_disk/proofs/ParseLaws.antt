-- What the bytes of a file are parsed to.
use Rattle.std.proofs.Common.{◌≡◌, ◌∙◌, ◌↔◌, ℕ, zero, suc, ◌+◌, ◌-◌, ◌≤◌, min, Bool, true, false, List, [], ◌∷◌, ◌++◌}
use Rattle.std.proofs.Common.{length, take, drop, refl, sym, ap, subst, arith, append_assoc}
use Rattle.std.proofs.Common.{Some}
use Rattle.std.proofs.Common.{length-append, length-take, length-drop, not}
use Rattle.std.proofs.Math.Seq.{take-append-add}
use Rattle.std.specs.Str.{bytes_eq}
use Rattle.std.proofs.lemmas.Bool.{true≢false, false≢true, false_from_ne_true, ne_eqb, not-true, not-false}
use Rattle.std.proofs.lemmas.Slice.Eq.{bytes_eq-Decides}
use Rattle.std.proofs.lemmas.List.{take_at, take-take, take_all, take-append-drop, append-nil}
use Rattle.lk_disk.specs.declared.device.Side.{Side}
use Rattle.lk_disk.specs.declared.device.Side.TheVariants.{A, B}
use Rattle.lk_summed_disk.specs.Frames.{max_piece, magic, seed, digest, frame, is_frame, is_torn, HasSums}
use Rattle.lk_summed_disk.specs.Readers.{Reader, fresh, marked, framed, read, text, IsSound}
use Rattle.lk_summed_disk.specs.Places.{reader, is_summed, Holds}
use Rattle.lk_summed_disk.specs.declared.place.Form.{Form}
use Rattle.lk_summed_disk.specs.declared.place.Form.TheVariants.{Empty, Plain, Summed}
use Rattle.lk_summed_disk.specs.declared.place.Place.{Place}
use Rattle.lk_summed_disk.proofs.FrameLaws.{torn_front}
use Rattle.lk_summed_disk.proofs.ReaderLaws.{read-append, text-append, text-take, reads_frame, torn_quiet, no_frames}
use Rattle.lk_summed_disk.proofs.ReaderLaws.{marked_reads, step_other}
use Rattle.lk_summed_disk.proofs.PlaceLaws.{text_plain, read_plain, magic_read, magic_text, length-magic}
use Rattle.lk_summed_disk.proofs.PlaceLaws.{magic_front_text, magic_front_sound}

-- ---- frames

-- what was parsed so far: whole frames of this text, up to this chain, and what follows
pub record At (s : Side) (bytes so_far chain rest : List ℕ) : Type 0 where
  pub front : List ℕ
  pub is : bytes ≡ front ++ rest
  pub text_is : text (fresh s) front ≡ so_far
  pub reads : read (fresh s) front ≡ framed chain []

pub at_start : (s : Side) (bytes rest : List ℕ) → bytes ≡ magic s ++ rest → At s bytes [] (seed s) rest
at_start s bytes rest is = record {
  front = magic s;
  is = is;
  text_is = ap (text (fresh s)) (sym (append-nil (magic s))) ∙ magic_text s [];
  reads = ap (read (fresh s)) (sym (append-nil (magic s))) ∙ magic_read s [];
}

pub at_more : (s : Side) (bytes so_far chain rest piece more : List ℕ) → At s bytes so_far chain rest
    → rest ≡ frame chain piece ++ more → length piece ≤ max_piece
    → At s bytes (so_far ++ piece) (digest chain piece) more
at_more s bytes so_far chain rest piece more at is fits =
    let both = reads_frame chain piece fits in
    record {
      front = at.front ++ frame chain piece;
      is = at.is ∙ ap (λ (l : List ℕ). at.front ++ l) is ∙ sym (append_assoc at.front (frame chain piece) more);
      text_is = text-append (fresh s) at.front (frame chain piece)
          ∙ ap (λ (l : List ℕ). l ++ text (read (fresh s) at.front) (frame chain piece)) at.text_is
          ∙ ap (λ (r : Reader). so_far ++ text r (frame chain piece)) at.reads
          ∙ ap (λ (l : List ℕ). so_far ++ l) both.0;
      reads = read-append (fresh s) at.front (frame chain piece)
          ∙ ap (λ (r : Reader). read r (frame chain piece)) at.reads ∙ both.1;
    }

-- a torn rest adds no text
torn_adds : (s : Side) (front chain more : List ℕ) → read (fresh s) front ≡ framed chain [] → is_torn more ≡ true
    → text (fresh s) (front ++ more) ≡ text (fresh s) front
torn_adds s front chain more reads torn =
    text-append (fresh s) front more
    ∙ ap (λ (r : Reader). text (fresh s) front ++ text r more) reads
    ∙ ap (λ (l : List ℕ). text (fresh s) front ++ l) (torn_quiet chain more torn).0
    ∙ append-nil (text (fresh s) front)

-- bytes from a place on
cut_from : (front rest bytes : List ℕ) (n : ℕ) → bytes ≡ front ++ rest → length front ≤ n
    → take n bytes ≡ front ++ take (n - length front) rest
cut_from front rest bytes n is long =
    let at : n ≡ length front + (n - length front) = omega (arith, long) in
    ap (take n) is ∙ ap (λ (k : ℕ). take k (front ++ rest)) at ∙ take-append-add front rest (n - length front)

pub at_text : (s : Side) (bytes so_far chain rest : List ℕ) → At s bytes so_far chain rest → is_torn rest ≡ true
    → so_far ≡ text (fresh s) bytes
at_text s bytes so_far chain rest at torn =
    sym (ap (text (fresh s)) at.is ∙ torn_adds s at.front chain rest at.reads torn ∙ at.text_is)

at_reads : (s : Side) (bytes so_far chain rest : List ℕ) → At s bytes so_far chain rest
    → read (fresh s) bytes ≡ read (framed chain []) rest
at_reads s bytes so_far chain rest at =
    ap (read (fresh s)) at.is ∙ read-append (fresh s) at.front rest
    ∙ ap (λ (r : Reader). read r rest) at.reads

at_quiet : (s : Side) (bytes so_far chain rest : List ℕ) (n : ℕ) → At s bytes so_far chain rest
    → is_torn rest ≡ true → length bytes - length rest ≤ n
    → text (fresh s) (take n bytes) ≡ text (fresh s) bytes
at_quiet s bytes so_far chain rest n at torn long =
    let here : length at.front ≤ n = omega (arith, long, ap length at.is, length-append at.front rest) in
    ap (text (fresh s)) (cut_from at.front rest bytes n at.is here)
    ∙ torn_adds s at.front chain (take (n - length at.front) rest) at.reads
    (torn_front rest (n - length at.front) torn)
    ∙ sym (torn_adds s at.front chain rest at.reads torn) ∙ ap (text (fresh s)) (sym at.is)

pub at_end : (s : Side) (bytes so_far chain rest : List ℕ) (p : Place) → At s bytes so_far chain rest
    → is_torn rest ≡ true → p.form ≡ Summed chain → p.end ≡ length bytes - length rest → p.size ≡ length so_far
    → (p.is_whole ≡ true → rest ≡ []) → Holds s bytes (Some p)
at_end s bytes so_far chain rest p at torn form end size whole =
    let both = length-append at.front rest in
    let count : p.end ≡ length at.front = omega (arith, end, ap length at.is, both) in
    record {
      sound = subst IsSound (sym (at_reads s bytes so_far chain rest at ∙ (torn_quiet chain rest torn).1)) torn;
      known = record {
        within = omega (arith, end);
        reads = ap (λ (k : ℕ). read (fresh s) (take k bytes)) count
            ∙ ap (λ (l : List ℕ). read (fresh s) (take (length at.front) l)) at.is
            ∙ ap (read (fresh s)) (take_at at.front rest (length at.front) refl) ∙ at.reads
            ∙ ap (reader s) (sym form);
        quiet = λ n long. at_quiet s bytes so_far chain rest n at torn (omega (arith, end, long));
        size = size ∙ ap length (at_text s bytes so_far chain rest at torn);
        whole = λ w. omega (arith, end, ap length (whole w));
      };
    }

pub at_damaged : (s : Side) (bytes so_far chain rest : List ℕ) → At s bytes so_far chain rest
    → is_torn rest ≡ false → ((n : ℕ) → is_frame chain (take n rest) ≡ false) → IsSound (read (fresh s) bytes) → ⊥
at_damaged s bytes so_far chain rest at torn none sound =
    let found : is_torn rest ≡ true =
    subst IsSound (at_reads s bytes so_far chain rest at ∙ (no_frames chain [] rest none).1) sound in
    true≢false (sym found ∙ torn)

-- ---- the magic

other_front : (s : Side) (bytes : List ℕ) (n : ℕ)
    → (take (min (length bytes) 8) bytes ≡ take (min (length bytes) 8) (magic s) → ⊥)
    → bytes_eq (take n bytes) (magic s) ≡ false
other_front s bytes n differs = false_from_ne_true (bytes_eq (take n bytes) (magic s)) (λ same.
    let is : take n bytes ≡ magic s = (bytes_eq-Decides (take n bytes) (magic s)).0 same in
    let long : 8 ≤ min n (length bytes) = omega (arith, ap length is, length-take n bytes, length-magic s) in
    let count : min (length bytes) 8 ≤ n = omega (arith, long) in
    differs (sym (take-take (min (length bytes) 8) n bytes count) ∙ ap (take (min (length bytes) 8)) is))

pub wrong_magic : (s : Side) (bytes : List ℕ) → (bytes ≡ [] → ⊥) → ((rest : List ℕ) → bytes ≡ 0 ∷ rest → ⊥)
    → (take (min (length bytes) 8) bytes ≡ take (min (length bytes) 8) (magic s) → ⊥)
    → IsSound (read (fresh s) bytes) → ⊥
wrong_magic s [] some marks differs sound = some refl
wrong_magic s (zero ∷ bytes) some marks differs sound = marks bytes refl
wrong_magic s (suc b ∷ bytes) some marks differs sound =
    let reads : read (fresh s) (suc b ∷ bytes) ≡ marked s (suc b ∷ bytes) =
    ap (λ (r : Reader). read r bytes) (step_other s (suc b) (ne_eqb (suc b) 0 (λ same. absurd (omega (arith, same)))))
    ∙ marked_reads s (suc b ∷ []) bytes (λ n. other_front s (suc b ∷ bytes) (suc (suc n)) differs) (omega arith) in
    let is : suc b ∷ bytes ≡ take (length (suc b ∷ bytes)) (magic s) = subst IsSound reads sound in
    let count : min (length (suc b ∷ bytes)) 8 ≤ length (suc b ∷ bytes) = omega arith in
    differs (ap (take (min (length (suc b ∷ bytes)) 8)) is
    ∙ take-take (min (length (suc b ∷ bytes)) 8) (length (suc b ∷ bytes)) (magic s) count)

pub whole_magic : (s : Side) (bytes : List ℕ) → take 8 bytes ≡ magic s → bytes ≡ magic s ++ drop 8 bytes
whole_magic s bytes is = sym (take-append-drop 8 bytes) ∙ ap (λ (l : List ℕ). l ++ drop 8 bytes) is

-- a front of the magic
pub torn_magic : (s : Side) (bytes : List ℕ) (p : Place) → bytes ≡ take (length bytes) (magic s) → p.form ≡ Empty
    → p.end ≡ 0 → p.size ≡ 0 → p.is_whole ≡ false → Holds s bytes (Some p)
torn_magic s bytes p is form end size torn =
    let none : text (fresh s) bytes ≡ [] = ap (text (fresh s)) is ∙ magic_front_text s (length bytes) in
    record {
      sound = subst (λ (l : List ℕ). IsSound (read (fresh s) l)) (sym is) (magic_front_sound s (length bytes));
      known = record {
        within = omega (arith, end);
        reads = ap (λ (k : ℕ). read (fresh s) (take k bytes)) end ∙ ap (reader s) (sym form);
        quiet = λ n _.
            text-take (fresh s) n bytes ∙ ap (take (length (text (fresh s) (take n bytes)))) none
            ∙ take_all (length (text (fresh s) (take n bytes))) [] (omega arith) ∙ sym none;
        size = size ∙ ap length (sym none);
        whole = λ whole. absurd (true≢false (sym whole ∙ torn));
      };
    }

pub torn_magic_text : (s : Side) (bytes : List ℕ) → bytes ≡ take (length bytes) (magic s) → [] ≡ text (fresh s) bytes
torn_magic_text s bytes is = sym (ap (text (fresh s)) is ∙ magic_front_text s (length bytes))

-- ---- without sums

pub plain_text : (s : Side) (rest : List ℕ) → 0 ∷ rest ≡ text (fresh s) (0 ∷ rest)
plain_text s rest = ap (λ (l : List ℕ). 0 ∷ l) (sym (text_plain rest))

pub plain_place : (s : Side) (rest : List ℕ) (p : Place) → p.form ≡ Plain → p.end ≡ length (0 ∷ rest)
    → p.size ≡ length (0 ∷ rest) → Holds s (0 ∷ rest) (Some p)
plain_place s rest p form end size = record {
  sound = subst IsSound (sym (read_plain rest)) tt;
  known = record {
    within = omega (arith, end);
    reads = ap (read (fresh s)) (take_all p.end (0 ∷ rest) (omega (arith, end))) ∙ read_plain rest
        ∙ ap (reader s) (sym form);
    quiet = λ n long. ap (text (fresh s)) (take_all n (0 ∷ rest) (omega (arith, end, long)));
    size = size ∙ ap length (plain_text s rest);
    whole = λ _. end;
  };
}

pub plain_parsed : (s : Side) (bytes rest parsed : List ℕ) → parsed ≡ bytes → bytes ≡ 0 ∷ rest
    → parsed ≡ text (fresh s) bytes
plain_parsed s bytes rest parsed is begins =
    is ∙ begins ∙ plain_text s rest ∙ ap (text (fresh s)) (sym begins)

pub plain_place_as : (s : Side) (bytes rest : List ℕ) (p : Place) → bytes ≡ 0 ∷ rest → p.form ≡ Plain
    → p.end ≡ length bytes → p.size ≡ length bytes → Holds s bytes (Some p)
plain_place_as s bytes rest p begins form end size =
    subst (λ (l : List ℕ). Holds s l (Some p)) (sym begins)
    (plain_place s rest p form (end ∙ ap length begins) (size ∙ ap length begins))

pub empty_place : (s : Side) (p : Place) → p.form ≡ Empty → p.end ≡ 0 → p.size ≡ 0 → Holds s [] (Some p)
empty_place s p form end size = record {
  sound = tt;
  known = record {
    within = omega (arith, end);
    reads = ap (read (fresh s)) (take_all p.end [] (omega arith)) ∙ ap (reader s) (sym form);
    quiet = λ n _. ap (text (fresh s)) (take_all n [] (omega arith));
    size = size;
    whole = λ _. end;
  };
}

-- ---- as the code slices the bytes

pub sliced_magic : (s : Side) (bytes chain : List ℕ) → take 8 bytes ≡ magic s → chain ≡ seed s
    → At s bytes [] chain (take (length bytes - 8) (drop 8 bytes))
sliced_magic s bytes chain is chained =
    let all : take (length bytes - 8) (drop 8 bytes) ≡ drop 8 bytes =
    take_all (length bytes - 8) (drop 8 bytes) (omega (arith, length-drop 8 bytes)) in
    subst (λ (l : List ℕ). At s bytes [] chain l) (sym all)
    (subst (λ (l : List ℕ). At s bytes [] l (drop 8 bytes)) (sym chained)
    (at_start s bytes (drop 8 bytes) (whole_magic s bytes is)))

pub differs_from_magic : (s : Side) (bytes known : List ℕ) (count : ℕ) (r : Bool) → known ≡ magic s
    → count ≡ min (length bytes) 8 → r ≡ not (bytes_eq (take count bytes) (take count known)) → r ≡ true
    → take (min (length bytes) 8) bytes ≡ take (min (length bytes) 8) (magic s) → ⊥
differs_from_magic s bytes known count r is counts test differs same =
    let equal : take count bytes ≡ take count known =
    ap (λ (k : ℕ). take k bytes) counts ∙ same ∙ ap (λ (k : ℕ). take k (magic s)) (sym counts)
    ∙ ap (take count) (sym is) in
    let other : bytes_eq (take count bytes) (take count known) ≡ false =
    not-true (bytes_eq (take count bytes) (take count known)) (sym test ∙ differs) in
    true≢false (sym ((bytes_eq-Decides (take count bytes) (take count known)).1 equal) ∙ other)

pub begins_as_magic : (s : Side) (bytes known : List ℕ) (count : ℕ) (r : Bool) → known ≡ magic s
    → r ≡ not (bytes_eq (take count bytes) (take count known)) → r ≡ false
    → take count bytes ≡ take count (magic s)
begins_as_magic s bytes known count r is test same =
    let equal : bytes_eq (take count bytes) (take count known) ≡ true =
    not-false (bytes_eq (take count bytes) (take count known)) (sym test ∙ same) in
    (bytes_eq-Decides (take count bytes) (take count known)).0 equal ∙ ap (take count) is

short_count : (count all : ℕ) → count ≡ min all 8 → (count ≡ 8 → ⊥) → count ≡ all
short_count count all is short = omega (arith, is, short)

-- fewer bytes than a magic
pub short_magic : (s : Side) (bytes known : List ℕ) (count : ℕ) (r : Bool) → known ≡ magic s
    → count ≡ min (length bytes) 8 → r ≡ not (bytes_eq (take count bytes) (take count known)) → r ≡ false
    → (count ≡ 8 → ⊥) → bytes ≡ take (length bytes) (magic s)
short_magic s bytes known count r is counts test same short =
    let all : count ≡ length bytes = short_count count (length bytes) counts short in
    sym (take_all count bytes (omega (arith, all))) ∙ begins_as_magic s bytes known count r is test same
    ∙ ap (λ (k : ℕ). take k (magic s)) all

-- ---- a file with sums is known as such

pub sums_long : (s : Side) (bytes : List ℕ) → HasSums s bytes → 8 ≤ length bytes
sums_long s bytes has =
    omega (arith, ap length has.1, length-append (magic s) has.0, length-magic s)

abbrev first_of : List ℕ → ℕ
first_of [] = 0
first_of (b ∷ bytes) = b

magic_first : (s : Side) (rest : List ℕ) → first_of (magic s ++ rest) ≡ 108
magic_first A rest = refl
magic_first B rest = refl

zero_first : (rest : List ℕ) → first_of (0 ∷ rest) ≡ 0
zero_first rest = refl

pub sums_plain : (s : Side) (bytes rest : List ℕ) → bytes ≡ 0 ∷ rest → HasSums s bytes → ⊥
sums_plain s bytes rest is has =
    let first : 0 ≡ 108 = sym (zero_first rest) ∙ ap first_of (sym is ∙ has.1) ∙ magic_first s has.0 in
    absurd (omega (arith, first))

short_by : (count all : ℕ) → count ≡ min all 8 → (count ≡ 8 → ⊥) → 8 ≤ all → ⊥
short_by count all is short long = short (omega (arith, is, long))

pub sums_short : (s : Side) (bytes : List ℕ) (count : ℕ) → count ≡ min (length bytes) 8 → (count ≡ 8 → ⊥)
    → HasSums s bytes → ⊥
sums_short s bytes count is short has =
    short_by count (length bytes) is short (sums_long s bytes has)

pub sums_empty : (s : Side) (bytes : List ℕ) → length bytes ≡ 0 → HasSums s bytes → ⊥
sums_empty s bytes none has = absurd (omega (arith, none, sums_long s bytes has))

-- what the form says of the file
abbrev Says : Side → List ℕ → Form → Type 0
Says s bytes f = is_summed f ≡ true ↔ HasSums s bytes

pub says_empty : (s : Side) (bytes : List ℕ) → length bytes ≡ 0 → Says s bytes Empty
says_empty s bytes none = (λ on. absurd (false≢true on), λ has. absurd (sums_empty s bytes none has))

pub says_plain : (s : Side) (bytes rest : List ℕ) → bytes ≡ 0 ∷ rest → Says s bytes Plain
says_plain s bytes rest is = (λ on. absurd (false≢true on), λ has. absurd (sums_plain s bytes rest is has))

pub says_short : (s : Side) (bytes : List ℕ) (count : ℕ) → count ≡ min (length bytes) 8 → (count ≡ 8 → ⊥)
    → Says s bytes Empty
says_short s bytes count is short =
    (λ on. absurd (false≢true on), λ has. absurd (sums_short s bytes count is short has))

pub says_summed : (s : Side) (bytes chain : List ℕ) → take 8 bytes ≡ magic s → Says s bytes (Summed chain)
says_summed s bytes chain begins =
    (λ on. (drop 8 bytes, sym (take-append-drop 8 bytes) ∙ ap (λ (l : List ℕ). l ++ drop 8 bytes) begins), λ has. refl)
