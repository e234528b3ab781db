-- What a frame is made of, that no front of one is one, and what a stop leaves of it.
use Rattle.std.proofs.Common.{◌≡◌, ◌∙◌, ℕ, ◌+◌, ◌-◌, ◌*◌, ◌/◌, ◌%◌, ◌<◌, ◌≤◌, ltb, leb, eqb, Bool, true, false}
use Rattle.std.proofs.Common.{◌&&◌, ◌||◌, not, List, [], ◌++◌, length, take, drop, get_or, refl, sym, ap}
use Rattle.std.proofs.Common.{arith, inl, inr}
use Rattle.std.proofs.Common.{append_assoc, length-append, length-drop, length-take}
use Rattle.std.specs.Int.{w32, from_be_bytes}
use Rattle.std.specs.Str.{bytes_eq}
use Rattle.std.proofs.lemmas.Bool.{cases_lt, false_from_ne_true, and_parts, and_from, leb-true, le-leb}
use Rattle.std.proofs.lemmas.Bool.{not-true, not-false, true≢false}
use Rattle.std.proofs.lemmas.Bool.Decides.{nat_tests}
use Rattle.std.proofs.lemmas.List.{take_at, drop_at, take-take, length-take-le, take-append-drop}
use Rattle.std.proofs.lemmas.List.{drop-drop, append-nil, get_or-take, get_or_past, take_all}
use Rattle.std.proofs.lemmas.Nat.{from_be_bytes-to_be_bytes_4, be_bytes_4}
use Rattle.std.proofs.lemmas.Slice.Eq.{bytes_eq-Decides}
use Rattle.sha2.proofs.Facts256.{length-sha256}
use Rattle.lk_summed_disk.specs.Frames.{factor, max_piece, length_field, digest, sum, frame, piece_in, is_frame}
use Rattle.lk_summed_disk.specs.Frames.{stated, is_torn}

-- ---- the parts of a frame

length-field : (n : ℕ) → length (length_field n) ≡ 4
unfolding length_field
length-field n = refl

length-digest : (chain piece : List ℕ) → length (digest chain piece) ≡ 32
unfolding digest
length-digest chain piece = length-sha256 _

length-sum : (chain piece : List ℕ) → length (sum chain piece) ≡ 4
length-sum chain piece = length-take-le 4 (digest chain piece) (omega (arith, length-digest chain piece))

frame_is : (chain piece : List ℕ)
    → frame chain piece ≡ length_field (length piece) ++ (piece ++ sum chain piece)
unfolding frame
frame_is chain piece = refl

pub length-frame : (chain piece : List ℕ) → length (frame chain piece) ≡ length piece + 8
length-frame chain piece =
    omega (
      arith,
      ap length (frame_is chain piece),
      length-append (length_field (length piece)) (piece ++ sum chain piece),
      length-append piece (sum chain piece),
      length-field (length piece),
      length-sum chain piece,
    )

-- bytes that begin with a frame, in its three parts
split : (chain piece rest bytes : List ℕ) → bytes ≡ frame chain piece ++ rest
    → bytes ≡ length_field (length piece) ++ (piece ++ (sum chain piece ++ rest))
split chain piece rest bytes is =
    is ∙ ap (λ (l : List ℕ). l ++ rest) (frame_is chain piece)
    ∙ append_assoc (length_field (length piece)) (piece ++ sum chain piece) rest
    ∙ ap (λ (l : List ℕ). length_field (length piece) ++ l) (append_assoc piece (sum chain piece) rest)

pub field_of : (chain piece rest bytes : List ℕ) → bytes ≡ frame chain piece ++ rest
    → take 4 bytes ≡ length_field (length piece)
field_of chain piece rest bytes is =
    ap (take 4) (split chain piece rest bytes is)
    ∙ take_at (length_field (length piece)) (piece ++ (sum chain piece ++ rest)) 4 (length-field (length piece))

behind_field : (chain piece rest bytes : List ℕ) → bytes ≡ frame chain piece ++ rest
    → drop 4 bytes ≡ piece ++ (sum chain piece ++ rest)
behind_field chain piece rest bytes is =
    ap (drop 4) (split chain piece rest bytes is)
    ∙ drop_at (length_field (length piece)) (piece ++ (sum chain piece ++ rest)) 4 (length-field (length piece))

pub piece_of : (chain piece rest bytes : List ℕ) → bytes ≡ frame chain piece ++ rest
    → take (length piece) (drop 4 bytes) ≡ piece
piece_of chain piece rest bytes is =
    ap (take (length piece)) (behind_field chain piece rest bytes is)
    ∙ take_at piece (sum chain piece ++ rest) (length piece) refl

pub sum_of : (chain piece rest bytes : List ℕ) → bytes ≡ frame chain piece ++ rest
    → take 4 (drop (length piece) (drop 4 bytes)) ≡ sum chain piece
sum_of chain piece rest bytes is =
    ap (λ (l : List ℕ). take 4 (drop (length piece) l)) (behind_field chain piece rest bytes is)
    ∙ ap (take 4) (drop_at piece (sum chain piece ++ rest) (length piece) refl)
    ∙ take_at (sum chain piece) rest 4 (length-sum chain piece)

-- ---- lengths

field_states : (n : ℕ) → n ≤ max_piece → from_be_bytes w32 (length_field n) ≡ n * factor
unfolding length_field
field_states n fits = from_be_bytes-to_be_bytes_4 (n * factor) (omega arith)

pub stated_is : (bytes : List ℕ) (n : ℕ) → n ≤ max_piece → take 4 bytes ≡ length_field n → stated bytes ≡ n * factor
unfolding stated
stated_is bytes n fits is = ap (from_be_bytes w32) is ∙ field_states n fits

pub stated_by : (chain piece rest bytes : List ℕ) → length piece ≤ max_piece → bytes ≡ frame chain piece ++ rest
    → stated bytes ≡ length piece * factor
stated_by chain piece rest bytes fits is =
    stated_is bytes (length piece) fits (field_of chain piece rest bytes is)

-- ---- the test

pub piece_in_frame : (chain piece : List ℕ) → piece_in (frame chain piece) ≡ piece
piece_in_frame chain piece =
    let at : length (frame chain piece) - 8 ≡ length piece = omega (arith, length-frame chain piece) in
    ap (λ (n : ℕ). take n (drop 4 (frame chain piece))) at
    ∙ piece_of chain piece [] (frame chain piece) (sym (append-nil (frame chain piece)))

pub frame_is_one : (chain piece : List ℕ) → length piece ≤ max_piece → is_frame chain (frame chain piece) ≡ true
unfolding is_frame
frame_is_one chain piece fits =
    let same = piece_in_frame chain piece in
    and_from (leb (length (piece_in (frame chain piece))) max_piece)
    (bytes_eq (frame chain piece) (frame chain (piece_in (frame chain piece))))
    (le-leb (length (piece_in (frame chain piece))) max_piece (omega (arith, ap length same, fits)))
    ((bytes_eq-Decides (frame chain piece) (frame chain (piece_in (frame chain piece)))).1
    (sym (ap (frame chain) same)))

pub is_one : (chain bytes : List ℕ) → is_frame chain bytes ≡ true
    → (length (piece_in bytes) ≤ max_piece) × (bytes ≡ frame chain (piece_in bytes))
unfolding is_frame
is_one chain bytes is =
    let both =
    and_parts (leb (length (piece_in bytes)) max_piece) (bytes_eq bytes (frame chain (piece_in bytes))) is in (
      leb-true (length (piece_in bytes)) max_piece both.0,
      (bytes_eq-Decides bytes (frame chain (piece_in bytes))).0 both.1,
    )

-- no proper front of a frame is one
pub no_frame_before : (chain piece front rest : List ℕ) → length piece ≤ max_piece → front ++ rest ≡ frame chain piece
    → 0 < length rest → is_frame chain front ≡ false
no_frame_before chain piece front rest fits is some = false_from_ne_true _ (λ one.
    let own = is_one chain front one in
    let whole : front ++ rest ≡ frame chain (piece_in front) ++ rest = ap (λ (l : List ℕ). l ++ rest) own.1 in
    let by_own = stated_by chain (piece_in front) rest (front ++ rest) own.0 whole in
    let by_whole = stated_by chain piece [] (front ++ rest) fits (is ∙ sym (append-nil (frame chain piece))) in
    let long = length-frame chain (piece_in front) in
    omega (
      arith,
      by_own,
      by_whole,
      long,
      ap length own.1,
      ap length is,
      length-append front rest,
      length-frame chain piece,
      some,
    ))

-- ---- what a stop leaves

num_short : (len m n : ℕ) → len < 4 → (ltb len 4 || (eqb m 0 && ltb len (n + 8))) ≡ true
num_short len m n short = grind (arith, nat_tests)

num_long : (len m n : ℕ) → m ≡ 0 → len < n + 8 → (ltb len 4 || (eqb m 0 && ltb len (n + 8))) ≡ true
num_long len m n none short = grind (arith, nat_tests)

num_is : (len m n : ℕ) → 4 ≤ len → (ltb len 4 || (eqb m 0 && ltb len (n + 8))) ≡ true
    → (m ≡ 0) × (len < n + 8)
num_is len m n long torn = grind (arith, nat_tests)

num_not : (len m n : ℕ) → 4 ≤ len → (m ≡ 0 → ⊥) → (ltb len 4 || (eqb m 0 && ltb len (n + 8))) ≡ false
num_not len m n long some = grind (arith, nat_tests)

num_whole : (len m n : ℕ) → 4 ≤ len → n + 8 ≤ len → (ltb len 4 || (eqb m 0 && ltb len (n + 8))) ≡ false
num_whole len m n long whole = grind (arith, nat_tests)

pub torn_short : (bytes : List ℕ) → length bytes < 4 → is_torn bytes ≡ true
unfolding is_torn
torn_short bytes short = num_short (length bytes) (stated bytes % 16381) (stated bytes / 16381) short

pub torn_long : (bytes : List ℕ) (n : ℕ) → stated bytes ≡ n * factor → length bytes < n + 8 → is_torn bytes ≡ true
unfolding is_torn
torn_long bytes n is short =
    num_long (length bytes) (stated bytes % 16381) (stated bytes / 16381) (omega (arith, is)) (omega (arith, is, short))

torn_is : (bytes : List ℕ) → is_torn bytes ≡ true → 4 ≤ length bytes
    → (stated bytes % 16381 ≡ 0) × (length bytes < stated bytes / 16381 + 8)
unfolding is_torn
torn_is bytes torn long = num_is (length bytes) (stated bytes % 16381) (stated bytes / 16381) long torn

pub not_torn : (bytes : List ℕ) → 4 ≤ length bytes → (stated bytes % factor ≡ 0 → ⊥) → is_torn bytes ≡ false
unfolding is_torn
not_torn bytes long absent = num_not (length bytes) (stated bytes % 16381) (stated bytes / 16381) long absent

pub not_torn_long : (bytes : List ℕ) (n : ℕ) → 4 ≤ length bytes → stated bytes ≡ n * factor → n + 8 ≤ length bytes
    → is_torn bytes ≡ false
unfolding is_torn
not_torn_long bytes n long is more =
    num_whole (length bytes) (stated bytes % 16381) (stated bytes / 16381) long (omega (arith, is, more))

pub nil_torn : is_torn [] ≡ true
nil_torn = torn_short [] (omega arith)

same_stated : (bytes : List ℕ) (n : ℕ) → 4 ≤ n → stated (take n bytes) ≡ stated bytes
unfolding stated
same_stated bytes n long = ap (from_be_bytes w32) (take-take 4 n bytes long)

pub torn_front : (bytes : List ℕ) (n : ℕ) → is_torn bytes ≡ true → is_torn (take n bytes) ≡ true
torn_front bytes n torn = elim (cases_lt (length (take n bytes)) 4) [
  | inl few ↦ torn_short (take n bytes) few
  | inr long ↦
      let at : 4 ≤ n = omega (arith, length-take n bytes) in
      let was = torn_is bytes torn (omega (arith, length-take n bytes)) in
      let same = same_stated bytes n at in
      torn_long (take n bytes) (stated bytes / 16381) (omega (arith, same, was.0))
      (omega (arith, was.1, length-take n bytes))
]

-- a proper front of a frame
pub frame_front_torn : (chain piece : List ℕ) (n : ℕ) → length piece ≤ max_piece → n < length piece + 8
    → is_torn (take n (frame chain piece)) ≡ true
frame_front_torn chain piece n fits less = elim (cases_lt (length (take n (frame chain piece))) 4) [
  | inl few ↦ torn_short (take n (frame chain piece)) few
  | inr long ↦
      let at : 4 ≤ n = omega (arith, length-take n (frame chain piece)) in
      torn_long (take n (frame chain piece)) (length piece)
      (same_stated (frame chain piece) n at
      ∙ stated_by chain piece [] (frame chain piece) fits (sym (append-nil (frame chain piece))))
      (omega (arith, less, length-take n (frame chain piece)))
]

-- a front that is a frame, and what is behind it
begins : (chain bytes : List ℕ) (n : ℕ) → is_frame chain (take n bytes) ≡ true
    → bytes ≡ frame chain (piece_in (take n bytes)) ++ drop n bytes
begins chain bytes n one =
    sym (take-append-drop n bytes) ∙ ap (λ (l : List ℕ). l ++ drop n bytes) (is_one chain (take n bytes) one).1

begun_long : (chain bytes : List ℕ) (n : ℕ) → is_frame chain (take n bytes) ≡ true
    → length (piece_in (take n bytes)) + 8 ≤ length bytes
begun_long chain bytes n one =
    omega (
      arith,
      ap length (is_one chain (take n bytes) one).1,
      length-frame chain (piece_in (take n bytes)),
      length-take n bytes,
    )

-- no frame begins what is torn
pub torn_no_frame : (chain bytes : List ℕ) (n : ℕ) → is_torn bytes ≡ true → is_frame chain (take n bytes) ≡ false
torn_no_frame chain bytes n torn = false_from_ne_true _ (λ one.
    let own = is_one chain (take n bytes) one in
    let long = begun_long chain bytes n one in
    let states = stated_by chain (piece_in (take n bytes)) (drop n bytes) bytes own.0 (begins chain bytes n one) in
    let was = torn_is bytes torn (omega (arith, long)) in
    omega (arith, was.1, states, long))

-- ---- what is found

pub finds_none : (chain bytes : List ℕ) (n : ℕ) → (stated bytes % factor ≡ 0 → ⊥)
    → is_frame chain (take n bytes) ≡ false
finds_none chain bytes n absent = false_from_ne_true _ (λ one.
    let own = is_one chain (take n bytes) one in
    let states = stated_by chain (piece_in (take n bytes)) (drop n bytes) bytes own.0 (begins chain bytes n one) in
    absent (omega (arith, states)))

same_length : (n m : ℕ) → n * factor ≡ m * factor → n ≡ m
same_length n m is = omega (arith, is)

pub finds_other : (chain bytes : List ℕ) (count n : ℕ) → stated bytes ≡ count * factor
    → (take 4 (drop count (drop 4 bytes)) ≡ sum chain (take count (drop 4 bytes)) → ⊥)
    → is_frame chain (take n bytes) ≡ false
finds_other chain bytes count n states differs = false_from_ne_true _ (λ one.
    let piece = piece_in (take n bytes) in
    let is : bytes ≡ frame chain piece ++ drop n bytes = begins chain bytes n one in
    let own = is_one chain (take n bytes) one in
    let as_long : length piece ≡ count =
    same_length (length piece) count (sym (stated_by chain piece (drop n bytes) bytes own.0 is) ∙ states) in
    differs
    (ap (λ (k : ℕ). take 4 (drop k (drop 4 bytes))) (sym as_long) ∙ sum_of chain piece (drop n bytes) bytes is
    ∙ ap (λ (p : List ℕ). sum chain p)
    (sym (ap (λ (k : ℕ). take k (drop 4 bytes)) (sym as_long) ∙ piece_of chain piece (drop n bytes) bytes is))))

front_small : (bytes : List ℕ) (i : ℕ) → ((i : ℕ) → get_or bytes i 0 < 256) → get_or (take 4 bytes) i 0 < 256
front_small bytes i small = elim (cases_lt i 4) [
  | inl few ↦ rw (get_or-take 4 bytes i 0 few) (small i)
  | inr more ↦ rw (get_or_past (take 4 bytes) i 0 (omega (arith, length-take 4 bytes))) (omega arith)
]

-- the field of a length that was read
pub field_written : (bytes : List ℕ) (count : ℕ) → ((i : ℕ) → get_or bytes i 0 < 256) → 4 ≤ length bytes
    → count * factor ≡ stated bytes → take 4 bytes ≡ length_field count
unfolding stated length_field
field_written bytes count small long states =
    sym (be_bytes_4 (take 4 bytes) (count * factor) (length-take-le 4 bytes long)
    (λ i. front_small bytes i small) states)

pub finds_frame : (chain bytes : List ℕ) (count : ℕ) → take 4 bytes ≡ length_field count → count + 8 ≤ length bytes
    → take 4 (drop count (drop 4 bytes)) ≡ sum chain (take count (drop 4 bytes))
    → bytes ≡ frame chain (take count (drop 4 bytes)) ++ drop 4 (drop count (drop 4 bytes))
finds_frame chain bytes count field long same =
    let piece = take count (drop 4 bytes) in
    let rest = drop count (drop 4 bytes) in
    let as_long : length piece ≡ count =
    length-take-le count (drop 4 bytes) (omega (arith, long, length-drop 4 bytes)) in
    sym (take-append-drop 4 bytes)
    ∙ ap (λ (l : List ℕ). l ++ drop 4 bytes) (field ∙ ap (λ (k : ℕ). length_field k) (sym as_long))
    ∙ ap (λ (l : List ℕ). length_field (length piece) ++ l)
    (sym (take-append-drop count (drop 4 bytes))
    ∙ ap (λ (l : List ℕ). piece ++ l) (sym (take-append-drop 4 rest) ∙ ap (λ (l : List ℕ). l ++ drop 4 rest) same))
    ∙ sym (split chain piece (drop 4 rest) (frame chain piece ++ drop 4 rest) refl)

-- ---- as the code slices the bytes

-- the bytes behind a place, up to their end
behind_all : (bytes : List ℕ) (n : ℕ) → take (length bytes - n) (drop n bytes) ≡ drop n bytes
behind_all bytes n = take_all (length bytes - n) (drop n bytes) (omega (arith, length-drop n bytes))

compared : (bytes : List ℕ) (count : ℕ)
    → take 4 (take (length bytes - (count + 4)) (drop (count + 4) bytes)) ≡ take 4 (drop count (drop 4 bytes))
compared bytes count =
    let at : 4 + count ≡ count + 4 = omega arith in
    ap (take 4) (behind_all bytes (count + 4) ∙ ap (λ (k : ℕ). drop k bytes) (sym at)
    ∙ sym (drop-drop count 4 bytes))

sliced : (bytes : List ℕ) (count : ℕ) → take (count + 4 - 4) (drop 4 bytes) ≡ take count (drop 4 bytes)
sliced bytes count =
    let at : count + 4 - 4 ≡ count = omega arith in
    ap (λ (k : ℕ). take k (drop 4 bytes)) at

summed : (chain bytes after : List ℕ) (count : ℕ)
    → after ≡ digest chain (take (count + 4 - 4) (drop 4 bytes)) → take 4 after ≡ sum chain (take count (drop 4 bytes))
summed chain bytes after count is =
    ap (take 4) is ∙ ap (λ (p : List ℕ). sum chain p) (sliced bytes count)

pub sum_differs : (chain bytes after : List ℕ) (count : ℕ) (r : Bool)
    → after ≡ digest chain (take (count + 4 - 4) (drop 4 bytes))
    → r ≡ not (bytes_eq (take 4 (take (length bytes - (count + 4)) (drop (count + 4) bytes))) (take 4 after))
    → r ≡ true → take 4 (drop count (drop 4 bytes)) ≡ sum chain (take count (drop 4 bytes)) → ⊥
sum_differs chain bytes after count r is test differs same =
    let left = take 4 (take (length bytes - (count + 4)) (drop (count + 4) bytes)) in
    let equal : left ≡ take 4 after = compared bytes count ∙ same ∙ sym (summed chain bytes after count is) in
    let other : bytes_eq left (take 4 after) ≡ false = not-true (bytes_eq left (take 4 after)) (sym test ∙ differs) in
    true≢false (sym ((bytes_eq-Decides left (take 4 after)).1 equal) ∙ other)

pub sum_same : (chain bytes after : List ℕ) (count : ℕ) (r : Bool)
    → after ≡ digest chain (take (count + 4 - 4) (drop 4 bytes))
    → r ≡ not (bytes_eq (take 4 (take (length bytes - (count + 4)) (drop (count + 4) bytes))) (take 4 after))
    → r ≡ false → take 4 (drop count (drop 4 bytes)) ≡ sum chain (take count (drop 4 bytes))
sum_same chain bytes after count r is test same =
    let left = take 4 (take (length bytes - (count + 4)) (drop (count + 4) bytes)) in
    let equal : bytes_eq left (take 4 after) ≡ true = not-false (bytes_eq left (take 4 after)) (sym test ∙ same) in
    sym (compared bytes count) ∙ (bytes_eq-Decides left (take 4 after)).0 equal ∙ summed chain bytes after count is

pub finds_as : (chain bytes : List ℕ) (count : ℕ) → take 4 bytes ≡ length_field count → count + 8 ≤ length bytes
    → take 4 (drop count (drop 4 bytes)) ≡ sum chain (take count (drop 4 bytes))
    → bytes ≡ frame chain (take (count + 4 - 4) (drop 4 bytes))
    ++ take (length (take (length bytes - (count + 4)) (drop (count + 4) bytes)) - 4)
    (drop 4 (take (length bytes - (count + 4)) (drop (count + 4) bytes)))
finds_as chain bytes count field long same =
    let rest = take (length bytes - (count + 4)) (drop (count + 4) bytes) in
    let at : 4 + count ≡ count + 4 = omega arith in
    let behind : drop count (drop 4 bytes) ≡ rest =
    drop-drop count 4 bytes ∙ ap (λ (k : ℕ). drop k bytes) at ∙ sym (behind_all bytes (count + 4)) in
    finds_frame chain bytes count field long same
    ∙ ap (λ (p : List ℕ). frame chain p ++ drop 4 (drop count (drop 4 bytes))) (sym (sliced bytes count))
    ∙ ap (λ (l : List ℕ). frame chain (take (count + 4 - 4) (drop 4 bytes)) ++ l)
    (ap (drop 4) behind ∙ sym (behind_all rest 4))
