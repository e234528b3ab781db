-- How a reader goes on: byte by byte, over frames, and over what a stop leaves of one.
use Rattle.std.proofs.Common.{◌≡◌, ◌∙◌, ℕ, suc, ◌+◌, ◌<◌, ◌≤◌, true, false, eqb, List, []}
use Rattle.std.proofs.Common.{◌∷◌, ◌++◌, length, take, drop, refl, sym, ap, subst, arith, inl, inr, ◌⊎◌, append_assoc}
use Rattle.std.proofs.Common.{length-append, length-take}
use Rattle.std.specs.Str.{bytes_eq}
use Rattle.std.proofs.lemmas.Bool.{cases_Bool, cond-true, cond-false}
use Rattle.std.proofs.lemmas.Slice.Eq.{bytes_eq-Decides}
use Rattle.std.proofs.lemmas.List.{take_at, take-take, take-append-drop, append-nil}
use Rattle.lk_disk.specs.declared.device.Side.{Side}
use Rattle.lk_summed_disk.specs.Frames.{max_piece, magic, seed, digest, frame, piece_in, is_frame, is_torn}
use Rattle.lk_summed_disk.specs.Readers.{Reader, fresh, plain, marked, framed, step, added, read, text, IsSound}
use Rattle.lk_summed_disk.proofs.FrameLaws.{frame_is_one, piece_in_frame, no_frame_before, length-frame}
use Rattle.lk_summed_disk.proofs.FrameLaws.{torn_front, frame_front_torn, torn_no_frame, is_one}

-- ---- one byte

step_frame : (chain bytes : List ℕ) (b : ℕ) → is_frame chain (bytes ++ b ∷ []) ≡ true
    → step (framed chain bytes) b ≡ framed (digest chain (piece_in (bytes ++ b ∷ []))) []
step_frame chain bytes b found =
    cond-true (is_frame chain (bytes ++ b ∷ [])) (framed (digest chain (piece_in (bytes ++ b ∷ []))) [])
    (framed chain (bytes ++ b ∷ [])) found

pub step_more : (chain bytes : List ℕ) (b : ℕ) → is_frame chain (bytes ++ b ∷ []) ≡ false
    → step (framed chain bytes) b ≡ framed chain (bytes ++ b ∷ [])
step_more chain bytes b absent =
    cond-false (is_frame chain (bytes ++ b ∷ [])) (framed (digest chain (piece_in (bytes ++ b ∷ []))) [])
    (framed chain (bytes ++ b ∷ [])) absent

added_frame : (chain bytes : List ℕ) (b : ℕ) → is_frame chain (bytes ++ b ∷ []) ≡ true
    → added (framed chain bytes) b ≡ piece_in (bytes ++ b ∷ [])
added_frame chain bytes b found = cond-true (is_frame chain (bytes ++ b ∷ [])) (piece_in (bytes ++ b ∷ [])) [] found

added_none : (chain bytes : List ℕ) (b : ℕ) → is_frame chain (bytes ++ b ∷ []) ≡ false
    → added (framed chain bytes) b ≡ []
added_none chain bytes b absent = cond-false (is_frame chain (bytes ++ b ∷ [])) (piece_in (bytes ++ b ∷ [])) [] absent

-- a file that does not begin with a zero
pub step_other : (s : Side) (b : ℕ) → eqb b 0 ≡ false → step (fresh s) b ≡ marked s (b ∷ [])
step_other s b absent = cond-false (eqb b 0) plain (marked s (b ∷ [])) absent

pub step_marked : (s : Side) (bytes : List ℕ) (b : ℕ) → bytes_eq (bytes ++ b ∷ []) (magic s) ≡ false
    → step (marked s bytes) b ≡ marked s (bytes ++ b ∷ [])
step_marked s bytes b absent =
    cond-false (bytes_eq (bytes ++ b ∷ []) (magic s)) (framed (seed s) []) (marked s (bytes ++ b ∷ [])) absent

-- ---- bytes after bytes

pub read-append : (r : Reader) (s t : List ℕ) → read r (s ++ t) ≡ read (read r s) t
read-append r [] t = refl
read-append r (b ∷ s) t = read-append (step r b) s t

pub text-append : (r : Reader) (s t : List ℕ) → text r (s ++ t) ≡ text r s ++ text (read r s) t
text-append r [] t = refl
text-append r (b ∷ s) t =
    ap (λ (l : List ℕ). added r b ++ l) (text-append (step r b) s t)
    ∙ sym (append_assoc (added r b) (text (step r b) s) (text (read (step r b) s) t))

-- the text of a front is a front of the text
pub text-take : (r : Reader) (n : ℕ) (bytes : List ℕ)
    → text r (take n bytes) ≡ take (length (text r (take n bytes))) (text r bytes)
text-take r n bytes =
    let all : text r bytes ≡ text r (take n bytes) ++ text (read r (take n bytes)) (drop n bytes) =
    ap (text r) (sym (take-append-drop n bytes)) ∙ text-append r (take n bytes) (drop n bytes) in
    sym (ap (take (length (text r (take n bytes)))) all
    ∙ take_at (text r (take n bytes)) (text (read r (take n bytes)) (drop n bytes))
    (length (text r (take n bytes))) refl)

-- ---- a frame

-- the bytes before the last one of a frame add nothing
quiet_on : (chain piece before bytes rest : List ℕ) → length piece ≤ max_piece
    → before ++ (bytes ++ rest) ≡ frame chain piece → 0 < length rest
    → (text (framed chain before) bytes ≡ []) × (read (framed chain before) bytes ≡ framed chain (before ++ bytes))
quiet_on chain piece before [] rest fits is some = (refl, ap (framed chain) (sym (append-nil before)))
quiet_on chain piece before (b ∷ bytes) rest fits is some =
    let here : (before ++ b ∷ []) ++ (bytes ++ rest) ≡ frame chain piece =
    append_assoc before (b ∷ []) (bytes ++ rest) ∙ is in
    let absent : is_frame chain (before ++ b ∷ []) ≡ false =
    no_frame_before chain piece (before ++ b ∷ []) (bytes ++ rest) fits here
    (omega (arith, length-append bytes rest, some)) in
    let next : step (framed chain before) b ≡ framed chain (before ++ b ∷ []) = step_more chain before b absent in
    let more = quiet_on chain piece (before ++ b ∷ []) bytes rest fits here some in (
      ap (λ (l : List ℕ). l ++ text (step (framed chain before) b) bytes) (added_none chain before b absent)
          ∙ ap (λ (r : Reader). text r bytes) next ∙ more.0,
      ap (λ (r : Reader). read r bytes) next ∙ more.1
          ∙ ap (framed chain) (append_assoc before (b ∷ []) bytes),
    )

-- the last byte of a frame
last_on : (chain piece front : List ℕ) (b : ℕ) → length piece ≤ max_piece → front ++ b ∷ [] ≡ frame chain piece
    → (text (framed chain front) (b ∷ []) ≡ piece)
    × (read (framed chain front) (b ∷ []) ≡ framed (digest chain piece) [])
last_on chain piece front b fits is =
    let found : is_frame chain (front ++ b ∷ []) ≡ true = ap (is_frame chain) is ∙ frame_is_one chain piece fits in
    let held : piece_in (front ++ b ∷ []) ≡ piece = ap piece_in is ∙ piece_in_frame chain piece in (
      append-nil (added (framed chain front) b) ∙ added_frame chain front b found ∙ held,
      step_frame chain front b found ∙ ap (λ (p : List ℕ). framed (digest chain p) []) held,
    )

record Ends (bytes : List ℕ) : Type 0 where
  front : List ℕ
  last : ℕ
  is : front ++ last ∷ [] ≡ bytes

ends : (b : ℕ) (bytes : List ℕ) → Ends (b ∷ bytes)
ends b [] = record { front = []; last = b; is = refl }
ends b (c ∷ bytes) =
    let more = ends c bytes in
    record { front = b ∷ more.front; last = more.last; is = ap (λ (l : List ℕ). b ∷ l) more.is }

ends_some : (bytes : List ℕ) → 0 < length bytes → Ends bytes
ends_some [] some = absurd (omega (arith, some))
ends_some (b ∷ bytes) some = ends b bytes

pub reads_frame : (chain piece : List ℕ) → length piece ≤ max_piece
    → (text (framed chain []) (frame chain piece) ≡ piece)
    × (read (framed chain []) (frame chain piece) ≡ framed (digest chain piece) [])
reads_frame chain piece fits =
    let e = ends_some (frame chain piece) (omega (arith, length-frame chain piece)) in
    let quiet = quiet_on chain piece [] e.front (e.last ∷ []) fits e.is (omega arith) in
    let last = last_on chain piece e.front e.last fits e.is in (
      ap (text (framed chain [])) (sym e.is) ∙ text-append (framed chain []) e.front (e.last ∷ [])
          ∙ ap (λ (l : List ℕ). l ++ text (read (framed chain []) e.front) (e.last ∷ [])) quiet.0
          ∙ ap (λ (r : Reader). text r (e.last ∷ [])) quiet.1 ∙ last.0,
      ap (read (framed chain [])) (sym e.is) ∙ read-append (framed chain []) e.front (e.last ∷ [])
          ∙ ap (λ (r : Reader). read r (e.last ∷ [])) quiet.1 ∙ last.1,
    )

-- a frame, and what follows it
pub frame_text : (chain piece rest : List ℕ) → length piece ≤ max_piece
    → text (framed chain []) (frame chain piece ++ rest) ≡ piece ++ text (framed (digest chain piece) []) rest
frame_text chain piece rest fits =
    let both = reads_frame chain piece fits in
    text-append (framed chain []) (frame chain piece) rest
    ∙ ap (λ (l : List ℕ). l ++ text (read (framed chain []) (frame chain piece)) rest) both.0
    ∙ ap (λ (r : Reader). piece ++ text r rest) both.1

pub frame_read : (chain piece rest : List ℕ) → length piece ≤ max_piece
    → read (framed chain []) (frame chain piece ++ rest) ≡ read (framed (digest chain piece) []) rest
frame_read chain piece rest fits =
    read-append (framed chain []) (frame chain piece) rest
    ∙ ap (λ (r : Reader). read r rest) (reads_frame chain piece fits).1

-- a proper front of a frame
pub frame_front : (chain piece : List ℕ) (n : ℕ) → length piece ≤ max_piece → n < length piece + 8
    → (text (framed chain []) (take n (frame chain piece)) ≡ [])
    × (read (framed chain []) (take n (frame chain piece)) ≡ framed chain (take n (frame chain piece)))
frame_front chain piece n fits less =
    quiet_on chain piece [] (take n (frame chain piece)) (drop n (frame chain piece)) fits
    (take-append-drop n (frame chain piece))
    (omega (
      arith,
      less,
      length-frame chain piece,
      ap length (take-append-drop n (frame chain piece)),
      length-append (take n (frame chain piece)) (drop n (frame chain piece)),
      length-take n (frame chain piece),
    ))

-- ---- bytes of which no front is a frame

pub no_frames : (chain before bytes : List ℕ)
    → ((n : ℕ) → is_frame chain (before ++ take n bytes) ≡ false)
    → (text (framed chain before) bytes ≡ []) × (read (framed chain before) bytes ≡ framed chain (before ++ bytes))
no_frames chain before [] none = (refl, ap (framed chain) (sym (append-nil before)))
no_frames chain before (b ∷ bytes) none =
    let absent : is_frame chain (before ++ b ∷ []) ≡ false = none 1 in
    let next : step (framed chain before) b ≡ framed chain (before ++ b ∷ []) = step_more chain before b absent in
    let more = no_frames chain (before ++ b ∷ []) bytes
    (λ n. ap (is_frame chain) (append_assoc before (b ∷ []) (take n bytes)) ∙ none (suc n)) in (
      ap (λ (l : List ℕ). l ++ text (step (framed chain before) b) bytes) (added_none chain before b absent)
          ∙ ap (λ (r : Reader). text r bytes) next ∙ more.0,
      ap (λ (r : Reader). read r bytes) next ∙ more.1
          ∙ ap (framed chain) (append_assoc before (b ∷ []) bytes),
    )

-- what is torn adds nothing
pub torn_quiet : (chain bytes : List ℕ) → is_torn bytes ≡ true
    → (text (framed chain []) bytes ≡ []) × (read (framed chain []) bytes ≡ framed chain bytes)
torn_quiet chain bytes torn = no_frames chain [] bytes (λ n. torn_no_frame chain bytes n torn)

-- ---- soundness

marked_sound : (s : Side) (bytes : List ℕ) (b : ℕ)
    → (bytes_eq (bytes ++ b ∷ []) (magic s) ≡ true) ⊎ (bytes_eq (bytes ++ b ∷ []) (magic s) ≡ false)
    → IsSound (step (marked s bytes) b) → IsSound (marked s bytes)
marked_sound s bytes b (inl found) sound =
    sym (ap (take (length bytes)) (sym ((bytes_eq-Decides (bytes ++ b ∷ []) (magic s)).0 found))
    ∙ take_at bytes (b ∷ []) (length bytes) refl)
marked_sound s bytes b (inr absent) sound =
    let is : bytes ++ b ∷ [] ≡ take (length (bytes ++ b ∷ [])) (magic s) =
    subst IsSound (step_marked s bytes b absent) sound in
    sym (take_at bytes (b ∷ []) (length bytes) refl) ∙ ap (take (length bytes)) is
    ∙ take-take (length bytes) (length (bytes ++ b ∷ [])) (magic s) (omega (arith, length-append bytes (b ∷ [])))

framed_sound : (chain bytes : List ℕ) (b : ℕ)
    → (is_frame chain (bytes ++ b ∷ []) ≡ true) ⊎ (is_frame chain (bytes ++ b ∷ []) ≡ false)
    → IsSound (step (framed chain bytes) b) → IsSound (framed chain bytes)
framed_sound chain bytes b (inl found) sound =
    let own = is_one chain (bytes ++ b ∷ []) found in
    let front : take (length bytes) (frame chain (piece_in (bytes ++ b ∷ []))) ≡ bytes =
    ap (take (length bytes)) (sym own.1) ∙ take_at bytes (b ∷ []) (length bytes) refl in
    sym (ap is_torn front)
    ∙ frame_front_torn chain (piece_in (bytes ++ b ∷ [])) (length bytes) own.0
    (omega (arith, ap length own.1, length-frame chain (piece_in (bytes ++ b ∷ [])), length-append bytes (b ∷ [])))
framed_sound chain bytes b (inr absent) sound =
    let torn : is_torn (bytes ++ b ∷ []) ≡ true = subst IsSound (step_more chain bytes b absent) sound in
    sym (ap is_torn (take_at bytes (b ∷ []) (length bytes) refl)) ∙ torn_front (bytes ++ b ∷ []) (length bytes) torn

-- damage stays
pub step_sound : (r : Reader) (b : ℕ) → IsSound (step r b) → IsSound r
step_sound (fresh s) b sound = tt
step_sound plain b sound = tt
step_sound (marked s bytes) b sound = marked_sound s bytes b (cases_Bool (bytes_eq (bytes ++ b ∷ []) (magic s))) sound
step_sound (framed chain bytes) b sound =
    framed_sound chain bytes b (cases_Bool (is_frame chain (bytes ++ b ∷ []))) sound

pub read_sound : (r : Reader) (bytes : List ℕ) → IsSound (read r bytes) → IsSound r
read_sound r [] sound = sound
read_sound r (b ∷ bytes) sound = step_sound r b (read_sound (step r b) bytes sound)

-- a front of what is not damaged is not damaged
pub sound_front : (r : Reader) (bytes : List ℕ) (n : ℕ) → IsSound (read r bytes) → IsSound (read r (take n bytes))
sound_front r bytes n sound =
    read_sound (read r (take n bytes)) (drop n bytes)
    (subst IsSound (ap (read r) (sym (take-append-drop n bytes)) ∙ read-append r (take n bytes) (drop n bytes)) sound)

-- ---- the magic

-- bytes that are not the magic
pub marked_reads : (s : Side) (before bytes : List ℕ)
    → ((n : ℕ) → bytes_eq (before ++ take (suc n) bytes) (magic s) ≡ false) → 0 < length before
    → read (marked s before) bytes ≡ marked s (before ++ bytes)
marked_reads s before [] none some = ap (marked s) (sym (append-nil before))
marked_reads s before (b ∷ bytes) none some =
    let absent : bytes_eq (before ++ b ∷ []) (magic s) ≡ false = none 0 in
    let more = marked_reads s (before ++ b ∷ []) bytes
    (λ n. ap (λ (l : List ℕ). bytes_eq l (magic s)) (append_assoc before (b ∷ []) (take (suc n) bytes)) ∙ none (suc n))
    (omega (arith, length-append before (b ∷ []))) in
    ap (λ (r : Reader). read r bytes) (step_marked s before b absent) ∙ more
    ∙ ap (marked s) (append_assoc before (b ∷ []) bytes)
