-- What a stop leaves, what is written, and what a file that opens may hold.
use Rattle.std.proofs.Common.{◌≡◌, ◌∙◌, ℕ, ◌+◌, ◌*◌, ◌≤◌, List, [], ◌∷◌, ◌++◌}
use Rattle.std.proofs.Common.{length, take, refl, sym, ap, subst, arith, inl, inr, ◌⊎◌, append_assoc}
use Rattle.std.proofs.Common.{length-append}
use Rattle.std.proofs.Math.Seq.{take-append-add}
use Rattle.std.specs.Str.{bytes_eq}
use Rattle.std.proofs.lemmas.Bool.{cases_Bool, true≢false}
use Rattle.std.proofs.lemmas.Slice.Eq.{bytes_eq-Decides}
use Rattle.std.proofs.lemmas.List.{append-nil}
use Rattle.lk_disk.specs.Disk.{Disk, MayLeave, contents}
use Rattle.lk_disk.specs.declared.device.Side.{Side}
use Rattle.lk_summed_disk.specs.Frames.{max_piece, magic, seed, digest, frame, piece_in, is_frame}
use Rattle.lk_summed_disk.specs.Readers.{Reader, fresh, framed, read, text, IsSound}
use Rattle.lk_summed_disk.specs.Readers.{decoded}
use Rattle.lk_summed_disk.specs.Changes.{frames, chain_after, joined, written, AllFit, Explains, kept, forged}
use Rattle.lk_summed_disk.proofs.FrameLaws.{nil_torn, length-frame, is_one}
use Rattle.lk_summed_disk.proofs.ReaderLaws.{text-append, text-take, sound_front, frame_text, frame_read}
use Rattle.lk_summed_disk.proofs.ReaderLaws.{step_more}
use Rattle.lk_summed_disk.proofs.PlaceLaws.{magic_read, magic_text, length-magic}

-- ---- a stop

left_front : (d : Disk) (n : ℕ)
    → d.synced ++ take n d.unsynced ≡ take (length d.synced + n) (contents d)
left_front d n = sym (take-append-add d.synced d.unsynced n)

pub stop_sound : (s : Side) (d : Disk) (left : List ℕ) → IsSound (read (fresh s) (contents d)) → MayLeave d left
    → IsSound (read (fresh s) left)
stop_sound s d left sound may =
    subst (λ (l : List ℕ). IsSound (read (fresh s) l)) (sym (may.1 ∙ left_front d may.0))
    (sound_front (fresh s) (contents d) (length d.synced + may.0) sound)

pub stop_leaves : (s : Side) (d : Disk) (left : List ℕ) → MayLeave d left
    → MayLeave (decoded s d) (text (fresh s) left)
stop_leaves s d left may =
    let r = read (fresh s) d.synced in (
      length (text r (take may.0 d.unsynced)),
      ap (text (fresh s)) may.1 ∙ text-append (fresh s) d.synced (take may.0 d.unsynced)
          ∙ ap (λ (l : List ℕ). text (fresh s) d.synced ++ l) (text-take r may.0 d.unsynced),
    )

-- ---- what is written

frames_text : (chain : List ℕ) (pieces : List (List ℕ)) → AllFit pieces
    → text (framed chain []) (frames chain pieces) ≡ joined pieces
frames_text chain [] fit = refl
frames_text chain (piece ∷ pieces) fit =
    frame_text chain piece (frames (digest chain piece) pieces) fit.0
    ∙ ap (λ (l : List ℕ). piece ++ l) (frames_text (digest chain piece) pieces fit.1)

frames_read : (chain : List ℕ) (pieces : List (List ℕ)) → AllFit pieces
    → read (framed chain []) (frames chain pieces) ≡ framed (chain_after chain pieces) []
frames_read chain [] fit = refl
frames_read chain (piece ∷ pieces) fit =
    frame_read chain piece (frames (digest chain piece) pieces) fit.0 ∙ frames_read (digest chain piece) pieces fit.1

length-frames : (chain : List ℕ) (pieces : List (List ℕ))
    → length (frames chain pieces) ≡ length (joined pieces) + 8 * length pieces
length-frames chain [] = refl
length-frames chain (piece ∷ pieces) =
    omega (
      arith,
      length-append (frame chain piece) (frames (digest chain piece) pieces),
      length-frame chain piece,
      length-frames (digest chain piece) pieces,
      length-append piece (joined pieces),
    )

pub written_text : (s : Side) (pieces : List (List ℕ)) → AllFit pieces
    → text (fresh s) (written s pieces) ≡ joined pieces
written_text s pieces fit = magic_text s (frames (seed s) pieces) ∙ frames_text (seed s) pieces fit

pub written_sound : (s : Side) (pieces : List (List ℕ)) → AllFit pieces → IsSound (read (fresh s) (written s pieces))
written_sound s pieces fit =
    subst IsSound (sym (magic_read s (frames (seed s) pieces) ∙ frames_read (seed s) pieces fit)) nil_torn

pub written_long : (s : Side) (pieces : List (List ℕ))
    → length (written s pieces) ≡ length (joined pieces) + 8 * length pieces + 8
written_long s pieces =
    omega (
      arith,
      length-append (magic s) (frames (seed s) pieces),
      length-magic s,
      length-frames (seed s) pieces,
    )

-- ---- what opens

-- the bytes begin with a frame
record Begins (chain bytes : List ℕ) : Type 0 where
  piece : List ℕ
  rest : List ℕ
  fits : length piece ≤ max_piece
  is : bytes ≡ frame chain piece ++ rest

-- some front of them is a frame, or the reader waits for more
search_front : (chain before bytes : List ℕ) → Begins chain (before ++ bytes)
    ⊎ (read (framed chain before) bytes ≡ framed chain (before ++ bytes))
search_front chain before [] = inr (ap (framed chain) (sym (append-nil before)))
search_front chain before (b ∷ bytes) = elim (cases_Bool (is_frame chain (before ++ b ∷ []))) [
  | inl one ↦
      let own = is_one chain (before ++ b ∷ []) one in
      inl (record {
        piece = piece_in (before ++ b ∷ []);
        rest = bytes;
        fits = own.0;
        is = sym (append_assoc before (b ∷ []) bytes) ∙ ap (λ (l : List ℕ). l ++ bytes) own.1;
      })
  | inr absent ↦ elim (search_front chain (before ++ b ∷ []) bytes) [
    | inl found ↦ inl (record {
      piece = found.piece;
      rest = found.rest;
      fits = found.fits;
      is = sym (append_assoc before (b ∷ []) bytes) ∙ found.is;
    })
    | inr waits ↦ inr (ap (λ (r : Reader). read r bytes) (step_more chain before b absent) ∙ waits
        ∙ ap (framed chain) (append_assoc before (b ∷ []) bytes))
  ]
]

-- one piece more in front
with_piece : (chain piece : List ℕ) (pieces : List (List ℕ)) (rest bytes : List ℕ)
    → bytes ≡ frame chain piece ++ rest → Explains (digest chain piece) pieces rest
    → Explains chain (piece ∷ pieces) bytes
with_piece chain piece pieces rest bytes is (kept before after are torn cut was) =
    kept (piece ∷ before) after (ap (λ (l : List (List ℕ)). piece ∷ l) are) torn cut
    (is ∙ ap (λ (l : List ℕ). frame chain piece ++ l) was
    ∙ sym (append_assoc (frame chain piece) (frames (digest chain piece) before) torn))
with_piece chain piece pieces rest bytes is (forged before after are other more was differs) =
    forged (piece ∷ before) after (ap (λ (l : List (List ℕ)). piece ∷ l) are) other more
    (is ∙ ap (λ (l : List ℕ). frame chain piece ++ l) was
    ∙ sym (append_assoc (frame chain piece) (frames (digest chain piece) before)
    (frame (chain_after (digest chain piece) before) other ++ more)))
    differs

explained : (chain : List ℕ) (pieces : List (List ℕ)) (bytes : List ℕ) → AllFit pieces
    → IsSound (read (framed chain []) bytes)
    → Begins chain bytes ⊎ (read (framed chain []) bytes ≡ framed chain bytes) → Explains chain pieces bytes
explained chain pieces bytes fit sound (inr waits) = kept [] pieces refl bytes (subst IsSound waits sound) refl
explained chain [] bytes fit sound (inl found) = forged [] [] refl found.piece found.rest found.is tt
explained chain (piece ∷ pieces) bytes fit sound (inl found) = elim (cases_Bool (bytes_eq found.piece piece)) [
  | inl same ↦
      let is : bytes ≡ frame chain piece ++ found.rest =
      found.is ∙ ap (λ (p : List ℕ). frame chain p ++ found.rest) ((bytes_eq-Decides found.piece piece).0 same) in
      with_piece chain piece pieces found.rest bytes is
      (explained (digest chain piece) pieces found.rest fit.1
      (subst IsSound (ap (read (framed chain [])) is ∙ frame_read chain piece found.rest fit.0) sound)
      (search_front (digest chain piece) [] found.rest))
  | inr differs ↦
      forged [] (piece ∷ pieces) refl found.piece found.rest found.is
      (λ same. true≢false (sym ((bytes_eq-Decides found.piece piece).1 same) ∙ differs))
]

pub opens_explained : (s : Side) (pieces : List (List ℕ)) (bytes : List ℕ) → AllFit pieces
    → IsSound (read (fresh s) (magic s ++ bytes)) → Explains (seed s) pieces bytes
opens_explained s pieces bytes fit sound =
    explained (seed s) pieces bytes fit (subst IsSound (magic_read s bytes) sound) (search_front (seed s) [] bytes)
