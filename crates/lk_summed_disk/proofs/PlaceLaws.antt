-- What a piece adds to a file, and how its place goes on.
use Rattle.std.proofs.Common.{◌≡◌, ◌∙◌, ℕ, zero, suc, ◌+◌, ◌-◌, ◌≤◌, true, List, [], ◌∷◌}
use Rattle.std.proofs.Common.{◌++◌, length, take, refl, sym, ap, subst, arith, inl, inr}
use Rattle.std.proofs.Common.{length-append, length-take}
use Rattle.std.proofs.Math.Seq.{take-append-add, take-length}
use Rattle.std.proofs.lemmas.Bool.{cases_lt}
use Rattle.std.proofs.lemmas.List.{take-take, take-append-le, take_all, append-nil}
use Rattle.std.proofs.lemmas.List.{length-take-le}
use Rattle.lk_disk.specs.declared.device.Side.{Side}
use Rattle.lk_disk.specs.declared.device.Side.TheVariants.{A, B}
use Rattle.lk_summed_disk.specs.Frames.{max_piece, magic, seed, digest, frame}
use Rattle.lk_summed_disk.specs.Readers.{Reader, fresh, plain, framed, read, text, IsSound}
use Rattle.lk_summed_disk.specs.Places.{reader, IsPlace, Adds}
use Rattle.lk_summed_disk.specs.declared.place.Form.{Form}
use Rattle.lk_summed_disk.specs.declared.place.Form.TheVariants.{Plain}
use Rattle.lk_summed_disk.specs.declared.place.Place.{Place}
use Rattle.lk_summed_disk.proofs.FrameLaws.{length-frame, nil_torn, frame_front_torn}
use Rattle.lk_summed_disk.proofs.ReaderLaws.{read-append, text-append, text-take, reads_frame, frame_front}
use Rattle.lk_summed_disk.proofs.ReaderLaws.{sound_front}

-- ---- without sums

pub text_plain : (bytes : List ℕ) → text plain bytes ≡ bytes
text_plain [] = refl
text_plain (b ∷ bytes) = ap (λ (l : List ℕ). b ∷ l) (text_plain bytes)

pub read_plain : (bytes : List ℕ) → read plain bytes ≡ plain
read_plain [] = refl
read_plain (b ∷ bytes) = read_plain bytes

pub adds_plain : (piece : List ℕ) → Adds plain piece piece plain
adds_plain piece = record {
  adds = text_plain piece;
  reads = read_plain piece;
  front = λ n. (n, text_plain (take n piece));
  sound = λ n. subst IsSound (sym (read_plain (take n piece))) tt;
}

begun_front : (s : Side) (piece : List ℕ) (n : ℕ)
    → (m : ℕ) × (text (fresh s) (take n (0 ∷ piece)) ≡ take m (0 ∷ piece))
begun_front s piece zero = (0, refl)
begun_front s piece (suc n) = (suc n, ap (λ (l : List ℕ). 0 ∷ l) (text_plain (take n piece)))

begun_sound : (s : Side) (piece : List ℕ) (n : ℕ) → IsSound (read (fresh s) (take n (0 ∷ piece)))
begun_sound s piece zero = tt
begun_sound s piece (suc n) = subst IsSound (sym (read_plain (take n piece))) tt

-- the first bytes of a file without sums
pub adds_begun : (s : Side) (piece : List ℕ) → Adds (fresh s) (0 ∷ piece) (0 ∷ piece) plain
adds_begun s piece = record {
  adds = ap (λ (l : List ℕ). 0 ∷ l) (text_plain piece);
  reads = read_plain piece;
  front = begun_front s piece;
  sound = begun_sound s piece;
}

-- ---- with sums

framed_front : (chain piece : List ℕ) → length piece ≤ max_piece → (n : ℕ)
    → ((m : ℕ) × (text (framed chain []) (take n (frame chain piece)) ≡ take m piece))
    × IsSound (read (framed chain []) (take n (frame chain piece)))
framed_front chain piece fits n = elim (cases_lt n (length piece + 8)) [
  | inl less ↦
      let quiet = frame_front chain piece n fits less in (
        (0, quiet.0),
        subst IsSound (sym quiet.1) (frame_front_torn chain piece n fits less),
      )
  | inr more ↦
      let all : take n (frame chain piece) ≡ frame chain piece =
      take_all n (frame chain piece) (omega (arith, more, length-frame chain piece)) in
      let both = reads_frame chain piece fits in (
        (length piece, ap (text (framed chain [])) all ∙ both.0 ∙ sym (take-length piece)),
        subst IsSound (sym (ap (read (framed chain [])) all ∙ both.1)) nil_torn,
      )
]

pub adds_frame : (chain piece : List ℕ) → length piece ≤ max_piece
    → Adds (framed chain []) piece (frame chain piece) (framed (digest chain piece) [])
adds_frame chain piece fits = record {
  adds = (reads_frame chain piece fits).0;
  reads = (reads_frame chain piece fits).1;
  front = λ n. (framed_front chain piece fits n).0;
  sound = λ n. (framed_front chain piece fits n).1;
}

pub magic_read : (s : Side) (rest : List ℕ)
    → read (fresh s) (magic s ++ rest) ≡ read (framed (seed s) []) rest
magic_read A rest = refl
magic_read B rest = refl

pub magic_text : (s : Side) (rest : List ℕ)
    → text (fresh s) (magic s ++ rest) ≡ text (framed (seed s) []) rest
magic_text A rest = refl
magic_text B rest = refl

pub length-magic : (s : Side) → length (magic s) ≡ 8
length-magic A = refl
length-magic B = refl

-- a front of the magic
pub magic_front_text : (s : Side) (n : ℕ) → text (fresh s) (take n (magic s)) ≡ []
magic_front_text s n =
    text-take (fresh s) n (magic s)
    ∙ ap (take (length (text (fresh s) (take n (magic s)))))
    (ap (text (fresh s)) (sym (append-nil (magic s))) ∙ magic_text s [])
    ∙ take_all (length (text (fresh s) (take n (magic s)))) [] (omega arith)

pub magic_front_sound : (s : Side) (n : ℕ) → IsSound (read (fresh s) (take n (magic s)))
magic_front_sound s n =
    sound_front (fresh s) (magic s) n
    (subst IsSound (sym (ap (read (fresh s)) (sym (append-nil (magic s))) ∙ magic_read s [])) nil_torn)

first_front : (s : Side) (piece : List ℕ) → length piece ≤ max_piece → (n : ℕ)
    → ((m : ℕ) × (text (fresh s) (take n (magic s ++ frame (seed s) piece)) ≡ take m piece))
    × IsSound (read (fresh s) (take n (magic s ++ frame (seed s) piece)))
first_front s piece fits n = elim (cases_lt n 8) [
  | inl less ↦
      let is : take n (magic s ++ frame (seed s) piece) ≡ take n (magic s) =
      take-append-le n (magic s) (frame (seed s) piece) (omega (arith, less, length-magic s)) in (
        (0, ap (text (fresh s)) is ∙ magic_front_text s n),
        subst IsSound (sym (ap (read (fresh s)) is)) (magic_front_sound s n),
      )
  | inr more ↦
      let at : n ≡ length (magic s) + (n - 8) = omega (arith, more, length-magic s) in
      let is : take n (magic s ++ frame (seed s) piece) ≡ magic s ++ take (n - 8) (frame (seed s) piece) =
      ap (λ (k : ℕ). take k (magic s ++ frame (seed s) piece)) at
      ∙ take-append-add (magic s) (frame (seed s) piece) (n - 8) in
      let front = framed_front (seed s) piece fits (n - 8) in (
        (front.0.0, ap (text (fresh s)) is ∙ magic_text s (take (n - 8) (frame (seed s) piece)) ∙ front.0.1),
        subst IsSound (sym (ap (read (fresh s)) is ∙ magic_read s (take (n - 8) (frame (seed s) piece)))) front.1,
      )
]

pub adds_first : (s : Side) (piece : List ℕ) → length piece ≤ max_piece
    → Adds (fresh s) piece (magic s ++ frame (seed s) piece) (framed (digest (seed s) piece) [])
adds_first s piece fits = record {
  adds = magic_text s (frame (seed s) piece) ∙ (reads_frame (seed s) piece fits).0;
  reads = magic_read s (frame (seed s) piece) ∙ (reads_frame (seed s) piece fits).1;
  front = λ n. (first_front s piece fits n).0;
  sound = λ n. (first_front s piece fits n).1;
}

-- ---- places

whole_reads : (s : Side) (bytes : List ℕ) (p : Place) → IsPlace s bytes p → p.is_whole ≡ true
    → read (fresh s) bytes ≡ reader s p.form
whole_reads s bytes p is whole =
    ap (read (fresh s)) (sym (take_all p.end bytes (omega (arith, is.whole whole)))) ∙ is.reads

pub reads_on : (s : Side) (bytes piece more : List ℕ) (p : Place) (after : Form) → IsPlace s bytes p
    → p.is_whole ≡ true → Adds (reader s p.form) piece more (reader s after)
    → Adds (read (fresh s) bytes) piece more (reader s after)
reads_on s bytes piece more p after is whole adds =
    subst (λ (r : Reader). Adds r piece more (reader s after)) (sym (whole_reads s bytes p is whole)) adds

-- a piece was appended
pub place_appended : (s : Side) (bytes piece more : List ℕ) (p q : Place) → IsPlace s bytes p → p.is_whole ≡ true
    → Adds (reader s p.form) piece more (reader s q.form) → q.end ≡ p.end + length more
    → q.size ≡ p.size + length piece → IsPlace s (bytes ++ more) q
place_appended s bytes piece more p q is whole adds end size =
    let at : q.end ≡ length (bytes ++ more) = omega (arith, end, is.whole whole, length-append bytes more) in
    let on = reads_on s bytes piece more p q.form is whole adds in
    record {
      within = omega (arith, at);
      reads = ap (read (fresh s)) (take_all q.end (bytes ++ more) (omega (arith, at)))
          ∙ read-append (fresh s) bytes more ∙ on.reads;
      quiet = λ n long. ap (text (fresh s)) (take_all n (bytes ++ more) (omega (arith, at, long)));
      size = omega (
        arith,
        size,
        is.size,
        ap length (text-append (fresh s) bytes more),
        length-append (text (fresh s) bytes) (text (read (fresh s) bytes) more),
        ap length on.adds,
      );
      whole = λ _. at;
    }

text_from : (s : Side) (bytes : List ℕ) (p : Place) (n m : ℕ) → IsPlace s bytes p → p.end ≤ n → p.end ≤ m
    → text (fresh s) (take m (take n bytes)) ≡ text (fresh s) bytes
text_from s bytes p n m is long more = elim (cases_lt m n) [
  | inl less ↦ ap (text (fresh s)) (take-take m n bytes (omega (arith, less))) ∙ is.quiet m more
  | inr over ↦
      ap (text (fresh s)) (take_all m (take n bytes) (omega (arith, over, length-take n bytes))) ∙ is.quiet n long
]

-- the bytes after a place may go
pub place_cut : (s : Side) (bytes : List ℕ) (p q : Place) (n : ℕ) → IsPlace s bytes p → p.end ≤ n → n ≤ length bytes
    → q.form ≡ p.form → q.end ≡ p.end → q.size ≡ p.size → (q.is_whole ≡ true → p.end ≡ n) → IsPlace s (take n bytes) q
place_cut s bytes p q n is long within form end size whole = record {
  within = omega (arith, end, long, within, length-take n bytes);
  reads = ap (λ (k : ℕ). read (fresh s) (take k (take n bytes))) end
      ∙ ap (read (fresh s)) (take-take p.end n bytes long) ∙ is.reads ∙ ap (reader s) (sym form);
  quiet = λ m more.
      text_from s bytes p n m is long (omega (arith, end, more)) ∙ sym (is.quiet n long);
  size = size ∙ is.size ∙ ap length (sym (is.quiet n long));
  whole = λ w. end ∙ whole w ∙ sym (length-take-le n bytes within);
}

-- ---- as the code makes them

pub adds_next_as : (chain piece bytes after : List ℕ) → length piece ≤ max_piece → bytes ≡ frame chain piece
    → after ≡ digest chain piece → Adds (framed chain []) piece bytes (framed after [])
adds_next_as chain piece bytes after fits is chained =
    subst (λ (l : List ℕ). Adds (framed chain []) piece l (framed after [])) (sym is)
    (subst (λ (d : List ℕ). Adds (framed chain []) piece (frame chain piece) (framed d [])) (sym chained)
    (adds_frame chain piece fits))

pub adds_first_as : (s : Side) (piece bytes after : List ℕ) → length piece ≤ max_piece
    → bytes ≡ magic s ++ frame (seed s) piece → after ≡ digest (seed s) piece
    → Adds (fresh s) piece bytes (framed after [])
adds_first_as s piece bytes after fits is chained =
    subst (λ (l : List ℕ). Adds (fresh s) piece l (framed after [])) (sym is)
    (subst (λ (d : List ℕ). Adds (fresh s) piece (magic s ++ frame (seed s) piece) (framed d [])) (sym chained)
    (adds_first s piece fits))

pub adds_plain_as : (s : Side) (piece bytes : List ℕ) (f : Form) → bytes ≡ piece → f ≡ Plain
    → Adds plain piece bytes (reader s f)
adds_plain_as s piece bytes f is form =
    subst (λ (l : List ℕ). Adds plain piece l (reader s f)) (sym is)
    (subst (λ (g : Form). Adds plain piece piece (reader s g)) (sym form) (adds_plain piece))

pub adds_begun_as : (s : Side) (piece rest bytes : List ℕ) (f : Form) → piece ≡ 0 ∷ rest → bytes ≡ piece → f ≡ Plain
    → Adds (fresh s) piece bytes (reader s f)
adds_begun_as s piece rest bytes f begins is form =
    subst (λ (l : List ℕ). Adds (fresh s) piece l (reader s f)) (sym is)
    (subst (λ (l : List ℕ). Adds (fresh s) l l (reader s f)) (sym begins)
    (subst (λ (g : Form). Adds (fresh s) (0 ∷ rest) (0 ∷ rest) (reader s g)) (sym form) (adds_begun s rest)))

pub first_bytes : (s : Side) (piece begun bytes chain : List ℕ) → bytes ≡ begun ++ frame chain piece → chain ≡ seed s
    → begun ≡ magic s → bytes ≡ magic s ++ frame (seed s) piece
first_bytes s piece begun bytes chain is chained begins =
    is ∙ ap (λ (c : List ℕ). begun ++ frame c piece) chained
    ∙ ap (λ (l : List ℕ). l ++ frame (seed s) piece) begins
