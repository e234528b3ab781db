-- Numbers of a fixed width, and bytes after their length.
use Rattle.std.proofs.Common.{◌≡◌, ℕ, ◌^◌, ◌<◌, ◌≤◌, false, cond, ltb, List, ◌++◌, length, take, drop, Option, Some}
use Rattle.std.proofs.Common.{None, refl, sym, ap, subst, ◌∙◌, append_assoc, arith, inl, inr}
use Rattle.std.specs.Int.{Width, w16, w32, w64, byte_len, from_be_bytes, to_be_bytes}
use Rattle.std.proofs.lemmas.Bool.{ltb-false, le-ltb}
use Rattle.std.proofs.lemmas.List.{take_at, drop_at, take-append-drop, length-append, length-take}
use Rattle.std.proofs.lemmas.Nat.{be_bytes_2, be_bytes_4, be_bytes_8, from_be_bytes-to_be_bytes_2}
use Rattle.std.proofs.lemmas.Nat.{from_be_bytes-to_be_bytes_4, from_be_bytes-to_be_bytes_8}
use Rattle.lk_codec.specs.Fields.{two, four, eight}
use Rattle.lk_codec.specs.Parser.{read_number, sized}
use Rattle.lk_codec.specs.FieldReading.{read_two, read_four, read_eight}
use Rattle.lk_codec.proofs.Codec.{IsBytes, IsBytes-drop, IsBytes-take, bind_ok, chosen, some_is, Took, Reads}

pub record IsWide (w : Width) (limit : ℕ) : Type 0 where
  pub len : (n : ℕ) → length (to_be_bytes w n) ≡ byte_len w
  pub back : (bytes : List ℕ) → length bytes ≡ byte_len w → IsBytes bytes
      → to_be_bytes w (from_be_bytes w bytes) ≡ bytes
  pub again : (n : ℕ) → n < limit → from_be_bytes w (to_be_bytes w n) ≡ n
  pub below : (bytes : List ℕ) → IsBytes bytes → from_be_bytes w bytes < limit

wide16 : IsWide w16 (2 ^ 16)
wide16 = record {
  len = λ n. refl;
  back = λ bytes len fits. be_bytes_2 bytes _ len fits refl;
  again = λ n lt. from_be_bytes-to_be_bytes_2 n lt;
  below = λ bytes fits. omega (arith, fits 0, fits 1);
}

wide32 : IsWide w32 (2 ^ 32)
wide32 = record {
  len = λ n. refl;
  back = λ bytes len fits. be_bytes_4 bytes _ len fits refl;
  again = λ n lt. from_be_bytes-to_be_bytes_4 n lt;
  below = λ bytes fits. omega (arith, fits 0, fits 1, fits 2, fits 3);
}

wide64 : IsWide w64 (2 ^ 64)
wide64 = record {
  len = λ n. refl;
  back = λ bytes len fits. be_bytes_8 bytes _ len fits refl;
  again = λ n lt. from_be_bytes-to_be_bytes_8 n lt;
  below = λ bytes fits. omega (arith, fits 0, fits 1, fits 2, fits 3, fits 4, fits 5, fits 6, fits 7);
}

number_takes : (w : Width) (limit : ℕ) (wide : IsWide w limit) (bytes : List ℕ) (n : ℕ) (rest : List ℕ) → IsBytes bytes
    → read_number w bytes ≡ Some (n, rest) → Took (to_be_bytes w) (λ (n : ℕ). n < limit) bytes n rest
number_takes w limit wide bytes n rest fits e =
    elim (chosen (ltb (length bytes) (byte_len w)) None
    (Some (from_be_bytes w (take (byte_len w) bytes), drop (byte_len w) bytes)) (Some (n, rest)) e) [
      | inl short ↦ let bad = short.1 in absurd cc
      | inr g ↦
          let long : byte_len w ≤ length bytes = ltb-false _ _ g.0 in
          let made : ℕ × List ℕ = (from_be_bytes w (take (byte_len w) bytes), drop (byte_len w) bytes) in
          subst (λ (z : ℕ × List ℕ). Took (to_be_bytes w) (λ (n : ℕ). n < limit) bytes z.0 z.1)
          (some_is made (n, rest) g.1)
          (record {
            parts = rw (wide.back (take (byte_len w) bytes) (omega (arith, length-take (byte_len w) bytes))
                (IsBytes-take (byte_len w) bytes fits)) (sym (take-append-drop (byte_len w) bytes));
            rest_fits = IsBytes-drop (byte_len w) bytes fits;
            fits = wide.below (take (byte_len w) bytes) (IsBytes-take (byte_len w) bytes fits);
          })
    ]

number_again : (w : Width) (limit : ℕ) (wide : IsWide w limit) (n : ℕ) (rest : List ℕ) → n < limit
    → read_number w (to_be_bytes w n ++ rest) ≡ Some (n, rest)
number_again w limit wide n rest lt =
    let len = wide.len n in
    let long : ltb (length (to_be_bytes w n ++ rest)) (byte_len w) ≡ false =
    le-ltb _ _ (omega (arith, length-append (to_be_bytes w n) rest)) in
    rw (
      long,
      take_at (to_be_bytes w n) rest (byte_len w) len,
      drop_at (to_be_bytes w n) rest (byte_len w) len,
      wide.again n lt,
    ) refl

number_reads : (w : Width) (limit : ℕ) → IsWide w limit → Reads (read_number w) (to_be_bytes w) (λ (n : ℕ). n < limit)
number_reads w limit wide = record { takes = number_takes w limit wide; again = number_again w limit wide }

pub two_reads : Reads read_two two (λ (n : ℕ). n < 2 ^ 16)
unfolding two read_two
two_reads = number_reads w16 (2 ^ 16) wide16

pub four_reads : Reads read_four four (λ (n : ℕ). n < 2 ^ 32)
unfolding four read_four
four_reads = number_reads w32 (2 ^ 32) wide32

pub eight_reads : Reads read_eight eight (λ (n : ℕ). n < 2 ^ 64)
unfolding eight read_eight
eight_reads = number_reads w64 (2 ^ 64) wide64

-- ---- lengths

pub length-two : (n : ℕ) → length (two n) ≡ 2
unfolding two
length-two n = refl

pub length-four : (n : ℕ) → length (four n) ≡ 4
unfolding four
length-four n = refl

pub length-eight : (n : ℕ) → length (eight n) ≡ 8
unfolding eight
length-eight n = refl

-- ---- bytes after their length

sized_takes : (c : List ℕ → Option (ℕ × List ℕ)) (t : ℕ → List ℕ) (C : ℕ → Type 0) → Reads c t C
    → (bytes text rest : List ℕ) → IsBytes bytes → sized c bytes ≡ Some (text, rest)
    → Took (λ (text : List ℕ). t (length text) ++ text) (λ (text : List ℕ). C (length text)) bytes text rest
sized_takes c t C rc bytes text rest h e =
    let a = bind_ok (c bytes)
    (λ n. cond (ltb (length n.1) n.0) None (Some (take n.0 n.1, drop n.0 n.1))) (text, rest) e in
    let count = rc.takes bytes a.0.0 a.0.1 h a.1 in
    elim (chosen (ltb (length a.0.1) a.0.0) None (Some (take a.0.0 a.0.1, drop a.0.0 a.0.1)) (Some (text, rest)) a.2) [
      | inl short ↦ let bad = short.1 in absurd cc
      | inr long ↦
          let enough : a.0.0 ≤ length a.0.1 = ltb-false _ _ long.0 in
          let len : length (take a.0.0 a.0.1) ≡ a.0.0 = omega (arith, length-take a.0.0 a.0.1) in
          let cut : List ℕ × List ℕ = (take a.0.0 a.0.1, drop a.0.0 a.0.1) in
          subst (λ (z : List ℕ × List ℕ). Took (λ (text : List ℕ). t (length text) ++ text)
          (λ (text : List ℕ). C (length text)) bytes z.0 z.1) (some_is cut (text, rest) long.1)
          (record {
            parts = count.parts ∙ ap (λ (w : List ℕ). t a.0.0 ++ w) (sym (take-append-drop a.0.0 a.0.1))
                ∙ ap (λ (k : ℕ). t k ++ (take a.0.0 a.0.1 ++ drop a.0.0 a.0.1)) (sym len)
                ∙ sym (append_assoc (t (length cut.0)) cut.0 cut.1);
            rest_fits = IsBytes-drop a.0.0 a.0.1 count.rest_fits;
            fits = subst C (sym len) count.fits;
          })
    ]

sized_again : (c : List ℕ → Option (ℕ × List ℕ)) (t : ℕ → List ℕ) (C : ℕ → Type 0) → Reads c t C
    → (text rest : List ℕ) → C (length text) → sized c ((t (length text) ++ text) ++ rest) ≡ Some (text, rest)
sized_again c t C rc text rest fits =
    let long : ltb (length (text ++ rest)) (length text) ≡ false =
    le-ltb _ _ (omega (arith, length-append text rest)) in
    ap (sized c) (append_assoc (t (length text)) text rest)
    ∙ rw (
      rc.again (length text) (text ++ rest) fits,
      long,
      take_at text rest (length text) refl,
      drop_at text rest (length text) refl,
    ) refl

pub sized_reads : (c : List ℕ → Option (ℕ × List ℕ)) (t : ℕ → List ℕ) (C : ℕ → Type 0) → Reads c t C
    → Reads (sized c) (λ (text : List ℕ). t (length text) ++ text) (λ (text : List ℕ). C (length text))
sized_reads c t C rc = record { takes = sized_takes c t C rc; again = sized_again c t C rc }
