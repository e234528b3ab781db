-- The sum without carry of what differs is 0 where nothing does.
use Rattle.std.proofs.Common.{◌≡◌, ◌<◌, ◌+◌, ℕ, List, [], ◌∷◌, ◌++◌, take, length, get_or, bit_or, bit_xor, arith, sym}
use Rattle.std.proofs.Common.{ap, ◌∙◌}
use Rattle.std.specs.Int.Bits.{xor_zero_l, xor_zero_r, or_zero_l}
use Rattle.std.proofs.lemmas.Nat.{le_or_l, le_or_r}
use Rattle.std.proofs.lemmas.List.{take_more, same_from_push}
use lib.Bits.{xor_self, xor_assoc}

-- two bytes whose sum without carry is 0 are the same
pub xor_same : (x y : ℕ) → bit_xor x y ≡ 0 → x ≡ y
xor_same x y zero = sym (xor_zero_r x) ∙ ap (bit_xor x) (sym (xor_self y)) ∙ sym (xor_assoc x y y)
    ∙ ap (λ z. bit_xor z y) zero ∙ xor_zero_l y

-- d is 0 just where the first i of both lists are the same
pub record IsZeroIfSame (d i : ℕ) (xs ys : List ℕ) : Type 0 where
  pub same : d ≡ 0 → take i xs ≡ take i ys
  pub zero : take i xs ≡ take i ys → d ≡ 0

pub tells_more : (d i : ℕ) (xs ys : List ℕ) → i < length xs → i < length ys → IsZeroIfSame d i xs ys
    → IsZeroIfSame (bit_or d (bit_xor (get_or xs i 0) (get_or ys i 0))) (i + 1) xs ys
tells_more d i xs ys inx iny told =
    let x = get_or xs i 0 in
    let y = get_or ys i 0 in
    let xmore = take_more xs i 0 inx in
    let ymore = take_more ys i 0 iny in
    record {
      same = λ none.
          let left : d ≡ 0 = omega (arith, none, le_or_l d (bit_xor x y)) in
          let right : bit_xor x y ≡ 0 = omega (arith, none, le_or_r d (bit_xor x y)) in
          xmore ∙ ap (λ (l : List ℕ). l ++ x ∷ []) (told.same left)
          ∙ ap (λ z. take i ys ++ z ∷ []) (xor_same x y right) ∙ sym ymore;
      zero = λ same.
          let both = same_from_push (take i xs) (take i ys) x y (sym xmore ∙ same ∙ ymore) in
          ap (λ z. bit_or z (bit_xor x y)) (told.zero both.0) ∙ or_zero_l (bit_xor x y)
          ∙ ap (λ z. bit_xor z y) both.1 ∙ xor_self y;
    }
