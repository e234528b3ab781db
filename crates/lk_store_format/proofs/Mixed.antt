-- Which entries mix the two formats.
use Rattle.std.proofs.Common.{◌≡◌, ℕ, zero, suc, ◌+◌, ◌<◌, Bool, true, false, eqb, not, ◌&&◌, ◌||◌, List, [], ◌∷◌, ◌++◌}
use Rattle.std.proofs.Common.{length, take, refl, subst, arith}
use Rattle.std.specs.List.{list_any}
use Rattle.std.proofs.Math.Seq.{take-append-add}
use Rattle.std.proofs.lemmas.Bool.{ne_eqb}
use Rattle.lk_store_format.specs.Formats.{format, has_raise, is_mixed}
use Rattle.lk_store_format.specs.Bases.{generation}
use Rattle.lk_store_format.specs.declared.stored.Stored.{Stored}
use Rattle.lk_store_format.specs.declared.stored.Stored.TheVariants.{Base, Plain}

-- ---- truth values

pub neither : (a b : Bool) → (a || b) ≡ false → (a ≡ false) × (b ≡ false)
neither true b e = absurd cc
neither false b e = (refl, e)

pub both_false : (a b : Bool) → a ≡ false → b ≡ false → (a || b) ≡ false
both_false a b x y = rw (x, y) refl

pub sound_rest : (torn mixed : Bool) → torn ≡ true → mixed ≡ false → (not torn || mixed) ≡ false
sound_rest torn mixed x y = rw (x, y) refl

pub torn_rest : (torn mixed : Bool) → torn ≡ true → (not torn || mixed) ≡ mixed
torn_rest torn mixed x = rw x refl

less_so : (f a b : Bool) → (f && a) ≡ false → (a ≡ false → b ≡ false) → (f && b) ≡ false
less_so true a b e then_so = then_so e
less_so false a b e then_so = refl

-- ---- some of the entries

any_take : (n : ℕ) (es : List Stored) → list_any has_raise es ≡ false → list_any has_raise (take n es) ≡ false
any_take zero es e = refl
any_take (suc n) [] e = refl
any_take (suc n) (x ∷ es) e = let p = neither (has_raise x) (list_any has_raise es) e in
    both_false (has_raise x) (list_any has_raise (take n es)) p.0 (any_take n es p.1)

pub mixed-take : (n : ℕ) (es : List Stored) → is_mixed es ≡ false → is_mixed (take n es) ≡ false
mixed-take zero es e = refl
mixed-take (suc n) [] e = refl
mixed-take (suc n) (Base b ∷ es) e =
    less_so (eqb b.format 1) (list_any has_raise (Base b ∷ es)) (list_any has_raise (Base b ∷ take n es)) e
    (any_take (suc n) (Base b ∷ es))
mixed-take (suc n) (Plain x ∷ es) e = refl

pub mixed-front : (ks ls : List Stored) (n : ℕ) → is_mixed (ks ++ ls) ≡ false → is_mixed (ks ++ take n ls) ≡ false
mixed-front ks ls n e =
    subst (λ (l : List Stored). is_mixed l ≡ false) (take-append-add ks ls n) (mixed-take (length ks + n) (ks ++ ls) e)

-- ---- a file of format 2

pub mixed-two : (ks ls : List Stored) → format ks ≡ 2 → is_mixed (ks ++ ls) ≡ false
mixed-two [] ls two = absurd (omega (arith, two))
mixed-two (Base b ∷ ks) ls two =
    let other : eqb b.format 1 ≡ false = ne_eqb b.format 1 (λ same. omega (arith, same, two)) in rw other refl
mixed-two (Plain x ∷ ks) ls two = absurd (omega (arith, two))

pub format-append : (es fs : List Stored) → 0 < generation es → format (es ++ fs) ≡ format es
format-append [] fs some = absurd (omega arith)
format-append (Base b ∷ es) fs some = refl
format-append (Plain x ∷ es) fs some = refl
