-- The test of states is right: no two reports differ exactly where all agree.
use Rattle.std.proofs.Common.{◌≡◌, ◌≢◌, ℕ, zero, suc, Bool, true, false, not, eqb, ◌&&◌, ◌||◌, List, [], ◌∷◌, refl}
use Rattle.std.proofs.Common.{subst, arith}
use Rattle.std.specs.Prelude.{nat_eq}
use Rattle.std.specs.Cmp.Lexicographic.{pointwise}
use Rattle.std.specs.List.{AllByRecursion, list_any}
use Rattle.std.proofs.lemmas.Bool.{eqb-true}
use Rattle.std.proofs.lemmas.Bool.Decides.{nat_tests}
use lib.Pointwise.{bytes_decides}
use Rattle.lk_probe.specs.Grammar.{digest_in}
use Rattle.lk_probe.specs.StateDigests.{do_differ}
use Rattle.lk_probe.specs.declared.probe.Report.{Report}
use Rattle.lk_probe.specs.declared.state_digest.StateDigest.{StateDigest}
use Rattle.lk_status.specs.States.{AgreesWith, AgreeAll, HoldAlike, differs_from, is_apart, one_state}
use Rattle.lk_status.specs.States.{some_apart}

-- ---- of truth values

is_so : (a b c : Bool) → ((not a && b) && not c) ≡ false → a ≡ false → b ≡ true → c ≡ true
is_so false true true e p q = refl
is_so false true false e p q = absurd cc
is_so false false c e p q = absurd cc
is_so true b c e p q = absurd cc

is_not : (a b c : Bool) → (a ≡ false → b ≡ true → c ≡ true) → ((not a && b) && not c) ≡ false
is_not true b c f = refl
is_not false false c f = refl
is_not false true true f = refl
is_not false true false f = absurd (let bad = f refl refl in cc bad)

neither : (a b : Bool) → (a || b) ≡ false → (a ≡ false) × (b ≡ false)
neither false b e = (refl, e)
neither true b e = absurd cc

no_longer : (b : Bool) → not b ≡ true → b ≡ false
no_longer false e = refl
no_longer true e = absurd cc

-- ---- of numbers

is_some : (n : ℕ) → n ≢ 0 → eqb n 0 ≡ false
is_some zero more = absurd (more refl)
is_some (suc n) more = grind (arith, nat_tests)

some_is : (n : ℕ) → eqb n 0 ≡ false → n ≢ 0
some_is zero e is = absurd cc
some_is (suc n) e is = omega (arith, is)

same : (n : ℕ) → eqb n n ≡ true
same n = grind (arith, nat_tests)

is_same : (n m : ℕ) → n ≡ m → eqb n m ≡ true
is_same n m e = subst (λ (k : ℕ). eqb n k ≡ true) e (same n)

-- ---- of two digests

alike_to : (d e : StateDigest) → do_differ d e ≡ false → HoldAlike d e
alike_to d e is some same =
    (bytes_decides d.digest e.digest).0
    (is_so (eqb d.position 0) (eqb d.position e.position) (pointwise nat_eq d.digest e.digest) is
    (is_some d.position some) (is_same d.position e.position same))

alike_from : (d e : StateDigest) → HoldAlike d e → do_differ d e ≡ false
alike_from d e are =
    is_not (eqb d.position 0) (eqb d.position e.position) (pointwise nat_eq d.digest e.digest)
    (λ p q. (bytes_decides d.digest e.digest).1 (are (some_is d.position p) (eqb-true _ _ q)))

-- ---- of all reports

agrees_to : (r : Report) (rs : List Report) → list_any (differs_from r) rs ≡ false → AllByRecursion (AgreesWith r) rs
agrees_to r [] e = tt
agrees_to r (o ∷ rs) e =
    let both = neither (differs_from r o) (list_any (differs_from r) rs) e in
    (alike_to (digest_in r.reach) (digest_in o.reach) both.0, agrees_to r rs both.1)

agrees_from : (r : Report) (rs : List Report) → AllByRecursion (AgreesWith r) rs → list_any (differs_from r) rs ≡ false
agrees_from r [] all = refl
agrees_from r (o ∷ rs) all =
    rw (alike_from (digest_in r.reach) (digest_in o.reach) all.0, agrees_from r rs all.1) refl

all_to : (rs some : List Report) → some_apart some rs ≡ false
    → AllByRecursion (λ (r : Report). AllByRecursion (AgreesWith r) rs) some
all_to rs [] e = tt
all_to rs (r ∷ some) e =
    let both = neither (is_apart rs r) (some_apart some rs) e in
    (agrees_to r rs both.0, all_to rs some both.1)

all_from : (rs some : List Report) → AllByRecursion (λ (r : Report). AllByRecursion (AgreesWith r) rs) some
    → some_apart some rs ≡ false
all_from rs [] all = refl
all_from rs (r ∷ some) all = rw (agrees_from r rs all.0, all_from rs some all.1) refl

pub agree_to : (rs : List Report) → one_state rs ≡ true → AgreeAll rs
agree_to rs e = all_to rs rs (no_longer (some_apart rs rs) e)

pub agree_from : (rs : List Report) → AgreeAll rs → one_state rs ≡ true
agree_from rs all = rw (all_from rs rs all) refl
