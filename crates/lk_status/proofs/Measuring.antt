-- One report more, and which outweighs all others or has executed most then; and the measure.
use Rattle.std.proofs.Common.{◌≡◌, ◌≤◌, ℕ, Bool, true, false, cond, ◌&&◌, ◌||◌, if◌then◌else◌, List, [], ◌∷◌, ◌++◌}
use Rattle.std.proofs.Common.{Option, Some, None, refl, sym, ◌∙◌, ap, subst, inl, inr, arith}
use Rattle.std.specs.Prelude.{nat_le, nat_lt, ◌==◌, not}
use Rattle.std.specs.List.{AllByRecursion}
use Rattle.std.proofs.lemmas.Bool.{false≢true, leb-true, leb-false}
use Rattle.std.proofs.lemmas.Bool.Decides.{nat_tests}
use Rattle.std.proofs.lemmas.List.{append-nil}
use lib.Pointwise.{bytes_decides}
use Rattle.lk_types.specs.BallotValue.{BallotValue}
use Rattle.lk_types.specs.Ballots.{is_below}
use Rattle.lk_probe.specs.declared.probe.Report.{Report}
use Rattle.lk_status.specs.Verdicts.{IsAmong}
use Rattle.lk_status.specs.Measures.{has_genesis, those_of, count_naming, outweighs, more_named, IsMostNamed}
use Rattle.lk_status.specs.Measures.{IsMostNamedOf}
use Rattle.lk_status.specs.Measures.{IsFurthest, IsFurthestOf, executed_of, further, IsMeasureOf}
use Rattle.lk_status.specs.Measures.{IsFurthestNamedOf}

among_front : (rs : List Report) (r o : Report) → IsAmong r rs → IsAmong r (rs ++ o ∷ [])
among_front [] r o there = absurd there
among_front (x ∷ rs) r o (inl same) = inl same
among_front (x ∷ rs) r o (inr there) = inr (among_front rs r o there)

among_last : (rs : List Report) (r : Report) → IsAmong r (rs ++ r ∷ [])
among_last [] r = inl refl
among_last (x ∷ rs) r = inr (among_last rs r)

all_push : (P : Report → Type 0) (rs : List Report) (r : Report) → AllByRecursion P rs → P r
    → AllByRecursion P (rs ++ r ∷ [])
all_push P [] r all this = (this, tt)
all_push P (x ∷ rs) r all this = (all.0, all_push P rs r all.1 this)

all_as : (P Q : Report → Type 0) → ((r : Report) → P r → Q r) → (rs : List Report)
    → AllByRecursion P rs → AllByRecursion Q rs
all_as P Q gives [] all = tt
all_as P Q gives (x ∷ rs) all = (gives x all.0, all_as P Q gives rs all.1)

-- ---- whose genesis most nodes tell

abbrev leads : Report → Bool
leads r = r.status.leadership.leads

abbrev promised : Report → BallotValue
promised r = r.status.leadership.promised

abbrev genesis : Report → List ℕ
genesis r = r.status.identity.genesis

-- the test of `outweighs` by the parts of two reports
abbrev tie : Bool → Bool → BallotValue → BallotValue → ℕ → ℕ → Bool
tie l k b c x y = if l then not k || is_below c b else not k && nat_lt x y

abbrev weighs : ℕ → ℕ → Bool → Bool
weighs n m wins = nat_lt m n || m == n && wins

no_less : (n x : ℕ) (b : BallotValue) (l : Bool) → weighs n n (tie l l b b x x) ≡ false
no_less n x b true = grind (arith, nat_tests)
no_less n x b false = grind (arith, nat_tests)

-- what does not outweigh one does not outweigh what outweighs that
less_still : (n m p x y z : ℕ) (b c d : BallotValue) (l k j : Bool) → weighs p m (tie j k d c z y) ≡ false
    → weighs n m (tie l k b c x y) ≡ true
    → weighs p n (tie j l d b z x) ≡ false
less_still n m p x y z b c d true true true less more = grind (arith, nat_tests)
less_still n m p x y z b c d true true false less more = grind (arith, nat_tests)
less_still n m p x y z b c d true false true less more = grind (arith, nat_tests)
less_still n m p x y z b c d true false false less more = grind (arith, nat_tests)
less_still n m p x y z b c d false true true less more = grind (arith, nat_tests)
less_still n m p x y z b c d false true false less more = grind (arith, nat_tests)
less_still n m p x y z b c d false false true less more = grind (arith, nat_tests)
less_still n m p x y z b c d false false false less more = grind (arith, nat_tests)

not_itself : (all : List Report) (r : Report) → outweighs all r r ≡ false
not_itself all r = no_less (count_naming (genesis r) all) r.node (promised r) (leads r)

not_after : (all : List Report) (best r o : Report) → outweighs all r best ≡ true → outweighs all o best ≡ false
    → outweighs all o r ≡ false
not_after all best r o more less =
    less_still (count_naming (genesis r) all) (count_naming (genesis best) all) (count_naming
    (genesis o) all) r.node best.node o.node
    (promised r) (promised best) (promised o)
    (leads r) (leads best) (leads o) less more

-- of all these, none in front outweighs it
pub record HoldsIn (all front : List Report) (r : Report) : Type 0 where
  pub is_there : IsAmong r front
  pub most : AllByRecursion (λ (o : Report). outweighs all o r ≡ false) front

abbrev pub HoldsInOf : List Report → List Report → Option Report → Type 0
HoldsInOf all front None = front ≡ []
HoldsInOf all front (Some r) = HoldsIn all front r

outweighing : (all front : List Report) (best r : Report) (is : Bool)
    → outweighs all r best ≡ is → HoldsIn all front best
    → HoldsInOf all (front ++ r ∷ []) (if is then Some r else Some best)
outweighing all front best r true e holds = record {
  is_there = among_last front r;
  most = all_push (λ (o : Report). outweighs all o r ≡ false) front r
      (all_as (λ (o : Report). outweighs all o best ≡ false) (λ (o : Report). outweighs all o r ≡ false)
      (λ o less. not_after all best r o e less) front holds.most)
      (not_itself all r);
}
outweighing all front best r false e holds = record {
  is_there = among_front front best r holds.is_there;
  most = all_push (λ (o : Report). outweighs all o best ≡ false) front r holds.most e;
}

pub one_told : (all front : List Report) (best : Option Report) (r : Report) → HoldsInOf all front best
    → HoldsInOf all (front ++ r ∷ []) (more_named all best r)
one_told all front None r none =
    subst (λ (l : List Report). HoldsInOf all (l ++ r ∷ []) (Some r)) (sym none)
    (record { is_there = inl refl; most = (not_itself all r, tt) })
one_told all front (Some best) r holds = outweighing all front best r (outweighs all r best) refl holds

pub of_all : (all front : List Report) (best : Option Report) → front ≡ all
    → HoldsInOf all front best → IsMostNamedOf all best
of_all all front None e none = sym e ∙ none
of_all all front (Some r) e holds = record {
  is_there = subst (λ (l : List Report). IsAmong r l) e holds.is_there;
  most = subst (λ (l : List Report). AllByRecursion (λ (o : Report). outweighs all o r ≡ false) l) e holds.most;
}

-- ---- who has executed most

abbrev executed : Report → ℕ
executed r = r.status.progress.executed

-- the one that has executed more, whatever its genesis
abbrev longer : Option Report → Report → Option Report
longer best r = if nat_le (executed_of best) (executed r) then Some r else best

further_than : (rs : List Report) (best r : Report) (is : Bool)
    → nat_le (executed best) (executed r) ≡ is → IsFurthest rs best
    → IsFurthestOf (rs ++ r ∷ []) (if is then Some r else Some best)
further_than rs best r true e furthest = record {
  is_there = among_last rs r;
  most = all_push (λ (o : Report). executed o ≤ executed r) rs r
      (all_as (λ (o : Report). executed o ≤ executed best) (λ (o : Report). executed o ≤ executed r)
      (λ o less. omega (arith, less, leb-true (executed best) (executed r) e)) rs furthest.most)
      (omega arith);
}
further_than rs best r false e furthest = record {
  is_there = among_front rs best r furthest.is_there;
  most = all_push (λ (o : Report). executed o ≤ executed best) rs r furthest.most
      (omega (arith, leb-false (executed best) (executed r) e));
}

further_first : (r : Report) (is : Bool) → nat_le 0 (executed r) ≡ is
    → IsFurthestOf (r ∷ []) (if is then Some r else None)
further_first r true e = record { is_there = inl refl; most = (omega arith, tt) }
further_first r false e = absurd (omega (arith, leb-false 0 (executed r) e))

one_longer : (rs : List Report) (best : Option Report) (r : Report) → IsFurthestOf rs best
    → IsFurthestOf (rs ++ r ∷ []) (longer best r)
one_longer rs None r none =
    subst (λ (l : List Report). IsFurthestOf (l ++ r ∷ []) (longer None r)) (sym none)
    (further_first r (nat_le 0 (executed r)) refl)
one_longer rs (Some best) r furthest = further_than rs best r (nat_le (executed best) (executed r)) refl furthest

-- ---- those of one genesis

those_cons : (is : Bool) (x : Report) (xs ys zs : List Report) → xs ≡ ys ++ zs
    → cond is (x ∷ xs) xs ≡ cond is (x ∷ ys) ys ++ zs
those_cons true x xs ys zs e = ap (λ (l : List Report). x ∷ l) e
those_cons false x xs ys zs e = e

those_more : (g : List ℕ) (rs : List Report) (r : Report)
    → those_of g (rs ++ r ∷ []) ≡ those_of g rs ++ cond (has_genesis g r) (r ∷ []) []
those_more g [] r = refl
those_more g (x ∷ rs) r =
    those_cons (has_genesis g x) x (those_of g (rs ++ r ∷ [])) (those_of g rs)
    (cond (has_genesis g r) (r ∷ []) []) (those_more g rs r)

further_of : (rs : List Report) (best : Option Report) (r : Report) (is : Bool) → IsFurthestOf rs best
    → IsFurthestOf (rs ++ cond is (r ∷ []) []) (if is && nat_le (executed_of best) (executed r) then Some r else best)
further_of rs best r true furthest = one_longer rs best r furthest
further_of rs best r false furthest = subst (λ (l : List Report). IsFurthestOf l best) (sym (append-nil rs)) furthest

pub one_further : (g : List ℕ) (rs : List Report) (best : Option Report) (r : Report)
    → IsFurthestOf (those_of g rs) best
    → IsFurthestOf (those_of g (rs ++ r ∷ [])) (further g best r)
one_further g rs best r furthest =
    subst (λ (l : List Report). IsFurthestOf l (further g best r)) (sym (those_more g rs r))
    (further_of (those_of g rs) best r (has_genesis g r) furthest)

-- ---- the measure

own_genesis : (r : Report) → has_genesis (genesis r) r ≡ true
own_genesis r = (bytes_decides (genesis r) (genesis r)).1 refl

some_of : (is : Bool) (x : Report) (xs : List Report) → is ≡ true → cond is (x ∷ xs) xs ≡ [] → ⊥
some_of true x xs e none = absurd cc
some_of false x xs e none = false≢true e

more_of : (is : Bool) (x : Report) (xs : List Report) → (xs ≡ [] → ⊥) → cond is (x ∷ xs) xs ≡ [] → ⊥
more_of true x xs some none = absurd cc
more_of false x xs some none = some none

has_some : (rs : List Report) (r : Report) → IsAmong r rs → those_of (genesis r) rs ≡ [] → ⊥
has_some [] r there none = there
has_some (x ∷ rs) r (inl same) none =
    some_of (has_genesis (genesis r) x) x (those_of (genesis r) rs)
    (subst (λ (o : Report). has_genesis (genesis r) o ≡ true) same (own_genesis r)) none
has_some (x ∷ rs) r (inr there) none =
    more_of (has_genesis (genesis r) x) x (those_of (genesis r) rs) (has_some rs r there) none

pub by_leader : (rs : List Report) (r : Report) → IsMostNamed rs r → leads r ≡ true → IsMeasureOf rs (Some r)
by_leader rs r named led =
    record { named = r; most_named = named; leader = λ _. refl; furthest = λ it. absurd (false≢true (sym it ∙ led)) }

pub by_furthest : (rs : List Report) (r : Report) (found : Option Report) → IsMostNamed rs r → leads r ≡ false
    → IsFurthestOf (those_of (genesis r) rs) found → IsMeasureOf rs found
by_furthest rs r None named unled none = absurd (has_some rs r named.is_there none)
by_furthest rs r (Some found) named unled furthest =
    record {
      named = r;
      most_named = named;
      leader = λ it. absurd (false≢true (sym unled
          ∙ it));
      furthest = λ _. furthest;
    }

pub furthest_named : (rs : List Report) (r : Report) (found : Option Report) → IsMostNamed rs r
    → IsFurthestOf (those_of (genesis r) rs) found → IsFurthestNamedOf rs found
furthest_named rs r None named none = absurd (has_some rs r named.is_there none)
furthest_named rs r (Some found) named furthest = record { named = r; most_named = named; furthest = furthest }
