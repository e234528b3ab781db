-- Where a number stands to the client's last one.
use Rattle.std.proofs.Common.{◌≡◌, ℕ, ◌<◌, true, Option, Some, None, refl, arith, eqb, nat_lt, inl, inr}
use Rattle.std.proofs.lemmas.Bool.{cases_Bool, eqb-true, eqb-false, ltb-true, ltb-false, lt-ltb}
use Rattle.lk_types.specs.declared.answer.Answer.{Answer}
use Rattle.lk_state.specs.Runs.{seen_as}
use Rattle.lk_state.specs.Sessions.{is_new}
use Rattle.lk_state.specs.declared.session.Session.{Session}
use Rattle.lk_state.specs.declared.whole.Seen.TheVariants as seen

-- the same number: the session has it, with that answer
pub same_is : (o : Option Session) (number : ℕ) (a : Answer) → seen_as o number ≡ seen.Same a
    → (s : Session) × (o ≡ Some s) × (number ≡ s.number) × (s.answer ≡ a)
same_is None number a e = absurd cc
same_is (Some s) number a e =
    elim (cases_Bool (eqb number s.number)) [
      | inl equal ↦ (s, refl, eqb-true number s.number equal, answered (rw equal at e))
      | inr other ↦
          elim (cases_Bool (nat_lt number s.number)) [
            | inl below ↦ let bad : seen.Passed s.number ≡ seen.Same a = rw (other, below) at e in absurd cc
            | inr above ↦ let bad : seen.New ≡ seen.Same a = rw (other, above) at e in absurd cc
          ]
    ]
  where
    answered : seen.Same s.answer ≡ seen.Same a → s.answer ≡ a
    answered e = cc

-- a number that passed it: the session's, and above it
pub passed_is : (o : Option Session) (number last : ℕ) → seen_as o number ≡ seen.Passed last
    → (s : Session) × (o ≡ Some s) × (s.number ≡ last) × (number < s.number)
passed_is None number last e = absurd cc
passed_is (Some s) number last e =
    elim (cases_Bool (eqb number s.number)) [
      | inl equal ↦ let bad : seen.Same s.answer ≡ seen.Passed last = rw equal at e in absurd cc
      | inr other ↦
          elim (cases_Bool (nat_lt number s.number)) [
            | inl below ↦ (s, refl, passed (rw (other, below) at e), ltb-true number s.number below)
            | inr above ↦ let bad : seen.New ≡ seen.Passed last = rw (other, above) at e in absurd cc
          ]
    ]
  where
    passed : seen.Passed s.number ≡ seen.Passed last → s.number ≡ last
    passed e = cc

-- a new number takes effect
pub new_is : (o : Option Session) (number : ℕ) → seen_as o number ≡ seen.New → is_new o number ≡ true
new_is None number e = refl
new_is (Some s) number e =
    elim (cases_Bool (eqb number s.number)) [
      | inl equal ↦ let bad : seen.Same s.answer ≡ seen.New = rw equal at e in absurd cc
      | inr other ↦
          elim (cases_Bool (nat_lt number s.number)) [
            | inl below ↦ let bad : seen.Passed s.number ≡ seen.New = rw (other, below) at e in absurd cc
            | inr above ↦
                lt-ltb s.number number (omega (arith, ltb-false number s.number above, eqb-false number s.number other))
          ]
    ]
