-- The test of the order of ballots and the order itself are one.
use Rattle.std.proofs.Common.{◌≡◌, true, false, inl, inr, arith}
use Rattle.std.proofs.lemmas.Bool.{cases_order}
use Rattle.std.proofs.lemmas.Bool.Decides.{nat_tests}
use Rattle.lk_types.specs.BallotValue.{BallotValue}
use Rattle.lk_types.specs.Ballots.{IsBelow, IsAtMost, is_below}

same_ballot : (a b : BallotValue) → a.round ≡ b.round → a.node ≡ b.node → a ≡ b
same_ballot a b r n = λ i. record { round = r i; node = n i }

pub test_of_below : (a b : BallotValue) → IsBelow a b → is_below a b ≡ true
test_of_below a b (inl h) = grind (arith, nat_tests)
test_of_below a b (inr h) = grind (arith, nat_tests)

-- what is not below is at most that one from the other side
pub at_most_by_test : (a b : BallotValue) → is_below a b ≡ false → IsAtMost b a
at_most_by_test a b e =
    elim (cases_order b.round a.round) [
      | inl r ↦ elim (cases_order b.node a.node) [
        | inl n ↦ inr (same_ballot b a r n)
        | inr (inl l) ↦ inl (inr (r, l))
        | inr (inr g) ↦ absurd (grind (arith, nat_tests))
      ]
      | inr (inl l) ↦ inl (inl l)
      | inr (inr g) ↦ absurd (grind (arith, nat_tests))
    ]

pub below_by_test : (a b : BallotValue) → is_below a b ≡ true → IsBelow a b
below_by_test a b e = grind (arith, nat_tests)
