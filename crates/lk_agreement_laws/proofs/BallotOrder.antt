-- The order of ballots is total, and each descent ends.
use Rattle.std.proofs.Common.{◌≡◌, ℕ, zero, suc, ◌<◌, ◌≤◌, ◌⊎◌, sym, subst, inl, inr, arith}
use Rattle.std.proofs.lemmas.Bool.{cases_order}
use Rattle.lk_agreement_laws.specs.Ballots.{BallotValue, IsBelow, IsAtMost}

pub same_ballot : (b c : BallotValue) → b.round ≡ c.round → b.node ≡ c.node → b ≡ c
same_ballot b c r n = λ i. record { round = r i; node = n i }

pub below_self : (b : BallotValue) → IsBelow b b → ⊥
below_self b h = omega arith

pub below_trans : (b c d : BallotValue) → IsBelow b c → IsBelow c d → IsBelow b d
below_trans b c d h k = grind arith

pub cases_ballot : (b c : BallotValue) → IsBelow b c ⊎ ((b ≡ c) ⊎ IsBelow c b)
cases_ballot b c =
    elim (cases_order b.round c.round) [
      | inl r ↦ elim (cases_order b.node c.node) [
        | inl n ↦ inr (inl (same_ballot b c r n))
        | inr (inl l) ↦ inl (inr (r, l))
        | inr (inr g) ↦ inr (inr (inr (sym r, g)))
      ]
      | inr (inl l) ↦ inl (inl l)
      | inr (inr g) ↦ inr (inr (inl g))
    ]

-- a proof for each ballot, from the ballots below it
module _ (P : BallotValue → Type 0) (step : (c : BallotValue) → ((d : BallotValue) → IsBelow d c → P d) → P c) where
  below_node : (r : ℕ) → ((c : BallotValue) → c.round < r → P c) → (k : ℕ) (c : BallotValue)
      → c.round ≤ r → c.node < k → P c
  below_node r outer zero c h l = absurd (omega arith)
  below_node r outer (suc k) c h l =
      step c (λ d lt. elim lt [
        | inl e ↦ outer d (omega arith)
        | inr e ↦
            below_node r outer k d (omega arith) (omega arith)
      ])

  below_round : (r : ℕ) (c : BallotValue) → c.round < r → P c
  below_round zero c h = absurd (omega arith)
  below_round (suc r) c h = below_node r (below_round r) (suc c.node) c (omega arith) (omega arith)

  pub ballot_induction : (c : BallotValue) → P c
  ballot_induction c = below_round (suc c.round) c (omega arith)

pub at_most_trans : (b c d : BallotValue) → IsAtMost b c → IsAtMost c d → IsAtMost b d
at_most_trans b c d (inl h) (inl k) = inl (below_trans b c d h k)
at_most_trans b c d (inl h) (inr e) = inl (subst (λ x. IsBelow b x) e h)
at_most_trans b c d (inr e) k = subst (λ x. IsAtMost x d) (sym e) k

pub below_at_most : (b c d : BallotValue) → IsBelow b c → IsAtMost c d → IsBelow b d
below_at_most b c d h (inl k) = below_trans b c d h k
below_at_most b c d h (inr e) = subst (λ x. IsBelow b x) e h

pub at_most_below : (b c d : BallotValue) → IsAtMost b c → IsBelow c d → IsBelow b d
at_most_below b c d (inl h) k = below_trans b c d h k
at_most_below b c d (inr e) k = subst (λ x. IsBelow x d) (sym e) k

pub at_most_unless_below : (b c : BallotValue) → (IsBelow c b → ⊥) → IsAtMost b c
at_most_unless_below b c h =
    elim (cases_ballot b c) [ inl lt ↦ inl lt | inr (inl e) ↦ inr e | inr (inr gt) ↦ absurd (h gt) ]
