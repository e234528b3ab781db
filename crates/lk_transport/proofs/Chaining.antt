-- One thing after another, and one more.
use Rattle.std.proofs.Common.{◌≡◌, ◌+◌, ◌++◌, List, ℕ, [], ◌∷◌, length-append, arith, refl, subst}
use Rattle.lk_transport.specs.Chains.{Chain, Repeats}

-- a state is added at the end
chain_more : {S : Type 0} (R : S → S → Type 0) (first : S) (states : List S) (last further : S)
    → Chain R first states last → R last further
    → Chain R first (states ++ further ∷ []) further
chain_more R first [] last further passed more = (subst (λ s. R s further) passed more, refl)
chain_more R first (next ∷ states) last further passed more =
    (passed.0, chain_more R next states last further passed.1 more)

-- once more
pub repeats_more : {S : Type 0} {R : S → S → Type 0} {count : ℕ} {first last further : S} → Repeats R count first last
    → R last further → Repeats R (count + 1) first further
repeats_more {R = R} {first = first} {last = last} {further = further} passed more = record {
  states = passed.states ++ further ∷ [];
  are = omega (arith, passed.are, length-append passed.states (further ∷ []));
  chain = chain_more R first passed.states last further passed.chain more;
}

-- so many times is as often as that
pub repeats_as : {S : Type 0} {R : S → S → Type 0} {count same : ℕ} {first last : S} → count ≡ same
    → Repeats R count first last → Repeats R same first last
repeats_as {R = R} {first = first} {last = last} is passed = subst (λ (n : ℕ). Repeats R n first last) is passed
