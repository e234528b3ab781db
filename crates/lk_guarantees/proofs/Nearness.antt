-- How far a restart executes, and what lies near enough above that.
use Rattle.std.proofs.Common.{◌≡◌, ℕ, ◌+◌, ◌*◌, ◌<◌, ◌≤◌, inl, inr, true, false, eqb, nat_lt, List, [], ◌∷◌}
use Rattle.std.proofs.Common.{Contains, refl, ap, sym, subst, arith}
use Rattle.std.proofs.lemmas.Bool.{cases_Bool, cases_lt, and_parts, ltb-true, eqb-true, eqb-false}
use Rattle.lk_types.specs.declared.command.Command.{Command}
use Rattle.lk_types.specs.declared.genesis.Genesis.{Genesis}
use Rattle.lk_store_format.specs.Entries.{are_pairs_above}
use Rattle.lk_store_format.specs.Values.{StandingValue}
use Rattle.lk_agreement_laws.proofs.Histories.{cons_cases}
use Rattle.lk_node.specs.Reaching.{IsDecidedAt, LiesNear, AllLieNear}
use Rattle.lk_recovery.specs.Revivals.{reached}
use Rattle.lk_guarantees.specs.Disks.{reach, IsNear}

abbrev Pair : Type 0
Pair = ℕ × Command

-- it is as far as the commands run from there
pub reach_is : (e : ℕ) (ps : List Pair) → reach e ps ≡ reached e ps
reach_is e [] = omega arith
reach_is e (p ∷ ps) = elim (cases_Bool (eqb p.0 (e + 1))) [
  | inl next ↦ (let rest = reach_is (e + 1) ps in rw next (omega (arith, rest)))
  | inr other ↦ rw other (omega arith)
]

pairs_parts : (low : ℕ) (p : Pair) (ps : List Pair) → are_pairs_above low (p ∷ ps) ≡ true
    → (low < p.0) × (are_pairs_above p.0 ps ≡ true)
pairs_parts low p ps e = let b = and_parts (nat_lt low p.0) (are_pairs_above p.0 ps) e in (ltb-true low p.0 b.0, b.1)

all_above : (low : ℕ) (ps : List Pair) → are_pairs_above low ps ≡ true → (p : Pair) → Contains ps p → low < p.0
all_above low [] rise p c = absurd (omega (arith, c.1))
all_above low (q ∷ qs) rise p c =
    let b = pairs_parts low q qs rise in
    elim (cons_cases q qs p c) [
      | inl same ↦ subst (λ (x : Pair). low < x.0) same b.0
      | inr later ↦ (let k = all_above q.0 qs b.1 p later in omega (arith, b.0, k))
    ]

reach_next : (e : ℕ) (p : Pair) (ps : List Pair) → eqb p.0 (e + 1) ≡ true → reach e (p ∷ ps) ≡ reach (e + 1) ps
reach_next e p ps next = rw next refl

reach_none : (e : ℕ) (p : Pair) (ps : List Pair) → eqb p.0 (e + 1) ≡ false → reach e (p ∷ ps) ≡ e
reach_none e p ps other = rw other refl

-- what is decided without a gap is reached
decided_reach : (e : ℕ) (ps : List Pair) (k : ℕ) → are_pairs_above e ps ≡ true
    → ((i : ℕ) → e < i → i ≤ k → IsDecidedAt i ps) → k ≤ reach e ps
decided_reach e [] k rise all = elim (cases_lt e k) [
  | inl more ↦ (let d = all k more (omega arith) in absurd (omega (arith, d.1.1)))
  | inr within ↦ omega (arith, within)
]
decided_reach e (p ∷ ps) k rise all = elim (cases_Bool (eqb p.0 (e + 1))) [
  | inl next ↦
      let is = eqb-true p.0 (e + 1) next in
      let b = pairs_parts e p ps rise in
      let later : (i : ℕ) → e + 1 < i → i ≤ k
      → IsDecidedAt i ps = λ i low most. behind is i low (all i (omega (arith, low)) most) in
      let rest : k ≤ reach (e + 1) ps =
      decided_reach (e + 1) ps k (subst (λ (j : ℕ). are_pairs_above j ps ≡ true) is b.1) later in
      subst (λ (j : ℕ). k ≤ j) (sym (reach_next e p ps next)) rest
  | inr other ↦ elim (cases_lt e k) [
    | inl more ↦ absurd (gap (eqb-false p.0 (e + 1) other) (all (e + 1) (omega arith) (omega (arith, more))))
    | inr within ↦ subst (λ (j : ℕ). k ≤ j) (sym (reach_none e p ps other)) within
  ]
]
  where
    behind : p.0 ≡ e + 1 → (i : ℕ) → e + 1 < i → IsDecidedAt i (p ∷ ps) → IsDecidedAt i ps
    behind is i low d = elim (cons_cases p ps (i, d.0) d.1) [
      | inl same ↦ (let here : p.0 ≡ i = ap (λ (x : Pair). x.0) same in absurd (omega (arith, here, is, low)))
      | inr rest ↦ (d.0, rest)
    ]

    gap : (p.0 ≡ e + 1 → ⊥) → IsDecidedAt (e + 1) (p ∷ ps) → ⊥
    gap not d = elim (cons_cases p ps (e + 1, d.0) d.1) [
      | inl same ↦ not (ap (λ (x : Pair). x.0) same)
      | inr rest ↦
          (let b = pairs_parts e p ps rise in let k = all_above p.0 ps b.1 (e + 1, d.0) rest in omega (arith, b.0, k))
    ]

lies_within : (ahead : ℕ) (s : StandingValue) (i : ℕ) → are_pairs_above s.position s.pairs ≡ true
    → LiesNear ahead s i → i ≤ reach s.position s.pairs + 2 * ahead
lies_within ahead s i rise n = let most = decided_reach s.position s.pairs n.0 rise n.1 in omega (arith, most, n.2)

-- what lies near a standing lies near, in the words of the guarantee
pub is_near : (genesis : Genesis) (s : StandingValue) → are_pairs_above s.position s.pairs ≡ true
    → AllLieNear genesis.alpha s → IsNear genesis s
is_near genesis s rise near = record {
  votes = λ x c. lies_within genesis.alpha s x.position rise (near.votes x c);
  pairs = λ p c. lies_within genesis.alpha s p.0 rise (near.pairs p c);
}
