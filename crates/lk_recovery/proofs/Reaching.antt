-- How far a restart executes: just as far as its pairs reach without a gap.
use Rattle.std.proofs.Common.{◌≡◌, ℕ, suc, ◌+◌, ◌*◌, ◌<◌, ◌≤◌, inl, inr, true, false, eqb, nat_lt, List, [], ◌∷◌}
use Rattle.std.proofs.Common.{length, Contains, refl, ap, subst, arith}
use Rattle.std.proofs.lemmas.Bool.{cases_Bool, cases_lt, and_parts, ltb-true, eqb-true, eqb-false}
use Rattle.lk_store_format.specs.Entries.{are_pairs_above}
use Rattle.lk_store_format.specs.Values.{HeaderValue, StandingValue}
use Rattle.lk_learner.specs.Learners.{Pair}
use Rattle.lk_learner.specs.Unpacking.{Unpacks}
use Rattle.lk_state.specs.States.{WholeValue}
use Rattle.lk_node.specs.Reaching.{IsDecidedAt, LiesNear, AllLieNear}
use Rattle.lk_node.proofs.Nodes.{cons_cases, contains_more}
use Rattle.lk_recovery.specs.Revivals.{run_from, reached, MayRevive}

runs_next : (e : ℕ) (p : Pair) (ps : List Pair) → eqb p.0 (e + 1) ≡ true
    → run_from e (p ∷ ps) ≡ p.1 ∷ run_from (e + 1) ps
runs_next e p ps next = rw next refl

runs_none : (e : ℕ) (p : Pair) (ps : List Pair) → eqb p.0 (e + 1) ≡ false → length (run_from e (p ∷ ps)) ≡ 0
runs_none e p ps other = rw other refl

-- what is executed is decided
pub run_decided : (e : ℕ) (ps : List Pair) (i : ℕ) → e < i → i ≤ e + length (run_from e ps) → IsDecidedAt i ps
run_decided e [] i low most = absurd (omega (arith, low, most))
run_decided e (p ∷ ps) i low most = elim (cases_Bool (eqb p.0 (e + 1))) [
  | inl next ↦
      let is = eqb-true p.0 (e + 1) next in
      let n : length (run_from e (p ∷ ps)) ≡ suc (length (run_from (e + 1) ps)) = ap length (runs_next e p ps next) in
      elim (cases_lt (e + 1) i) [
        | inl further ↦ (let d = run_decided (e + 1) ps i further (omega (arith, most, n)) in
            (d.0, contains_more p ps (i, d.0) d.1))
        | inr within ↦ (let here : p.0 ≡ i = omega (arith, is, low, within) in
            (p.1, (0, omega arith, ap (λ (j : ℕ). (j, p.1)) here)))
      ]
  | inr other ↦ absurd (omega (arith, low, most, runs_none e p ps other))
]

pairs_parts : (low : ℕ) (p : Pair) (ps : List Pair) → are_pairs_above low (p ∷ ps) ≡ true
    → (low < p.0) × (are_pairs_above p.0 ps ≡ true)
pairs_parts low p ps e = let b = and_parts (nat_lt low p.0) (are_pairs_above p.0 ps) e in (ltb-true low p.0 b.0, b.1)

all_above : (low : ℕ) (ps : List Pair) → are_pairs_above low ps ≡ true → (p : Pair) → Contains ps p → low < p.0
all_above low [] rise p c = absurd (omega (arith, c.1))
all_above low (q ∷ qs) rise p c =
    let b = pairs_parts low q qs rise in
    elim (cons_cases q qs p c) [
      | inl same ↦ subst (λ (x : Pair). low < x.0) same b.0
      | inr later ↦ (let k = all_above q.0 qs b.1 p later in omega (arith, b.0, k))
    ]

-- what is decided without a gap is executed
pub decided_run : (e : ℕ) (ps : List Pair) (k : ℕ) → are_pairs_above e ps ≡ true
    → ((i : ℕ) → e < i → i ≤ k → IsDecidedAt i ps) → k ≤ e + length (run_from e ps)
decided_run e [] k rise all = elim (cases_lt e k) [
  | inl more ↦ (let d = all k more (omega arith) in absurd (omega (arith, d.1.1)))
  | inr within ↦ omega (arith, within)
]
decided_run e (p ∷ ps) k rise all = elim (cases_Bool (eqb p.0 (e + 1))) [
  | inl next ↦
      let is = eqb-true p.0 (e + 1) next in
      let b = pairs_parts e p ps rise in
      let n : length (run_from e (p ∷ ps)) ≡ suc (length (run_from (e + 1) ps)) = ap length (runs_next e p ps next) in
      let later : (i : ℕ) → e + 1 < i → i ≤ k
      → IsDecidedAt i ps = λ i low most. behind is i low (all i (omega (arith, low)) most) in
      let rest = decided_run (e + 1) ps k (subst (λ (j : ℕ). are_pairs_above j ps ≡ true) is b.1) later in
      omega (arith, rest, n)
  | inr other ↦ elim (cases_lt e k) [
    | inl more ↦ absurd (gap (eqb-false p.0 (e + 1) other) (all (e + 1) (omega arith) (omega (arith, more))))
    | inr within ↦ omega (arith, within)
  ]
]
  where
    behind : p.0 ≡ e + 1 → (i : ℕ) → e + 1 < i → IsDecidedAt i (p ∷ ps) → IsDecidedAt i ps
    behind is i low d = elim (cons_cases p ps (i, d.0) d.1) [
      | inl same ↦ (let here : p.0 ≡ i = ap (λ (x : Pair). x.0) same in absurd (omega (arith, here, is, low)))
      | inr rest ↦ (d.0, rest)
    ]

    gap : (p.0 ≡ e + 1 → ⊥) → IsDecidedAt (e + 1) (p ∷ ps) → ⊥
    gap not d = elim (cons_cases p ps (e + 1, d.0) d.1) [
      | inl same ↦ not (ap (λ (x : Pair). x.0) same)
      | inr rest ↦
          (let b = pairs_parts e p ps rise in let k = all_above p.0 ps b.1 (e + 1, d.0) rest in omega (arith, b.0, k))
    ]

-- what lies near lies within twice alpha of what is reached
pub lies_within : (ahead : ℕ) (s : StandingValue) (i : ℕ) → are_pairs_above s.position s.pairs ≡ true
    → LiesNear ahead s i → i ≤ reached s.position s.pairs + 2 * ahead
lies_within ahead s i rise n = let most = decided_run s.position s.pairs n.0 rise n.1 in omega (arith, most, n.2)

-- so where all lies near, and the snapshot unpacks, a node may restart
pub near_revives : (IsText : List ℕ → Type 0) (whose : HeaderValue) (s : StandingValue) (w : WholeValue)
    → Unpacks IsText whose.alpha s.position s.snapshot w → are_pairs_above s.position s.pairs ≡ true
    → AllLieNear whose.alpha s
    → MayRevive IsText whose s w
near_revives IsText whose s w unpacks rise near = record {
  unpacks = unpacks;
  votes = λ v c. lies_within whose.alpha s v.position rise (near.votes v c);
  pairs = λ p c. lies_within whose.alpha s p.0 rise (near.pairs p c);
}
