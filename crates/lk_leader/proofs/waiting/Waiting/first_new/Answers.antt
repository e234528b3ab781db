-- The requests are looked at in order.
use Rattle.std.proofs.Common.{◌≡◌, ℕ, zero, suc, ◌<◌, ◌≤◌, Some, List, [], ◌∷◌, Contains, length, take, refl, sym}
use Rattle.std.proofs.Common.{subst, inl, inr, arith}
use Rattle.std.specs.Prelude.{slice_get}
use Rattle.std.proofs.lemmas.List.{take_all}
use Rattle.std.proofs.lemmas.List.Elements.{Contains-push_cases}
use Rattle.lk_members.specs.Effects.{Request}
use Rattle.lk_leader.specs.Waits.{RequestValue}
use Rattle.lk_leader.specs.Values.{IsUnderWay}
use Rattle.lk_leader.proofs.ValueLaws.{take-one, first-at}
use Rattle.lk_leader.proofs.waiting.Waiting.first_new.Goals as goal

there : (xs : List RequestValue) (k : ℕ) → k < length xs → (q : RequestValue) × (slice_get xs k ≡ Some q)
there [] k lt = absurd (omega (arith, lt))
there (x ∷ xs) zero lt = (x, refl)
there (x ∷ xs) (suc k) lt = there xs k (omega (arith, lt))

pub returns-in_default : goal.returns-in_default
returns-in_default c =
    first-at c.args.executed c.args.proposals.now c.args.self.now c.loop-index.index c.request_at.result
    c.request_at.ensures c.loop-index.invariant (c.in_default.ensures c.request_at.result c.request_at.ensures)

pub loop-index-preserved : goal.loop-index-preserved
loop-index-preserved c = λ r h.
    let lt : c.loop-index.index < length c.args.self.now = omega (arith, c.len-index-end.ensures) in
    let at : (q : RequestValue) × (slice_get c.args.self.now c.loop-index.index ≡ Some q) =
    there c.args.self.now c.loop-index.index lt in
    let more = take-one c.args.self.now c.loop-index.index at.0 at.1 in
    elim (Contains-push_cases (take c.loop-index.index c.args.self.now) at.0 r
    (subst (λ (l : List RequestValue). Contains l r) more h)) [
      | inl old ↦ c.loop-index.invariant r old
      | inr is ↦ subst (λ (q : RequestValue). IsUnderWay c.args.executed c.args.proposals.now (Request q)) is
          (c.in-Some.ensures.1 at.0 at.1)
    ]

pub returns : goal.returns
returns c = λ r h.
    let end : length c.args.self.now ≤ c.loop-index.index = omega (arith, c.len-index-end.ensures) in
    c.loop-index.invariant r
    (subst (λ (l : List RequestValue). Contains l r) (sym (take_all c.loop-index.index c.args.self.now end)) h)
