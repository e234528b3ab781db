-- None is kept exactly where the test says so.
use Rattle.std.proofs.Common.{◌≡◌, ◌∙◌, ℕ, Bool, true, false, not, List, ap, subst, refl, Contains, IsTrue}
use Rattle.lk_learner.specs.Learners.{Command, Pair, LearnerValue}
use Rattle.lk_learner.proofs.learner.Learner.is_wanted.Goals as goal

pub returns-then-is_near : goal.returns-then-is_near
returns-then-is_near g c =
    let l : LearnerValue = c.args.self.now in
    let i : ℕ = c.args.position in
    let same : c.as_slice.result.now ≡ l.pairs = c.as_slice.ensures.value
    ∙ ap (λ (x : LearnerValue). x.pairs) c.self.view_is in
    let near = c.is_near.ensures.0 c.if-is_near.true in
    let kept = subst (λ (ps : List Pair). IsTrue c.is_kept.result → (v : Command) × Contains ps (i, v))
    same c.is_kept.ensures.0 in
    let known = subst (λ (ps : List Pair). ((v : Command) × Contains ps (i, v)) → IsTrue c.is_kept.result)
    same c.is_kept.ensures.1 in (
      λ free. record { above = near.0; near = near.1; new = λ v h. none c.is_kept.result free (known (v, h)) },
      λ w. not_kept c.is_kept.result (λ t. let k = kept t in w.new k.0 k.1),
    )
  where
    none : (b : Bool) → IsTrue (not b) → IsTrue b → ⊥
    none true f t = cc f
    none false f t = cc t

    not_kept : (b : Bool) → (IsTrue b → ⊥) → IsTrue (not b)
    not_kept true f = absurd (f refl)
    not_kept false f = refl
