-- Of rising pairs only the first can be of the next position.
use Rattle.std.proofs.Common.{◌≡◌, ◌∙◌, ℕ, ◌+◌, eqb-true, eq-eqb, Some, List, ap, sym, subst}
use Rattle.std.specs.Prelude.{slice_get}
use Rattle.lk_learner.specs.Learners.{Pair, LearnerValue, IsLearner, executed}
use Rattle.lk_learner.proofs.PairLaws.{next_from, next_at}
use Rattle.lk_learner.proofs.learner.Learner.is_next_kept.Goals as goal

pub returns-in-Some-clause-next : goal.returns-in-Some-clause-next
returns-in-Some-clause-next g c =
    let l : LearnerValue = c.args.self.now in
    let learner : IsLearner l = subst IsLearner c.self.view_is c.self.invariant in
    let p : Pair = c.in-Some.pair.now in
    let e : c.get-next.result ≡ executed l = c.get-next.ensures.value ∙ c.executed.ensures
    ∙ ap (λ (x : LearnerValue). executed x) c.self.view_is in
    let same : c.as_slice.result.now ≡ l.pairs = c.as_slice.ensures.value
    ∙ ap (λ (x : LearnerValue). x.pairs) c.self.view_is in
    let at : slice_get l.pairs 0 ≡ Some p =
    sym (c.in-Some.ensures.value ∙ ap (λ (ps : List Pair). slice_get ps 0) same) in
    let place : c.get.result ≡ p.0 = c.get.ensures.value ∙ ap (λ (x : Pair). x.0) c.pair.view_is in
    let next : c.get-next.result + 1 ≡ executed l + 1 = ap (λ (n : ℕ). n + 1) e in (
      λ t. next_from (executed l) l.pairs p at (sym place ∙ eqb-true c.get.result (c.get-next.result + 1) t ∙ next),
      λ h. (let found = sym at ∙ next_at (executed l) l.pairs h.0 learner.kept.rising h.1 in
          eq-eqb c.get.result (c.get-next.result + 1) (place ∙ first found ∙ sym next)),
    )
  where
    first : {p q : Pair} → Some p ≡ Some q → p.0 ≡ q.0
    first e = cc e
