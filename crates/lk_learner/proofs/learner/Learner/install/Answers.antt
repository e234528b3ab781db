use Rattle.std.proofs.Common.{◌≡◌, ◌∙◌, Option, Some, None, Ok, inl, inr, refl, ap}
use Rattle.lk_learner.specs.Learners.{LearnerValue, GatheredValue}
use Rattle.lk_learner.specs.Installing.{with_gathered}
use Rattle.lk_learner.proofs.learner.Learner.install.Goals as goal

none_left : {X : Type 0} (o : Option X) → ((x : X) → o ≡ Some x → ⊥) → o ≡ None
none_left None f = refl
none_left (Some x) f = absurd (f x refl)

pub returns-in_default-state-clause-exact : goal.returns-in_default-state-clause-exact
returns-in_default-state-clause-exact g c =
    let old : LearnerValue =
    record {
      whole = c.self.inside.whole;
      snapshot_position = c.self.inside.snapshot_position;
      snapshot = c.self.inside.snapshot.items;
      retained = c.self.inside.retained.items;
      pairs = c.self.inside.pairs.items;
      gathered = c.self.inside.gathered;
    } in
    let empty = none_left c.in_ok-state.state c.in_default-state.not-Some in
    inr (inl (
      refl,
      c.has_whole.ensures.0 c.if-not-has_whole.false,
      c.in_ok-state.ensures.none (ap Ok empty),
      ap (λ (k : Option GatheredValue). with_gathered k old) c.take.ensures.after
          ∙ ap (with_gathered None) c.self.view_is,
    ))
