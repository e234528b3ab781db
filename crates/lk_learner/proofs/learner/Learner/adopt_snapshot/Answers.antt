use Rattle.std.proofs.Common.{◌≡◌, ◌≤◌, ◌∙◌, ℕ, None, List, length, ap, sym, subst}
use Rattle.lk_learner.specs.Learners.{LearnerValue, IsLearner, executed, alpha}
use Rattle.lk_learner.specs.Installing.{pairs_above, installed}
use Rattle.lk_learner.proofs.LearnerLaws.{installed_fits}
use Rattle.lk_learner.proofs.learner.Learner.adopt_snapshot.Goals as goal

pub invariant_of-self : goal.invariant_of-self
invariant_of-self g c =
    let old : LearnerValue =
    record {
      whole = c.self.inside.whole;
      snapshot_position = c.self.inside.snapshot_position;
      snapshot = c.self.inside.snapshot.items;
      retained = c.self.inside.retained.items;
      pairs = c.self.inside.pairs.items;
      gathered = c.self.inside.gathered;
    } in
    let above : executed old ≤ c.args.whole.roster.executed =
    subst (λ (l : LearnerValue). executed l ≤ c.args.whole.roster.executed) (sym c.self.view_is) c.requires.above in
    let sets : length c.args.whole.roster.sets ≡ alpha old =
    subst (λ (l : LearnerValue). length c.args.whole.roster.sets ≡ alpha l) (sym c.self.view_is) c.requires.sets in
    let left : c.forget_to.new.pairs.items ≡ pairs_above c.args.whole.roster.executed c.self.inside.pairs.items =
    c.forget_to.ensures ∙ ap (λ (i : ℕ). pairs_above i c.self.inside.pairs.items) c.executed.ensures in
    subst IsLearner (sym (λ i. record {
      whole = c.args.whole;
      snapshot_position = c.executed-self-inside.ensures i;
      snapshot = c.requires.text i;
      retained = c.new.ensures.items i;
      pairs = left i;
      gathered = None;
    }))
    (installed_fits c.args.whole old c.self.invariant above sets c.facts.ensures.some c.facts.ensures.short)
