-- The pair goes to its place among those that are kept.
use Rattle.std.proofs.Common.{None, ◌≡◌, ◌∙◌, ℕ, List, length, ap, sym, subst, arith, lit<}
use Rattle.std.specs.Prelude.{insert}
use Rattle.lk_learner.specs.Pairs.{with_pair}
use Rattle.lk_learner.specs.Learners.{Command, Pair, LearnerValue, IsLearner, IsWanted, keeping, executed, alpha}
use Rattle.lk_learner.proofs.PairLaws.{before, inserted, room}
use Rattle.lk_learner.proofs.LearnerLaws.{keeping_fits}
use Rattle.lk_learner.proofs.learner.Learner.decided.Goals as goal

pub insert-requires : goal.insert-requires
insert-requires g c =
    let i : ℕ = c.args.position in
    let v : Command = c.args.command.now in
    let l : LearnerValue = c.args.self.now in
    let learner : IsLearner l = subst IsLearner c.self.view_is c.self.invariant in
    let wanted : IsWanted l i = c.is_wanted.ensures.0 c.if-not-is_wanted.false in
    let new : IsLearner (keeping (i, v) l) = keeping_fits i v l learner wanted in
    let same : c.self.inside.pairs.items ≡ l.pairs = ap (λ (x : LearnerValue). x.pairs) c.self.view_is in
    let few = room (executed l) (alpha l) (i, v) l.pairs learner.window.1 new.kept in
    let within = c.index_of-index.ensures.within in
    (lit< tt, (omega (arith, within, ap length c.as_slice.ensures.value), omega (arith, few, ap length same)))

pub returns-clause-kept : goal.returns-clause-kept
returns-clause-kept g c = λ t.
    let i : ℕ = c.args.position in
    let p : Pair = (i, c.args.command.now) in
    let ps : List Pair = c.self.inside.pairs.items in
    let place : c.index_of-index.result ≡ before i ps = c.index_of-index.ensures.index
    ∙ ap (before i) c.as_slice.ensures.value in
    let pair : c.new.result ≡ p = c.new.ensures ∙ ap (λ (v : Command). (i, v)) c.copy.ensures in
    let items : c.insert.new.self.items ≡ with_pair p ps = c.insert.ensures.items
    ∙ ap (λ (k : ℕ). insert ps k c.new.result) place ∙ ap (insert ps (before i ps)) pair ∙ inserted p ps in
    ap (λ (qs : List Pair). record {
      whole = c.self.inside.whole;
      snapshot_position = c.self.inside.snapshot_position;
      snapshot = c.self.inside.snapshot.items;
      retained = c.self.inside.retained.items;
      pairs = qs;
      gathered = c.self.inside.gathered;
    }) items
    ∙ ap (keeping p) c.self.view_is

pub invariant_of-self : goal.invariant_of-self
invariant_of-self g c =
    let i : ℕ = c.args.position in
    let p : Pair = (i, c.args.command.now) in
    let ps : List Pair = c.self.inside.pairs.items in
    let place : c.index_of-index.result ≡ before i ps = c.index_of-index.ensures.index
    ∙ ap (before i) c.as_slice.ensures.value in
    let pair : c.new.result ≡ p = c.new.ensures ∙ ap (λ (v : Command). (i, v)) c.copy.ensures in
    let items : c.insert.new.self.items ≡ with_pair p ps = c.insert.ensures.items
    ∙ ap (λ (k : ℕ). insert ps k c.new.result) place ∙ ap (insert ps (before i ps)) pair ∙ inserted p ps in
    let view = ap (λ (qs : List Pair). record {
      whole = c.self.inside.whole;
      snapshot_position = c.self.inside.snapshot_position;
      snapshot = c.self.inside.snapshot.items;
      retained = c.self.inside.retained.items;
      pairs = qs;
      gathered = c.self.inside.gathered;
    }) items
    ∙ ap (keeping p) c.self.view_is in
    let l : LearnerValue = c.args.self.now in
    let learner : IsLearner l = subst IsLearner c.self.view_is c.self.invariant in
    subst IsLearner (sym view)
    (keeping_fits i c.args.command.now l learner (c.is_wanted.ensures.0 c.if-not-is_wanted.false))
