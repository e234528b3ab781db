-- The command of the next position is that of the first pair.
use Rattle.std.proofs.Common.{◌≡◌, ◌∙◌, ℕ, ◌+◌, Some, None, List, [], ◌∷◌, ◌++◌, get_or, Contains, ap, sym, subst}
use Rattle.std.specs.Prelude.{slice_get}
use Rattle.lk_members.specs.Effects.{in_effect}
use Rattle.lk_state.specs.Meanings.{Meaning}
use Rattle.lk_state.specs.States.{reply_of}
use Rattle.lk_state.specs.Runs.{ran, run_answer}
use Rattle.lk_learner.specs.Pairs.{without}
use Rattle.lk_learner.specs.Learners.{Command, Pair, WholeValue, LearnerValue, IsLearner, executed, IsNext, advanced}
use Rattle.lk_learner.proofs.PairLaws.{next_at, next_removed, got_first}
use Rattle.lk_learner.proofs.LearnerLaws.{advanced_fits, ran_is, stepped}
use Rattle.lk_learner.proofs.learner.Learner.execute_next.Goals as goal

pub returns-in_err-reserve-clause-none : goal.returns-in_err-reserve-clause-none
returns-in_err-reserve-clause-none g c =
    λ none. let n = c.is_next_kept.ensures.next.0 c.if-not-is_next_kept.false in absurd (none n.0 n.1)

pub returns-in_err-ran-clause-none : goal.returns-in_err-ran-clause-none
returns-in_err-ran-clause-none g c =
    λ none. let n = c.is_next_kept.ensures.next.0 c.if-not-is_next_kept.false in absurd (none n.0 n.1)

pub returns-clause-none : goal.returns-clause-none
returns-clause-none g c =
    λ none. let n = c.is_next_kept.ensures.next.0 c.if-not-is_next_kept.false in absurd (none n.0 n.1)

pub returns-clause-ran : goal.returns-clause-ran
returns-clause-ran g c = λ v h.
    let m : Meaning = g.M.Machine.meaning in
    let e : ℕ = c.self.inside.whole.roster.executed in
    let ps : List Pair = c.self.inside.pairs.items in
    let kept : Contains ps (e + 1, v) = subst (λ (x : LearnerValue). IsNext x v) (sym c.self.view_is) h in
    let here : slice_get ps 0 ≡ Some (e + 1, v) = next_at e ps v c.self.invariant.kept.rising kept in
    let at : c.index-deref-0.result ≡ (e + 1, v) = c.index-deref-0.is
    ∙ ap (λ (l : List Pair). get_or l 0 c.index-deref-0.result) c.deref.ensures.0
    ∙ got_first ps (e + 1, v) c.index-deref-0.result here in
    let told : c.command.result.now ≡ v = c.command.ensures ∙ ap (λ (p : Pair). p.1) at in
    let whole : c.self.inside.whole ≡ c.args.self.now.whole = ap (λ (x : LearnerValue). x.whole) c.self.view_is in
    let position = c.in_ok-ran.ensures.position ∙ ap (λ (w : WholeValue). w.roster.executed + 1) whole in
    let answer = c.in_ok-ran.ensures.answer ∙ ap (λ (u : Command). run_answer m u c.self.inside.whole) told
    ∙ ap (run_answer m v) whole in
    ran_is c.in_ok-ran.ran (executed c.args.self.now + 1) (run_answer m v c.args.self.now.whole) position answer

pub returns-clause-next : goal.returns-clause-next
returns-clause-next g c = λ v h.
    let m : Meaning = g.M.Machine.meaning in
    let e : ℕ = c.self.inside.whole.roster.executed in
    let ps : List Pair = c.self.inside.pairs.items in
    let kept : Contains ps (e + 1, v) = subst (λ (x : LearnerValue). IsNext x v) (sym c.self.view_is) h in
    let here : slice_get ps 0 ≡ Some (e + 1, v) = next_at e ps v c.self.invariant.kept.rising kept in
    let at : c.index-deref-0.result ≡ (e + 1, v) = c.index-deref-0.is
    ∙ ap (λ (l : List Pair). get_or l 0 c.index-deref-0.result) c.deref.ensures.0
    ∙ got_first ps (e + 1, v) c.index-deref-0.result here in
    let told : c.command.result.now ≡ v = c.command.ensures ∙ ap (λ (p : Pair). p.1) at in
    let ran_so : c.run.new.self ≡ ran m v c.self.inside.whole = c.in_ok-ran.ensures.ok
    ∙ ap (λ (u : Command). ran m u c.self.inside.whole) told in
    let removed : c.remove-pair.new.self.items ≡ without (e + 1) ps = c.remove-pair.ensures.items
    ∙ next_removed e ps v c.self.invariant.kept.rising kept in
    let out : c.remove-pair.result ≡ (e + 1, v) = c.remove-pair.ensures.value
    ∙ got_first ps (e + 1, v) c.remove-pair.result here in
    let grown : c.push.new.self.items ≡ c.reserve.new.self.items ++ c.pair.inside.command ∷ [] =
    rw c.unwrap.ensures at c.push.ensures.items in
    let command : c.pair.inside.command ≡ v = ap (λ (p : Pair). p.1) (c.pair.view_is ∙ out) in
    let pushed : c.push.new.self.items ≡ c.self.inside.retained.items ++ v ∷ [] = grown
    ∙ ap (λ (l : List Command). l ++ c.pair.inside.command ∷ []) c.reserve.ensures.items
    ∙ ap (λ (u : Command). c.self.inside.retained.items ++ u ∷ []) command in
    let old : LearnerValue =
    record {
      whole = c.self.inside.whole;
      snapshot_position = c.self.inside.snapshot_position;
      snapshot = c.self.inside.snapshot.items;
      retained = c.self.inside.retained.items;
      pairs = ps;
      gathered = c.self.inside.gathered;
    } in
    stepped m v old c.run.new.self c.push.new.self.items c.remove-pair.new.self.items ran_so pushed removed
    ∙ ap (advanced m v) c.self.view_is

pub invariant_of-self-2 : goal.invariant_of-self-2
invariant_of-self-2 g c =
    let n = c.is_next_kept.ensures.next.0 c.if-not-is_next_kept.false in
    let v : Command = n.0 in
    let h : IsNext c.args.self.now v = n.1 in
    let m : Meaning = g.M.Machine.meaning in
    let e : ℕ = c.self.inside.whole.roster.executed in
    let ps : List Pair = c.self.inside.pairs.items in
    let kept : Contains ps (e + 1, v) = subst (λ (x : LearnerValue). IsNext x v) (sym c.self.view_is) h in
    let here : slice_get ps 0 ≡ Some (e + 1, v) = next_at e ps v c.self.invariant.kept.rising kept in
    let at : c.index-deref-0.result ≡ (e + 1, v) = c.index-deref-0.is
    ∙ ap (λ (l : List Pair). get_or l 0 c.index-deref-0.result) c.deref.ensures.0
    ∙ got_first ps (e + 1, v) c.index-deref-0.result here in
    let told : c.command.result.now ≡ v = c.command.ensures ∙ ap (λ (p : Pair). p.1) at in
    let ran_so : c.run.new.self ≡ ran m v c.self.inside.whole = c.in_ok-ran.ensures.ok
    ∙ ap (λ (u : Command). ran m u c.self.inside.whole) told in
    let removed : c.remove-pair.new.self.items ≡ without (e + 1) ps = c.remove-pair.ensures.items
    ∙ next_removed e ps v c.self.invariant.kept.rising kept in
    let out : c.remove-pair.result ≡ (e + 1, v) = c.remove-pair.ensures.value
    ∙ got_first ps (e + 1, v) c.remove-pair.result here in
    let grown : c.push.new.self.items ≡ c.reserve.new.self.items ++ c.pair.inside.command ∷ [] =
    rw c.unwrap.ensures at c.push.ensures.items in
    let command : c.pair.inside.command ≡ v = ap (λ (p : Pair). p.1) (c.pair.view_is ∙ out) in
    let pushed : c.push.new.self.items ≡ c.self.inside.retained.items ++ v ∷ [] = grown
    ∙ ap (λ (l : List Command). l ++ c.pair.inside.command ∷ []) c.reserve.ensures.items
    ∙ ap (λ (u : Command). c.self.inside.retained.items ++ u ∷ []) command in
    let old : LearnerValue =
    record {
      whole = c.self.inside.whole;
      snapshot_position = c.self.inside.snapshot_position;
      snapshot = c.self.inside.snapshot.items;
      retained = c.self.inside.retained.items;
      pairs = ps;
      gathered = c.self.inside.gathered;
    } in
    let step = stepped m v old c.run.new.self c.push.new.self.items
    c.remove-pair.new.self.items ran_so pushed removed in
    subst IsLearner (sym step) (advanced_fits m v old c.self.invariant)

pub returns-clause-reply : goal.returns-clause-reply
returns-clause-reply g c = λ genesis L v sums h.
    let m : Meaning = g.M.Machine.meaning in
    let e : ℕ = c.self.inside.whole.roster.executed in
    let ps : List Pair = c.self.inside.pairs.items in
    let kept : Contains ps (e + 1, v) = subst (λ (x : LearnerValue). IsNext x v) (sym c.self.view_is) h in
    let here : slice_get ps 0 ≡ Some (e + 1, v) = next_at e ps v c.self.invariant.kept.rising kept in
    let at : c.index-deref-0.result ≡ (e + 1, v) = c.index-deref-0.is
    ∙ ap (λ (l : List Pair). get_or l 0 c.index-deref-0.result) c.deref.ensures.0
    ∙ got_first ps (e + 1, v) c.index-deref-0.result here in
    let told : c.command.result.now ≡ v = c.command.ensures ∙ ap (λ (p : Pair). p.1) at in
    let whole : c.self.inside.whole ≡ c.args.self.now.whole = ap (λ (x : LearnerValue). x.whole) c.self.view_is in
    let position = c.in_ok-ran.ensures.position ∙ ap (λ (w : WholeValue). w.roster.executed + 1) whole in
    let answer = c.in_ok-ran.ensures.reply genesis L (whole ∙ sums)
    ∙ ap (λ (u : Command). reply_of m genesis (L ++ u ∷ []) (in_effect L u)) told in
    ran_is c.in_ok-ran.ran (executed c.args.self.now + 1)
    (reply_of m genesis (L ++ v ∷ []) (in_effect L v)) position answer
