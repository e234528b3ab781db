-- What a node executes moves it on by one position each, and it executes what it learns of its next position.
use Rattle.std.proofs.Common.{◌≡◌, ◌∙◌, ℕ, ◌+◌, ◌<◌, ◌≤◌, ◌⊎◌, inl, inr, Bool, true, false, cond, List, Option, Some}
use Rattle.std.proofs.Common.{None, refl, sym, ap, subst, Contains, length, arith}
use Rattle.std.proofs.lemmas.Bool.{cases_order}
use Rattle.lk_messages.specs.declared.message.Content.TheVariants as content
use Rattle.lk_messages.specs.declared.message.NodeMessage.TheVariants as kinds
use Rattle.lk_learner.proofs.Learnerships.{ran_moves, with_has}
use Rattle.lk_learner.specs.Learners.{Command, Pair, WholeValue, LearnerValue, IsNext, advanced, keeping}
use Rattle.lk_learner.specs.Learners.{executed, alpha}
use Rattle.lk_node_interface.specs.KeptReplies.{session_by}
use Rattle.lk_node_interface.specs.Outboxes.{OutboxValue, nothing}
use Rattle.lk_node.specs.DecidedPairs.{LearnsPair, LearnsPairs, none_yet, one_more}
use Rattle.lk_node.specs.Executing.{EndsWaitIfAny, Executes, Runs, stays, goes_on, is_outside, without_term_if_outside}
use Rattle.lk_node.specs.Executing.{NothingToRun}
use Rattle.lk_node.specs.Learning.{Learns}
use Rattle.lk_node.specs.NodeValue.{NodeValue}
use Rattle.lk_node.specs.Yielding.{without_term}
use Rattle.lk_progress.proofs.Hearing.{Handled, handled, same_learner}
use Rattle.lk_progress.specs.Feeding.{DecidedIsExecuted}
use Rattle.lk_state.specs.Meanings.{Meaning}
use Rattle.lk_state.specs.Runs.{run_answer}
use Rattle.lk_state.specs.declared.session.Session.{Session}

-- ---- one execution

pub outside_learner : (node : NodeValue) → (without_term_if_outside node).learner ≡ node.learner
outside_learner node = by_test (is_outside node)
  where
    by_test : (t : Bool) → (cond t (without_term node) node).learner ≡ node.learner
    by_test true = refl
    by_test false = refl

waited_learner : (o : Option Session) (old new : NodeValue) (before after : OutboxValue)
    → EndsWaitIfAny o old before new after → new.learner ≡ old.learner
waited_learner None old new before after k = ap (λ (node : NodeValue). node.learner) k.0
waited_learner (Some s) old new before after k = ap (λ (node : NodeValue). node.learner) k.becomes

pub executes_learner : (m : Meaning) (old new : NodeValue) (before after : OutboxValue)
    → (k : Executes m old before new after) → new.learner ≡ advanced m k.command old.learner
executes_learner m old new before after k =
    ap (λ (node : NodeValue). node.learner) k.becomes ∙ outside_learner k.mid
    ∙ waited_learner (session_by k.command (run_answer m k.command old.learner.whole)) _ k.mid _ after k.ends_wait

-- the window keeps its size, and each execution moves it on by one
pub executes_moves : (m : Meaning) (old new : NodeValue) (before after : OutboxValue)
    → Executes m old before new after → 1 ≤ alpha old.learner
    → (executed new.learner ≡ executed old.learner + 1) × (alpha new.learner ≡ alpha old.learner)
executes_moves m old new before after k some =
    let is : new.learner ≡ advanced m k.command old.learner = executes_learner m old new before after k in
    let moves = ran_moves m k.command old.learner.whole some in
    (ap (λ (l : LearnerValue). executed l) is ∙ moves.0, ap (λ (l : LearnerValue). alpha l) is ∙ moves.1)

-- ---- any number of them

pub runs_move : (m : Meaning) (old : NodeValue) (before : OutboxValue) (new : NodeValue) (after : OutboxValue)
    → Runs m old before new after → 1 ≤ alpha old.learner
    → (executed old.learner ≤ executed new.learner) × (alpha new.learner ≡ alpha old.learner)
runs_move m old before _ _ stays some = (omega arith, refl)
runs_move m old before new after (goes_on so_far k) some =
    let r = runs_move m old before _ _ so_far some in
    let moves = executes_moves m _ new _ after k (omega (arith, r.1, some)) in
    (omega (arith, r.0, moves.0), moves.1 ∙ r.1)

-- where nothing more is executed, nothing was
pub runs_rest : (m : Meaning) (old : NodeValue) (before : OutboxValue) (new : NodeValue) (after : OutboxValue)
    → Runs m old before new after → 1 ≤ alpha old.learner → executed new.learner ≤ executed old.learner → new ≡ old
runs_rest m old before _ _ stays some few = refl
runs_rest m old before new after (goes_on so_far k) some few =
    let r = runs_move m old before _ _ so_far some in
    let moves = executes_moves m _ new _ after k (omega (arith, r.1, some)) in
    absurd (omega (arith, r.0, moves.0, few))

-- ---- a pair is learned, and what can be is executed

pub learns_whole : (p : Pair) (old new : NodeValue) (before after : OutboxValue) → Learns p old before new after
    → new.learner.whole ≡ old.learner.whole
learns_whole p old new before after (inl kept) = ap (λ (node : NodeValue). node.learner.whole) kept.1
learns_whole p old new before after (inr other) = ap (λ (node : NodeValue). node.learner.whole) other.1

-- the pair of the next position is not left
not_left : (p : Pair) (old new : NodeValue) (before after : OutboxValue) → Learns p old before new after
    → 1 ≤ alpha old.learner → p.0 ≡ executed old.learner + 1 → NothingToRun new → ⊥
not_left p old new before after (inl kept) some next none =
    let is : new.learner ≡ keeping p old.learner = ap (λ (node : NodeValue). node.learner) kept.1 in
    let has : IsNext (keeping p old.learner) p.1 =
    subst (λ (i : ℕ). Contains (keeping p old.learner).pairs (i, p.1)) next (with_has p old.learner.pairs) in
    none p.1 (subst (λ (l : LearnerValue). IsNext l p.1) (sym is) has)
not_left p old new before after (inr other) some next none =
    let is : new.learner ≡ old.learner = ap (λ (node : NodeValue). node.learner) other.1 in
    other.0 (record {
      above = omega (arith, next);
      near = omega (arith, next, some);
      new = λ v c. none v (subst (λ (l : LearnerValue). IsNext l v) (sym is)
          (subst (λ (i : ℕ). Contains old.learner.pairs (i, v)) next c));
    })

pub reaches_or_not : (i j : ℕ) → (i ≤ j) ⊎ (j < i)
reaches_or_not i j = elim (cases_order i j) [
  | inl same ↦ inl (omega (arith, same))
  | inr (inl below) ↦ inl (omega (arith, below))
  | inr (inr above) ↦ inr above
]

pub pair_reached : (m : Meaning) (p : Pair) (old : NodeValue) (before : OutboxValue) (new : NodeValue)
    (after : OutboxValue) → LearnsPair m p old before new after → 1 ≤ alpha old.learner
    → p.0 ≤ executed old.learner + 1 → (p.0 ≤ executed new.learner) × (alpha new.learner ≡ alpha old.learner)
pair_reached m p old before new after k some near = (
  by_order (reaches_or_not p.0 (executed new.learner)),
  moved.1
      ∙ window,
)
  where
    whole : k.learned.learner.whole ≡ old.learner.whole
    whole = learns_whole p old k.learned before k.written k.learns

    same : executed k.learned.learner ≡ executed old.learner
    same = ap (λ (w : WholeValue). w.roster.executed) whole

    window : alpha k.learned.learner ≡ alpha old.learner
    window = ap (λ (w : WholeValue). length w.roster.sets) whole

    there : 1 ≤ alpha k.learned.learner
    there = omega (arith, window, some)

    moved : (executed k.learned.learner ≤ executed new.learner) × (alpha new.learner ≡ alpha k.learned.learner)
    moved = runs_move m k.learned k.written new after k.runs.0 there

    by_order : (p.0 ≤ executed new.learner) ⊎ (executed new.learner < p.0) → p.0 ≤ executed new.learner
    by_order (inl reaches) = reaches
    by_order (inr less) =
        let rest : new ≡ k.learned =
        runs_rest m k.learned k.written new after k.runs.0 there (omega (arith, less, near, same)) in
        absurd (not_left p old k.learned before k.written k.learns some (omega (arith, less, near, same, moved.0))
        (subst NothingToRun rest k.runs.1))

pub pairs_reached : (m : Meaning) (first : ℕ) (commands : List Command) (old : NodeValue) (before : OutboxValue) (k : ℕ)
    (new : NodeValue) (after : OutboxValue) → LearnsPairs m first commands old before k new after
    → 1 ≤ alpha old.learner → first ≤ executed old.learner + 1
    → (first + k ≤ executed new.learner + 1) × (alpha new.learner ≡ alpha old.learner)
pairs_reached m first commands old before _ _ _ none_yet some near = (omega (arith, near), refl)
pairs_reached m first commands old before _ new after (one_more v so_far at takes) some near =
    let r = pairs_reached m first commands old before _ _ _ so_far some near in
    let p = pair_reached m _ _ _ new after takes (omega (arith, r.1, some)) r.0 in
    (omega (arith, p.0), p.1 ∙ r.1)

pub decided_executed : (m : Meaning) (IsText : List ℕ → Type 0) → DecidedIsExecuted m IsText
decided_executed m IsText old new from d out some takes near =
    let k : Handled m IsText old (content.Node from (kinds.Decided d)) new out = handled m IsText old _ new out takes in
    let r = pairs_reached m d.first d.commands old nothing (length d.commands) k.mid k.first k.handles some near in
    subst (λ (l : LearnerValue). d.first + length d.commands ≤ executed l + 1)
    (sym (same_learner m IsText old _ new out k)) r.0
