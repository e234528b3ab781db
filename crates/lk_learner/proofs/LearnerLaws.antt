-- What becomes of a learner is a learner.
use Rattle.std.proofs.Common.{◌≡◌, ℕ, ◌+◌, ◌-◌, ◌≤◌, true, ◌&&◌, nat_le, Option, Some, None, List, [], ◌∷◌, ◌++◌}
use Rattle.std.proofs.Common.{length, drop, IsSome, IfSome, refl, ap, arith, length-append}
use Rattle.std.proofs.lemmas.Bool.{and_from, le-leb}
use Rattle.std.proofs.lemmas.List.{length-take, length-drop}
use Rattle.lk_types.specs.declared.answer.Answer.{Answer}
use Rattle.lk_messages.specs.Values.{are_commands_from}
use Rattle.lk_members.specs.Effects.{RequestValue}
use Rattle.lk_members.specs.Rosters.{PlainRoster, next_roster}
use Rattle.lk_members.specs.Windows.{RosterValue, moved, newest_roster, changed_by}
use Rattle.lk_state.specs.Meanings.{Meaning}
use Rattle.lk_state.specs.Packed.{packed}
use Rattle.lk_state.specs.Runs.{ran, after_request, in_effect_now}
use Rattle.lk_state.specs.declared.whole.Ran.{Ran}
use Rattle.lk_learner.specs.Pairs.{without}
use Rattle.lk_learner.specs.Learners.{Command, Pair, WholeValue, LearnerValue, IsLearner, executed, alpha, IsWanted}
use Rattle.lk_learner.specs.Learners.{keeping, advanced, IsRetained, decided_from}
use Rattle.lk_learner.specs.Installing.{pairs_above, installed}
use Rattle.lk_learner.proofs.PairLaws.{kept_with, kept_without, kept_above}

-- ---- one position on

moved_sets : (r : PlainRoster) (changed : ℕ) (v : RosterValue) → 1 ≤ length v.sets
    → length (moved r changed v).sets ≡ length v.sets
moved_sets r changed v some = let n = length-append (drop 1 v.sets) (r.members ∷ []) in let k = length-drop 1 v.sets in
    omega (arith, n, k, some)

served_moves : (m : Meaning) (w : WholeValue) (q : Option RequestValue) → 1 ≤ length w.roster.sets
    → ((after_request m w q).roster.executed ≡ w.roster.executed + 1)
    × (length (after_request m w q).roster.sets ≡ length w.roster.sets)
served_moves m w None some = (refl, moved_sets (newest_roster w.roster) w.roster.changed w.roster some)
served_moves m w (Some r) some =
    (refl, moved_sets (next_roster (newest_roster w.roster) r.op) (changed_by r.op w.roster).changed w.roster some)

-- a command that is run moves the state one position on, and leaves as many sets
pub ran_moves : (m : Meaning) (v : Command) (w : WholeValue) → 1 ≤ length w.roster.sets
    → ((ran m v w).roster.executed ≡ w.roster.executed + 1) × (length (ran m v w).roster.sets ≡ length w.roster.sets)
ran_moves m v w some = served_moves m w (in_effect_now w.sessions v) some

pub advanced_fits : (m : Meaning) (v : Command) (l : LearnerValue) → IsLearner l → IsLearner (advanced m v l)
advanced_fits m v l f =
    let moves = ran_moves m v l.whole f.window.0 in
    let longer : length (l.retained ++ v ∷ []) ≡ length l.retained + 1 = length-append l.retained (v ∷ []) in
    record {
      window = rw moves.1 f.window;
      reaches = omega (arith, moves.0, longer, f.reaches);
      some = f.some;
      room = f.room;
      kept = rw (moves.0, moves.1) (kept_without (executed l) (alpha l) l.pairs f.kept);
    }

pub keeping_fits : (i : ℕ) (v : Command) (l : LearnerValue) → IsLearner l → IsWanted l i → IsLearner (keeping (i, v) l)
keeping_fits i v l f w =
    record {
      window = f.window;
      reaches = f.reaches;
      some = f.some;
      room = f.room;
      kept = kept_with (executed l) (alpha l) (i, v) l.pairs f.kept w.above w.near w.new;
    }

-- a state that reaches farther, with as many sets
pub installed_fits : (w : WholeValue) (l : LearnerValue) → IsLearner l → executed l ≤ w.roster.executed
    → length w.roster.sets ≡ alpha l → 1 ≤ length (packed w) → length (packed w) ≤ 38782 → IsLearner (installed w l)
installed_fits w l f above sets some room = record {
  window = rw sets f.window;
  reaches = omega arith;
  some = some;
  room = omega (arith, room);
  kept = rw sets (kept_above (executed l) w.roster.executed (alpha l) l.pairs above f.kept);
}

-- ---- what is served

-- what is served fits into a message
pub decided_fits : (first : ℕ) (l : LearnerValue) → IsLearner l → executed l ≤ 281474976710656 → IsRetained l first
    → are_commands_from first (decided_from first l).commands ≡ true
decided_fits first l f small is =
    let k : ℕ = first - (l.snapshot_position + 1) in
    let vs : List Command = (decided_from first l).commands in
    let rest = length-drop k l.retained in
    let len = length-take 16 (drop k l.retained) in
    let some : 1 ≤ length vs = omega (arith, rest, len, f.reaches, is.0, is.1) in
    let few : length vs ≤ 16 = omega (arith, len) in
    let within : first + length vs ≤ 281474976710657 = omega (arith, rest, len, f.reaches, is.0, is.1, small) in
    and_from (nat_le 1 (length vs) && nat_le (length vs) 16) (nat_le (first + length vs) 281474976710657)
    (and_from (nat_le 1 (length vs)) (nat_le (length vs) 16) (le-leb _ _ some) (le-leb _ _ few))
    (le-leb _ _ within)

-- what an option holds
pub some_is : {X : Type 0} (o : Option X) (x : X) → IsSome o → IfSome o (λ d. d ≡ x) → o ≡ Some x
some_is None x s i = absurd (cc s)
some_is (Some d) x s i = ap Some i

-- ---- a step in its parts

pub ran_is : (r : Ran) (i : ℕ) (a : Option Answer) → r.position ≡ i → r.answer ≡ a
    → Some r ≡ Some (record { position = i; answer = a })
ran_is r i a p q = λ k. Some (record { position = p k; answer = q k })

pub stepped : (m : Meaning) (v : Command) (l : LearnerValue) (w : WholeValue)
    (retained : List Command) (pairs : List Pair)
    → w ≡ ran m v l.whole → retained ≡ l.retained ++ v ∷ [] → pairs ≡ without (executed l + 1) l.pairs
    → record {
      whole = w;
      snapshot_position = l.snapshot_position;
      snapshot = l.snapshot;
      retained = retained;
      pairs = pairs;
      gathered = l.gathered;
    } ≡ advanced m v l
stepped m v l w retained pairs a b c =
    λ k. record {
      whole = a k;
      snapshot_position = l.snapshot_position;
      snapshot = l.snapshot;
      retained = b k;
      pairs = c k;
      gathered = l.gathered;
    }
