-- What stands once a list in range was run may be held.
use Rattle.std.proofs.Common.{◌≡◌, ℕ, ◌+◌, ◌<◌, ◌≤◌, Bool, true, false, cond, not, nat_le, List, [], ◌∷◌, ◌++◌, length}
use Rattle.std.proofs.Common.{Some, None, refl, subst, arith, length-append}
use Rattle.std.specs.List.{AllByRecursion}
use Rattle.lk_types.specs.Ranges.{IsClient}
use Rattle.lk_types.specs.Answers.{IsAnswer}
use Rattle.lk_types.specs.Commands.{IsRequest, IsCommand}
use Rattle.lk_types.specs.Geneses.{IsGenesis}
use Rattle.lk_types.specs.declared.answer.Answer.TheVariants.{Used, Full, Joined, NotMember, Last, Left}
use Rattle.lk_members.specs.Effects.{Command, RequestValue, Noop, Request}
use Rattle.lk_members.specs.Rosters.{Genesis, Op, Table, Join, Leave, Raise, PlainRoster, join_answer, leave_answer}
use Rattle.lk_members.specs.Rosters.{is_member, is_nobody, others}
use Rattle.lk_members.specs.Windows.{newest_roster, roster_after}
use Rattle.lk_members.proofs.Memberships.{first_fits, passed_fits, changed_fits}
use Rattle.lk_state.specs.Meanings.{Meaning, Running, Raising, KeepsTexts}
use Rattle.lk_state.specs.Packed.{IsWhole}
use Rattle.lk_state.specs.Sessions.{session_of, is_new}
use Rattle.lk_state.specs.States.{WholeValue, op_answer, next_text, whole_after}
use Rattle.lk_state.specs.Runs.{session_for, after_request, ran}
use Rattle.lk_state.proofs.SessionLaws.{with_session-fits}
use Rattle.lk_state.proofs.StateLaws.{by_pushes, ran-whole_after, nothing_ran}

join_fits : (r : PlainRoster) (node : ℕ) → IsAnswer (join_answer r node)
join_fits r node = by_number (nat_le node r.greatest)
  where
    by_room : (t : Bool) → IsAnswer (cond t Full Joined)
    by_room true = tt
    by_room false = tt

    by_number : (t : Bool) → IsAnswer (cond t Used (cond (nat_le 7 (length r.members)) Full Joined))
    by_number true = tt
    by_number false = by_room (nat_le 7 (length r.members))

leave_fits : (r : PlainRoster) (node : ℕ) → IsAnswer (leave_answer r node)
leave_fits r node = by_member (not (is_member node r.members))
  where
    by_rest : (t : Bool) → IsAnswer (cond t Last Left)
    by_rest true = tt
    by_rest false = tt

    by_member : (t : Bool) → IsAnswer (cond t NotMember (cond (is_nobody (others node r.members)) Last Left))
    by_member true = tt
    by_member false = by_rest (is_nobody (others node r.members))

all_front : {X : Type 0} (P : X → Type 0) (xs : List X) (y : X) → AllByRecursion P (xs ++ y ∷ [])
    → AllByRecursion P xs × P y
all_front P [] y all = (tt, all.0)
all_front P (x ∷ xs) y all = let rest = all_front P xs y all.1 in ((all.0, rest.0), rest.1)

module _ (IsText : List ℕ → Type 0) (m : Meaning) (keeps : KeepsTexts IsText m) where
  op_fits : (r : PlainRoster) (text : List ℕ) (client : ℕ) (op : Op) → IsClient client → IsText text
      → IsAnswer (op_answer m r text client op) × IsText (next_text m text client op)
  op_fits r text client (Table body) c t =
      (keeps.answer client (Running body) text c t, keeps.next client (Running body) text c t)
  op_fits r text client (Join node port) c t = (join_fits r node, t)
  op_fits r text client (Leave node) c t = (leave_fits r node, t)
  op_fits r text client Raise c t = (keeps.answer client Raising text c t, keeps.next client Raising text c t)

  served_fits : (w : WholeValue) (r : RequestValue) → IsRequest r → IsWhole IsText w
      → w.roster.executed < 281474976710656 → IsWhole IsText (after_request m w (Some r))
  served_fits w r q f lt =
      let o = op_fits (newest_roster w.roster) w.text r.client r.op q.0 f.text in
      record {
        roster = changed_fits r.op w.roster q.2 f.roster lt;
        sessions = with_session-fits (session_for m w r) w.sessions (q.0, (q.1, o.0)) f.sessions;
        text = o.1;
      }

  passed_whole : (w : WholeValue) → IsWhole IsText w → w.roster.executed < 281474976710656
      → IsWhole IsText (after_request m w None)
  passed_whole w f lt = record { roster = passed_fits w.roster f.roster lt; sessions = f.sessions; text = f.text }

  ran_fits : (c : Command) (w : WholeValue) → IsCommand c → IsWhole IsText w → w.roster.executed < 281474976710656
      → IsWhole IsText (ran m c w)
  ran_fits Noop w q f lt = passed_whole w f lt
  ran_fits (Request r) w q f lt = by_test (is_new (session_of r.client w.sessions) r.number)
    where
      by_test : (t : Bool) → IsWhole IsText (after_request m w (cond t (Some r) None))
      by_test true = served_fits w r q f lt
      by_test false = passed_whole w f lt

  executed_is : (genesis : Genesis) (L : List Command) → (whole_after m genesis L).roster.executed ≡ length L
  unfolding whole_after roster_after
  executed_is genesis L = refl

  begin_fits : (genesis : Genesis) → IsGenesis genesis → IsWhole IsText (whole_after m genesis [])
  begin_fits genesis fits =
      rw (nothing_ran m genesis)
      (record { roster = first_fits genesis fits; sessions = (tt, refl); text = keeps.first })

  abbrev Fits : Genesis → List Command → Type 0
  Fits genesis L = AllByRecursion IsCommand L → length L ≤ 281474976710656 → IsWhole IsText (whole_after m genesis L)

  fits_more : (genesis : Genesis) (L : List Command) (c : Command) → Fits genesis L → Fits genesis (L ++ c ∷ [])
  fits_more genesis L c before all short =
      let parts = all_front IsCommand L c all in
      let len : length (L ++ c ∷ []) ≡ length L + 1 = length-append L (c ∷ []) in
      subst (λ (w : WholeValue). IsWhole IsText w) (ran-whole_after m genesis L c)
      (ran_fits c (whole_after m genesis L) parts.1 (before parts.0 (omega (arith, short, len)))
      (omega (arith, short, len, executed_is genesis L)))

  -- what stands once a list in range was run may be held, and packed
  pub states_fit : (genesis : Genesis) (L : List Command) → IsGenesis genesis → AllByRecursion IsCommand L
      → length L ≤ 281474976710656 → IsWhole IsText (whole_after m genesis L)
  states_fit genesis L fits = by_pushes (Fits genesis) (λ all short. begin_fits genesis fits) (fits_more genesis) L
