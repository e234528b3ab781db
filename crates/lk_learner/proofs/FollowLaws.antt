-- A learner goes on following the list, runs nothing but what is chosen at the next position, and serves what is
-- chosen.
use Rattle.std.proofs.Common.{Bool, true, false, cond, ltb, filter, ◌⊎◌, ◌≡◌, ◌∙◌, ℕ, zero, suc, ◌+◌, ◌-◌, ◌<◌, Some}
use Rattle.std.proofs.Common.{List, [], ◌∷◌, ◌++◌, length, take, drop, Contains, drop_of_length-le, take_all, refl, ap}
use Rattle.std.proofs.Common.{sym, subst, inl, inr, arith, length-append}
use Rattle.std.specs.Prelude.{slice_get}
use Rattle.std.proofs.lemmas.List.{drop-append-le, take-append-le}
use Rattle.std.proofs.lemmas.List.Elements.{Contains-append_left, Contains-push, Contains-push_cases}
use Rattle.lk_agreement_laws.specs.Datagrams.{Genesis, Datagram}
use Rattle.lk_agreement_laws.specs.Chosen.{command_at, Chosen, ChosenAt, AreChosenFrom}
use Rattle.lk_agreement_laws.specs.Soundness.{Sound}
use Rattle.lk_agreement_laws.specs.Nodes.{PaxosState, Stems}
use Rattle.lk_agreement_laws.specs.Changes.{AreAmong, with_done, Changes, learns, executes}
use Rattle.lk_agreement_laws.proofs.Histories.{entry_chosen, chosen_push, cons_cases, contains_more, filter_from}
use Rattle.lk_agreement_laws.proofs.Histories.{filter_passes_at}
use Rattle.lk_members.specs.Windows.{roster_after}
use Rattle.lk_state.specs.Meanings.{Meaning}
use Rattle.lk_state.specs.Packed.{packed}
use Rattle.lk_state.specs.States.{SumsUp, whole_after}
use Rattle.lk_state.specs.Runs.{ran}
use Rattle.lk_state.proofs.Wholes.{ran-whole_after}
use Rattle.lk_learner.specs.Learners.{Command, Pair, WholeValue, LearnerValue, executed, begun, keeping, IsNext}
use Rattle.lk_learner.specs.Learners.{advanced, IsRetained, decided_from, with_snapshot}
use Rattle.lk_learner.specs.Installing.{pairs_above, installed}
use Rattle.lk_learner.specs.Following.{AgreesWithList}
use Rattle.lk_learner.proofs.PairLaws.{with_has, with_others, with_only, without_from}

-- ---- lists

got_taken : {X : Type 0} (n : ℕ) (xs : List X) (k : ℕ) (x : X) → slice_get (take n xs) k ≡ Some x
    → slice_get xs k ≡ Some x
got_taken zero xs k x h = absurd (nothing k h)
  where
    nothing : (j : ℕ) → slice_get [] j ≡ Some x → ⊥
    nothing zero e = cc e
    nothing (suc j) e = cc e
got_taken (suc n) [] k x h = h
got_taken (suc n) (y ∷ xs) zero x h = h
got_taken (suc n) (y ∷ xs) (suc k) x h = got_taken n xs k x h

got_behind : {X : Type 0} (n : ℕ) (xs : List X) (k : ℕ) → slice_get (drop n xs) k ≡ slice_get xs (n + k)
got_behind zero xs k = ap (slice_get xs) (omega arith)
got_behind (suc n) [] k = refl
got_behind (suc n) (y ∷ xs) k = got_behind n xs k ∙ ap (slice_get (y ∷ xs)) (after n k)
  where
    after : (n k : ℕ) → suc (n + k) ≡ suc n + k
    after n k = omega arith

got_last : {X : Type 0} (xs : List X) (x : X) → slice_get (xs ++ x ∷ []) (length xs) ≡ Some x
got_last [] x = refl
got_last (y ∷ xs) x = got_last xs x

-- what passes a test stays among those that do
pub filter_has : {X : Type 0} (p : X → Bool) (xs : List X) (x : X) → Contains xs x → p x ≡ true
    → Contains (filter p xs) x
filter_has p [] x h pass = absurd (omega (arith, h.1))
filter_has {X} p (y ∷ ys) x h pass = here (p y) refl (cons_cases y ys x h) (λ c. filter_has p ys x c pass)
  where
    here : (t : Bool) → p y ≡ t → (y ≡ x) ⊎ Contains ys x → (Contains ys x → Contains (filter p ys) x)
        → Contains (cond t (y ∷ filter p ys) (filter p ys)) x
    here true e (inl same) again = (0, omega arith, same)
    here true e (inr rest) again = contains_more y (filter p ys) x (again rest)
    here false e (inl same) again = absurd (let both : true ≡ false = sym pass ∙ ap p (sym same) ∙ e in cc both)
    here false e (inr rest) again = again rest

-- of those above a position no others are among those above it
above_among : (i : ℕ) (ps qs : List Pair) → AreAmong ps qs → AreAmong (pairs_above i ps) (pairs_above i qs)
above_among i ps qs f p c =
    filter_has (λ (q : Pair). ltb i q.0) qs p (f p (filter_from (λ (q : Pair). ltb i q.0) ps p c))
    (filter_passes_at (λ (q : Pair). ltb i q.0) ps p c)

-- ---- what is learned is a change that is allowed

pub learning_changes : (genesis : Genesis) (sent : List Datagram) (n : ℕ) (w : PaxosState) (i : ℕ) (v : Command)
    → ChosenAt genesis sent i v → Changes genesis sent n w (with_done w w.done (w.pairs ++ (i, v) ∷ []))
learning_changes genesis sent n w i v chosen = learns i v chosen

module _ (m : Meaning) (genesis : Genesis) where
  state_executed : (done : List Command) → (whole_after m genesis done).roster.executed ≡ length done
  unfolding whole_after roster_after
  state_executed done = refl

  pub executed_is : (done : List Command) (w : WholeValue) → SumsUp m genesis done w → w.roster.executed ≡ length done
  executed_is done w sums = ap (λ (x : WholeValue). x.roster.executed) sums ∙ state_executed done

  -- the packed text of a state is that of the list, taken up to where the state has executed it
  pub packed_is : (done : List Command) (w : WholeValue) → SumsUp m genesis done w
      → packed w ≡ packed (whole_after m genesis (take w.roster.executed done))
  packed_is done w sums =
      let e = executed_is done w sums in
      ap packed sums ∙ ap (λ (L : List Command). packed (whole_after m genesis L))
      (sym (take_all w.roster.executed done (omega (arith, e))))

  -- ---- it goes on following

  pub begun_follows : (done : List Command) (w : WholeValue) → SumsUp m genesis done w
      → AgreesWithList m genesis done [] (begun w)
  begun_follows done w sums =
      let e = executed_is done w sums in
      record {
        sums = sums;
        within = omega (arith, e);
        text = packed_is done w sums;
        retained = sym (drop_of_length-le done (omega (arith, e)));
        known = λ p h. h;
        kept = λ p h. h;
      }

  -- with a snapshot of its state in the place of what it has executed
  pub here_follows : (done : List Command) (pairs : List Pair) (l : LearnerValue)
      → AgreesWithList m genesis done pairs l
      → AgreesWithList m genesis done pairs (with_snapshot l)
  here_follows done pairs l f =
      let e = executed_is done l.whole f.sums in
      record {
        sums = f.sums;
        within = omega (arith, e);
        text = packed_is done l.whole f.sums;
        retained = sym (drop_of_length-le done (omega (arith, e)));
        known = f.known;
        kept = f.kept;
      }

  pub keeping_follows : (done : List Command) (pairs : List Pair) (l : LearnerValue) (p : Pair)
      → AgreesWithList m genesis done pairs l → AgreesWithList m genesis done (pairs ++ p ∷ []) (keeping p l)
  keeping_follows done pairs l p f = record {
    sums = f.sums;
    within = f.within;
    text = f.text;
    retained = f.retained;
    known = λ q h. elim (with_only p l.pairs q h) [
      | inl is ↦ subst (λ (x : Pair). Contains (pairs ++ p ∷ []) x) is (Contains-push pairs p)
      | inr old ↦ Contains-append_left pairs (p ∷ []) q (f.known q old)
    ];
    kept = λ q h. elim (Contains-push_cases pairs p q h) [
      | inl old ↦ with_others p l.pairs q (f.kept q old)
      | inr is ↦ subst (λ (x : Pair). Contains (keeping p l).pairs x) is (with_has p l.pairs)
    ];
  }

  pub advanced_follows : (done : List Command) (pairs : List Pair) (l : LearnerValue) (v : Command)
      → AgreesWithList m genesis done pairs l
      → AgreesWithList m genesis (done ++ v ∷ []) (advanced m v l).pairs (advanced m v l)
  advanced_follows done pairs l v f = record {
    sums = ap (ran m v) f.sums ∙ ran-whole_after m genesis done v;
    within = omega (arith, f.within, length-append done (v ∷ []));
    text = f.text ∙ ap (λ (L : List Command). packed (whole_after m genesis L))
        (sym (take-append-le l.snapshot_position done (v ∷ []) f.within));
    retained = ap (λ (xs : List Command). xs ++ v ∷ []) f.retained
        ∙ sym (drop-append-le l.snapshot_position done (v ∷ []) f.within);
    known = λ p h. h;
    kept = λ p h. h;
  }

  -- with the state of another list installed it follows that list
  pub installed_follows : (done L : List Command) (pairs : List Pair) (l : LearnerValue) (w : WholeValue)
      → AgreesWithList m genesis done pairs l → SumsUp m genesis L w
      → AgreesWithList m genesis L (pairs_above w.roster.executed pairs) (installed w l)
  installed_follows done L pairs l w f sums =
      let e = executed_is L w sums in
      record {
        sums = sums;
        within = omega (arith, e);
        text = packed_is L w sums;
        retained = sym (drop_of_length-le L (omega (arith, e)));
        known = above_among w.roster.executed l.pairs pairs f.known;
        kept = above_among w.roster.executed pairs l.pairs f.kept;
      }

  -- ---- what it runs

  -- the pair of the next position stands after the list, with no gap
  pub next_known : (done : List Command) (pairs : List Pair) (l : LearnerValue) (v : Command)
      → AgreesWithList m genesis done pairs l → IsNext l v → Contains pairs (suc (length done), v)
  next_known done pairs l v f h =
      let e = executed_is done l.whole f.sums in
      let next : executed l + 1 ≡ suc (length done) = omega (arith, e) in
      subst (λ (i : ℕ). Contains pairs (i, v)) next (f.known (executed l + 1, v) h)

  pub next_chosen : (sent : List Datagram) (w : PaxosState) (l : LearnerValue) (v : Command) → Sound genesis sent
      → Stems genesis sent w → AgreesWithList m genesis w.done w.pairs l → IsNext l v
      → Chosen genesis sent (w.done ++ v ∷ [])
  next_chosen sent w l v sound stems f h =
      chosen_push genesis sent sound w.done v stems.done
      (stems.pairs (suc (length w.done)) v (next_known w.done w.pairs l v f h))

  pub next_stands : (done : List Command) (pairs : List Pair) (l : LearnerValue) (v : Command)
      → AgreesWithList m genesis done pairs l → command_at (done ++ v ∷ []) (executed l + 1) ≡ Some v
  next_stands done pairs l v f =
      let e = executed_is done l.whole f.sums in
      let next : executed l + 1 ≡ suc (length done) = omega (arith, e) in
      ap (command_at (done ++ v ∷ [])) next ∙ got_last done v

  -- ---- what is run is a change that is allowed

  pub running_changes : (sent : List Datagram) (n : ℕ) (w : PaxosState) (l : LearnerValue) (v : Command)
      → AgreesWithList m genesis w.done w.pairs l → IsNext l v
      → Changes genesis sent n w (with_done w (w.done ++ v ∷ []) (advanced m v l).pairs)
  running_changes sent n w l v f h =
      executes v (advanced m v l).pairs (next_known w.done w.pairs l v f h)
      (λ p k. f.known p (without_from (executed l + 1) l.pairs p k))

  -- ---- what it serves

  pub served_stands : (done : List Command) (pairs : List Pair) (l : LearnerValue) (i : ℕ) (v : Command)
      → AgreesWithList m genesis done pairs l → l.snapshot_position < i
      → slice_get l.retained (i - (l.snapshot_position + 1)) ≡ Some v → command_at done i ≡ Some v
  served_stands done pairs l i v f above h =
      let s : ℕ = l.snapshot_position in
      let j : ℕ = i - (s + 1) in
      let place : i ≡ suc (s + j) = omega (arith, above) in
      ap (command_at done) place ∙ sym (got_behind s done j)
      ∙ ap (λ (xs : List Command). slice_get xs j) (sym f.retained) ∙ h

  pub served_chosen : (sent : List Datagram) (done : List Command) (pairs : List Pair) (l : LearnerValue) (first : ℕ)
      → Chosen genesis sent done → AgreesWithList m genesis done pairs l → IsRetained l first
      → AreChosenFrom genesis sent first (decided_from first l).commands
  served_chosen sent done pairs l first chosen f is k v h =
      let s : ℕ = l.snapshot_position in
      let j : ℕ = first - (s + 1) in
      let there : slice_get l.retained (j + k) ≡ Some v = sym (got_behind j l.retained k)
      ∙ got_taken 16 (drop j l.retained) k v h in
      let place : j + k ≡ (first + k) - (s + 1) = omega (arith, is.0) in
      entry_chosen genesis sent done chosen (first + k) v
      (served_stands done pairs l (first + k) v f (omega (arith, is.0)) (ap (slice_get l.retained) (sym place) ∙ there))
