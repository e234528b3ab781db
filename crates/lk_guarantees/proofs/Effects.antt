-- What a list leaves, in the words of the guarantee and in those of the crates below: the same.
use Rattle.std.proofs.Common.{◌≡◌, ℕ, ◌+◌, Bool, true, false, cond, eqb, ltb, leb, ◌&&◌, List, [], ◌∷◌, ◌++◌, length}
use Rattle.std.proofs.Common.{length-append, refl, ap, subst, sym, ◌∙◌, inl, inr, arith}
use Rattle.std.specs.List.{list_all}
use Rattle.std.proofs.lemmas.Bool.{cases_Bool, eqb-true, le-leb}
use Rattle.std.proofs.lemmas.List.Folds.{list_all-append}
use Rattle.std.proofs.lemmas.List.Sums.{fold-append}
use Rattle.lk_types.specs.declared.answer.Answer.{Answer}
use Rattle.lk_types.specs.declared.answer.Answer.TheVariants.{Raised, AlreadyRaised}
use Rattle.lk_types.specs.declared.command.Op.{Op}
use Rattle.lk_types.specs.declared.command.Op.TheVariants.{Table, Join, Leave, Raise}
use Rattle.lk_types.specs.declared.genesis.Genesis.{Genesis}
use Rattle.lk_members.specs.Effects.{Command, RequestValue, Noop, Request, is_older, in_effect, positioned, effects}
use Rattle.lk_members.specs.Rosters.{PlainRoster, next_roster, roster_of, roster_answer, is_granted, is_granted_change}
use Rattle.lk_members.specs.Rosters.{last_change}
use Rattle.lk_members.specs.Windows.{RosterValue, roster_after}
use Rattle.lk_members.proofs.Memberships.{roster_of-push, roster_after-push, newest_roster-roster_after}
use Rattle.lk_state.proofs.Wholes.{by_pushes}
use Rattle.lk_locks.specs.Lists.{table_after, table_of}
use Rattle.lk_locks.specs.Bodies.{body_of}
use Rattle.lk_locks.proofs.Tables.{table_of-push}
use Rattle.lk_locks.specs.Plain.{Table as TableValue}
use Rattle.lk_guarantees.specs.Plain.{Locks, State, table, raise, execute, join, leave, takes_effect, after_one, begin}
use Rattle.lk_guarantees.specs.Plain.{after}
use Rattle.lk_guarantees.proofs.Locking.{locks_agree, greatest_agrees, join_agrees, leave_agrees}

pub after-push : (genesis : Genesis) (L : List Command) (c : Command)
    → after genesis (L ++ c ∷ []) ≡ after_one (after genesis L) c
unfolding after
after-push genesis L c = fold-append after_one (begin genesis) L (c ∷ [])

-- ---- one request

abbrev in_table : Bool → Locks → TableValue
in_table raised locks = record { raised = raised; names = locks }

same_table : (s t : State) → t.raised ≡ s.raised → t.locks ≡ s.locks → table s ≡ table t
same_table s t raised locks = ap (λ (b : Bool). in_table b s.locks) (sym raised) ∙ ap (in_table t.raised) (sym locks)

-- to raise the table changes nothing else
abbrev roster_in : State → PlainRoster
roster_in s = record { members = s.members; greatest = s.greatest }

raise_roster : (s : State) → roster_in s ≡ roster_in (raise s).1
raise_roster s = elim (cases_Bool s.raised) [ inl e ↦ rw e refl | inr e ↦ rw e refl ]

raise_least : (s : State) → (raise s).1.least ≡ s.least
raise_least s = elim (cases_Bool s.raised) [ inl e ↦ rw e refl | inr e ↦ rw e refl ]

abbrev raised_by : State → Bool → Answer × State
raised_by s already = cond already (AlreadyRaised, s) (Raised, record s { raised = true })

raised_both : (s : State) (already : Bool) → s.raised ≡ already → in_table true s.locks ≡ table (raised_by s already).1
raised_both s true e = ap (λ (b : Bool). in_table b s.locks) (sym e)
raised_both s false e = refl

raise_changed : (s : State) → (raise s).1.changed ≡ s.changed
raise_changed s = elim (cases_Bool s.raised) [ inl e ↦ rw e refl | inr e ↦ rw e refl ]

raise_locks : (s : State) → in_table true s.locks ≡ table (raise s).1
raise_locks s = raised_both s s.raised refl

-- a request leaves the same roster and the same table, and is answered the same
pub record Agreed (client : ℕ) (op : Op) (s : State) : Type 0 where
  pub roster : next_roster (record { members = s.members; greatest = s.greatest }) op
      ≡ record { members = (execute client op s).1.members; greatest = (execute client op s).1.greatest }
  pub locks : table_after client op (table s) ≡ table (execute client op s).1
  pub least : (execute client op s).1.least ≡ s.least
  pub changed : (execute client op s).1.changed
      ≡ cond (is_granted (roster_answer (roster_in s) op)) (s.position + 1) s.changed

agreed : (client : ℕ) (op : Op) (s : State) → Agreed client op s
agreed client (Table body) s =
    record {
      roster = refl;
      locks = ap (in_table s.raised) (locks_agree client s.raised (body_of body) s.locks).1;
      least = refl;
      changed = refl;
    }
agreed client (Join node port) s = let j = join_agrees node port s in
    record {
      roster = j.roster_is;
      locks = same_table s (join node port s).1 j.raised j.locks;
      least = j.least;
      changed = j.changed;
    }
agreed client (Leave node) s = let j = leave_agrees node s in
    record {
      roster = j.roster_is;
      locks = same_table s (leave node s).1 j.raised j.locks;
      least = j.least;
      changed = j.changed;
    }
agreed client Raise s =
    record { roster = raise_roster s; locks = raise_locks s; least = raise_least s; changed = raise_changed s }

-- ---- one command

-- the list leaves this state
pub record Leaves (genesis : Genesis) (L : List Command) (s : State) : Type 0 where
  pub least : (r : RequestValue) → list_all (is_older r) L ≡ takes_effect s r
  pub roster : roster_of genesis L ≡ record { members = s.members; greatest = s.greatest }
  pub locks : table_of L ≡ table s
  pub position : s.position ≡ length L
  pub changed : last_change genesis L ≡ s.changed

change_more : (genesis : Genesis) (L : List Command) (c : Command)
    → last_change genesis (L ++ c ∷ [])
    ≡ cond (is_granted_change (roster_of genesis L) (in_effect L c)) (length L + 1) (last_change genesis L)
unfolding roster_after
change_more genesis L c =
    ap (λ (v : RosterValue). v.changed) (roster_after-push genesis L c genesis.in_range.0)
    ∙ ap (λ (r : PlainRoster). cond (is_granted_change r (in_effect L c)) (length L + 1) (last_change genesis L))
    (newest_roster-roster_after genesis L genesis.in_range.0)

one_more : (L : List Command) (c : Command) (n : ℕ) → n ≡ length L → n + 1 ≡ length (L ++ c ∷ [])
one_more L c n e = ap (λ (k : ℕ). k + 1) e ∙ sym (length-append L (c ∷ []))

and_true : (a : Bool) → (a && true) ≡ a
and_true true = refl
and_true false = refl

older-push : (r : RequestValue) (L : List Command) (c : Command)
    → list_all (is_older r) (L ++ c ∷ []) ≡ (list_all (is_older r) L && is_older r c)
older-push r L c =
    list_all-append (is_older r) L (c ∷ []) ∙ ap (λ (b : Bool). list_all (is_older r) L && b) (and_true (is_older r c))

-- a request that takes effect raises its client's number
raised : (a x n : ℕ) → leb a x ≡ true → (leb a n && ltb x n) ≡ leb (x + 1) n
raised a x n le = grind arith

-- one that takes none leaves it
passed : (a x n : ℕ) → leb a x ≡ false → (leb a n && ltb x n) ≡ leb a n
passed a x n gt = grind arith

older_with : (least : ℕ → ℕ) (q r : RequestValue) → leb (least q.client) q.number ≡ true
    → (leb (least r.client) r.number && is_older r (Request q))
    ≡ leb (cond (eqb r.client q.client) (q.number + 1) (least r.client)) r.number
older_with least q r takes = elim (cases_Bool (eqb q.client r.client)) [
  | inl e ↦
      let same : q.client ≡ r.client = eqb-true _ _ e in
      let back : eqb r.client q.client ≡ true = rw same (grind arith) in
      rw (e, back) (raised (least r.client) q.number r.number (rw (← same) takes))
  | inr e ↦
      let back : eqb r.client q.client ≡ false = grind arith in
      rw (e, back) (and_true (leb (least r.client) r.number))
]

older_without : (least : ℕ → ℕ) (q r : RequestValue) → leb (least q.client) q.number ≡ false
    → (leb (least r.client) r.number && is_older r (Request q)) ≡ leb (least r.client) r.number
older_without least q r takes = elim (cases_Bool (eqb q.client r.client)) [
  | inl e ↦
      let same : q.client ≡ r.client = eqb-true _ _ e in
      rw e (passed (least r.client) q.number r.number (rw (← same) takes))
  | inr e ↦ rw e (and_true (leb (least r.client) r.number))
]

step : (genesis : Genesis) (L : List Command) (c : Command) (s : State) → Leaves genesis L s
    → Leaves genesis (L ++ c ∷ []) (after_one s c)
step genesis L Noop s now = record {
  least = λ r. older-push r L Noop ∙ and_true (list_all (is_older r) L) ∙ now.least r;
  roster = roster_of-push genesis L Noop ∙ now.roster;
  locks = table_of-push L Noop ∙ now.locks;
  position = one_more L Noop s.position now.position;
  changed = change_more genesis L Noop ∙ now.changed;
}
step genesis L (Request q) s now = elim (cases_Bool (takes_effect s q)) [
  | inl e ↦
      let takes : list_all (is_older q) L ≡ true = now.least q ∙ e in
      let does = agreed q.client q.op s in
      let roster_now = roster_of-push genesis L (Request q) in
      let table_now = table_of-push L (Request q) in
      let members_now : roster_of genesis (L ++ Request q ∷ []) ≡ next_roster (roster_of genesis L) q.op =
      rw takes at roster_now in
      let locks_now : table_of (L ++ Request q ∷ []) ≡ table_after q.client q.op (table_of L) = rw takes at table_now in
      let change_now = change_more genesis L (Request q) in
      let change : last_change genesis (L ++ Request q ∷ [])
      ≡ cond (is_granted (roster_answer (roster_of genesis L) q.op)) (length L + 1) (last_change genesis L) =
      rw takes at change_now in
      rw e (record {
        least = λ r. older-push r L (Request q) ∙ ap (λ (b : Bool). b && is_older r (Request q)) (now.least r)
            ∙ older_with s.least q r e
            ∙ ap (λ (f : ℕ → ℕ). leb (cond (eqb r.client q.client) (q.number + 1) (f r.client)) r.number)
            (sym does.least);
        roster = members_now ∙ ap (λ (x : PlainRoster). next_roster x q.op) now.roster ∙ does.roster;
        locks = locks_now ∙ ap (table_after q.client q.op) now.locks ∙ does.locks;
        position = one_more L (Request q) s.position now.position;
        changed = change ∙ ap (λ (x : PlainRoster). cond (is_granted (roster_answer x q.op)) (length L + 1)
            (last_change genesis L)) now.roster
            ∙ ap (λ (k : ℕ). cond (is_granted (roster_answer (roster_in s) q.op)) (k + 1) (last_change genesis L))
            (sym now.position)
            ∙ ap (λ (k : ℕ). cond (is_granted (roster_answer (roster_in s) q.op)) (s.position + 1) k) now.changed
            ∙ sym does.changed;
      })
  | inr e ↦
      let takes : list_all (is_older q) L ≡ false = now.least q ∙ e in
      let roster_now = roster_of-push genesis L (Request q) in
      let table_now = table_of-push L (Request q) in
      let members_now : roster_of genesis (L ++ Request q ∷ []) ≡ roster_of genesis L = rw takes at roster_now in
      let locks_now : table_of (L ++ Request q ∷ []) ≡ table_of L = rw takes at table_now in
      let change_now = change_more genesis L (Request q) in
      let change : last_change genesis (L ++ Request q ∷ []) ≡ last_change genesis L = rw takes at change_now in
      rw e (record {
        least = λ r. older-push r L (Request q) ∙ ap (λ (b : Bool). b && is_older r (Request q)) (now.least r)
            ∙ older_without s.least q r e;
        roster = members_now ∙ now.roster;
        locks = locks_now ∙ now.locks;
        position = one_more L (Request q) s.position now.position;
        changed = change ∙ now.changed;
      })
]

first : (genesis : Genesis) → Leaves genesis [] (after genesis [])
unfolding roster_of table_of effects positioned after last_change
first genesis = record {
  least = λ r. sym (le-leb 0 r.number (omega arith));
  roster = ap (λ (n : ℕ). let x : PlainRoster = record { members = genesis.members; greatest = n } in x)
      (greatest_agrees genesis.members);
  locks = refl;
  position = refl;
  changed = refl;
}

-- each list does
pub leaves : (genesis : Genesis) (L : List Command) → Leaves genesis L (after genesis L)
leaves genesis = by_pushes (λ (L : List Command). Leaves genesis L (after genesis L)) (first genesis)
    (λ L c now. subst (Leaves genesis (L ++ c ∷ [])) (sym (after-push genesis L c))
    (step genesis L c (after genesis L) now))
