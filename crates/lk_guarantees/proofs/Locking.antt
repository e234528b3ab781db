-- The plain lock table is that of the lock table's crate, and the members change as the roster does.
use Rattle.std.proofs.Common.{◌≡◌, ℕ, ◌+◌, Bool, true, false, cond, eqb, ltb, leb, not, ◌&&◌, List, [], ◌∷◌, length}
use Rattle.std.proofs.Common.{filter, max, Option, Some, None, refl, ap, sym, inl, inr, arith}
use Rattle.std.specs.List.{list_any}
use Rattle.std.specs.FinMap as map
use Rattle.std.proofs.lemmas.Bool.{cases_Bool, or_parts, ne_eqb, eqb-false, ltb-true, ltb-false, lt-ltb, le-ltb}
use Rattle.lk_types.specs.declared.answer.Answer.{Answer}
use Rattle.lk_types.specs.declared.command.Op.TheVariants.{Join, Leave}
use Rattle.lk_types.specs.declared.answer.Answer.TheVariants.{Granted, Busy, Shared}
use Rattle.lk_types.specs.declared.member.Member.{Member}
use Rattle.lk_members.specs.Rosters.{PlainRoster, greatest_node, is_nobody, others, join_answer, leave_answer}
use Rattle.lk_members.specs.Rosters.{next_roster, is_granted}
use Rattle.lk_locks.specs.Bodies.{known}
use Rattle.lk_locks.specs.Holders.{is_held, held_by, left_by}
use Rattle.lk_locks.specs.Plain as plain
use Rattle.lk_locks.specs.Sharers.{with_client, least}
use Rattle.lk_locks.specs.declared.body.Body.{Body}
use Rattle.lk_locks.specs.declared.body.Body.TheVariants.{Acquire, Release, Ask, Check, Share, Break}
use Rattle.lk_locks.specs.declared.transition.Transition.{Transition}
use Rattle.lk_locks.specs.declared.lock_entry.Holders.{Holders}
use Rattle.lk_locks.specs.declared.lock_entry.Holders.TheVariants.{Nobody, ExclusiveHold, SharedHold}
use Rattle.lk_locks.specs.declared.lock_entry.LockEntry.{LockEntry}
use Rattle.lk_guarantees.specs.Plain.{Locks, State, give_again, give_first, first, acquire_known, acquire}
use Rattle.lk_guarantees.specs.Plain.{adding_client}
use Rattle.lk_guarantees.specs.Plain.{share_known, share, is_free, is_held_by, those, without, release, is_held_at}
use Rattle.lk_guarantees.specs.Plain.{break_lock, asks, told_of, checks, use_locks, greatest_of, join, leave}

-- ---- the lock table

-- the same answer, and the same locks after it
abbrev Agrees : List ℕ → Transition → Locks → Answer × Locks → Type 0
Agrees name next m came = (next.answer ≡ came.0) × (plain.changed name next.change m ≡ came.1)

again_agrees : (given : ℕ → Answer) (holders : Holders) (name : List ℕ) (last : ℕ) (m : Locks)
    → Agrees name (plain.given given holders (plain.fence_after last)) m (give_again given holders name last m)
again_agrees given holders name last m =
    elim (cases_Bool (ltb last 281474976710656)) [ inl e ↦ rw e (refl, refl) | inr e ↦ rw e (refl, refl) ]

first_agrees : (given : ℕ → Answer) (holders : Holders) (name : List ℕ) (m : Locks)
    → Agrees name (plain.given given holders (plain.first_fence (map.len m))) m (give_first given holders name m)
first_agrees given holders name m =
    elim (cases_Bool (ltb (map.len m) 512)) [ inl e ↦ rw e (refl, refl) | inr e ↦ rw e (refl, refl) ]

least_is : (clients : List ℕ) → least clients ≡ first clients
least_is [] = refl
least_is (c ∷ cs) = refl

busy_agrees : (name clients : List ℕ) (last : ℕ) (m : Locks)
    → Agrees name (plain.unchanged (Busy (least clients) last)) m (Busy (first clients) last, m)
busy_agrees name clients last m = (ap (λ (c : ℕ). Busy c last) (least_is clients), refl)

acquired_agrees : (client : ℕ) (name : List ℕ) (last : ℕ) (holders : Holders) (m : Locks)
    → Agrees name (plain.acquired_at client last holders) m (acquire_known client name last holders m)
acquired_agrees client name last Nobody m = again_agrees Granted (ExclusiveHold client) name last m
acquired_agrees client name last (ExclusiveHold holder) m = (refl, refl)
acquired_agrees client name last (SharedHold clients) m = busy_agrees name clients last m

acquire_agrees : (client : ℕ) (name : List ℕ) (o : Option LockEntry) (m : Locks)
    → Agrees name (plain.acquired client o (map.len m)) m (acquire client name o m)
acquire_agrees client name (Some lock) m = acquired_agrees client name lock.fence lock.holders m
acquire_agrees client name None m = first_agrees Granted (ExclusiveHold client) name m

-- one who is none of them comes in at its place
one_more : (client : ℕ) (cs : List ℕ) → list_any (λ (c : ℕ). eqb c client) cs ≡ false
    → with_client client cs ≡ adding_client client cs
one_more client [] none = refl
one_more client (c ∷ cs) none =
    let parts = or_parts (eqb c client) (list_any (λ (c : ℕ). eqb c client) cs) none in
    elim (cases_Bool (ltb c client)) [
      | inl lower ↦
          let lt = ltb-true c client lower in
          let not_below : ltb client c ≡ false = le-ltb client c (omega arith) in
          rw (lower, not_below, parts.0) (ap (λ (ds : List ℕ). c ∷ ds) (one_more client cs parts.1))
      | inr not_lower ↦
          let other = eqb-false c client parts.0 in
          let le = ltb-false c client not_lower in
          let below : ltb client c ≡ true = lt-ltb client c (omega arith) in
          rw (not_lower, below) refl
    ]

joined_agrees : (client : ℕ) (name : List ℕ) (last : ℕ) (clients : List ℕ) (m : Locks)
    → Agrees name (plain.shared_with client last clients) m (share_known client name last (SharedHold clients) m)
joined_agrees client name last clients m =
    elim (cases_Bool (list_any (λ (c : ℕ). eqb c client) clients)) [
      | inl e ↦ rw e (refl, refl)
      | inr e ↦ rw (e, one_more client clients e, least_is clients)
          (elim (cases_Bool (ltb (length clients) 8)) [ inl f ↦ rw f (refl, refl) | inr f ↦ rw f (refl, refl) ])
    ]

shared_agrees : (client : ℕ) (name : List ℕ) (last : ℕ) (holders : Holders) (m : Locks)
    → Agrees name (plain.shared_at client last holders) m (share_known client name last holders m)
shared_agrees client name last Nobody m = again_agrees Shared (SharedHold (client ∷ [])) name last m
shared_agrees client name last (ExclusiveHold holder) m = (refl, refl)
shared_agrees client name last (SharedHold clients) m = joined_agrees client name last clients m

share_agrees : (client : ℕ) (name : List ℕ) (o : Option LockEntry) (m : Locks)
    → Agrees name (plain.shared client o (map.len m)) m (share client name o m)
share_agrees client name (Some lock) m = shared_agrees client name lock.fence lock.holders m
share_agrees client name None m = first_agrees Shared (SharedHold (client ∷ [])) name m

left_is : (clients : List ℕ) → held_by clients ≡ those clients
left_is [] = refl
left_is (c ∷ cs) = refl

-- who is left, and none where the client holds it not
leaves_so : (client : ℕ) (holders : Holders)
    → left_by client holders ≡ cond (is_held_by client holders) (Some (without client holders)) None
leaves_so client Nobody = refl
leaves_so client (ExclusiveHold holder) = refl
leaves_so client (SharedHold clients) = rw (left_is (filter (λ (c : ℕ). not (eqb c client)) clients)) refl

released_agrees : (client : ℕ) (name : List ℕ) (fence : ℕ) (lock : LockEntry) (m : Locks)
    → Agrees name (plain.released client fence (Some lock)) m (release client name fence (Some lock) m)
released_agrees client name fence lock m =
    rw (leaves_so client lock.holders) (elim (cases_Bool (eqb lock.fence fence)) [
      | inl e ↦ elim (cases_Bool (is_held_by client lock.holders))
          [ inl f ↦ rw (e, f) (refl, refl) | inr f ↦ rw (e, f) (refl, refl) ]
      | inr e ↦ elim (cases_Bool (is_held_by client lock.holders))
          [ inl f ↦ rw (e, f) (refl, refl) | inr f ↦ rw (e, f) (refl, refl) ]
    ])

release_agrees : (client : ℕ) (name : List ℕ) (fence : ℕ) (o : Option LockEntry) (m : Locks)
    → Agrees name (plain.released client fence o) m (release client name fence o m)
release_agrees client name fence (Some lock) m = released_agrees client name fence lock m
release_agrees client name fence None m = (refl, refl)

held_is : (holders : Holders) → is_held holders ≡ not (is_free holders)
held_is Nobody = refl
held_is (ExclusiveHold holder) = refl
held_is (SharedHold clients) = refl

held_at_is : (fence : ℕ) (o : Option LockEntry) → plain.is_held_at fence o ≡ is_held_at fence o
held_at_is fence None = refl
held_at_is fence (Some lock) = ap (λ (b : Bool). b && eqb lock.fence fence) (held_is lock.holders)

break_agrees : (name : List ℕ) (fence : ℕ) (o : Option LockEntry) (m : Locks)
    → Agrees name (plain.broken fence o) m (break_lock name fence o m)
break_agrees name fence o m =
    rw (held_at_is fence o) (elim
    (cases_Bool (is_held_at fence o)) [ inl e ↦ rw e (refl, refl) | inr e ↦ rw e (refl, refl) ])

told_agrees : (last : ℕ) (holders : Holders) → plain.asked_at last holders ≡ told_of last holders
told_agrees last Nobody = refl
told_agrees last (ExclusiveHold holder) = refl
told_agrees last (SharedHold clients) = refl

asks_agrees : (o : Option LockEntry) → plain.asked o ≡ asks o
asks_agrees None = refl
asks_agrees (Some lock) = told_agrees lock.fence lock.holders

checks_agrees : (fence : ℕ) (o : Option LockEntry) → plain.checked fence o ≡ checks fence o
checks_agrees fence o = rw (held_at_is fence o) refl

pub locks_agree : (client : ℕ) (raised : Bool) (o : Option Body) (m : Locks)
    → (plain.answer_to client (known raised o) m ≡ (use_locks client raised o m).0)
    × (plain.next_by client (known raised o) m ≡ (use_locks client raised o m).1)
locks_agree client raised None m = (refl, refl)
locks_agree client raised (Some (Acquire name)) m = acquire_agrees client name (map.get m name) m
locks_agree client raised (Some (Release name fence)) m = release_agrees client name fence (map.get m name) m
locks_agree client raised (Some (Ask name)) m = (asks_agrees (map.get m name), refl)
locks_agree client raised (Some (Check name fence)) m = (checks_agrees fence (map.get m name), refl)
locks_agree client true (Some (Share name)) m = share_agrees client name (map.get m name) m
locks_agree client false (Some (Share name)) m = (refl, refl)
locks_agree client true (Some (Break name fence)) m = break_agrees name fence (map.get m name) m
locks_agree client false (Some (Break name fence)) m = (refl, refl)

-- ---- the members

pub greatest_agrees : (ms : List Member) → greatest_node ms ≡ greatest_of ms
greatest_agrees [] = refl
greatest_agrees (m ∷ ms) = ap (max m.node) (greatest_agrees ms)

abbrev roster_in : State → PlainRoster
roster_in s = record { members = s.members; greatest = s.greatest }

-- the same answer, the same roster after it, and nothing else changed
pub record Moves (s : State) (answer : Answer) (roster : PlainRoster) (came : Answer × State) : Type 0 where
  pub answer_is : answer ≡ came.0
  pub roster_is : roster ≡ record { members = came.1.members; greatest = came.1.greatest }
  pub locks : came.1.locks ≡ s.locks
  pub raised : came.1.raised ≡ s.raised
  pub least : came.1.least ≡ s.least
  pub changed : came.1.changed ≡ cond (is_granted (Some answer)) (s.position + 1) s.changed

pub join_agrees : (node port : ℕ) (s : State)
    → Moves s (join_answer (record { members = s.members; greatest = s.greatest }) node)
    (next_roster (record { members = s.members; greatest = s.greatest }) (Join node port)) (join node port s)
join_agrees node port s =
    elim (cases_Bool (leb node s.greatest)) [
      | inl e ↦ rw e (record {
        answer_is = refl;
        roster_is = refl;
        locks = refl;
        raised = refl;
        least = refl;
        changed = refl;
      })
      | inr e ↦ rw e (elim (cases_Bool (leb 7 (length s.members))) [
        | inl f ↦ rw f (record {
          answer_is = refl;
          roster_is = refl;
          locks = refl;
          raised = refl;
          least = refl;
          changed = refl;
        })
        | inr f ↦ rw f (record {
          answer_is = refl;
          roster_is = refl;
          locks = refl;
          raised = refl;
          least = refl;
          changed = refl;
        })
      ])
    ]

nobody_is : (ms : List Member) → is_nobody ms ≡ eqb (length ms) 0
nobody_is [] = refl
nobody_is (m ∷ ms) = sym (ne_eqb (length (m ∷ ms)) 0 (λ e. omega (arith, e)))

pub leave_agrees : (node : ℕ) (s : State)
    → Moves s (leave_answer (record { members = s.members; greatest = s.greatest }) node)
    (next_roster (record { members = s.members; greatest = s.greatest }) (Leave node)) (leave node s)
leave_agrees node s =
    elim (cases_Bool (list_any (λ (m : Member). eqb m.node node) s.members)) [
      | inl e ↦ rw (e, nobody_is (others node s.members))
          (elim (cases_Bool (eqb (length (filter (λ (m : Member). not (eqb m.node node)) s.members)) 0)) [
            | inl f ↦ rw f (record {
              answer_is = refl;
              roster_is = refl;
              locks = refl;
              raised = refl;
              least = refl;
              changed = refl;
            })
            | inr f ↦ rw f (record {
              answer_is = refl;
              roster_is = refl;
              locks = refl;
              raised = refl;
              least = refl;
              changed = refl;
            })
          ])
      | inr e ↦ rw e (record {
        answer_is = refl;
        roster_is = refl;
        locks = refl;
        raised = refl;
        least = refl;
        changed = refl;
      })
    ]
