-- The plain table: a finite map from names to their last fence and holders, and the answer to each body.
use Rattle.std.specs.Prelude.{◌≡◌, ℕ, ◌+◌, ◌<◌, Bool, true, false, nat_lt, ◌&&◌, ◌==◌, List, [], ◌∷◌, length, Option}
use Rattle.std.specs.Prelude.{Some, None, Result, Ok, Err, if◌then◌else◌, refl}
use Rattle.std.specs.Coded.{Coded, code_by, coded×, coded_bool, coded_ℕ, coded_list}
use Rattle.std.specs.Ordering.{nat_cmp}
use Rattle.std.specs.Cmp.Lexicographic.{slice_cmp}
use Rattle.std.specs.FinMap as map
use Rattle.lk_types.specs.Limits.{max_count, max_names, max_sharers}
use Rattle.lk_types.specs.declared.answer.Answer.{Answer}
use Rattle.lk_types.specs.declared.answer.Answer.TheVariants.{Granted, Busy, Released, NotHeld, Free, Held, Valid}
use Rattle.lk_types.specs.declared.answer.Answer.TheVariants.{Stale, NoRoom, Bad, Spent, Shared, HeldShared, Broken}
use Rattle.lk_types.specs.declared.answer.Answer.TheVariants.{Raised, AlreadyRaised}
use Rattle.lk_locks.specs.Bodies.{body_of, name_of, known}
use Rattle.lk_locks.specs.Holders.{is_held, left_by}
use Rattle.lk_locks.specs.Sharers.{is_among, with_client, least}
use Rattle.lk_locks.specs.LockEntries.{lock_entry_code}
use Rattle.lk_locks.specs.declared.body.Body.{Body}
use Rattle.lk_locks.specs.declared.body.Body.TheVariants.{Acquire, Release, Ask, Check, Share, Break}
use Rattle.lk_locks.specs.declared.transition.Transition.{Transition}
use Rattle.lk_locks.specs.declared.lock_entry.Holders.{Holders}
use Rattle.lk_locks.specs.declared.lock_entry.Holders.TheVariants.{Nobody, ExclusiveHold, SharedHold}
use Rattle.lk_locks.specs.declared.lock_entry.LockEntry.{LockEntry}

abbrev pub Names : Type 0
Names = map.FinMap (slice_cmp nat_cmp) LockEntry

-- the names, and whether the table was raised: then it is of version 2, and otherwise of version 1
pub record Table : Type 0 where
  pub raised : Bool
  pub names : Names

-- a table is stored as the pair of both
abbrev pub table_code : Coded Table
table_code = code_by (Bool × Names) (coded× coded_bool (map.code (coded_list coded_ℕ) lock_entry_code))
    (λ t. (t.raised, t.names)) (λ p. record { raised = p.0; names = p.1 }) (λ _. refl)

abbrev pub empty : Table
empty = record { raised = false; names = map.empty }

abbrev pub unchanged : Answer → Transition
unchanged a = record { answer = a; change = None }

-- ---- Acquire and Share

-- the next fence of a name that nobody holds, or why there is none
abbrev pub fence_after : ℕ → Result ℕ Answer
fence_after fence = if nat_lt fence max_count then Ok (fence + 1) else Err Spent

-- the fence of a new name, given how many there are
abbrev pub first_fence : ℕ → Result ℕ Answer
first_fence names = if nat_lt names max_names then Ok 1 else Err NoRoom

-- a grant: the answer has the fence, and the name is held at it from then on; without a fence the refusal
abbrev pub given : (ℕ → Answer) → Holders → Result ℕ Answer → Transition
given told holders (Ok fence) =
    record { answer = told fence; change = Some (record { fence = fence; holders = holders }) }
given told holders (Err refusal) = unchanged refusal

abbrev pub acquired_at : ℕ → ℕ → Holders → Transition
acquired_at client fence Nobody = given Granted (ExclusiveHold client) (fence_after fence)
acquired_at client fence (ExclusiveHold holder) = unchanged (Busy holder fence)
acquired_at client fence (SharedHold clients) = unchanged (Busy (least clients) fence)

abbrev pub acquired : ℕ → Option LockEntry → ℕ → Transition
acquired client None names = given Granted (ExclusiveHold client) (first_fence names)
acquired client (Some s) names = acquired_at client s.fence s.holders

-- one more client shares the name, at the same fence
abbrev pub shared_with : ℕ → ℕ → List ℕ → Transition
shared_with client fence clients =
    if is_among client clients then unchanged (Shared fence)
    else if nat_lt (length clients) max_sharers then
    record {
      answer = Shared fence;
      change = Some (record { fence = fence; holders = SharedHold (with_client client clients) });
    }
    else unchanged (Busy (least clients) fence)

abbrev pub shared_at : ℕ → ℕ → Holders → Transition
shared_at client fence Nobody = given Shared (SharedHold (client ∷ [])) (fence_after fence)
shared_at client fence (ExclusiveHold holder) = unchanged (Busy holder fence)
shared_at client fence (SharedHold clients) = shared_with client fence clients

abbrev pub shared : ℕ → Option LockEntry → ℕ → Transition
shared client None names = given Shared (SharedHold (client ∷ [])) (first_fence names)
shared client (Some s) names = shared_at client s.fence s.holders

-- ---- Release and Break: the fence stays

abbrev pub left_at : ℕ → Option Holders → Transition
left_at fence None = unchanged NotHeld
left_at fence (Some holders) = record { answer = Released; change = Some (record { fence = fence; holders = holders }) }

abbrev pub released : ℕ → ℕ → Option LockEntry → Transition
released client fence None = unchanged NotHeld
released client fence (Some s) =
    if s.fence == fence then left_at fence (left_by client s.holders) else unchanged NotHeld

abbrev pub is_held_at : ℕ → Option LockEntry → Bool
is_held_at fence None = false
is_held_at fence (Some s) = is_held s.holders && s.fence == fence

abbrev pub broken : ℕ → Option LockEntry → Transition
broken fence s =
    if is_held_at fence s then record { answer = Broken; change = Some (record { fence = fence; holders = Nobody }) }
    else unchanged Stale

-- ---- Ask and Check

abbrev pub asked_at : ℕ → Holders → Answer
asked_at fence Nobody = Free fence
asked_at fence (ExclusiveHold holder) = Held holder fence
asked_at fence (SharedHold clients) = HeldShared (length clients) fence

abbrev pub asked : Option LockEntry → Answer
asked None = Free 0
asked (Some s) = asked_at s.fence s.holders

abbrev pub checked : ℕ → Option LockEntry → Answer
checked fence s = if is_held_at fence s then Valid else Stale

-- ---- all bodies

-- given the name's lock entry, and how many names there are
abbrev pub transition : ℕ → Body → Option LockEntry → ℕ → Transition
transition client (Acquire name) s names = acquired client s names
transition client (Release name fence) s names = released client fence s
transition client (Ask name) s names = unchanged (asked s)
transition client (Check name fence) s names = unchanged (checked fence s)
transition client (Share name) s names = shared client s names
transition client (Break name fence) s names = broken fence s

abbrev pub transition_in : ℕ → Body → Names → Transition
transition_in client body m = transition client body (map.get m (name_of body)) (map.len m)

abbrev pub changed : List ℕ → Option LockEntry → Names → Names
changed name None m = m
changed name (Some s) m = map.insert m name s

abbrev pub answer_to : ℕ → Option Body → Names → Answer
answer_to client None m = Bad
answer_to client (Some body) m = (transition_in client body m).answer

abbrev pub next_by : ℕ → Option Body → Names → Names
next_by client None m = m
next_by client (Some body) m = changed (name_of body) (transition_in client body m).change m

-- the answer to a client's bytes
abbrev pub answer : ℕ → List ℕ → Table → Answer
answer client bytes t = answer_to client (known t.raised (body_of bytes)) t.names

-- the table after a client's bytes
abbrev pub next : ℕ → List ℕ → Table → Table
next client bytes t = record { raised = t.raised; names = next_by client (known t.raised (body_of bytes)) t.names }

-- ---- Raise

abbrev pub raise_answer : Table → Answer
raise_answer t = if t.raised then AlreadyRaised else Raised

abbrev pub raised : Table → Table
raised t = record { raised = true; names = t.names }

-- ---- memory

-- the name is unknown, and there is room for it
abbrev pub HasRoom : List ℕ → Names → Type 0
HasRoom name m = (map.get m name ≡ None) × (map.len m < max_names)

-- the body adds a name
abbrev pub IsNewName : Option Body → Names → Type 0
IsNewName (Some (Acquire name)) m = HasRoom name m
IsNewName (Some (Release name fence)) m = ⊥
IsNewName (Some (Ask name)) m = ⊥
IsNewName (Some (Check name fence)) m = ⊥
IsNewName (Some (Share name)) m = HasRoom name m
IsNewName (Some (Break name fence)) m = ⊥
IsNewName None m = ⊥
