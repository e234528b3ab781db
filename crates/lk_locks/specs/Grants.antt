-- The fences at which a list of calls gives a name.
use Rattle.std.specs.Prelude.{ℕ, zero, suc, ◌+◌, Bool, false, ◌==◌, List, [], ◌∷◌, ◌++◌, Option, Some, None}
use Rattle.std.specs.Prelude.{if◌then◌else◌}
use Rattle.std.specs.Ordering.{nat_cmp, eq_by_cmp}
use Rattle.std.specs.Cmp.Lexicographic.{slice_cmp}
use Rattle.std.specs.List.{flat_map}
use Rattle.lk_types.specs.declared.answer.Answer.{Answer}
use Rattle.lk_types.specs.declared.answer.Answer.TheVariants.{Granted, Shared}
use Rattle.lk_types.specs.declared.command.Op.{Op}
use Rattle.lk_types.specs.declared.command.Op.TheVariants.{Table, Join, Leave, Raise}
use Rattle.lk_members.specs.Effects.{Command, RequestValue, effects}
use Rattle.lk_state.specs.Meanings.{Task, Running, Raising}
use Rattle.lk_locks.specs.Bodies.{body_of, name_of}
use Rattle.lk_locks.specs.Meaning.{next_by_task, task_answer}
use Rattle.lk_locks.specs.Plain.{Table as TableValue, empty}
use Rattle.lk_locks.specs.declared.body.Body.{Body}

-- a client, and what it asks of the table
abbrev pub Call : Type 0
Call = ℕ × Task

-- whether a body asks about this name
abbrev pub is_for : List ℕ → Option Body → Bool
is_for name (Some body) = eq_by_cmp (slice_cmp nat_cmp) name (name_of body)
is_for name None = false

abbrev pub asks_for : List ℕ → Task → Bool
asks_for name (Running bytes) = is_for name (body_of bytes)
asks_for name Raising = false

-- the fence at which an answer gives a name, alone or to share, if it gives one
abbrev pub fences : Answer → List ℕ
fences (Granted fence) = fence ∷ []
fences (Shared fence) = fence ∷ []
fences _ = []

-- the fences in the calls' answers for the name, in order, from this table on
abbrev pub fences_from : List ℕ → TableValue → List Call → List ℕ
fences_from name t [] = []
fences_from name t (call ∷ calls) =
    (if asks_for name call.1 then fences (task_answer call.0 call.1 t) else [])
    ++ fences_from name (next_by_task call.0 call.1 t) calls

-- drops each element that equals the one before it; `last` is the one before the first
abbrev pub once_behind : ℕ → List ℕ → List ℕ
once_behind last [] = []
once_behind last (f ∷ fs) = if f == last then once_behind last fs else f ∷ once_behind f fs

-- equal neighbours collapsed: 0 is no fence
abbrev pub once : List ℕ → List ℕ
once fs = once_behind 0 fs

-- the fences at which the calls give the name: joining those who share it takes no new one
abbrev pub grants : List ℕ → List Call → List ℕ
grants name calls = once (fences_from name empty calls)

-- the request's operation on the table, if it has one
abbrev pub call_of : RequestValue → Op → List Call
call_of request (Table body) = (request.client, Running body) ∷ []
call_of request (Join node port) = []
call_of request (Leave node) = []
call_of request Raise = (request.client, Raising) ∷ []

-- the operations on the table of the entries that take effect, in order
abbrev pub calls_of : List Command → List Call
calls_of L = flat_map (λ request. call_of request request.op) (effects L)

-- the fences of the Granted and Shared answers of the entries that take effect for the name, in order
abbrev pub fences_in : List ℕ → List Command → List ℕ
fences_in name L = fences_from name empty (calls_of L)

-- and with equal neighbours collapsed
abbrev pub grants_in : List ℕ → List Command → List ℕ
grants_in name L = once (fences_in name L)

-- this many numbers, from k on
abbrev pub numbers_from : ℕ → ℕ → List ℕ
numbers_from k zero = []
numbers_from k (suc n) = k ∷ numbers_from (k + 1) n
