-- What clients see of a world, in the standard form: linearizability (Herlihy, Wing, Linearizability: a correctness
-- condition for concurrent objects, 1990). A request is invoked when it is first asked, and its response is its
-- answer.
use Rattle.std.specs.Prelude.{◌≡◌, ℕ, Bool, List, [], ◌∷◌, ◌++◌, Contains}
use Rattle.lk_types.specs.declared.answer.Answer.{Answer}
use Rattle.lk_types.specs.declared.command.Op.{Op}
use Rattle.lk_types.specs.declared.command.Request.{Request as Asking}
use Rattle.lk_types.specs.declared.genesis.Genesis.{Genesis}
use Rattle.lk_types.specs.declared.member.Member.{Member}
use Rattle.lk_node_interface.specs.declared.note.Note.{Note}
use Rattle.lk_node_interface.specs.declared.note.Note.TheVariants as note
use Rattle.lk_guarantees.specs.Plain.{State, Locks, begin, execute}
use Rattle.lk_guarantees.specs.Guarantee.{StandsForOne}

-- the object alone: the members, the greatest number that was ever a member's, and the lock table. It knows no
-- positions and no clients' numbers
pub record Object : Type 0 where
  pub members : List Member
  pub greatest : ℕ
  pub raised : Bool
  pub locks : Locks

abbrev pub object : State → Object
object s = record { members = s.members; greatest = s.greatest; raised = s.raised; locks = s.locks }

abbrev pub state_of : Object → State
state_of o = record {
  position = 0;
  least = λ client. 0;
  members = o.members;
  greatest = o.greatest;
  changed = 0;
  raised = o.raised;
  locks = o.locks;
}

-- an operation of a client on it: its answer, and the object after it
abbrev pub alone : ℕ → Op → Object → Answer × Object
alone client op o = ((execute client op (state_of o)).0, object (execute client op (state_of o)).1)

-- a sequential history: operations one after another, each with its answer
abbrev pub Sequence : Type 0
Sequence = List (Asking × Answer)

-- it is legal: each answer is the object's, one after another
abbrev pub IsLegal : Object → Sequence → Type 0
IsLegal o [] = Unit {0}
IsLegal o (x ∷ history) = ((alone x.0.client x.0.op o).0 ≡ x.1) × IsLegal (alone x.0.client x.0.op o).1 history

-- a legal sequential history of a trace
pub record Linearizes (genesis : Genesis) (trace : List Note) (history : Sequence) : Type 0 where
  pub legal : IsLegal (object (begin genesis)) history
  -- it has each request that was answered, with that answer; of those that wait it may have any
  pub completes : (node client number : ℕ) (answer : Answer) → Contains trace (note.Answered node client number answer)
      → (r : Asking) × (r.client ≡ client) × (r.number ≡ number) × Contains history (r, answer)
  -- if its client has asked only one operation under the number, that one has the answer
  pub its_own : (node client number : ℕ) (answer : Answer) → Contains trace (note.Answered node client number answer)
      → StandsForOne trace client number → (r : Asking) → Contains trace (note.Asked r) → r.client ≡ client
      → r.number ≡ number → Contains history (r, answer)
  -- and nothing that was not asked
  pub invoked : (r : Asking) (answer : Answer) → Contains history (r, answer) → Contains trace (note.Asked r)
  -- it has a number of a client at most once
  pub once : (front back : Sequence) (r q : Asking) (a b : Answer) → history ≡ front ++ (r, a) ∷ back
      → Contains front (q, b) → q.client ≡ r.client → q.number ≡ r.number → ⊥
  -- real time: what was answered before a request was first asked precedes it
  pub in_time : (before later : List Note) → trace ≡ before ++ later
      → (node client number : ℕ) (answer : Answer) → Contains before (note.Answered node client number answer)
      → (r : Asking) → (Contains before (note.Asked r) → ⊥)
      → (front back : Sequence) (a : Answer) → history ≡ front ++ (r, a) ∷ back
      → (q : Asking) × (b : Answer) × (q.client ≡ client) × (q.number ≡ number) × Contains front (q, b)

-- the trace is linearizable
abbrev pub IsLinearizable : Genesis → List Note → Type 0
IsLinearizable genesis trace = (history : Sequence) × Linearizes genesis trace history
