-- Exactly once, for a client that follows the rule: one number an operation, rising, and the same operation again
-- until it is answered.
--
-- That a call which returned was carried out exactly once: Birrell, Nelson, Implementing remote procedure calls, 1984.
-- By numbers, on a replicated list: Ongaro, Consensus: bridging theory and practice, 2014, section 6.3.
use Rattle.std.specs.Prelude.{◌≡◌, ℕ, ◌-◌, ◌<◌, List, ◌∷◌, ◌++◌, take, Contains}
use Rattle.lk_types.specs.declared.answer.Answer.{Answer}
use Rattle.lk_types.specs.declared.command.Command.{Command}
use Rattle.lk_types.specs.declared.command.Request.{Request as Asking}
use Rattle.lk_types.specs.declared.genesis.Genesis.{Genesis}
use Rattle.lk_agreement_laws.specs.Datagrams.{Datagram}
use Rattle.lk_node_interface.specs.declared.note.Note.{Note}
use Rattle.lk_node_interface.specs.declared.note.Note.TheVariants as note
use Rattle.lk_guarantees.specs.Plain.{after, execute, TakesEffectAt}
use Rattle.lk_guarantees.specs.Guarantee.{IsChosen}

-- the client asks this request
abbrev pub IsAskedBy : List Note → ℕ → Asking → Type 0
IsAskedBy trace client r = Contains trace (note.Asked r) × (r.client ≡ client)

-- the request of this number was answered
abbrev pub WasAnswered : List Note → ℕ → ℕ → Type 0
WasAnswered trace client number =
    (node : ℕ) × (answer : Answer) × Contains trace (note.Answered node client number answer)

-- after these notes the client asks the second request for the first time; the first one it has asked in them
pub record AsksAfter (trace : List Note) (client : ℕ) (before : List Note) (q r : Asking) : Type 0 where
  pub later : List Note
  pub here : trace ≡ before ++ note.Asked r ∷ later
  pub of_client : r.client ≡ client
  pub first : Contains before (note.Asked r) → ⊥
  pub earlier : IsAskedBy before client q

-- what a client owes
pub record FollowsRule (trace : List Note) (client : ℕ) : Type 0 where
  -- a number stands for one operation
  pub one_operation : (q r : Asking) → IsAskedBy trace client q → IsAskedBy trace client r → q.number ≡ r.number → q ≡ r
  -- each further operation has a greater number
  pub rises : (before : List Note) (q r : Asking) → AsksAfter trace client before q r → q.number < r.number
  -- and is asked once all earlier ones are answered
  pub waits : (before : List Note) (q r : Asking) → AsksAfter trace client before q r
      → WasAnswered before client q.number

-- what it gets for that, by a list that takes effect
pub record IsExactlyOnce (genesis : Genesis) (L : List Command) (trace : List Note) (client : ℕ) : Type 0 where
  -- an operation that was answered takes effect at some position, and was answered what it is answered there
  pub takes_effect : (r : Asking) (node : ℕ) (answer : Answer) → IsAskedBy trace client r
      → Contains trace (note.Answered node client r.number answer)
      → (i : ℕ) × TakesEffectAt genesis L i r × ((execute client r.op (after genesis (take (i - 1) L))).0 ≡ answer)
  -- no operation takes effect at two
  pub once : (r : Asking) (i j : ℕ) → TakesEffectAt genesis L i r → TakesEffectAt genesis L j r
      → r.client ≡ client → i ≡ j
  -- nothing takes effect that it has not asked
  pub asked : (r : Asking) (i : ℕ) → TakesEffectAt genesis L i r → r.client ≡ client → IsAskedBy trace client r
  -- operations take effect in the order in which it asked them
  pub in_order : (before : List Note) (q r : Asking) (i j : ℕ) → AsksAfter trace client before q r
      → TakesEffectAt genesis L i q → TakesEffectAt genesis L j r → i < j
  -- and of an operation that it has asked it is not told Passed before that is answered
  pub not_passed : (before later : List Note) (r : Asking) (node last : ℕ)
      → trace ≡ before ++ note.Told node client r.number last ∷ later → IsAskedBy before client r
      → WasAnswered before client r.number

-- so with each client that follows the rule, by one chosen list
abbrev pub AreExactlyOnce : Genesis → List Datagram → List Note → Type 0
AreExactlyOnce genesis sent trace =
    (L : List Command) × IsChosen genesis sent L
    × ((client : ℕ) → FollowsRule trace client → IsExactlyOnce genesis L trace client)
