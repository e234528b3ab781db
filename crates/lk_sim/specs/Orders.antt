-- What was answered before a request was asked takes effect before it, and what a client was told of was asked before.
use Rattle.std.specs.Prelude.{◌≡◌, ℕ, ◌-◌, ◌<◌, List, ◌++◌, take, Some, Contains}
use Rattle.lk_types.specs.declared.answer.Answer.{Answer}
use Rattle.lk_members.specs.Effects.{in_effect}
use Rattle.lk_state.specs.Meanings.{Meaning}
use Rattle.lk_state.specs.States.{reply}
use Rattle.lk_agreement_laws.specs.Chosen.{command_at, Chosen}
use Rattle.lk_node_interface.specs.declared.note.Note.{Note}
use Rattle.lk_node_interface.specs.declared.note.Note.TheVariants as note
use Rattle.lk_node.specs.Histories.{Genesis, Datagram, Command, Request, RequestValue}
use Rattle.lk_sim.specs.Traces.{asked_in}

-- the request is at this position of the list, and takes effect there
abbrev pub IsEffectiveAt : List Command → ℕ → RequestValue → Type 0
IsEffectiveAt L i r = (command_at L i ≡ Some (Request r)) × (in_effect (take (i - 1) L) (Request r) ≡ Some r)

-- a request of this client and number takes effect before this position
pub record IsEffectiveBefore (L : List Command) (i client number : ℕ) : Type 0 where
  pub index : ℕ
  pub request : RequestValue
  pub before : index < i
  pub of_client : request.client ≡ client
  pub of_number : request.number ≡ number
  pub effective : IsEffectiveAt L index request

-- wherever a trace is split: what was answered in the first part takes effect, in each chosen list, before each
-- request that takes effect there and was not asked in that part
abbrev pub InOrder : Genesis → List Datagram → List Note → Type 0
InOrder genesis sent trace =
    (front back : List Note) → trace ≡ front ++ back
    → (n client number : ℕ) (a : Answer) → Contains front (note.Answered n client number a)
    → (r : RequestValue) → (Contains front (note.Asked r) → ⊥)
    → (L : List Command) (i : ℕ) → Chosen genesis sent L → IsEffectiveAt L i r → IsEffectiveBefore L i client number

-- wherever a trace is separated: a greater number of which a client was told in its front was asked in that front
abbrev pub ToldInTime : List Note → Type 0
ToldInTime trace =
    (front back : List Note) → trace ≡ front ++ back
    → (n client number last : ℕ) → Contains front (note.Told n client number last)
    → (r : RequestValue) × (r.client ≡ client) × (r.number ≡ last) × Contains front (note.Asked r)

-- ---- why

-- a chosen list bears out the answer, and all its requests were asked in these notes
pub record IsAnsweredBy (m : Meaning) (genesis : Genesis) (sent : List Datagram) (front : List Note)
    (client number : ℕ) (a : Answer) : Type 0 where
  pub under : List Command
  pub chosen : Chosen genesis sent under
  pub replied : reply m genesis under client number ≡ Some a
  pub asked : (r : RequestValue) → Contains under (Request r) → Contains (asked_in front) r

-- the note rests on what was asked in these notes: so does an answer, and word of a greater number, which was answered
abbrev pub RestsOn : Meaning → Genesis → List Datagram → List Note → Note → Type 0
RestsOn m genesis sent front (note.Asked r) = Unit {0}
RestsOn m genesis sent front (note.Counted node i set v) = Unit {0}
RestsOn m genesis sent front (note.Ran node i v) = Unit {0}
RestsOn m genesis sent front (note.Answered node client number a) = IsAnsweredBy m genesis sent front client number a
RestsOn m genesis sent front (note.Told node client number last) =
    (a : Answer) × IsAnsweredBy m genesis sent front client last a

-- so does each note in a front of the trace, on what was asked in that front
abbrev pub InTime : Meaning → Genesis → List Datagram → List Note → Type 0
InTime m genesis sent trace =
    (front back : List Note) → trace ≡ front ++ back → (x : Note) → Contains front x → RestsOn m genesis sent front x
