-- A resource that a name guards: whoever writes to it shows the fence of its grant, and the resource accepts a write
-- only at or above the highest fence that it has seen.
use Rattle.std.specs.Prelude.{◌≡◌, ℕ, ◌-◌, ◌<◌, ◌≤◌, nat_le, List, [], ◌∷◌, ◌++◌, take, Some, Contains, if◌then◌else◌}
use Rattle.lk_types.specs.declared.answer.Answer.TheVariants.{Granted}
use Rattle.lk_types.specs.declared.command.Command.{Command}
use Rattle.lk_types.specs.declared.command.Op.TheVariants.{Table}
use Rattle.lk_types.specs.declared.command.Request.{Request as Asking}
use Rattle.lk_types.specs.declared.genesis.Genesis.{Genesis}
use Rattle.lk_locks.specs.Bodies.{body_of}
use Rattle.lk_locks.specs.declared.body.Body.TheVariants.{Acquire}
use Rattle.lk_agreement_laws.specs.Datagrams.{Datagram}
use Rattle.lk_node_interface.specs.declared.note.Note.{Note}
use Rattle.lk_node_interface.specs.declared.note.Note.TheVariants as note
use Rattle.lk_guarantees.specs.Plain.{after, execute, TakesEffectAt}
use Rattle.lk_guarantees.specs.Guarantee.{IsChosen, StandsForOne}

-- a write, with the grant under which it is made: the client and number of the request that was granted, and the fence
pub record Write : Type 0 where
  pub client : ℕ
  pub number : ℕ
  pub fence : ℕ

-- the writes that the resource accepts of these, given the highest fence that it has seen so far
abbrev pub accepted : ℕ → List Write → List Write
accepted highest [] = []
accepted highest (w ∷ writes) = if nat_le highest w.fence then w ∷ accepted w.fence writes else accepted highest writes

-- the write is made under the grant at this position of the list: there its client's request to acquire the name takes
-- effect, and is granted the write's fence
pub record IsUnder (genesis : Genesis) (L : List Command) (name : List ℕ) (w : Write) (i : ℕ) : Type 0 where
  pub request : Asking
  pub is_effective : TakesEffectAt genesis L i request
  pub of_client : request.client ≡ w.client
  pub of_number : request.number ≡ w.number
  pub body : List ℕ
  pub asks : request.op ≡ Table body
  pub acquires : body_of body ≡ Some (Acquire name)
  pub granted : (execute request.client request.op (after genesis (take (i - 1) L))).0 ≡ Granted w.fence

-- the fences of a name's exclusive grants rise along the list, and none is given twice
pub record FencesRise (genesis : Genesis) (L : List Command) (name : List ℕ) : Type 0 where
  pub later : (v w : Write) (i j : ℕ) → IsUnder genesis L name v i → IsUnder genesis L name w j → i < j
      → v.fence < w.fence
  -- what is granted exclusively at one fence is granted at one position, to one client, for one request
  pub once : (v w : Write) (i j : ℕ) → IsUnder genesis L name v i → IsUnder genesis L name w j → v.fence ≡ w.fence
      → (i ≡ j) × (v ≡ w)

-- whatever writes come to the resource, and whatever list grants them
pub record IsGuarded (genesis : Genesis) (L : List Command) (name : List ℕ) (writes : List Write) : Type 0 where
  -- what was accepted at one fence was written under one grant
  pub one_grant : (v w : Write) (i j : ℕ) → IsUnder genesis L name v i → IsUnder genesis L name w j
      → v.fence ≡ w.fence → i ≡ j
  -- after a write under a later grant was accepted, none under an earlier one is
  pub in_order : (front back : List Write) (v w : Write) (i j : ℕ) → accepted 0 writes ≡ front ++ v ∷ back
      → Contains back w → IsUnder genesis L name v i → IsUnder genesis L name w j → i ≤ j

-- the grant of this write was told: the list has it, for a name that a request of that client and number acquires. If
-- the client has asked only one operation under the number, it is that one
abbrev pub IsListed : Genesis → List Note → List Command → Write → Type 0
IsListed genesis trace L w =
    (name : List ℕ) × (i : ℕ) × (u : IsUnder genesis L name w i)
    × (StandsForOne trace w.client w.number → (r : Asking) → Contains trace (note.Asked r) → r.client ≡ w.client
    → r.number ≡ w.number → u.request ≡ r)

-- each grant that was told is in a chosen list
abbrev pub AreListed : Genesis → List Datagram → List Note → Type 0
AreListed genesis sent trace =
    (L : List Command) × IsChosen genesis sent L
    × ((node client number fence : ℕ) → Contains trace (note.Answered node client number (Granted fence))
    → IsListed genesis trace L (record { client = client; number = number; fence = fence }))
