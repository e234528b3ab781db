-- The result of a call of `take_all`, which takes several inputs as one group: its notes and datagrams, step by step.
use Rattle.std.specs.Prelude.{◌≡◌, ◌⊎◌, ℕ, Bool, true, false, List, [], ◌∷◌, ◌++◌, take, drop, Result, Ok}
use Rattle.std.specs.Prelude.{Err, ⊤}
use Rattle.lk_disk.specs.Disk.{Disk}
use Rattle.lk_disk.specs.declared.device.Side.{Side}
use Rattle.lk_log.specs.Rooms.{StaysWithin}
use Rattle.lk_log.specs.StoreValue.{StoreValue}
use Rattle.lk_state.specs.Meanings.{Meaning}
use Rattle.lk_node_interface.specs.Envelopes.{batch_of}
use Rattle.lk_node_interface.specs.declared.input.Input.{Input}
use Rattle.lk_node_interface.specs.declared.note.Note.{Note}
use Rattle.lk_node.specs.Calls.{InputFits, NodeFits, LeavesFit}
use Rattle.lk_node.specs.Histories.{History, Genesis, Datagram}
use Rattle.lk_node.specs.Holdings.{Holding}
use Rattle.lk_node.specs.NodeValue.{NodeValue}
use Rattle.lk_replica.specs.Groups.{GroupValue, IsGathered, IsRefusedInGroup, IsGroupSynced, StepSaid, group_that}
use Rattle.lk_replica.specs.ReplicaValue.{ReplicaValue}
use Rattle.lk_recovery.specs.Rooms.{max_after}
use Rattle.lk_replica.specs.declared.taken.Step.{Step}
use Rattle.lk_replica.specs.declared.taken.TakenAll.{TakenAll}

-- ---- what the steps noted, and what they sent

-- the notes and the envelopes of a step of the group, which are sent once all steps are over
abbrev pub Said : Type 0
Said = List Note × List Datagram

-- everything that was sent of it
abbrev pub sent_of : List Said → List Datagram
sent_of [] = []
sent_of (x ∷ xs) = x.1 ++ sent_of xs

-- each step takes its own part of what the group sent, or of what is left of that
abbrev pub parts_of : List Step → List Datagram → List Said
parts_of [] sent = []
parts_of (s ∷ steps) sent = (s.notes.items, take s.sends sent) ∷ parts_of steps (drop s.sends sent)

abbrev pub said_in : TakenAll → List Said
said_in t = parts_of t.steps.items t.sent.items

-- the envelopes of the steps, as datagrams of the node
abbrev pub said_by_steps : ℕ → List StepSaid → List Said
said_by_steps n [] = []
said_by_steps n (x ∷ xs) = (x.0, batch_of n x.1) ∷ said_by_steps n xs

-- ---- what the replica may note and send, in each history that it fits

-- The replica took these inputs in order: in each history that it fits, and that contains what it said before, it goes
-- on at each of them as in a call of `take`, and at the end it is as it would be. Each `mid` is the replica as it will
-- be once everything that it has written is synced.
abbrev pub EachLeavesFit : {R : Type 0} → (R → Genesis → ℕ → Holding → Type 0) → (R → Side → Disk) → Meaning → ℕ → R
    → List Input → R → List Said → Type 0
EachLeavesFit Shows disks m n r [] q said = (said ≡ [])
    × ((h : History) → NodeFits m h n (Shows r h.genesis n) (disks r)
    → LeavesFit m h n (Shows q h.genesis n) (disks q) [] [])
    × StaysWithin max_after (disks r) (disks q)
EachLeavesFit {R} Shows disks m n r (i ∷ is) q said = (mid : R) × (one : Said) × (rest : List Said)
    × (said ≡ one ∷ rest)
    × ((h : History) → NodeFits m h n (Shows r h.genesis n) (disks r) → InputFits h i
    → LeavesFit m h n (Shows mid h.genesis n) (disks mid) one.0 one.1)
    × StaysWithin max_after (disks r) (disks mid)
    × EachLeavesFit Shows disks m n mid is q rest

-- ---- what it has done, and nothing else

-- a node with these files, of which something waited for a sync or not, took these inputs, one after another; and the
-- notes and envelopes of each step
abbrev pub GathersAll : Meaning → (List ℕ → Type 0) → NodeValue → StoreValue → Bool → List Input → NodeValue
    → StoreValue → Bool → List StepSaid → Type 0
GathersAll m IsText node store needs_sync [] new after still steps =
    (new ≡ node) × (after ≡ store) × (still ≡ needs_sync) × (steps ≡ [])
GathersAll m IsText node store needs_sync (i ∷ is) new after still steps =
    (mid : NodeValue) × (between : StoreValue) × (one : GroupValue) × (rest : List StepSaid)
    × (steps ≡ (one.notes, one.envelopes) ∷ rest)
    × IsGathered m IsText ⊤ node store (group_that needs_sync) i mid between one
    × GathersAll m IsText mid between one.needs_sync is new after still rest

-- the replica took these inputs, after which it was in this state
pub record IsGatheredFrom (m : Meaning) (IsText : List ℕ → Type 0) (old : ReplicaValue) (inputs : List Input)
    (mid : ReplicaValue) (needs_sync : Bool) (steps : List StepSaid) : Type 0 where
  pub gathers : GathersAll m IsText old.node old.store false inputs mid.node mid.store needs_sync steps
  pub alive : (mid ≡ old) ⊎ (mid.failed ≡ false)

-- it took all of these, synced once if something waited for that, and then sent the envelopes of the steps
pub record IsTakenTogether (m : Meaning) (IsText : List ℕ → Type 0) (old : ReplicaValue) (inputs : List Input)
    (new : ReplicaValue) (said : List Said) : Type 0 where
  pub mid : ReplicaValue
  pub needs_sync : Bool
  pub steps : List StepSaid
  pub gathered : IsGatheredFrom m IsText old inputs mid needs_sync steps
  pub is_synced : IsGroupSynced ⊤ mid needs_sync new
  pub sends : said ≡ said_by_steps old.node.header.node steps
  pub alive : new.failed ≡ false

-- memory ran out for the result of a step, which ended the replica
pub record IsNotKept (mid new : ReplicaValue) (number : ℕ) : Type 0 where
  pub no_memory : number ≡ 8
  pub ends : new ≡ record mid { failed = true }

-- memory ran out for what was to be sent, once it was synced
pub record IsNotSent (mid : ReplicaValue) (needs_sync : Bool) (new : ReplicaValue) (number : ℕ) : Type 0 where
  pub not_sent : number ≡ 15
  pub is_synced : IsGroupSynced ⊤ mid needs_sync new

-- it took the first of these, and then a call failed with this; nothing was sent
pub record IsTogetherRefused (m : Meaning) (IsText : List ℕ → Type 0) (old : ReplicaValue) (inputs : List Input)
    (new : ReplicaValue) (number : ℕ) : Type 0 where
  pub done : List Input
  pub rest : List Input
  pub are : done ++ rest ≡ inputs
  pub mid : ReplicaValue
  pub needs_sync : Bool
  pub steps : List StepSaid
  pub gathered : IsGatheredFrom m IsText old done mid needs_sync steps
  pub refused : IsRefusedInGroup ⊤ ⊤ mid new number ⊎ IsNotKept mid new number ⊎ IsNotSent mid needs_sync new number

-- the result of a call
abbrev pub ComesToAll : Meaning → (List ℕ → Type 0) → ReplicaValue → List Input → ReplicaValue
    → Result (List (List Note × List Datagram)) ℕ → Type 0
ComesToAll m IsText old inputs new (Ok said) = IsTakenTogether m IsText old inputs new said
ComesToAll m IsText old inputs new (Err number) = IsTogetherRefused m IsText old inputs new number
