-- How a node restarts: the node that a standing becomes, when a restart fails, and what it leaves on the disks.
use Rattle.std.specs.Prelude.{◌≡◌, ℕ, ◌⊎◌, ◌+◌, ◌*◌, ◌≤◌, ◌==◌, if◌then◌else◌, false, None, List, [], ◌∷◌, length, drop}
use Rattle.std.specs.Prelude.{Contains}
use Rattle.lk_types.specs.Limits.{max_count}
use Rattle.lk_types.specs.declared.vote.Vote.{Vote}
use Rattle.lk_disk.specs.Disk.{Disk}
use Rattle.lk_disk.specs.Meters.{CallsSucceed}
use Rattle.lk_disk.specs.declared.device.Side.{Side}
use Rattle.lk_disk.specs.declared.meter.Meter.{Meter}
use Rattle.lk_store_format.specs.Formats.{format}
use Rattle.lk_store_format.specs.Bases.{generation}
use Rattle.lk_store_format.specs.Values.{HeaderValue, StandingValue, BaseValue}
use Rattle.lk_store_format.specs.declared.stored.Stored.{Stored}
use Rattle.lk_store_format.specs.declared.stored.Stored.TheVariants.{Base}
use Rattle.lk_log.specs.Causes.{rebase_calls}
use Rattle.lk_log.specs.Images.{Image, MayLeaveBoth, IsDamaged, IsEmpty, IsLive, SameMeaning, seen}
use Rattle.lk_log.specs.Stores.{IsWrong, Opens, OpensBy, first_base}
use Rattle.lk_log.specs.StoreValue.{StoreValue}
use Rattle.lk_state.specs.Meanings.{Meaning}
use Rattle.lk_state.specs.Packed.{Packs, packed}
use Rattle.lk_state.specs.Runs.{ran}
use Rattle.lk_state.specs.States.{WholeValue}
use Rattle.lk_leader.specs.Terms.{new_leader}
use Rattle.lk_learner.specs.Learners.{Pair, LearnerValue}
pub use Rattle.lk_learner.specs.Unpacking.{Unpacks}
use Rattle.lk_node_interface.specs.declared.note.Note.{Note}
use Rattle.lk_node_interface.specs.declared.note.Note.TheVariants.{Ran}
use Rattle.lk_node.specs.Executing.{NothingToRun}
use Rattle.lk_node.specs.Histories.{Genesis, Command}
use Rattle.lk_node.specs.Leavings.{header_of, acceptor_of, StandsAs}
use Rattle.lk_node.specs.NodeValue.{NodeValue}
use Rattle.lk_recovery.specs.Compacting.{AreSame}
use Rattle.lk_node.specs.BorneOut.{text}

-- the commands of the pairs from the next position on, up to the first gap
abbrev pub run_from : ℕ → List Pair → List Command
run_from e [] = []
run_from e (p ∷ ps) = if p.0 == e + 1 then p.1 ∷ run_from (e + 1) ps else []

-- the state once these commands are executed
abbrev pub all_ran : Meaning → List Command → WholeValue → WholeValue
all_ran m [] w = w
all_ran m (v ∷ vs) w = all_ran m vs (ran m v w)

-- the notes of their execution, after this many executed positions
abbrev pub notes_of : ℕ → ℕ → List Command → List Note
notes_of n e [] = []
notes_of n e (v ∷ vs) = Ran n (e + 1) v ∷ notes_of n (e + 1) vs

-- the learner for this state, after it has learned of these pairs and executed what it could
abbrev pub relearned : Meaning → WholeValue → List Pair → LearnerValue
relearned m w pairs = record {
  whole = all_ran m (run_from w.roster.executed pairs) w;
  snapshot_position = w.roster.executed;
  snapshot = packed w;
  retained = run_from w.roster.executed pairs;
  pairs = drop (length (run_from w.roster.executed pairs)) pairs;
  gathered = None;
}

-- how many positions are executed after these pairs
abbrev pub reached : ℕ → List Pair → ℕ
reached e pairs = e + length (run_from e pairs)

-- a node may restart from the standing: its snapshot unpacks, and no vote or pair is more than twice alpha above what
-- is then executed
pub record MayRevive (IsText : List ℕ → Type 0) (whose : HeaderValue) (s : StandingValue)
    (w : WholeValue) : Type 0 where
  pub unpacks : Unpacks IsText whose.alpha s.position s.snapshot w
  pub votes : (v : Vote) → Contains s.votes v → v.position ≤ reached s.position s.pairs + 2 * whose.alpha
  pub pairs : (p : Pair) → Contains s.pairs p → p.0 ≤ reached s.position s.pairs + 2 * whose.alpha

-- the resulting node
abbrev pub revived : Meaning → HeaderValue → StandingValue → WholeValue → NodeValue
revived m whose s w = record {
  header = whose;
  acceptor = record { alpha = whose.alpha; state = acceptor_of s };
  learner = relearned m w s.pairs;
  leader = new_leader;
  ticks = 0;
  rounds = 0;
  known = None;
  gathered_before = 0;
  halted = false;
}

-- the standing restarts as this node, with these notes
pub record Restores (m : Meaning) (IsText : List ℕ → Type 0) (whose : HeaderValue) (s : StandingValue)
    (node : NodeValue) (notes : List Note) : Type 0 where
  pub whole : WholeValue
  pub may : MayRevive IsText whose s whole
  pub only : (w : WholeValue) → Packs IsText w s.snapshot → whole ≡ w
  pub node_is : node ≡ revived m whose s whole
  pub notes_are : notes ≡ notes_of whose.node s.position (run_from s.position s.pairs)

-- the standing of these disks, or of a new store, restarts as this store and this node, with these notes
pub record RestartsAs (m : Meaning) (IsText : List ℕ → Type 0) (disks : Side → Disk) (whose : HeaderValue)
    (node : NodeValue) (store : StoreValue) (notes : List Note) : Type 0 where
  pub genesis : Genesis
  pub whose_is : whose ≡ header_of genesis whose.node
  pub standing : StandingValue
  pub opens : Opens (seen disks) whose (text m genesis []) store standing
  pub restores : Restores m IsText whose standing node notes

-- it has restarted with this header and goes on, whatever the format of its file: its store has not failed, its node
-- has not halted, and it has executed what it can
pub record HasRestarted (header : HeaderValue) (node : NodeValue) (store : StoreValue) : Type 0 where
  pub whose : store.header ≡ header
  pub of_node : node.header ≡ header
  pub store_alive : store.failed ≡ false
  pub awake : node.halted ≡ false
  pub runs : NothingToRun node

-- the live file has format 1
abbrev pub IsOld : Image → Type 0
IsOld image = (es : List Stored) × IsLive image es × (format es ≡ 1)

-- the live file has format 1 and the last generation, so it cannot be converted
abbrev pub IsLastOld : Image → Type 0
IsLastOld image = (es : List Stored) × IsLive image es × (format es ≡ 1) × (max_count ≤ generation es)

-- how many changing calls of the device convert it to format 2
pub record RenewsBy (image : Image) (k : ℕ) : Type 0 where
  pub old : IsOld image → k ≡ rebase_calls
  pub rests : (IsOld image → ⊥) → k ≡ 0

-- the changing calls of a metered device in which a store was opened
abbrev pub CallsOfOpening : (Side → Disk) → Meter → Meter → Type 0
CallsOfOpening disks m n = (k : ℕ) × OpensBy (seen disks) k × CallsSucceed m n k

-- the same, and it was converted to format 2 if it had format 1
abbrev pub CallsOfRevival : (Side → Disk) → Meter → Meter → Type 0
CallsOfRevival disks m n = (k j : ℕ) × OpensBy (seen disks) k × RenewsBy (seen disks) j × CallsSucceed m n (k + j)

-- each image of the new disks has the verdict and the entries of an image of the old ones, or is a new store if there
-- was none, or, if the file had format 1, has its entries or the Base of format 2 of the next generation alone
abbrev pub NarrowsOrRenews : (Side → Disk) → (Side → Disk) → HeaderValue → List ℕ → Type 0
NarrowsOrRenews old new whose zero = (image : Image) → MayLeaveBoth new image
    → ((before : Image) × MayLeaveBoth old before × SameMeaning before image)
    ⊎ (IsEmpty (seen old) × IsLive image (Base (first_base whose zero) ∷ []))
    ⊎ ((es : List Stored) × IsLive (seen old) es × (format es ≡ 1)
    × (IsLive image es ⊎ ((b : BaseValue) × (b.format ≡ 2) × (b.generation ≡ generation es + 1)
    × IsLive image (Base b ∷ []))))

-- no node may restart from the standing of these disks
pub record NoneRevives (m : Meaning) (IsText : List ℕ → Type 0) (disks : Side → Disk)
    (whose : HeaderValue) : Type 0 where
  pub genesis : Genesis
  pub whose_is : whose ≡ header_of genesis whose.node
  pub standing : StandingValue
  pub stands : StandsAs whose (text m genesis []) (seen disks) standing
  pub none : (w : WholeValue) → MayRevive IsText whose standing w → ⊥

-- a node may restart from the standing of these disks
pub record SomeRevives (m : Meaning) (IsText : List ℕ → Type 0) (disks : Side → Disk)
    (whose : HeaderValue) : Type 0 where
  pub genesis : Genesis
  pub whose_is : whose ≡ header_of genesis whose.node
  pub standing : StandingValue
  pub stands : StandsAs whose (text m genesis []) (seen disks) standing
  pub whole : WholeValue
  pub may : MayRevive IsText whose standing whole

-- a restart from these disks failed with the fault of this number for its cause, and left those disks: 9 if the files
-- are damaged or no node may restart from what they stand for, 10 if they are another's, and 11 if the file has format
-- 1, no generation is left for a rebase, and a node may restart from what the file stands for: 9 has precedence.
-- Damaged files and another's are unchanged
pub record IsRefusedFor (m : Meaning) (IsText : List ℕ → Type 0) (old : Side → Disk) (whose : HeaderValue) (number : ℕ)
    (left : Side → Disk) : Type 0 where
  pub damaged : number ≡ 9 → IsDamaged (seen old) ⊎ NoneRevives m IsText old whose
  pub wrong : number ≡ 10 → IsWrong (seen old) whose
  pub last : number ≡ 11 → IsLastOld (seen old)
  pub last_revives : number ≡ 11 → SomeRevives m IsText old whose
  pub damaged_stays : IsDamaged (seen old) → number ≡ 9 → AreSame old left
  pub wrong_stays : number ≡ 10 → AreSame old left
