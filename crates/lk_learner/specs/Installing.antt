-- What a learner does with a snapshot of another node: it gathers it, and installs it.
use Rattle.std.specs.Prelude.{◌≡◌, ◌⊎◌, ◌<◌, ℕ, Bool, true, false, nat_lt, filter, List, [], length, Option, Some, None}
use Rattle.lk_messages.specs.Values.{PartValue}
use Rattle.lk_state.specs.Packed.{packed}
use Rattle.lk_learner.specs.Learners.{WholeValue, Pair, LearnerValue, GatheredValue, executed, alpha}
use Rattle.lk_learner.specs.Gathering.{heard}
use Rattle.lk_learner.specs.Unpacking.{Unpacks}

abbrev pub with_gathered : Option GatheredValue → LearnerValue → LearnerValue
with_gathered g l = record {
  whole = l.whole;
  snapshot_position = l.snapshot_position;
  snapshot = l.snapshot;
  retained = l.retained;
  pairs = l.pairs;
  gathered = g;
}

-- the learner after it has heard the part
abbrev pub hearing : PartValue → LearnerValue → LearnerValue
hearing p l = with_gathered (heard (executed l) l.gathered p) l

-- a text is gathered, and it is complete
pub record HasWhole (l : LearnerValue) (g : GatheredValue) : Type 0 where
  pub gathered : l.gathered ≡ Some g
  pub whole : length g.bytes ≡ g.total

-- a complete text is gathered, and it is that of this state, above what is executed
pub record MayInstall (IsText : List ℕ → Type 0) (l : LearnerValue) (w : WholeValue) : Type 0 where
  pub gathered : GatheredValue
  pub has : HasWhole l gathered
  pub above : executed l < gathered.position
  pub unpacks : Unpacks IsText (alpha l) gathered.position gathered.bytes w

-- the pairs above a position
abbrev pub pairs_above : ℕ → List Pair → List Pair
pairs_above i = filter (λ p. nat_lt i p.0)

-- the learner for this state: what was gathered is its snapshot, and of the pairs those above it are left
abbrev pub installed : WholeValue → LearnerValue → LearnerValue
installed w l = record {
  whole = w;
  snapshot_position = w.roster.executed;
  snapshot = packed w;
  retained = [];
  pairs = pairs_above w.roster.executed l.pairs;
  gathered = None;
}

-- if a complete text is that of a state, the state is installed; any other complete text is thrown away; without a
-- complete text nothing changes
abbrev pub Installs : (List ℕ → Type 0) → Bool → LearnerValue → LearnerValue → Type 0
Installs IsText went old new =
    ((went ≡ true) × ((w : WholeValue) × MayInstall IsText old w × (new ≡ installed w old)))
    ⊎ ((went ≡ false) × ((g : GatheredValue) × HasWhole old g) × ((w : WholeValue) → MayInstall IsText old w → ⊥)
    × (new ≡ with_gathered None old))
    ⊎ ((went ≡ false) × ((g : GatheredValue) → HasWhole old g → ⊥) × (new ≡ old))
