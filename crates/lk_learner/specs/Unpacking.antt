-- When a text is the packed text of a state.
use Rattle.std.specs.Prelude.{◌≡◌, ℕ, List, length}
use Rattle.lk_state.specs.Packed.{Packs}
use Rattle.lk_learner.specs.Learners.{WholeValue}

-- the text is the packed one of a state at its position, with this alpha
pub record Unpacks (IsText : List ℕ → Type 0) (alpha position : ℕ) (text : List ℕ) (w : WholeValue) : Type 0 where
  pub packs : Packs IsText w text
  pub executed : w.roster.executed ≡ position
  pub sets : length w.roster.sets ≡ alpha
