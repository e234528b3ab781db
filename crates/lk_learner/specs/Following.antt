-- When a learner's state is that of an executed list.
use Rattle.std.specs.Prelude.{◌≡◌, ◌≤◌, List, length, take, drop}
use Rattle.lk_agreement_laws.specs.Changes.{AreAmong}
use Rattle.lk_agreement_laws.specs.Datagrams.{Genesis}
use Rattle.lk_state.specs.Meanings.{Meaning}
use Rattle.lk_state.specs.Packed.{packed}
use Rattle.lk_state.specs.States.{SumsUp, whole_after}
use Rattle.lk_learner.specs.Learners.{Command, Pair, LearnerValue}

-- the learner has followed the list so far and knows these pairs: its state sums the list up, its snapshot's text is
-- that of the list up to the snapshot, what it serves is the list after it, and it keeps the same pairs, in any order
pub record AgreesWithList (m : Meaning) (genesis : Genesis) (done : List Command) (pairs : List Pair)
    (l : LearnerValue) : Type 0 where
  pub sums : SumsUp m genesis done l.whole
  pub within : l.snapshot_position ≤ length done
  pub text : l.snapshot ≡ packed (whole_after m genesis (take l.snapshot_position done))
  pub retained : l.retained ≡ drop l.snapshot_position done
  pub known : AreAmong l.pairs pairs
  pub kept : AreAmong pairs l.pairs
