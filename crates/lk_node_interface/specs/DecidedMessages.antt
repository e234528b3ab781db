-- The Decided message of one position.
use Rattle.std.specs.Prelude.{[], ◌∷◌}
use Rattle.lk_messages.specs.declared.message.NodeMessage.{NodeMessage}
use Rattle.lk_messages.specs.declared.message.NodeMessage.TheVariants as kinds
use Rattle.lk_learner.specs.Learners.{Pair}

-- that the pair is decided
abbrev pub decided_message : Pair → NodeMessage
decided_message p = kinds.Decided (record { first = p.0; commands = p.1 ∷ [] })
