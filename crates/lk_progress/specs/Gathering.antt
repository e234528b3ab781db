-- How a node that lacks the commands of a snapshot gathers it, part by part, and installs it when it is whole.
use Rattle.std.specs.Prelude.{◌≡◌, ◌⊎◌, ℕ, ◌+◌, ◌*◌, ◌<◌, ◌≤◌, true, Some, List, length, map, take}
use Rattle.lk_types.specs.Limits.{max_part}
use Rattle.lk_messages.specs.Values.{PartValue}
use Rattle.lk_messages.specs.declared.message.Content.{Content}
use Rattle.lk_messages.specs.declared.message.Content.TheVariants as content
use Rattle.lk_messages.specs.declared.message.NodeMessage.TheVariants as kinds
use Rattle.lk_learner.specs.Gathering.{starts_text}
use Rattle.lk_learner.specs.Learners.{LearnerValue, WholeValue, executed, alpha}
use Rattle.lk_learner.specs.Parts.{part_of, AreParts}
use Rattle.lk_learner.specs.Unpacking.{Unpacks}
use Rattle.lk_state.specs.Meanings.{Meaning}
use Rattle.lk_node_interface.specs.Envelopes.{EnvelopeValue}
use Rattle.lk_node.specs.NodeValue.{NodeValue}
use Rattle.lk_progress.specs.Hearing.{TakesEach}

-- the first bytes of the snapshot at this position are gathered, and nothing else
abbrev pub HasFirst : LearnerValue → ℕ → List ℕ → ℕ → Type 0
HasFirst l position text count =
    l.gathered ≡ Some (record { position = position; total = length text; bytes = take count text })

-- so many of them are, or none because nothing is gathered, or an older snapshot
abbrev pub HasSoFar : LearnerValue → ℕ → List ℕ → ℕ → Type 0
HasSoFar l position text count =
    ((count ≡ 0) × (starts_text l.gathered (part_of position text 0) ≡ true)) ⊎ HasFirst l position text count

-- the datagrams that carry these parts
abbrev pub parts_from : ℕ → List PartValue → List Content
parts_from from parts = map (λ p. content.Node from (kinds.Part p)) parts

-- with these parts the snapshot is whole, and the node has executed as much as it; or it is not yet, and is gathered as
-- far as the parts go, and nothing is executed
abbrev pub GetsOn : NodeValue → NodeValue → ℕ → List ℕ → ℕ → Type 0
GetsOn old new position text reached =
    ((length text ≤ reached) × (position ≤ executed new.learner))
    ⊎ ((reached < length text) × HasFirst new.learner position text reached
    × (new.learner.whole ≡ old.learner.whole))

-- A node that has executed less than a snapshot and has gathered its first bytes hears the parts that follow, in order.
-- They are as a node that is asked for them sends them, and the text is the packed one of a state.
abbrev pub PartsAreInstalled : Meaning → (List ℕ → Type 0) → Type 0
PartsAreInstalled m IsText = (old new : NodeValue) (from position count : ℕ) (text : List ℕ) (w : WholeValue)
    (parts : List PartValue) (envelopes : List EnvelopeValue)
    → 1 ≤ alpha old.learner → executed old.learner < position → Unpacks IsText (alpha old.learner) position text w
    → count < length text → HasSoFar old.learner position text count → AreParts position text count parts
    → TakesEach m IsText (parts_from from parts) old new envelopes
    → GetsOn old new position text (count + length parts * max_part)
