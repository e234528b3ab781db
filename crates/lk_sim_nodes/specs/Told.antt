-- The notes of the answers and passes among datagrams.
use Rattle.std.specs.Prelude.{◌≡◌, ℕ, List, [], ◌∷◌, ◌++◌, Option, Some, None}
use Rattle.lk_messages.specs.Grammar.{Spells}
use Rattle.lk_messages.specs.declared.message.Content.{Content}
use Rattle.lk_messages.specs.declared.message.Content.TheVariants as content
use Rattle.lk_messages.specs.declared.message.Message.{Message}
use Rattle.lk_messages.specs.declared.message.NodeMessage.{NodeMessage}
use Rattle.lk_messages.specs.declared.message.NodeMessage.TheVariants as kinds
use Rattle.lk_node_interface.specs.declared.note.Note.{Note}
use Rattle.lk_node_interface.specs.declared.note.Note.TheVariants as note
use Rattle.lk_node.specs.Histories.{Datagram}

-- the note of an answer or a pass
abbrev pub told_by_node : ℕ → NodeMessage → List Note
told_by_node n (kinds.Answer a) = note.Answered n a.client a.number a.answer ∷ []
told_by_node n (kinds.Passed p) = note.Told n p.client p.number p.last ∷ []
told_by_node n _ = []

abbrev pub told_by : Content → List Note
told_by (content.Request r) = []
told_by (content.Node n x) = told_by_node n x

-- these notes are, in order, exactly those of the answers and passes among the datagrams
abbrev pub NotesReplies : List Datagram → List Note → Type 0
NotesReplies [] notes = notes ≡ []
NotesReplies (d ∷ ds) notes =
    (m : Message) × (rest : List Note) × Spells m d.bytes × (notes ≡ told_by m.content ++ rest) × NotesReplies ds rest

abbrev pub listed : Option Note → List Note
listed None = []
listed (Some x) = x ∷ []
