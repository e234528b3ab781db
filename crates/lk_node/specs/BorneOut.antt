-- When a chosen list justifies a node's notes, and its messages to clients.
use Rattle.lk_node_interface.specs.declared.note.Note.{Note}
use Rattle.lk_node_interface.specs.declared.note.Note.TheVariants as note
pub use Rattle.lk_node.specs.Histories.{text}
use Rattle.std.specs.Prelude.{◌≡◌, ◌+◌, ◌≤◌, ◌<◌, List, length, take, drop, Some, Contains}
use Rattle.lk_types.specs.declared.answer.Answer.{Answer}
use Rattle.lk_messages.specs.Values.{PartValue}
use Rattle.lk_messages.specs.declared.message.NodeMessage.{NodeMessage}
use Rattle.lk_messages.specs.declared.message.NodeMessage.TheVariants as kinds
use Rattle.lk_members.specs.Rosters.{members}
use Rattle.lk_state.specs.Meanings.{Meaning}
use Rattle.lk_state.specs.States.{reply}
use Rattle.lk_agreement_laws.specs.Chosen.{command_at, Chosen, ChosenAt}
use Rattle.lk_node.specs.Histories.{History, Genesis, Command}

-- the list bears out the note
abbrev pub BearsOut : Meaning → History → List Command → Note → Type 0
BearsOut m h L (note.Asked r) = Contains h.asked r
BearsOut m h L (note.Counted node i set v) =
    (i ≤ length L + h.genesis.alpha) × (set ≡ members h.genesis L i) × ChosenAt h.genesis h.sent i v
BearsOut m h L (note.Ran node i v) = command_at L i ≡ Some v
BearsOut m h L (note.Answered node client number answer) = reply m h.genesis L client number ≡ Some answer
BearsOut m h L (note.Told node client number last) =
    (number < last) × ((answer : Answer) × (reply m h.genesis L client last ≡ Some answer))

-- the list bears out the part: it reaches the part's position, and the part is a slice of the text there
pub record BearsOutPart (m : Meaning) (genesis : Genesis) (L : List Command) (p : PartValue) : Type 0 where
  pub reaches : p.position ≤ length L
  pub total : length (text m genesis (take p.position L)) ≡ p.total
  pub slice : p.bytes ≡ take (length p.bytes) (drop p.offset (text m genesis (take p.position L)))

-- what a list has to bear out of a message
abbrev pub BearsOutMessage : Meaning → History → List Command → NodeMessage → Type 0
BearsOutMessage m h L (kinds.Answer a) = reply m h.genesis L a.client a.number ≡ Some a.answer
BearsOutMessage m h L (kinds.Passed p) = (answer : Answer) × (reply m h.genesis L p.client p.last ≡ Some answer)
BearsOutMessage m h L (kinds.Part p) = BearsOutPart m h.genesis L p
BearsOutMessage m h L _ = Unit {0}

-- some chosen list bears out the note
pub record IsBorneOut (m : Meaning) (h : History) (x : Note) : Type 0 where
  pub under : List Command
  pub chosen : Chosen h.genesis h.sent under
  pub bears : BearsOut m h under x

-- some chosen list bears out the message
pub record MessageIsBorneOut (m : Meaning) (h : History) (x : NodeMessage) : Type 0 where
  pub under : List Command
  pub chosen : Chosen h.genesis h.sent under
  pub bears : BearsOutMessage m h under x

-- what a node itself notes: that it counted a majority, or executed a command. Answers and passes are noted as they
-- are sent
abbrev pub IsOfNode : Note → Type 0
IsOfNode (note.Asked r) = ⊥
IsOfNode (note.Counted node i set v) = Unit {0}
IsOfNode (note.Ran node i v) = Unit {0}
IsOfNode (note.Answered node client number answer) = ⊥
IsOfNode (note.Told node client number last) = ⊥
