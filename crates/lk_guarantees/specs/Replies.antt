-- The datagrams to clients: a list explains them as it explains the answers and passes of the trace.
use Rattle.std.specs.Prelude.{ℕ, List}
use Rattle.lk_types.specs.declared.answer.Answer.{Answer}
use Rattle.lk_types.specs.declared.command.Command.{Command}
use Rattle.lk_types.specs.declared.genesis.Genesis.{Genesis}
use Rattle.lk_messages.specs.Values.{PassedValue}
use Rattle.lk_messages.specs.declared.message.Answered.{Answered}
use Rattle.lk_messages.specs.declared.message.NodeMessage.TheVariants as message
use Rattle.lk_agreement_laws.specs.Datagrams.{Datagram}
use Rattle.lk_guarantees.specs.Chosen.{Says}
use Rattle.lk_guarantees.specs.Plain.{GivesAnswer}

-- the list explains each datagram that answers a request, or tells of a greater number
pub record ExplainsReplies (genesis : Genesis) (sent : List Datagram) (L : List Command) : Type 0 where
  pub answers : (node : ℕ) (a : Answered) → Says genesis sent node (message.Answer a)
      → GivesAnswer genesis L a.client a.number a.answer
  pub passes : (node : ℕ) (p : PassedValue) → Says genesis sent node (message.Passed p)
      → (answer : Answer) × GivesAnswer genesis L p.client p.last answer
