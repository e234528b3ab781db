-- The replies to a list of requests: each request that takes effect once, at its position.
use Rattle.std.specs.Prelude.{◌≡◌, ℕ, is_some, if◌then◌else◌, Some, List, [], ◌∷◌, ◌++◌, Contains}
use Rattle.lk_types.specs.declared.answer.Answer.{Answer}
use Rattle.lk_members.specs.Effects.{Command, RequestValue, Request, PositionedEntry, positioned, in_effect}
use Rattle.lk_locks.specs.Lists.{table_of, table_answer}

-- the client's request of that number takes effect in the list, and at its position the table gives this answer
pub record IsReply (L : List Command) (client number : ℕ) (answer : Answer) : Type 0 where
  pub entry : PositionedEntry
  pub is_listed : Contains (positioned L) entry
  pub request : RequestValue
  pub effective : in_effect entry.before entry.entry ≡ Some request
  pub of_client : request.client ≡ client
  pub of_number : request.number ≡ number
  pub answered : table_answer request.client request.op (table_of entry.before) ≡ Some answer

-- the list with a request: it is appended if it takes effect there, and otherwise adds nothing
abbrev pub with_request : List Command → RequestValue → List Command
with_request L r = if is_some (in_effect L (Request r)) then L ++ Request r ∷ [] else L
