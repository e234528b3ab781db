-- Table mode: what each line prints.
use Rattle.std.specs.Prelude.{◌≡◌, ℕ, ◌<◌, ◌^◌, Bool, true, false, ◌&&◌, ◌==◌, List, ◌++◌, codes}
use Rattle.std.specs.Fmt.{decimal}
use Rattle.hex.specs.Hex.{encode_lower}
use Rattle.lk_types.specs.declared.answer.Answer.{Answer as AnswerValue}
use Rattle.lk_types.specs.declared.command.Op.{Op}
use Rattle.lk_types.specs.declared.command.Op.TheVariants.{Table, Join, Leave, Raise}
use Rattle.lk_messages.specs.declared.message.NodeMessage.{NodeMessage}
use Rattle.lk_messages.specs.declared.message.NodeMessage.TheVariants.{Answer, Passed}
use Rattle.lk_messages.specs.declared.message.Content.{Content}
use Rattle.lk_messages.specs.declared.message.Content.TheVariants as content
use Rattle.lk_messages.specs.declared.message.Message.{Message}
use Rattle.lk_messages.specs.Grammar.{spelling, Spells}
use Rattle.lk_members.specs.Effects.{Command, RequestValue, IsLast}
use Rattle.lk_script.specs.Replies.{IsReply, with_request}

-- the reply to a request, by the list in which it is if it takes effect
pub data Replies (L : List Command) (r : RequestValue) : NodeMessage → Type 0 where
  -- the number is the client's last one: the answer that it got
  answers : (a : AnswerValue) → IsLast L r.client r.number → IsReply L r.client r.number a
      → Replies L r (Answer (record { client = r.client; number = r.number; answer = a }))
  -- the number is below it: the last one
  passes : (last : ℕ) → IsLast L r.client last → r.number < last
      → Replies L r (Passed (record { client = r.client; number = r.number; last = last }))

-- a client's request to the cluster, and a message of node 1 of the cluster
abbrev pub from_client : ℕ → RequestValue → Message
from_client cluster r = record { cluster = cluster; content = content.Request r }

abbrev pub from_node : ℕ → NodeMessage → Message
from_node cluster m = record { cluster = cluster; content = content.Node 1 m }

-- the message is a client's request to the cluster
abbrev pub is_request : Content → Bool
is_request (content.Request r) = true
is_request (content.Node node m) = false

abbrev pub is_request_to : ℕ → Message → Bool
is_request_to cluster m = m.cluster == cluster && is_request m.content

-- it is for the lock table, and not for the members
abbrev pub is_for_table : Op → Bool
is_for_table (Table body) = true
is_for_table (Join node port) = false
is_for_table (Leave node) = false
is_for_table Raise = true

-- what a datagram to node 1 of the cluster prints, and the list after it
pub data Prints (cluster : ℕ) (L : List Command) (bytes : List ℕ) : List ℕ → List Command → Type 0 where
  -- the bytes are no datagram
  unreadable : ((m : Message) → Spells m bytes → ⊥) → Prints cluster L bytes (codes "bad") L
  -- a datagram of another kind, or a request to another cluster
  others : (m : Message) → Spells m bytes → is_request_to cluster m ≡ false
      → Prints cluster L bytes (codes "not a request") L
  -- a request to join or to leave
  not_here : (r : RequestValue) → Spells (from_client cluster r) bytes → is_for_table r.op ≡ false
      → Prints cluster L bytes (codes "not here") L
  -- a request for the lock table: the reply in hex; it is appended to the list if it takes effect
  replied : (r : RequestValue) (m : NodeMessage) → Spells (from_client cluster r) bytes → is_for_table r.op ≡ true
      → Replies (with_request L r) r m
      → Prints cluster L bytes (encode_lower (spelling (from_node cluster m))) (with_request L r)

-- the line that begins table mode
abbrev pub IsTableLine : List ℕ → ℕ → Type 0
IsTableLine line cluster = (cluster < 2 ^ 64) × (line ≡ codes "table " ++ decimal cluster)
