-- Bytes that no node has sent: the request that they spell, and when they are forged.
use Rattle.std.specs.Prelude.{◌≡◌, ℕ, List, Option, Some}
use Rattle.lk_messages.specs.Grammar.{Spells}
use Rattle.lk_messages.specs.declared.message.Message.{Message}
use Rattle.lk_messages.specs.declared.message.Content.TheVariants as content
use Rattle.lk_node.specs.Histories.{RequestValue}

-- whatever the bytes spell is this request
abbrev pub Reads : List ℕ → Option RequestValue → Type 0
Reads bytes o = (x : Message) → Spells x bytes → (r : RequestValue) × (x.content ≡ content.Request r) × (o ≡ Some r)

-- the bytes spell the request, if there is one, and nothing if there is none
pub record IsRequestIn (bytes : List ℕ) (o : Option RequestValue) : Type 0 where
  pub only : Reads bytes o
  pub spelled : (r : RequestValue) → o ≡ Some r
      → (cluster : ℕ) × Spells (record { cluster = cluster; content = content.Request r }) bytes

-- the bytes are a datagram that only a node sends
pub record IsForged (bytes : List ℕ) : Type 0 where
  pub message : Message
  pub spelled : Spells message bytes
  pub of_node : (r : RequestValue) → message.content ≡ content.Request r → ⊥
