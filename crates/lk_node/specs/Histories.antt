-- A history: the genesis, all datagrams sent and all requests asked, and when it is lawful.
pub use Rattle.lk_types.specs.declared.genesis.Genesis.{Genesis}
pub use Rattle.lk_types.specs.declared.command.Request.{Request as RequestValue}
pub use Rattle.lk_types.specs.declared.command.Command.{Command}
pub use Rattle.lk_types.specs.declared.command.Command.TheVariants.{Noop, Request}
pub use Rattle.lk_agreement_laws.specs.Datagrams.{Datagram}
use Rattle.std.specs.Prelude.{ℕ, List, ◌++◌, Contains}
use Rattle.lk_messages.specs.Grammar.{Spells}
use Rattle.lk_messages.specs.Values.{PartValue}
use Rattle.lk_messages.specs.declared.message.Content.TheVariants as content
use Rattle.lk_messages.specs.declared.message.NodeMessage.TheVariants.{Part}
use Rattle.lk_agreement_laws.specs.Datagrams.{NodeMessage, Vote, Accept, said_by, HasSent, WasSent}
use Rattle.lk_agreement_laws.specs.Snapshots.{IsSlice}
use Rattle.lk_agreement_laws.specs.Soundness.{Sound}
use Rattle.lk_state.specs.Meanings.{Meaning}
use Rattle.lk_state.specs.Packed.{packed}
use Rattle.lk_state.specs.States.{whole_after}

-- the genesis of the cluster, all datagrams that were ever sent, and all requests that were ever asked
pub record History : Type 0 where
  pub genesis : Genesis
  pub sent : List Datagram
  pub asked : List RequestValue

-- the history in which these were sent too
abbrev pub later : History → List Datagram → History
later h more = record { genesis = h.genesis; sent = h.sent ++ more; asked = h.asked }

-- the command is a no-op, or a request that was asked
abbrev pub WasAsked : History → Command → Type 0
WasAsked h Noop = Unit {0}
WasAsked h (Request r) = Contains h.asked r

-- the packed text of the state that a list leaves
abbrev pub text : Meaning → Genesis → List Command → List ℕ
text m genesis L = packed (whole_after m genesis L)

-- everything that was ever sent is sound, what was proposed was asked, and each part of a snapshot is a slice of a
-- chosen list's text
pub record IsLawful (m : Meaning) (h : History) : Type 0 where
  pub sound : Sound h.genesis h.sent
  pub asked : (x : Vote) → WasSent h.genesis h.sent (Accept x) → WasAsked h x.command
  pub parts : (n : ℕ) (p : PartValue) → HasSent h.genesis h.sent n (Part p)
      → IsSlice h.genesis h.sent (text m h.genesis) p.position p.total p.offset p.bytes

-- bytes that may arrive: what they say on behalf of a node of the cluster, that node has sent, and what they ask of the
-- cluster was asked. Nothing is assumed of what they say or ask in another cluster
pub record IsHeard (h : History) (bytes : List ℕ) : Type 0 where
  pub said : (n : ℕ) (m : NodeMessage) → Spells (said_by h.genesis n m) bytes → HasSent h.genesis h.sent n m
  pub asked : (r : RequestValue)
      → Spells (record { cluster = h.genesis.cluster; content = content.Request r }) bytes → Contains h.asked r
