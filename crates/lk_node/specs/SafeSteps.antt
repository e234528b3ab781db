-- When a part of a step is safe: what it writes and sends is permitted in every history that the node fits.
use Rattle.std.specs.Prelude.{◌≡◌, ℕ, Bool, true, false, List, [], ◌∷◌, Contains}
use Rattle.std.specs.List.{AllByRecursion}
use Rattle.lk_types.specs.declared.entry.Entry.{Entry}
use Rattle.lk_messages.specs.Grammar.{spelling, IsMessage}
use Rattle.lk_messages.specs.declared.message.NodeMessage.{NodeMessage}
use Rattle.lk_messages.specs.declared.message.NodeMessage.TheVariants as kinds
use Rattle.lk_store_format.specs.Values.{HeaderValue}
use Rattle.lk_state.specs.Meanings.{Meaning}
use Rattle.lk_agreement_laws.specs.Acceptors.{AcceptorState, Covers}
use Rattle.lk_acceptor.specs.States.{acceptor_with}
use Rattle.lk_node_interface.specs.Envelopes.{EnvelopeValue, batch_of}
use Rattle.lk_node_interface.specs.Outboxes.{OutboxValue}
use Rattle.lk_node_interface.specs.Saying.{saying}
use Rattle.lk_node_interface.specs.declared.note.Note.{Note}
use Rattle.lk_node.specs.Calls.{MayGo}
use Rattle.lk_node.specs.Entries.{Rests}
use Rattle.lk_node.specs.Histories.{History, Datagram, IsLawful}
use Rattle.lk_node.specs.Holdings.{Holding, HoldingFits}
use Rattle.lk_node.specs.Keeping.{IsDecidedEntry, IsKnown, IsHeld}
use Rattle.lk_node.specs.Leavings.{header_of}
use Rattle.lk_node.specs.NodeValue.{NodeValue}
use Rattle.lk_node.specs.BorneOut.{IsBorneOut, IsOfNode}

-- the message is neither a promise nor a vote: a rebase leaves what permits it
abbrev pub IsNeitherPromiseNorVote : NodeMessage → Type 0
IsNeitherPromiseNorVote (kinds.Promise p) = ⊥
IsNeitherPromiseNorVote (kinds.Accepted x) = ⊥
IsNeitherPromiseNorVote _ = Unit {0}

-- the envelope spells a message of a node of this header, which what its acceptor holds covers; if the step rebases, it
-- is neither a promise nor a vote
pub record IsCoveredEnvelope (whose : HeaderValue) (acceptor : AcceptorState) (rebase : Bool)
    (l : EnvelopeValue) : Type 0 where
  pub message : NodeMessage
  pub fits : IsMessage (saying whose message)
  pub bytes : l.bytes ≡ spelling (saying whose message)
  pub covers : Covers acceptor message
  pub rebased : rebase ≡ true → IsNeitherPromiseNorVote message

-- what the acceptor holds after these entries are written
abbrev pub with_entries : List Entry → AcceptorState → AcceptorState
with_entries [] s = s
with_entries (e ∷ es) s = with_entries es (acceptor_with e s)

-- Whatever has happened: since the node was this first one, the entries tell what its acceptor now holds, only decided
-- commands are unsynced, and the acceptor covers what the envelopes tell. If the step rebases, the acceptor is
-- unchanged.
pub record Binds (first now : NodeValue) (out : OutboxValue) : Type 0 where
  pub header : now.header ≡ first.header
  pub written : now.acceptor.state ≡ with_entries out.entries first.acceptor.state
  pub unsynced : out.sync ≡ false → AllByRecursion IsDecidedEntry out.entries
  pub still : out.rebase ≡ true → now.acceptor.state ≡ first.acceptor.state
  pub tells : (l : EnvelopeValue) → Contains out.envelopes l → IsCoveredEnvelope now.header
      now.acceptor.state out.rebase l

-- In this history: what the node holds fits, and permits the envelopes; what it writes rests on what was sent, and a
-- chosen list bears out each note. It knows what it writes unsynced, and what was unsynced before.
pub record IsSafeStep (m : Meaning) (h : History) (n : ℕ) (loose : List Entry) (now : NodeValue)
    (out : OutboxValue) : Type 0 where
  pub lawful : IsLawful m h
  pub whose : now.header ≡ header_of h.genesis n
  pub holding : Holding
  pub held : IsHeld m now h.genesis holding
  pub fits : HoldingFits m h n holding
  pub rests : AllByRecursion (Rests h) out.entries
  pub known : AllByRecursion (IsKnown holding.paxos) loose
  pub known_unsynced : out.sync ≡ false → AllByRecursion (IsKnown holding.paxos) out.entries
  pub may : (d : Datagram) → Contains (batch_of n out.envelopes) d → MayGo m h n holding.paxos d
  pub noted : (x : Note) → Contains out.notes x → IsOfNode x × IsBorneOut m h x

-- A part of a step continues what the parts before it did, in each history in which it heard this.
pub record ActsSafely (m : Meaning) (Heard : History → Type 0) (old new : NodeValue)
    (before after : OutboxValue) : Type 0 where
  pub binds : (first : NodeValue) → Binds first old before → Binds first new after
  pub continues : (h : History) (n : ℕ) (loose : List Entry) → IsSafeStep m h n loose old before → Heard h
      → IsSafeStep m h n loose new after
