-- Bytes spell one message, so a datagram that is heard was sent.
use Rattle.std.proofs.Common.{◌≡◌, ℕ, List, ◌++◌, ◌⊎◌, Contains, ap, inl, inr}
use Rattle.std.proofs.lemmas.List.Elements.{Contains-append_cases}
use Rattle.lk_types.specs.declared.command.Request.{Request}
use Rattle.lk_messages.specs.Grammar.{Spells}
use Rattle.lk_messages.specs.declared.message.Content.TheVariants as content
use Rattle.lk_messages.proofs.Spellings.{one_message}
use Rattle.lk_agreement_laws.specs.Datagrams.{Genesis, Datagram, NodeMessage, Message, said_by, HasSent}
use Rattle.lk_agreement_laws.specs.Soundness.{Sound}
use Rattle.lk_agreement_laws.specs.Worlds.{IsClientRequest}

-- what one says is said by one node alone, and is one message
node_alike : (n k : ℕ) (m M : NodeMessage) → content.Node n m ≡ content.Node k M → (n ≡ k) × (m ≡ M)
node_alike n k m M e = (cc, cc)

pub said_alike : (genesis : Genesis) (n k : ℕ) (m M : NodeMessage) (bytes : List ℕ)
    → Spells (said_by genesis n m) bytes → Spells (said_by genesis k M) bytes → (n ≡ k) × (m ≡ M)
said_alike genesis n k m M bytes s t =
    node_alike n k m M (ap (λ (x : Message). x.content)
    (one_message (said_by genesis n m) (said_by genesis k M) bytes s t))

-- what was sent up to now was sent before, or is sent now
pub sent_cases : (genesis : Genesis) (sent new : List Datagram) (n : ℕ) (m : NodeMessage)
    → HasSent genesis (sent ++ new) n m → HasSent genesis sent n m ⊎ HasSent genesis new n m
sent_cases genesis sent new n m h =
    elim (Contains-append_cases sent new h.datagram h.listed) [
      | inl old ↦ inl (record { datagram = h.datagram; listed = old; from = h.from; spelled = h.spelled })
      | inr now ↦ inr (record { datagram = h.datagram; listed = now; from = h.from; spelled = h.spelled })
    ]

-- a datagram that says so was sent by the node that it names
pub heard_was_sent : (genesis : Genesis) (sent : List Datagram) → Sound genesis sent → (d : Datagram) → Contains sent d
    → (n : ℕ) (m : NodeMessage)
    → Spells (said_by genesis n m) d.bytes → HasSent genesis sent n m
heard_was_sent genesis sent sound d h n m s =
    record { datagram = d; listed = h; from = sound.signed d h n m s; spelled = s }

-- a client's request says nothing for a node
pub asked_is_no_saying : (genesis : Genesis) (d : Datagram) → IsClientRequest d → (n : ℕ) (m : NodeMessage)
    → Spells (said_by genesis n m) d.bytes → ⊥
asked_is_no_saying genesis d a n m s =
    no_node a.request n m (ap (λ (x : Message). x.content) (one_message _ _ d.bytes a.spelled s))
  where
    no_node : (r : Request) (k : ℕ) (x : NodeMessage) → content.Request r ≡ content.Node k x → ⊥
    no_node r k x e = cc e
