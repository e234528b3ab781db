-- What a contract sees of what a node sends.
use Rattle.std.specs.Prelude.{ℕ, List, map}
use Rattle.lk_agreement_laws.specs.declared.party.Party.{Party}
use Rattle.lk_agreement_laws.specs.declared.party.Party.TheVariants as party
use Rattle.lk_agreement_laws.specs.Datagrams.{Datagram}
use Rattle.lk_node_interface.specs.declared.to.To.{To}
use Rattle.lk_node_interface.specs.declared.to.To.TheVariants as to

-- the recipient, and the bytes
pub record EnvelopeValue : Type 0 where
  pub to : To
  pub bytes : List ℕ

-- the recipient without its port
abbrev pub party_of : To → Party
party_of (to.Node n port) = party.Node n
party_of (to.Client c) = party.Client c

-- the datagram of a node's envelope
abbrev pub datagram_of : ℕ → EnvelopeValue → Datagram
datagram_of n l = record { from = party.Node n; to = party_of l.to; bytes = l.bytes }

-- those of a node's envelopes, in order
abbrev pub batch_of : ℕ → List EnvelopeValue → List Datagram
batch_of n envelopes = map (datagram_of n) envelopes
