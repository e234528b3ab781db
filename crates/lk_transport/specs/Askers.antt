-- Probes that a node answers: which ones, whom they name, where the report goes, and whose address they make known.
use Rattle.std.specs.Prelude.{◌≡◌, ◌≢◌, ◌⊎◌, ◌++◌, ℕ, List, [], ◌∷◌, length, Option, Some, None}
use Rattle.std.specs.Prelude.{IsSome}
use Rattle.std.specs.declared.net.socket_addr.SocketAddr.{SocketAddr}
use Rattle.lk_probe.specs.Grammar.{SpellsProbe, node_in}
use Rattle.lk_probe.specs.declared.probe.Probe.{Probe}
use Rattle.lk_auth.specs.Seals.{key_list, heard}
use Rattle.lk_auth.specs.declared.seals.Seals.{Seals}
use Rattle.lk_node_interface.specs.declared.to.To.{To}
use Rattle.lk_node_interface.specs.declared.to.To.TheVariants.{Node, Client}
use Rattle.lk_types.specs.declared.member.Member.{Member}
use Rattle.lk_address_book.specs.Addresses.{AddressBook}
use Rattle.lk_address_book.specs.Probers.{RecordsProber, port_among}
use Rattle.lk_transport.specs.Posts.{SendState, IsRoute, Loses, frame_of, keys_for}
use Rattle.lk_transport.specs.declared.received_probe.ReceivedProbe.{ReceivedProbe}

-- if the nodes have a key, a probe that names a node came sealed: the datagram is shorter than the frame
abbrev pub IsSealedAsNamed : Seals → List ℕ → Probe → Type 0
IsSealedAsNamed s frame p = IsSome p.origin → key_list s.nodes ≢ [] → length frame ≢ length (heard s frame)

-- the frame carries this probe, which the node that has these seals answers
pub record CarriesProbe (s : Seals) (frame : List ℕ) (p : Probe) : Type 0 where
  pub spelled : SpellsProbe p (heard s frame)
  pub cluster : p.cluster ≡ s.cluster
  pub sealed : IsSealedAsNamed s frame p

-- a frame, with its source, carries this probe, or none that the node answers
abbrev pub BringsProbe : Seals → SocketAddr × List ℕ → Option ReceivedProbe → Type 0
BringsProbe s d None = (p : Probe) → CarriesProbe s d.1 p → ⊥
BringsProbe s d (Some a) = (a.from ≡ d.0) × CarriesProbe s d.1 a.probe

-- the client or the node that asks, if the probe names one
abbrev pub who : Option ℕ → Option ℕ → Option To
who (Some c) _ = Some (Client c)
who None (Some n) = Some (Node n 0)
who None None = None

abbrev pub asker : Probe → Option To
asker p = who p.client (node_in p.origin)

-- the form in which a report is sent: framed for the asker, or unchanged if the probe names none
abbrev pub frame_for : Seals → Option To → List ℕ → List ℕ
frame_for s None report = report
frame_for s (Some to) report = frame_of s to report

-- the keys under which it is sent
abbrev pub keys_to : Seals → Option To → List (List ℕ)
keys_to s None = []
keys_to s (Some to) = keys_for s to

-- a frame is sent there, once, if the socket reveals that, and no envelope is kept
pub record SendsTo (observable : Type 0) (address : SocketAddr) (frame : List ℕ) (old new : SendState) : Type 0 where
  pub loopback : new.loopback ≡ old.loopback
  pub sent : observable → new.sent ≡ old.sent ++ (address, frame) ∷ []
  pub failures : observable → new.failures ≡ old.failures

-- the address that is known, or else this one
abbrev pub known_or_from : Option SocketAddr → SocketAddr → SocketAddr
known_or_from None from = from
known_or_from (Some address) from = address

-- where a report goes: to a member whose port is that, where its envelopes go, if that is known; else to where the
-- probe came from
abbrev pub IsReplyTo : AddressBook → ℕ → Option ℕ → SocketAddr → SocketAddr → Type 0
IsReplyTo b node None from address = address ≡ from
IsReplyTo b node (Some port) from address =
    (route : Option SocketAddr) × IsRoute b (Node node port) route × (address ≡ known_or_from route from)

abbrev pub IsReplyOf : AddressBook → List Member → Option ℕ → SocketAddr → SocketAddr → Type 0
IsReplyOf b ms None from address = address ≡ from
IsReplyOf b ms (Some node) from address = IsReplyTo b node (port_among ms node) from address

-- so of a probe, by the node that it names
abbrev pub IsReplyAddress : AddressBook → List Member → ReceivedProbe → SocketAddr → Type 0
IsReplyAddress b ms a address = IsReplyOf b ms (node_in a.probe.origin) a.from address

-- a report goes there, and is sent or lost
abbrev pub Replies : Type 0 → Seals → ReceivedProbe → SocketAddr → List ℕ → SendState → SendState → Type 0
Replies observable s a address bytes old new =
    SendsTo observable address (frame_for s (asker a.probe) bytes) old new
    ⊎ Loses observable (keys_to s (asker a.probe)) old new

-- the address of a kept probe, if there is one, is recorded as `RecordsProber` says
abbrev pub RecordsKeptProber : ℕ → List Member → Option ReceivedProbe → AddressBook → AddressBook → Type 0
RecordsKeptProber own ms None old new = new ≡ old
RecordsKeptProber own ms (Some a) old new = RecordsProber own ms a.probe.origin a.from old new
