-- How a node finds out which genesis each node that writes to it was started with: what it sends, whose datagrams it
-- accepts again, and which reports it reads.
use Rattle.std.specs.Prelude.{◌≡◌, ◌≢◌, ◌⊎◌, ℕ, nat_eq, Bool, true, false, List, [], length, Option, Some, None}
use Rattle.std.specs.Cmp.Lexicographic.{pointwise}
use Rattle.std.specs.declared.net.socket_addr.SocketAddr.{SocketAddr}
use Rattle.lk_probe.specs.Grammar.{SpellsProbe}
use Rattle.lk_probe.specs.Neighbours.{Readmits}
use Rattle.lk_probe.specs.Questions.{IsReportedOf, question}
use Rattle.lk_probe.specs.declared.neighbours.Origin.{Origin}
use Rattle.lk_probe.specs.declared.probe.Probe.{Probe}
use Rattle.lk_probe.specs.declared.reported.Reported.{Reported}
use Rattle.lk_auth.specs.Seals.{key_list, heard}
use Rattle.lk_auth.specs.declared.seals.Seals.{Seals}
use Rattle.lk_address_book.specs.Addresses.{AddressBook}
use Rattle.lk_address_book.specs.Inquiries.{IsAskedAt}
use Rattle.lk_transport.specs.Askers.{SendsTo}
use Rattle.lk_transport.specs.Posts.{SendState, Loses}
use Rattle.lk_transport.specs.declared.received_probe.ReceivedProbe.{ReceivedProbe}

-- ---- whom it asks

-- the question of the node of that number, which has these seals
abbrev pub question_by : Seals → ℕ → Probe
question_by s node = question s.cluster (record { node = node; genesis = s.genesis })

-- the probe is sent there unframed, or lost by a send that failed; nothing is sent if there is no address
abbrev pub SendsProbe : Type 0 → Probe → Option SocketAddr → SendState → SendState → Type 0
SendsProbe observable p None old new = new ≡ old
SendsProbe observable p (Some address) old new =
    (bytes : List ℕ) × SpellsProbe p bytes × (SendsTo observable address bytes old new ⊎ Loses observable [] old new)

-- the node of that number sends its question to one address at which one is due, if there is such an address, and
-- nothing else
pub record AsksOne (observable : Type 0) (now node : ℕ) (old new : AddressBook)
    (before after : SendState) : Type 0 where
  pub address : Option SocketAddr
  pub asked : IsAskedAt now address old new
  pub sends : SendsProbe observable (question_by old.seals node) address before after

-- ---- whom it hears again

-- a node of that genesis asks
abbrev pub is_of : List ℕ → Option Origin → Bool
is_of genesis None = false
is_of genesis (Some asker) = pointwise nat_eq asker.genesis genesis

-- if so, another genesis that is recorded for that address is forgotten; otherwise nothing changes
abbrev pub ReadmitsIf : Bool → SocketAddr → AddressBook → AddressBook → Type 0
ReadmitsIf true address old new =
    Readmits address old.neighbours new.neighbours × (new ≡ record old { neighbours = new.neighbours })
ReadmitsIf false address old new = new ≡ old

-- the same for the address of a kept probe, exactly if the probe names a node of the same genesis
abbrev pub ReadmitsKept : Option ReceivedProbe → AddressBook → AddressBook → Type 0
ReadmitsKept None old new = new ≡ old
ReadmitsKept (Some a) old new = ReadmitsIf (is_of old.seals.genesis a.probe.origin) a.from old new

-- ---- whose reports it reads

-- if the nodes have a key, the frame came sealed: its datagram is shorter
abbrev pub IsSealedIfKeyed : Seals → List ℕ → Type 0
IsSealedIfKeyed s frame = key_list s.nodes ≢ [] → length frame ≢ length (heard s frame)

-- a frame, with its source, carries what is kept of a report; or no report of the cluster that replies to a node, or
-- one that did not come sealed though the nodes have a key
abbrev pub IsReportedBy : Seals → SocketAddr × List ℕ → Option Reported → Type 0
IsReportedBy s d None = IsSealedIfKeyed s d.1 → IsReportedOf s.cluster (d.0, heard s d.1) None
IsReportedBy s d (Some t) = IsSealedIfKeyed s d.1 × IsReportedOf s.cluster (d.0, heard s d.1) (Some t)
