-- How a node finds out whether it hears a majority of the members: which probes it sends, and which reports count.
use Rattle.std.specs.Prelude.{◌≡◌, ◌⊎◌, ℕ, ◌%◌, ◌==◌, nat_eq, nat_le, not, ◌&&◌, Bool, true, false, if◌then◌else◌}
use Rattle.std.specs.Prelude.{List, [], ◌∷◌, Option, Some, None}
use Rattle.std.specs.Cmp.Lexicographic.{pointwise}
use Rattle.std.specs.declared.net.socket_addr.SocketAddr.{SocketAddr}
use Rattle.lk_types.specs.declared.member.Member.{Member}
use Rattle.lk_auth.specs.Seals.{key_list}
use Rattle.lk_auth.specs.declared.seals.Seals.{Seals}
use Rattle.lk_hearing.specs.Probes.{having_begun, having_heard, having_sent, hears_majority, is_expected}
use Rattle.lk_hearing.specs.Probes.{is_round_due}
use Rattle.lk_hearing.specs.declared.hearing.Reply.{Reply}
use Rattle.lk_node_interface.specs.declared.to.To.{To}
use Rattle.lk_node_interface.specs.declared.to.To.TheVariants.{Node}
use Rattle.lk_probe.specs.Grammar.{SpellsProbe}
use Rattle.lk_probe.specs.declared.probe.Probe.{Probe}
use Rattle.lk_probe.specs.declared.reported.Reported.{Reported}
use Rattle.lk_probe.specs.declared.state_digest.StateDigest.{StateDigest}
use Rattle.lk_address_book.specs.Addresses.{AddressBook}
use Rattle.lk_transport.specs.Askers.{SendsTo}
use Rattle.lk_transport.specs.Posts.{SendState, IsRoute, Loses, frame_of, keys_for}

-- ---- which reports count

-- the reply that a report is
abbrev pub reply_of : Reported → Reply
reply_of r = record { node = r.reporter.node; token = r.token }

-- the report came in that period: it counts as a reply if its node has the same genesis; else nothing changes
abbrev pub HearsIf : Bool → ℕ → Reported → AddressBook → AddressBook → Type 0
HearsIf true now r old new =
    new ≡ record old {
      hearing = record old.hearing { asked = having_heard (reply_of r) now old.hearing.asked };
    }
HearsIf false now r old new = new ≡ old

abbrev pub HearsReported : ℕ → Reported → AddressBook → AddressBook → Type 0
HearsReported now r old new = HearsIf (pointwise nat_eq r.reporter.genesis old.seals.genesis) now r old new

-- the same for a kept report, if there is one
abbrev pub HearsKept : ℕ → Option Reported → AddressBook → AddressBook → Type 0
HearsKept now None old new = new ≡ old
HearsKept now (Some r) old new = HearsReported now r old new

-- it replies to a probe that the node remembers, and its node has the same genesis
abbrev pub is_expected_by : AddressBook → Reported → Bool
is_expected_by book r =
    pointwise nat_eq r.reporter.genesis book.seals.genesis && is_expected (reply_of r) book.hearing.asked

-- the node that reports, and the digest of its state that it tells, if the report is expected
abbrev pub state_told : AddressBook → Reported → Option (ℕ × StateDigest)
state_told book r = if is_expected_by book r then Some (r.reporter.node, r.state) else None

-- ---- which probes are sent

-- the probes of this period ask for a digest: it is one of the last two of fifty
abbrev pub asks_state : ℕ → Bool
asks_state now = nat_le 48 (now % 50)

-- the probe with this token of the node of that number, which has these seals: in form 2 if it asks for a digest
abbrev pub member_probe : Seals → ℕ → Bool → ℕ → Probe
member_probe s node asks token =
    record {
      cluster = s.cluster;
      origin = Some (record { node = node; genesis = s.genesis });
      client = None;
      token = token;
      asks_reach = asks;
    }

-- the probe is sent there, framed for its recipient, or lost by a send that failed
abbrev pub SendsSealedProbe : Type 0 → Seals → To → Probe → SocketAddr → SendState → SendState → Type 0
SendsSealedProbe observable s to p address old new =
    (bytes : List ℕ) × SpellsProbe p bytes
    × (SendsTo observable address (frame_of s to bytes) old new ⊎ Loses observable (keys_for s to) old new)

-- a member whose address is known is probed with this token, which is noted; nothing is sent if none is known
abbrev pub ProbesAt : Type 0 → ℕ → Bool → Member → ℕ → Option SocketAddr → AddressBook → AddressBook → SendState
    → SendState → Type 0
ProbesAt observable node asks m token None old new before after = (new ≡ old) × (after ≡ before)
ProbesAt observable node asks m token (Some address) old new before after =
    (new ≡ record old {
      hearing = record old.hearing {
        asked = having_sent (record { node = m.node; token = token }) old.hearing.asked;
      };
    }) × SendsSealedProbe observable old.seals (Node m.node m.port)
    (member_probe old.seals node asks token) address before after

-- the same at the address to which its envelopes go; the node itself is not probed
abbrev pub ProbesOther : Bool → Type 0 → ℕ → Bool → Member → ℕ → AddressBook → AddressBook → SendState → SendState
    → Type 0
ProbesOther true observable node asks m token old new before after = (new ≡ old) × (after ≡ before)
ProbesOther false observable node asks m token old new before after =
    (address : Option SocketAddr) × IsRoute old (Node m.node m.port) address
    × ProbesAt observable node asks m token address old new before after

abbrev pub ProbesMember : Type 0 → ℕ → Bool → Member → ℕ → AddressBook → AddressBook → SendState → SendState → Type 0
ProbesMember observable node asks m token old new before after =
    ProbesOther (m.node == node) observable node asks m token old new before after

-- each of these members is probed, in order, with some token
abbrev pub ProbesMembers : Type 0 → ℕ → Bool → List Member → AddressBook → AddressBook → SendState → SendState → Type 0
ProbesMembers observable node asks [] old new before after = (new ≡ old) × (after ≡ before)
ProbesMembers observable node asks (m ∷ ms) old new before after =
    (token : ℕ) × (mid : AddressBook) × (between : SendState)
    × ProbesMember observable node asks m token old mid before between
    × ProbesMembers observable node asks ms mid new between after

-- if probes are due in this period, each member is probed, in one of fifty periods for a digest too, and the next
-- probes are due two periods later; else nothing happens
abbrev pub ProbesIf : Bool → Type 0 → ℕ → ℕ → List Member → AddressBook → AddressBook → SendState → SendState → Type 0
ProbesIf true observable node now ms old new before after =
    ProbesMembers observable node (asks_state now) ms (record old { hearing = having_begun now old.hearing }) new before
    after
ProbesIf false observable node now ms old new before after = (new ≡ old) × (after ≡ before)

abbrev pub ProbesRound : Type 0 → ℕ → ℕ → List Member → AddressBook → AddressBook → SendState → SendState → Type 0
ProbesRound observable node now ms old new before after =
    ProbesIf (is_round_due now old.hearing) observable node now ms old new before after

-- ---- what it makes of both

-- in this period the kept report is heard, the members are probed if that is due, and then the node is deaf exactly if
-- it does not hear a majority of them
pub record Listens (observable : Type 0) (node now : ℕ) (reported : Option Reported) (ms : List Member)
    (old new : AddressBook) (before after : SendState) : Type 0 where
  pub heard : AddressBook
  pub hears : HearsKept now reported old heard
  pub probed : AddressBook
  pub probes : ProbesRound observable node now ms heard probed before after
  pub judges : new ≡ record probed { deaf = not (hears_majority node now probed.hearing.asked ms) }
