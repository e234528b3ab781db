-- The turns of a server, one after another.
use Rattle.std.proofs.Common.{inl, inr}
use Rattle.std.specs.Prelude.{◌≡◌, ◌⊎◌, ◌<◌, ℕ, List, [], Option, None, IsSome}
use Rattle.std.specs.declared.net.socket_addr.SocketAddr.{SocketAddr}
use Rattle.lk_node_interface.specs.Envelopes.{EnvelopeValue}
use Rattle.lk_replica.specs.ReplicaValue.{ReplicaValue}
use Rattle.lk_probe.specs.Neighbours.{bound_in}
use Rattle.lk_probe.specs.declared.reported.Reported.{Reported}
use Rattle.lk_address_book.specs.Addresses.{IsNetworkAfter, IsSameNetwork, filter_of}
use Rattle.lk_address_book.specs.Hosts.{hosts_after}
use Rattle.lk_address_book.specs.declared.hosts.HostNews.{HostNews}
use Rattle.lk_address_book.specs.Filters.{all_filtered}
use Rattle.lk_node_setup.specs.HostWatches.{AreHosts}
use Rattle.lk_server.specs.ProbeHandling.{HandlesProbes}
use Rattle.lk_server.specs.WatchHandling.{HandlesWatches}
use Rattle.lk_server_replica.specs.Showing.{IsShown}
use Rattle.lk_server_replica.specs.Tables.{greatest_of, members_of, table_of}
use Rattle.lk_server.specs.Servers.{ServerValue, HasReceived, Turn, LastTurn, IsIdle}
use Rattle.lk_transport.specs.Askers.{BringsProbe}
use Rattle.lk_transport.specs.Inquiring.{IsReportedBy}
use Rattle.lk_transport.specs.Kept.{KeepsFirstOf, OnlyLastBrings}
use Rattle.lk_transport.specs.Watches.{BringsWatch}
use Rattle.lk_transport.specs.declared.received_probe.ReceivedProbe.{ReceivedProbe}
use Rattle.lk_transport.specs.declared.received_watch.ReceivedWatch.{ReceivedWatch}
use Rattle.lk_transport.specs.Chains.{Repeats}

-- the server knows whether a call has ended its replica
abbrev pub TellsFailure : ServerValue ReplicaValue → Type 0
TellsFailure s = s.failed ≡ s.replica.failed

-- it goes on after a turn: it has followed no node of another genesis
abbrev pub HasFollowedNoStranger : ServerValue ReplicaValue → Type 0
HasFollowedNoStranger s = bound_in s.addresses.neighbours ≡ None

-- it ends after a turn: it has followed a node of another genesis
abbrev pub HasFollowedStranger : ServerValue ReplicaValue → Type 0
HasFollowedStranger s = IsSome (bound_in s.addresses.neighbours)

-- it knows the greatest number that has joined, as its replica has executed it; nothing else changes
abbrev pub KnowsJoined : ServerValue ReplicaValue → ServerValue ReplicaValue → Type 0
KnowsJoined old new =
    new ≡ record old { addresses = record old.addresses { joined = greatest_of old.replica } }

-- where nodes live is what the file of the hosts was found to say, if it was read again and they have moved; nothing
-- else changes
abbrev pub TakesHosts : HostNews → ServerValue ReplicaValue → ServerValue ReplicaValue → Type 0
TakesHosts news old new =
    new ≡ record old { addresses = record old.addresses { hosts = hosts_after news old.addresses.hosts } }

-- nodes live where they did, or where the file of this path says; `is_text` says which bytes it had when it was read
abbrev pub AreHostsKept : (List ℕ → List ℕ → Type 0) → Option (List ℕ) → ServerValue ReplicaValue
    → ServerValue ReplicaValue → Type 0
AreHostsKept is_text path old new = AreHosts is_text path old.addresses.hosts new.addresses.hosts

-- what a server does beside the protocol after a turn: it handles probes, then watches, then notes who has joined, and
-- then takes over what is new of the hosts
pub record ActsBeside (observable : Type 0) (news : HostNews) (asked : Option ReceivedProbe)
    (reported : Option Reported) (watched : Option ReceivedWatch) (old new : ServerValue ReplicaValue) : Type 0 where
  pub probed : ServerValue ReplicaValue
  pub probes : HandlesProbes IsShown members_of observable asked reported old probed
  pub told : ServerValue ReplicaValue
  pub watches : HandlesWatches table_of IsShown observable watched probed told
  pub noted : ServerValue ReplicaValue
  pub joined : KnowsJoined told noted
  pub hosts : TakesHosts news noted new

-- `Says` relates a replica's input to its envelopes, and `observable` says that the socket reveals what it sends and
-- what arrives
module _ (Says : ReplicaValue → List (Option (List ℕ)) → List EnvelopeValue → ReplicaValue → Type 0)
    (observable : Type 0) where
  -- a turn: the replica was given the first envelopes of the node to itself as one group, or where none waited what was
  -- taken of the frames that came, and a tick where one was due, and goes on; or it is idle, and given nothing. After
  -- that the probe kept from before, or else the first in those frames, is answered, and a node of the same genesis
  -- that asks by it is heard again. The node learns from the report that it had kept, or else from the first in those
  -- frames that replies to it. Of these frames only the last brings a probe, a report or a watch, where none was kept.
  -- One question and the probes to the members are sent if they are due. Then the watch that it had kept, or else the
  -- first in those frames, is heard, and those who wait are told; and nothing else is sent. The keys and the admins are
  -- the same, and so is where nodes live, unless they were read to have moved. `After` holds of the server then
  pub record DoesTurnWith (kept : Option ReceivedProbe) (told : Option Reported) (wanted : Option ReceivedWatch)
      (After : ServerValue ReplicaValue → Type 0) (old new : ServerValue ReplicaValue) : Type 0 where
    pub frames : List (SocketAddr × List ℕ)
    pub came : List (SocketAddr × List ℕ)
    pub opened : came ≡ all_filtered (filter_of old.addresses) frames
    pub mid : ServerValue ReplicaValue
    pub received : HasReceived observable frames old mid
    pub turn : Turn Says observable came old mid ⊎ IsIdle observable frames old mid
    pub asked : Option ReceivedProbe
    pub first_asked : KeepsFirstOf (BringsProbe old.addresses.seals) kept frames asked
    pub reported : Option Reported
    pub last : kept ≡ None → told ≡ None → wanted ≡ None → OnlyLastBrings old.addresses.seals frames
    pub first_reported : KeepsFirstOf (IsReportedBy old.addresses.seals) told frames reported
    pub watched : Option ReceivedWatch
    pub first_watched : KeepsFirstOf (BringsWatch old.addresses.seals) wanted frames watched
    pub news : HostNews
    pub acts : ActsBeside observable news asked reported watched mid new
    pub network : IsNetworkAfter news old.addresses new.addresses
    pub failure : TellsFailure new
    pub becomes : After new

  -- a turn before which no probe, no report and no watch was kept, so that the first probe in the frames that came is
  -- answered, what the first report tells is learned, and the first watch is heard, and after which it goes on
  abbrev pub DoesTurn : ServerValue ReplicaValue → ServerValue ReplicaValue → Type 0
  DoesTurn = DoesTurnWith None None None HasFollowedNoStranger

  -- such a turn after which it ends, since it has followed a node of another genesis
  abbrev pub EndsByStranger : ServerValue ReplicaValue → ServerValue ReplicaValue → Type 0
  EndsByStranger = DoesTurnWith None None None HasFollowedStranger

  -- a turn that ended the replica
  pub record EndsTurn (old new : ServerValue ReplicaValue) : Type 0 where
    pub frames : List (SocketAddr × List ℕ)
    pub came : List (SocketAddr × List ℕ)
    pub opened : came ≡ all_filtered (filter_of old.addresses) frames
    pub received : HasReceived observable frames old new
    pub turn : LastTurn Says observable came old new
    pub network : IsSameNetwork old.addresses new.addresses
    pub failure : TellsFailure new

  -- the envelopes that it gave to be sent in a turn; none in an idle one
  abbrev pub envelopes_in : {came frames : List (SocketAddr × List ℕ)} {old new : ServerValue ReplicaValue}
      → Turn Says observable came old new ⊎ IsIdle observable frames old new → List EnvelopeValue
  envelopes_in (inl turn) = turn.hands_on.envelopes
  envelopes_in (inr idle) = []

  -- it did fewer turns than this, and then one that ended the replica
  pub record BreaksOff (most : ℕ) (old new : ServerValue ReplicaValue) : Type 0 where
    pub count : ℕ
    pub fewer : count < most
    pub last : ServerValue ReplicaValue
    pub turns : Repeats DoesTurn count old last
    pub ends : EndsTurn last new

  -- it did fewer turns than this, and then one after which it ended, since it had followed a node of another genesis
  pub record BreaksOffByStranger (most : ℕ) (old new : ServerValue ReplicaValue) : Type 0 where
    pub count : ℕ
    pub fewer : count < most
    pub last : ServerValue ReplicaValue
    pub turns : Repeats DoesTurn count old last
    pub leave : EndsByStranger last new

-- `StartsAs` says how the server of a node starts, and `ended` is the server that is left when its run is over
module _ (StartsAs : ServerValue ReplicaValue → Type 0)
    (Says : ReplicaValue → List (Option (List ℕ)) → List EnvelopeValue → ReplicaValue → Type 0) (observable : Type 0)
    (most : ℕ) (ended : ServerValue ReplicaValue) where
  -- it started in this way, and has done this many turns
  pub record RunsTurns : Type 0 where
    pub started : ServerValue ReplicaValue
    pub starts_as : StartsAs started
    pub turns : Repeats (DoesTurn Says observable) most started ended

  -- it started in this way, and has done fewer turns than this, and then one that ended its replica
  pub record EndsEarly : Type 0 where
    pub started : ServerValue ReplicaValue
    pub starts_as : StartsAs started
    pub breaks : BreaksOff Says observable most started ended

  -- it started in this way, and has done fewer turns than this, and then one after which it ended, since it had
  -- followed a node of another genesis
  pub record EndsEarlyByStranger : Type 0 where
    pub started : ServerValue ReplicaValue
    pub starts_as : StartsAs started
    pub leaves : BreaksOffByStranger Says observable most started ended

  -- one of these two
  abbrev pub EndsBefore : Type 0
  EndsBefore = EndsEarly ⊎ EndsEarlyByStranger
