-- The input that a server gives to its replica, and the fate of the envelopes.
use Rattle.std.specs.Prelude.{◌≡◌, ◌≢◌, ◌⊎◌, ◌≤◌, Bool, true, false, ◌+◌, ◌*◌, ◌%◌, ◌^◌, ℕ, List, [], ◌∷◌, ◌++◌}
use Rattle.std.specs.Prelude.{length, map, min, take, drop, Option, Some, None, if◌then◌else◌}
use Rattle.std.specs.declared.net.socket_addr.SocketAddr.{SocketAddr}
use Rattle.lk_types.specs.Ranges.{IsClient}
use Rattle.lk_types.specs.declared.member.Member.{Member}
use Rattle.lk_node_interface.specs.Envelopes.{EnvelopeValue}
use Rattle.lk_node_interface.specs.declared.input.Input.{Input}
use Rattle.lk_node_interface.specs.declared.input.Input.TheVariants.{Tick, Nudge, Datagram}
use Rattle.lk_node_interface.specs.declared.nudge_reason.NudgeReason.TheVariants.{Period, TicksWithheld, Fed}
use Rattle.lk_replica.specs.Groups.{GroupValue}
use Rattle.lk_replica.specs.Posts.{CarriesAll}
use Rattle.lk_address_book.specs.Addresses.{AddressBook, filter_of, client_at, node_at}
use Rattle.lk_hearing.specs.Probes.{count_heard, nothing_sent}
use Rattle.lk_pacing.specs.Paces.{is_clock, ticks_after, MayFollow}
use Rattle.lk_address_book.specs.Senders.{RecordsSenders}
use Rattle.lk_transport.specs.Posts.{SendState, Becomes}
use Rattle.lk_address_book.specs.Filters.{all_filtered}
use Rattle.lk_transport.specs.Streams.{Stream, Receives, ReceivesOne, ComeWithin, frames_in}
use Rattle.lk_address_book.specs.declared.network.Network.{Network}
use Rattle.lk_waiting.specs.Waits.{WaitingValue, nobody_waits}
use Rattle.lk_probe.specs.Grammar.{no_digest}
use Rattle.lk_probe.specs.declared.state_digest.StateDigest.{StateDigest}
use Rattle.lk_pacing.specs.declared.pace.Pace.{Pace}
use Rattle.lk_pacing.specs.declared.pace.Pace.TheVariants.{Clock}

-- how clauses see a server
pub record ServerValue (R : Type 0) : Type 0 where
  pub cluster : ℕ
  pub node : ℕ
  -- what its ticks go by
  pub pace : Pace
  pub replica : R
  -- the envelopes of the node to itself that it has not taken yet
  pub loopback : List EnvelopeValue
  -- from where others wrote, the hosts, the keys, and which genesis is known at which address
  pub addresses : AddressBook
  -- how many datagrams came, how many ticks its replica was given, and how many were withheld
  pub received : ℕ
  pub ticks : ℕ
  pub withheld : ℕ
  -- whether a call has ended the replica
  pub failed : Bool
  -- the digest that it took last of its replica's state
  pub digest : StateDigest
  -- how many periods without a leader it counts beside those that its replica counts
  pub quiet : ℕ
  -- whether its group has fed the replica so far
  pub fed : Bool
  -- what its socket has sent, and how many of its sends failed
  pub sent : List (SocketAddr × List ℕ)
  pub socket_failures : ℕ
  -- what its receives are to find, in order
  pub incoming : Stream
  -- who waits for a name, and what the queue looked at in its last turn
  pub waiting : WaitingValue

-- it serves as this node of this cluster, with this pace, these hosts, these keys and these admins
pub record IsConfiguredAs {R : Type 0} (c n : ℕ) (p : Pace) (known : Network) (s : ServerValue R) : Type 0 where
  pub cluster : s.cluster ≡ c
  pub node : s.node ≡ n
  pub pace : s.pace ≡ p
  pub hosts : s.addresses.hosts ≡ known.hosts
  pub seals : s.addresses.seals ≡ known.seals
  pub admins : s.addresses.admins ≡ known.admins

-- nobody has written to it yet, not even itself, and nobody waits; it has counted no tick and no silence, taken no
-- digest and probed nobody, nothing has fed its replica, and it is deaf if its ticks go by the clock
pub record HasHeardNobody {R : Type 0} (s : ServerValue R) : Type 0 where
  pub loopback : s.loopback ≡ []
  pub received : s.received ≡ 0
  pub ticks : s.ticks ≡ 0
  pub withheld : s.withheld ≡ 0
  pub digest : s.digest ≡ no_digest
  pub quiet : s.quiet ≡ 0
  pub fed : s.fed ≡ false
  pub hearing : s.addresses.hearing ≡ nothing_sent
  pub deaf : s.addresses.deaf ≡ is_clock s.pace
  pub clients : (c : ℕ) → IsClient c → client_at s.addresses c ≡ None
  pub nodes : (n : ℕ) → node_at s.addresses n ≡ None
  pub waiting : s.waiting ≡ nobody_waits

-- it runs this replica, which a call has ended or not
pub record Runs {R : Type 0} (r : R) (ended : Bool) (s : ServerValue R) : Type 0 where
  pub replica : s.replica ≡ r
  pub failed : s.failed ≡ ended

-- it serves on a socket that has sent these datagrams, with this many failed sends and this for its receives to find
pub record HasSocket {R : Type 0} (datagrams : List (SocketAddr × List ℕ)) (count : ℕ) (next : Stream)
    (s : ServerValue R) : Type 0 where
  pub sent : s.sent ≡ datagrams
  pub failures : s.socket_failures ≡ count
  pub incoming : s.incoming ≡ next

-- ---- the input of a replica

-- the count of datagrams after one more, modulo 2^64
abbrev pub one_more : ℕ → ℕ
one_more received = (received + 1) % 2 ^ 64

-- what a replica is given at the datagram of that number: its bytes, and a tick where one follows it
abbrev pub inputs : Pace → ℕ → List ℕ → List (Option (List ℕ))
inputs pace number bytes = if ticks_after pace number then Some bytes ∷ None ∷ [] else Some bytes ∷ []

-- the same at these datagrams, one after another, after this many
abbrev pub all_inputs : Pace → ℕ → List (List ℕ) → List (Option (List ℕ))
all_inputs pace received [] = []
all_inputs pace received (bytes ∷ more) =
    inputs pace (one_more received) bytes ++ all_inputs pace (one_more received) more

-- the count of datagrams after these
abbrev pub counted : ℕ → List (List ℕ) → ℕ
counted received [] = received
counted received (bytes ∷ more) = counted (one_more received) more

-- the count of ticks after one more, which no count of 64 bits exceeds
abbrev pub one_more_tick : ℕ → ℕ
one_more_tick ticks = min (ticks + 1) 18446744073709551615

-- the count of ticks after a replica was given this, and after all of these
abbrev pub ticks_behind : ℕ → Option (List ℕ) → ℕ
ticks_behind ticks None = one_more_tick ticks
ticks_behind ticks (Some bytes) = ticks

abbrev pub all_ticks : ℕ → List (Option (List ℕ)) → ℕ
all_ticks ticks [] = ticks
all_ticks ticks (one ∷ more) = all_ticks (ticks_behind ticks one) more

-- how many periods have ended by these counts, which no count of 64 bits exceeds: each ended with a tick, given or
-- withheld
abbrev pub periods_by : ℕ → ℕ → ℕ
periods_by ticks withheld = min (ticks + withheld) 18446744073709551615

-- how many have ended since the server's start
abbrev pub periods : {R : Type 0} → ServerValue R → ℕ
periods s = periods_by s.ticks s.withheld

-- how many of these members it hears in this period, itself included; nothing where ticks go by datagrams
abbrev pub heard_by : {R : Type 0} → List Member → ServerValue R → Option ℕ
heard_by ms s =
    if is_clock s.pace then Some (count_heard s.node (periods s) s.addresses.hearing.asked ms) else None

-- ticks are withheld: they go by the clock, and the server is deaf or not, as this says
pub record AreWithheld (pace : Pace) (is_deaf : Bool) : Type 0 where
  pub clock : pace ≡ Clock
  pub deaf : is_deaf ≡ true

-- it withholds ticks
abbrev pub WithholdsTicks : {R : Type 0} → ServerValue R → Type 0
WithholdsTicks s = AreWithheld s.pace s.addresses.deaf

-- it may withhold what ends this period: it withholds ticks, and the period is no 31st, which ends with a nudge
pub record MayWithhold {R : Type 0} (s : ServerValue R) : Type 0 where
  pub withholds : WithholdsTicks s
  pub no_nudge : one_more_tick (periods s) % 31 ≢ 0

-- what ends the period of that number: in each 31st a nudge that says whether ticks are withheld, else a tick
abbrev pub EndsPeriodOf : ℕ → Type 0 → Input → Type 0
EndsPeriodOf number withheld Tick = number % 31 ≢ 0
EndsPeriodOf number withheld (Nudge Period) = (number % 31 ≡ 0) × (withheld → ⊥)
EndsPeriodOf number withheld (Nudge TicksWithheld) = (number % 31 ≡ 0) × withheld
EndsPeriodOf number withheld (Nudge Fed) = ⊥
EndsPeriodOf number withheld (Datagram bytes) = ⊥

-- what ends the period that was just counted
abbrev pub EndsPeriod : {R : Type 0} → ServerValue R → Input → Type 0
EndsPeriod s input = EndsPeriodOf (periods s) (WithholdsTicks s) input

-- a period is counted, and the replica has taken what ends it, as its `add_step` takes it
pub record TakesPeriodEnd {R : Type 0} (Takes : R → GroupValue → Input → R → GroupValue → Type 0)
    (group now : GroupValue) (old new : ServerValue R) : Type 0 where
  pub input : Input
  pub ends : EndsPeriod (record old { ticks = one_more_tick old.ticks }) input
  pub takes : Takes old.replica group input new.replica now

-- between these states one tick was withheld, or none was, and none was given that had to be withheld
abbrev pub Withholding : {R : Type 0} → ServerValue R → ServerValue R → Type 0
Withholding old new =
    (MayWithhold old × (new.withheld ≡ one_more_tick old.withheld) × (new.ticks ≡ old.ticks))
    ⊎ ((new.withheld ≡ old.withheld) × (MayWithhold old → new.ticks ≡ old.ticks))

-- a replica may be given this in a turn: these datagrams, one after another, and ticks as they may follow; where there
-- are none a tick
abbrev pub Given : Pace → ℕ → List (List ℕ) → List (Option (List ℕ)) → Type 0
Given pace received [] given = given ≡ None ∷ []
Given pace received (bytes ∷ more) given =
    (ticks : List (Option (List ℕ))) × MayFollow pace ticks × (given ≡ all_inputs pace received (bytes ∷ more) ++ ticks)

-- it is given just this, or this and then a nudge, which is not counted as a tick
abbrev pub MayEndNudged : List (Option (List ℕ)) → List (Option (List ℕ)) → Type 0
MayEndNudged timed given = (given ≡ timed) ⊎ (given ≡ timed ++ None ∷ [])

-- the datagrams that a turn takes: envelopes of the node to itself, and what came from the socket
abbrev pub datagrams_in : List EnvelopeValue → List (SocketAddr × List ℕ) → List (List ℕ)
datagrams_in loopback came =
    map (λ (l : EnvelopeValue). l.bytes) loopback ++ map (λ (c : SocketAddr × List ℕ). c.1) came

-- it is a prefix of the other list
abbrev pub IsPrefix : {X : Type 0} → List X → List X → Type 0
IsPrefix {X} front whole = (rest : List X) × (whole ≡ front ++ rest)

-- a prefix of what a replica may be given in a turn
pub record GivenPrefix (pace : Pace) (received : ℕ) (datagrams : List (List ℕ))
    (given : List (Option (List ℕ))) : Type 0 where
  pub whole : List (Option (List ℕ))
  pub may : Given pace received datagrams whole
  pub front : IsPrefix given whole

-- ---- the fate of the envelopes

-- it has more envelopes at the end
pub record Grows (old new : List EnvelopeValue) : Type 0 where
  pub added : List EnvelopeValue
  pub is : new ≡ old ++ added

-- what the envelopes may change, given the kept envelopes of the node to itself
abbrev pub send_state_at : {R : Type 0} → List EnvelopeValue → ServerValue R → SendState
send_state_at loopback s = record { loopback = loopback; sent = s.sent; failures = s.socket_failures }

-- the replica took exactly this input as one group and produced these envelopes; each was kept, sent to its
-- destination, or lost by a failed send, in order, and nothing else was sent or kept. `loopback` are the earlier ones
-- to the node itself, without those that were taken
pub record DeliversEnvelopes {R : Type 0}
    (Says : R → List (Option (List ℕ)) → List EnvelopeValue → R → Type 0) (observable : Type 0)
    (given : List (Option (List ℕ))) (loopback : List EnvelopeValue) (old new : ServerValue R) : Type 0 where
  pub envelopes : List EnvelopeValue
  pub says : Says old.replica given envelopes new.replica
  pub kept : Grows loopback new.loopback
  pub carried : CarriesAll (Becomes observable new.node new.addresses) (send_state_at loopback old) envelopes
      (send_state_at new.loopback new)

-- the replica took exactly this input and produced nothing: no envelope was kept or sent. `stood` are the earlier
-- envelopes of the node to itself
pub record DeliversNothing {R : Type 0} (Says : R → List (Option (List ℕ)) → List EnvelopeValue → R → Type 0)
    (given : List (Option (List ℕ))) (stood : List EnvelopeValue) (old new : ServerValue R) : Type 0 where
  pub says : Says old.replica given [] new.replica
  pub loopback : new.loopback ≡ stood
  pub sent : new.sent ≡ old.sent
  pub failures : new.socket_failures ≡ old.socket_failures

-- ---- a turn. `frames` are those that came from the socket in it, in order, and `came` is what was taken of them, each
-- with its source and bytes

-- what a turn receives where it looks at the socket: its first receive found nothing, and was the only one; or it found
-- the first of these frames, and the further ones came in at most two receives each, with two more behind the last
abbrev pub ReceivesGroup : List (SocketAddr × List ℕ) → Stream → Stream → Type 0
ReceivesGroup [] old new = Receives None old new
ReceivesGroup (first ∷ further) old new =
    (mid : Stream) × Receives (Some first) old mid × ComeWithin (2 * length further + 2) further mid new

-- these frames came: none where envelopes of the node to itself wait, and at most 64. Where envelopes wait nothing is
-- received; else exactly these frames are what the receives of the turn found, in order, if the socket tells that
pub record HasReceived {R : Type 0} (observable : Type 0) (frames : List (SocketAddr × List ℕ))
    (old new : ServerValue R) : Type 0 where
  pub alone : (old.loopback ≡ []) ⊎ (frames ≡ [])
  pub few : length frames ≤ 64
  pub waits : observable → old.loopback ≢ [] → new.incoming ≡ old.incoming
  pub comes : observable → old.loopback ≡ [] → ReceivesGroup frames old.incoming new.incoming

-- what may be taken of the socket: nothing where envelopes of the node to itself wait, at most 64 datagrams, and the
-- first of what is to come if the socket tells that
pub record EnvelopesFirst {R : Type 0} (observable : Type 0) (came : List (SocketAddr × List ℕ))
    (old : ServerValue R) : Type 0 where
  pub alone : (old.loopback ≡ []) ⊎ (came ≡ [])
  pub few : length came ≤ 64
  pub comes : observable → old.loopback ≡ []
      → IsPrefix came (all_filtered (filter_of old.addresses) (frames_in old.incoming))

-- so many envelopes of the node to itself are taken: at most 64, and at least one where some wait
pub record TakesEnvelopes (count : ℕ) (loopback : List EnvelopeValue) : Type 0 where
  pub at_most : count ≤ 64
  pub some : count ≡ 0 → loopback ≡ []

-- it has counted no datagram, no tick, given or withheld, and no silence, taken no digest, and noted of no input that
-- this has fed its replica
pub record KeepsCounts {R : Type 0} (old new : ServerValue R) : Type 0 where
  pub received : new.received ≡ old.received
  pub ticks : new.ticks ≡ old.ticks
  pub withheld : new.withheld ≡ old.withheld
  pub digest : new.digest ≡ old.digest
  pub quiet : new.quiet ≡ old.quiet
  pub fed : new.fed ≡ old.fed

-- it is the server of the same node, its ticks go by the same, and the same wait as before
pub record IsSameServer {R : Type 0} (old new : ServerValue R) : Type 0 where
  pub cluster : new.cluster ≡ old.cluster
  pub node : new.node ≡ old.node
  pub pace : new.pace ≡ old.pace
  pub queue : new.waiting.queue ≡ old.waiting.queue
  pub aged : new.waiting.aged ≡ old.waiting.aged
  pub spoke : new.waiting.spoke ≡ old.waiting.spoke
  pub served : new.waiting.served ≡ old.waiting.served

-- Where envelopes of the node to itself wait, it takes the first 64 of them, in order, and nothing of the socket; else
-- what came. Its replica was given just that as one group, and a tick where one was due and not withheld, and each tick
-- was counted; it may have been nudged at the end of the group. Whoever sent what came was heard, and it goes on
pub record Turn {R : Type 0} (Says : R → List (Option (List ℕ)) → List EnvelopeValue → R → Type 0) (observable : Type 0)
    (came : List (SocketAddr × List ℕ)) (old new : ServerValue R) : Type 0 where
  pub envelopes_first : EnvelopesFirst observable came old
  pub timed : List (Option (List ℕ))
  pub may : Given old.pace old.received (datagrams_in (take 64 old.loopback) came) timed
  pub given : List (Option (List ℕ))
  pub nudged : MayEndNudged timed given
  pub hands_on : DeliversEnvelopes Says observable given (drop 64 old.loopback) old new
  pub counted : new.received ≡ counted old.received (datagrams_in (take 64 old.loopback) came)
  pub ticks : new.ticks ≡ all_ticks old.ticks timed
  pub withholds : Withholding old new
  pub heard : RecordsSenders old.cluster came old.addresses new.addresses
  pub same : IsSameServer old new
  pub alive : new.failed ≡ false

-- A turn has ended the replica, after a prefix of its input, at the nudge after all of it, or at the sync after that:
-- this many envelopes of the node to itself were taken, and the last datagram that arrived has ended it; nothing of the
-- group is sent
pub record LastTurn {R : Type 0} (Says : R → List (Option (List ℕ)) → List EnvelopeValue → R
    → Type 0) (observable : Type 0)
    (came : List (SocketAddr × List ℕ)) (old new : ServerValue R) : Type 0 where
  pub envelopes_first : EnvelopesFirst observable came old
  pub count : ℕ
  pub envelopes : TakesEnvelopes count old.loopback
  pub timed : List (Option (List ℕ))
  pub first : GivenPrefix old.pace old.received (datagrams_in (take count old.loopback) came) timed
  pub given : List (Option (List ℕ))
  pub nudged : MayEndNudged timed given
  pub after_all : (given ≡ timed)
      ⊎ Given old.pace old.received (datagrams_in (take count old.loopback) came) timed
  pub hands_on : DeliversEnvelopes Says observable given (drop count old.loopback) old new
  pub silent : hands_on.envelopes ≡ []
  pub ticks : new.ticks ≡ all_ticks old.ticks timed
  pub heard : RecordsSenders old.cluster came old.addresses new.addresses
  pub same : IsSameServer old new
  pub ended : new.failed ≡ true

-- An idle turn: no envelope of the node to itself waited, one receive found these frames, one or none, which say
-- nothing to the replica. It was given nothing, nothing was sent, and nothing is changed but what is to come, which is
-- now what follows that receive, and the counts of ticks that were withheld and of silence. By datagrams a turn in
-- which no frame comes is never idle: it is a tick
pub record IsIdle {R : Type 0} (observable : Type 0) (frames : List (SocketAddr × List ℕ))
    (old new : ServerValue R) : Type 0 where
  pub loopback : old.loopback ≡ []
  pub none : all_filtered (filter_of old.addresses) frames ≡ []
  pub clock : frames ≡ [] → old.pace ≡ Clock
  pub comes : observable → ReceivesOne frames old.incoming new.incoming
  pub withholds : Withholding old new
  pub same : record new { incoming = old.incoming; withheld = old.withheld; quiet = old.quiet } ≡ old

-- a turn in which these frames came: its replica was given what was taken of them, or what waited, or a tick; or the
-- turn is idle
abbrev pub TurnOrIdle : {R : Type 0} (Says : R → List (Option (List ℕ)) → List EnvelopeValue → R → Type 0)
    (observable : Type 0) → List (SocketAddr × List ℕ) → ServerValue R → ServerValue R → Type 0
TurnOrIdle Says observable frames old new =
    Turn Says observable (all_filtered (filter_of old.addresses) frames) old new ⊎ IsIdle observable frames old new
