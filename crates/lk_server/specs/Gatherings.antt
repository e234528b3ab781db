-- A server in the middle of a turn: what its replica has taken into the group, nothing of which is synced or sent yet.
use Rattle.std.specs.Prelude.{◌≡◌, ◌≢◌, ◌≤◌, ℕ, true, List, [], ◌∷◌, take, drop, Option}
use Rattle.std.specs.declared.net.socket_addr.SocketAddr.{SocketAddr}
use Rattle.lk_replica.specs.Groups.{GroupValue}
use Rattle.lk_server_replica.specs.Groups.{Sayings, Gatherings, GathersMore, SaysNoMore}
use Rattle.lk_server_replica.specs.Silences.{quiet_withheld}
use Rattle.lk_server_replica.specs.declared.replica_status.ReplicaStatus.{ReplicaStatus}
use Rattle.lk_pacing.specs.declared.turn_input.TurnInput.{TurnInput}
use Rattle.lk_pacing.specs.declared.turn_input.TurnInput.TheVariants.{Nothing, Filtered, Something}
use Rattle.lk_address_book.specs.Addresses.{Filter, filter_of, IsSameFilter}
use Rattle.lk_address_book.specs.Senders.{RecordsSenders}
use Rattle.lk_address_book.specs.Filters.{is_filtered_out, all_filtered}
use Rattle.lk_transport.specs.Streams.{ReceivesOne, ComeWithin}
use Rattle.lk_server.specs.Servers.{ServerValue, all_inputs, all_ticks, counted, datagrams_in, Given, GivenPrefix}
use Rattle.lk_server.specs.Servers.{HasReceived, IsPrefix, MayEndNudged, TakesEnvelopes, DeliversEnvelopes, Withholding}

-- a replica is given nothing of these frames: there is none, or one, which is a probe or a report, or came from a node
-- of another genesis, or is a request while the server is deaf
abbrev pub AreFound : Filter → TurnInput → List (SocketAddr × List ℕ) → Type 0
AreFound s Nothing frames = frames ≡ []
AreFound s Filtered frames = (frame : SocketAddr × List ℕ) × (frames ≡ frame ∷ []) × (is_filtered_out s frame ≡ true)
AreFound s Something frames = ⊥

-- one receive found these frames, one or none, if the socket tells that; a replica is given nothing of them, and
-- nothing else is changed
pub record Finds {R : Type 0} (observable : Type 0) (found : TurnInput) (frames : List (SocketAddr × List ℕ))
    (old new : ServerValue R) : Type 0 where
  pub are : AreFound (filter_of old.addresses) found frames
  pub comes : observable → ReceivesOne frames old.incoming new.incoming
  pub same : record new { incoming = old.incoming } ≡ old

-- ---- what a part of a turn may change: an input or a datagram that the replica takes, an envelope of the node to
-- itself, what comes to the socket, and all that a turn takes

abbrev pub ChangesAtInput : {R : Type 0} → ServerValue R → ServerValue R → Type 0
ChangesAtInput old new =
    new ≡ record old {
      replica = new.replica;
      failed = new.failed;
      digest = new.digest;
      quiet = new.quiet;
      fed = new.fed;
    }

abbrev pub ChangesAtDatagram : {R : Type 0} → ServerValue R → ServerValue R → Type 0
ChangesAtDatagram old new =
    new ≡ record old {
      replica = new.replica;
      failed = new.failed;
      digest = new.digest;
      quiet = new.quiet;
      fed = new.fed;
      received = new.received;
      ticks = new.ticks;
    }

abbrev pub ChangesAtEnvelope : {R : Type 0} → ServerValue R → ServerValue R → Type 0
ChangesAtEnvelope old new =
    new ≡ record old {
      replica = new.replica;
      failed = new.failed;
      digest = new.digest;
      quiet = new.quiet;
      fed = new.fed;
      received = new.received;
      ticks = new.ticks;
      loopback = new.loopback;
    }

abbrev pub ChangesAtFrame : {R : Type 0} → ServerValue R → ServerValue R → Type 0
ChangesAtFrame old new =
    new ≡ record old {
      replica = new.replica;
      failed = new.failed;
      digest = new.digest;
      quiet = new.quiet;
      fed = new.fed;
      received = new.received;
      ticks = new.ticks;
      addresses = new.addresses;
    }

abbrev pub ChangesAtSocket : {R : Type 0} → ServerValue R → ServerValue R → Type 0
ChangesAtSocket old new =
    new ≡ record old {
      replica = new.replica;
      failed = new.failed;
      digest = new.digest;
      quiet = new.quiet;
      fed = new.fed;
      received = new.received;
      ticks = new.ticks;
      addresses = new.addresses;
      incoming = new.incoming;
    }

abbrev pub ChangesInGroup : {R : Type 0} → ServerValue R → ServerValue R → Type 0
ChangesInGroup old new =
    new ≡ record old {
      replica = new.replica;
      failed = new.failed;
      digest = new.digest;
      quiet = new.quiet;
      fed = new.fed;
      received = new.received;
      ticks = new.ticks;
      loopback = new.loopback;
      addresses = new.addresses;
      incoming = new.incoming;
    }

abbrev pub ChangesInTurn : {R : Type 0} → ServerValue R → ServerValue R → Type 0
ChangesInTurn old new =
    new ≡ record old {
      replica = new.replica;
      failed = new.failed;
      digest = new.digest;
      quiet = new.quiet;
      fed = new.fed;
      received = new.received;
      ticks = new.ticks;
      withheld = new.withheld;
      loopback = new.loopback;
      addresses = new.addresses;
      incoming = new.incoming;
    }

-- ---- the periods without a leader that a server counts beside its replica

module _ {R : Type 0} (HasStatus : R → ReplicaStatus → Type 0) where
  -- a tick was withheld: a period more counts, unless the replica has a term
  pub record WithholdsQuiet (old new : ServerValue R) : Type 0 where
    pub status : ReplicaStatus
    pub is : HasStatus old.replica status
    pub quiet : new.quiet ≡ quiet_withheld status old.quiet

module _ {R : Type 0} (Gathers : Gatherings R) where
  -- a nudge was taken into the group, or nothing
  abbrev pub GathersNudge : GroupValue → GroupValue → R → R → Type 0
  GathersNudge group now old new =
      (start : R) (timed : List (Option (List ℕ))) → Gathers start timed group old
      → (given : List (Option (List ℕ))) × MayEndNudged timed given × Gathers start given now new

  -- these datagrams were taken into the group one after another, each counted, and where ticks go by datagrams a tick
  -- after every 64th, which is counted too
  pub record AddsAll (datagrams : List (List ℕ)) (group now : GroupValue) (old new : ServerValue R) : Type 0 where
    pub gathers : GathersMore Gathers (all_inputs old.pace old.received datagrams) group now old.replica new.replica
    pub counted : new.received ≡ counted old.received datagrams
    pub ticks : new.ticks ≡ all_ticks old.ticks (all_inputs old.pace old.received datagrams)
    pub pace : new.pace ≡ old.pace

  -- the first envelopes of the node to itself were taken, at most this many
  pub record AddsLoopback (most : ℕ) (group now : GroupValue) (old new : ServerValue R) : Type 0 where
    pub adds : AddsAll (datagrams_in (take most old.loopback) []) group now old new
    pub left : new.loopback ≡ drop most old.loopback

  -- the content of these frames was taken, and their senders' addresses were recorded
  pub record AddsHeard (frames : List (SocketAddr × List ℕ)) (group now : GroupValue)
      (old new : ServerValue R) : Type 0 where
    pub adds : AddsAll (datagrams_in [] (all_filtered (filter_of old.addresses) frames)) group now old new
    pub heard : RecordsSenders old.cluster (all_filtered (filter_of old.addresses) frames) old.addresses new.addresses
    pub network : IsSameFilter old.addresses new.addresses

  -- their content was taken, and exactly these frames came from the socket, in order, in at most so many receives
  pub record AddsFromSocket (observable : Type 0) (most : ℕ) (frames : List (SocketAddr × List ℕ))
      (group now : GroupValue) (old new : ServerValue R) : Type 0 where
    pub adds : AddsHeard frames group now old new
    pub comes : observable → ComeWithin most frames old.incoming new.incoming

  -- what waits is taken: envelopes of the node to itself, or these frames of the socket
  pub record AddsWaiting (observable : Type 0) (frames : List (SocketAddr × List ℕ)) (group now : GroupValue)
      (old new : ServerValue R) : Type 0 where
    pub received : HasReceived observable frames old new
    pub adds : AddsAll (datagrams_in (take 64 old.loopback) (all_filtered (filter_of old.addresses) frames))
        group now old new
    pub some : datagrams_in (take 64 old.loopback) (all_filtered (filter_of old.addresses) frames) ≢ []
    pub left : new.loopback ≡ drop 64 old.loopback
    pub heard : RecordsSenders old.cluster (all_filtered (filter_of old.addresses) frames) old.addresses new.addresses
    pub network : IsSameFilter old.addresses new.addresses

  -- what is taken in a turn: what waits, and a tick where one is due and not withheld
  pub record AddsGroup (observable : Type 0) (frames : List (SocketAddr × List ℕ)) (group now : GroupValue)
      (old new : ServerValue R) : Type 0 where
    pub received : HasReceived observable frames old new
    pub given : List (Option (List ℕ))
    pub may : Given old.pace old.received
        (datagrams_in (take 64 old.loopback) (all_filtered (filter_of old.addresses) frames)) given
    pub gathers : GathersMore Gathers given group now old.replica new.replica
    pub counted : new.received
        ≡ counted old.received (datagrams_in (take 64 old.loopback) (all_filtered (filter_of old.addresses) frames))
    pub ticks : new.ticks ≡ all_ticks old.ticks given
    pub withholds : Withholding old new
    pub left : new.loopback ≡ drop 64 old.loopback
    pub heard : RecordsSenders old.cluster (all_filtered (filter_of old.addresses) frames) old.addresses new.addresses
    pub network : IsSameFilter old.addresses new.addresses

module _ {R : Type 0} (Says : Sayings R) (Gathers : Gatherings R) where
  -- the replica ended within the input at these datagrams, after this prefix of it
  pub record EndsWithin (datagrams : List (List ℕ)) (group : GroupValue) (old new : ServerValue R) : Type 0 where
    pub given : List (Option (List ℕ))
    pub front : IsPrefix given (all_inputs old.pace old.received datagrams)
    pub silent : SaysNoMore Says Gathers given group old.replica new.replica
    pub ticks : new.ticks ≡ all_ticks old.ticks given

  -- the replica ended at the first envelopes of the node to itself, of which it took this many
  pub record EndsLoopback (most : ℕ) (group : GroupValue) (old new : ServerValue R) : Type 0 where
    pub count : ℕ
    pub at_most : count ≤ most
    pub some : count ≢ 0
    pub waited : old.loopback ≢ []
    pub ends : EndsWithin (datagrams_in (take count old.loopback) []) group old new
    pub left : new.loopback ≡ drop count old.loopback

  -- the replica ended at the content of these frames
  pub record EndsHeard (frames : List (SocketAddr × List ℕ)) (group : GroupValue)
      (old new : ServerValue R) : Type 0 where
    pub ends : EndsWithin (datagrams_in [] (all_filtered (filter_of old.addresses) frames)) group old new
    pub heard : RecordsSenders old.cluster (all_filtered (filter_of old.addresses) frames) old.addresses new.addresses
    pub network : IsSameFilter old.addresses new.addresses

  -- the replica ended at their content, and exactly these frames came from the socket, in order, in at most so many
  -- receives
  pub record EndsSocket (observable : Type 0) (most : ℕ) (frames : List (SocketAddr × List ℕ)) (group : GroupValue)
      (old new : ServerValue R) : Type 0 where
    pub ends : EndsHeard frames group old new
    pub comes : observable → ComeWithin most frames old.incoming new.incoming

  -- the replica ended at the input of a turn
  pub record EndsGroup (observable : Type 0) (frames : List (SocketAddr × List ℕ)) (group : GroupValue)
      (old new : ServerValue R) : Type 0 where
    pub received : HasReceived observable frames old new
    pub count : ℕ
    pub envelopes : TakesEnvelopes count old.loopback
    pub given : List (Option (List ℕ))
    pub first : GivenPrefix old.pace old.received
        (datagrams_in (take count old.loopback) (all_filtered (filter_of old.addresses) frames)) given
    pub silent : SaysNoMore Says Gathers given group old.replica new.replica
    pub ticks : new.ticks ≡ all_ticks old.ticks given
    pub left : new.loopback ≡ drop count old.loopback
    pub heard : RecordsSenders old.cluster (all_filtered (filter_of old.addresses) frames) old.addresses new.addresses
    pub network : IsSameFilter old.addresses new.addresses

  -- ---- the end of a group

  -- nothing of the group leaves: no envelope is kept or sent
  pub record SaysNothing (group : GroupValue) (old new : ServerValue R) : Type 0 where
    pub silent : (start : R) (given : List (Option (List ℕ))) → Gathers start given group old.replica
        → Says start given [] new.replica
    pub loopback : new.loopback ≡ old.loopback
    pub sent : new.sent ≡ old.sent
    pub failures : new.socket_failures ≡ old.socket_failures

  -- whatever input the group had since the server was in this state, with nothing of it sent, the server has handed on
  -- the replica's envelopes
  abbrev pub DeliversAllEnvelopes : Type 0 → GroupValue → ServerValue R → ServerValue R → Type 0
  DeliversAllEnvelopes observable group old new =
      (start : ServerValue R) (given : List (Option (List ℕ))) → Gathers start.replica given group old.replica
      → start.sent ≡ old.sent → start.socket_failures ≡ old.socket_failures
      → DeliversEnvelopes Says observable given old.loopback start new
