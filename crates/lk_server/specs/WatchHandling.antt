-- How a server handles watches, after the envelopes of a turn and what it does about probes.
use Rattle.std.specs.Prelude.{◌≡◌, ◌⊎◌, ℕ, Bool, true, false, not, ◌&&◌, List, [], ◌∷◌, ◌++◌, Option, Some, None}
use Rattle.std.specs.Prelude.{IfSome}
use Rattle.lk_locks.specs.Plain.{Table}
use Rattle.lk_watch.specs.Seen.{seen_in, standing_by}
use Rattle.lk_watch.specs.Tables.{standing_in}
use Rattle.lk_watch.specs.Queues.{QueueValue, Table as Standings, HearsOrNot, TellsAll, TellsFirst}
use Rattle.lk_watch.specs.declared.seen.SeenName.{SeenName}
use Rattle.lk_watch.specs.declared.waiter.Envelope.{Envelope}
use Rattle.lk_transport.specs.Watches.{SendsNotice, SendsNotices}
use Rattle.lk_transport.specs.declared.received_watch.ReceivedWatch.{ReceivedWatch}
use Rattle.lk_waiting.specs.Waits.{AreAllChanged, HasNothingNew, WaitingValue, begun_at}
use Rattle.lk_waiting.specs.declared.moment.Moment.{Moment}
use Rattle.lk_server.specs.Servers.{ServerValue, periods, send_state_at}
use Rattle.lk_server_replica.specs.declared.probed_state.ProbedState.{ProbedState}

-- what it knows of itself: it speaks for the cluster if its replica shows that it leads, and it is not deaf
abbrev pub IsMoment : {R : Type 0} → (R → ProbedState → Type 0) → ServerValue R → Moment → Type 0
IsMoment Shows s m = (shown : ProbedState) × Shows s.replica shown × (m ≡ record {
  periods = periods s;
  speaks = not s.addresses.deaf && shown.leadership.leads;
  snapshot = shown.progress.snapshot;
  executed = shown.progress.executed;
})

-- the watch that is kept is heard, if one is, and these envelopes are to be sent for it
abbrev pub HearsKept : Table → Bool → Option ReceivedWatch → QueueValue → List Envelope → QueueValue → Type 0
HearsKept table speaks None old envelopes new = (envelopes ≡ []) × (new ≡ old)
HearsKept table speaks (Some r) old envelopes new =
    HearsOrNot (standing_in table) speaks r.watch r.from old envelopes new

-- where it speaks for the cluster, those who are to be told are, by what is said of the names
abbrev pub TellsIf : Bool → Standings → QueueValue → List Envelope → QueueValue → Type 0
TellsIf true standings old envelopes new = TellsAll standings old envelopes new
TellsIf false standings old envelopes new = (envelopes ≡ []) × (new ≡ old)

-- ---- which names it looks at

abbrev pub name_watched : Option ReceivedWatch → List (List ℕ)
name_watched None = []
name_watched (Some r) = r.watch.ticket.name ∷ []

-- these are the names that commands may have changed since the queue's last turn, where nothing else can have changed
-- one, and the name of the watch that is kept
pub record IsAllNew (table : Table) (watched : Option ReceivedWatch) (w : WaitingValue) (m : Moment)
    (seen : List SeenName) : Type 0 where
  pub changed : List SeenName
  pub all : AreAllChanged table w m changed
  pub names : seen ≡ changed ++ seen_in table (name_watched watched)

-- ---- what it does

-- a watch is kept or somebody waits: the queue looks at the whole table, or only at the names that commands may have
-- changed and that of the watch, where no period has ended since its last turn, no snapshot was installed, and the
-- server has neither begun nor ceased to speak for the cluster. It begins its turn; then the watch that is kept is
-- heard and answered; then those are told who are to be told. Each envelope goes to the address that it names, in
-- order, and nothing else is sent. Nothing of the replica changes, nor any address, nor what is to come, if the socket
-- tells that
pub record ServesWaiters {R : Type 0} (table : Table) (Shows : R → ProbedState → Type 0) (observable : Type 0)
    (watched : Option ReceivedWatch) (old new : ServerValue R) : Type 0 where
  pub moment : Moment
  pub is_now : IsMoment Shows old moment
  pub seen : Option (List SeenName)
  pub looks : IfSome seen (IsAllNew table watched old.waiting moment)
  pub answers : List Envelope
  pub heard : QueueValue
  pub hears : HearsKept table moment.speaks watched (begun_at table seen moment old.waiting).queue answers heard
  pub told : List Envelope
  pub tells : TellsIf moment.speaks (standing_by table seen) heard told new.waiting.queue
  pub sends : SendsNotices observable old.addresses.seals old.node (answers ++ told)
      (send_state_at old.loopback old) (send_state_at new.loopback new)
  pub still : observable → new.incoming ≡ old.incoming
  pub waiting : new.waiting ≡ record (begun_at table seen moment old.waiting) { queue = new.waiting.queue }
  pub same : new ≡ record old {
    waiting = new.waiting;
    sent = new.sent;
    socket_failures = new.socket_failures;
    incoming = new.incoming;
  }

-- no watch is kept, and nobody waits or nothing is new: nothing changes
pub record IsQuiet {R : Type 0} (Shows : R → ProbedState → Type 0) (watched : Option ReceivedWatch)
    (old new : ServerValue R) : Type 0 where
  pub none : watched ≡ None
  pub nothing : (old.waiting.queue.waiters ≡ [])
      ⊎ ((moment : Moment) × IsMoment Shows old moment × HasNothingNew old.waiting moment)
  pub same : new ≡ old

-- so by the table of its replica
abbrev pub HandlesWatches : {R : Type 0} → (R → Table) → (R → ProbedState → Type 0) → Type 0 → Option ReceivedWatch
    → ServerValue R → ServerValue R → Type 0
HandlesWatches table Shows observable watched old new =
    IsQuiet Shows watched old new ⊎ ServesWaiters (table old.replica) Shows observable watched old new

-- ---- what a step of it may change

abbrev pub ChangesQueue : {R : Type 0} → ServerValue R → ServerValue R → Type 0
ChangesQueue old new = new ≡ record old { waiting = record old.waiting { queue = new.waiting.queue } }

abbrev pub ChangesByNotices : {R : Type 0} → ServerValue R → ServerValue R → Type 0
ChangesByNotices old new = new ≡ record old {
  waiting = record old.waiting { queue = new.waiting.queue };
  sent = new.sent;
  socket_failures = new.socket_failures;
  incoming = new.incoming;
}

-- the watch is heard and answered
pub record AnswersWatch {R : Type 0} (table : Table) (observable : Type 0) (speaks : Bool)
    (watched : Option ReceivedWatch) (old new : ServerValue R) : Type 0 where
  pub envelopes : List Envelope
  pub hears : HearsKept table speaks watched old.waiting.queue envelopes new.waiting.queue
  pub sends : SendsNotices observable old.addresses.seals old.node envelopes (send_state_at old.loopback old)
      (send_state_at new.loopback new)

-- the next who is to be told is, by what is said of the names
pub record TellsNext {R : Type 0} (standings : Standings) (observable : Type 0) (old new : ServerValue R) : Type 0 where
  pub envelope : Envelope
  pub tells : TellsFirst standings old.waiting.queue envelope new.waiting.queue
  pub sends : SendsNotice observable old.addresses.seals old.node envelope (send_state_at old.loopback old)
      (send_state_at new.loopback new)

-- those who are to be told are
pub record TellsWaiters {R : Type 0} (standings : Standings) (observable : Type 0) (speaks : Bool)
    (old new : ServerValue R) : Type 0 where
  pub envelopes : List Envelope
  pub tells : TellsIf speaks standings old.waiting.queue envelopes new.waiting.queue
  pub sends : SendsNotices observable old.addresses.seals old.node envelopes (send_state_at old.loopback old)
      (send_state_at new.loopback new)
