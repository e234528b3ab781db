-- How a server handles probes and reports, after the envelopes of a turn.
use Rattle.std.specs.Prelude.{◌≡◌, ℕ, List, Option, Some, None}
use Rattle.lk_types.specs.declared.member.Member.{Member}
use Rattle.lk_probe.specs.declared.reported.Reported.{Reported}
use Rattle.lk_address_book.specs.Addresses.{AddressBook, IsSameNetwork}
use Rattle.lk_transport.specs.Inquiring.{AsksOne, ReadmitsKept}
use Rattle.lk_address_book.specs.Inquiries.{LearnsKept}
use Rattle.lk_transport.specs.Askers.{RecordsKeptProber}
use Rattle.lk_transport.specs.declared.received_probe.ReceivedProbe.{ReceivedProbe}
use Rattle.lk_server.specs.Probes.{RepliesToKept}
use Rattle.lk_server.specs.Servers.{ServerValue, periods, send_state_at}
use Rattle.lk_pacing.specs.declared.pace.Pace.{Pace}
use Rattle.lk_pacing.specs.declared.pace.Pace.TheVariants.{Datagrams, Clock}
use Rattle.lk_transport.specs.Listening.{Listens}
use Rattle.lk_transport.specs.Posts.{SendState}
use Rattle.lk_server_replica.specs.declared.probed_state.ProbedState.{ProbedState}

-- where ticks go by the clock: the report that was kept counts as a reply, the members of the replica's next position
-- are probed if that is due, and then the server is deaf exactly if it does not hear a majority of them; by datagrams
-- nothing happens
abbrev pub ListensFor : {R : Type 0} (members : R → List Member) (observable : Type 0)
    (reported : Option Reported) (old : ServerValue R) → AddressBook → AddressBook → SendState → SendState → Pace
    → Type 0
ListensFor members observable reported old book new before after Datagrams = (new ≡ book) × (after ≡ before)
ListensFor members observable reported old book new before after Clock =
    Listens observable old.node (periods old) reported (members old.replica) book new before after

abbrev pub ListensIf : {R : Type 0} (members : R → List Member) (observable : Type 0)
    (reported : Option Reported) → ServerValue R → ServerValue R → Type 0
ListensIf members observable reported old new =
    ListensFor members observable reported old old.addresses new.addresses (send_state_at old.loopback old)
    (send_state_at new.loopback new) old.pace

-- the address of a probe is recorded if it names one of the members after all joins and leaves that the replica has
-- executed
abbrev pub RecordsMember : {R : Type 0} (Shows : R → ProbedState → Type 0) → ReceivedProbe → R → ℕ
    → AddressBook → AddressBook → Type 0
RecordsMember Shows a replica own old new =
    (shown : ProbedState) × Shows replica shown × RecordsKeptProber own shown.newest (Some a) old new

-- a node of the same genesis that asks by the probe that was kept is heard again, and so recorded
abbrev pub Welcomes : {R : Type 0} (Shows : R → ProbedState → Type 0) → Option ReceivedProbe → R → ℕ
    → AddressBook → AddressBook → Type 0
Welcomes Shows None replica own old new = new ≡ old
Welcomes Shows (Some a) replica own old new =
    (readmitted : AddressBook) × ReadmitsKept (Some a) old readmitted × RecordsMember Shows a replica own readmitted new

-- the probe that was kept is answered, and a node of the same genesis that asks by it is heard again; what the report
-- tells that was kept is learned; then one question is sent where one is due in this period; and last it listens.
-- Nothing else is sent, and nothing else changes; nor does what is to come, if the socket tells that. `Shows` is what a
-- replica shows, and `members` are those of its next position
pub record HandlesProbes {R : Type 0} (Shows : R → ProbedState → Type 0) (members : R → List Member)
    (observable : Type 0) (asked : Option ReceivedProbe) (reported : Option Reported)
    (old new : ServerValue R) : Type 0 where
  pub replied : ServerValue R
  pub replies : RepliesToKept Shows observable asked old replied
  pub readmitted : AddressBook
  pub readmits : Welcomes Shows asked old.replica old.node old.addresses readmitted
  pub learned : AddressBook
  pub learns : LearnsKept old.node reported readmitted learned
  pub questioned : AddressBook
  pub between : SendState
  pub asks : AsksOne observable (periods old) old.node learned questioned
      (send_state_at replied.loopback replied) between
  pub keys : questioned.seals ≡ old.addresses.seals
  pub listens : ListensFor members observable reported old questioned new.addresses between
      (send_state_at new.loopback new) old.pace
  pub network : IsSameNetwork old.addresses new.addresses
  pub still : observable → new.incoming ≡ old.incoming
  pub same : new ≡ record old {
    addresses = new.addresses;
    sent = new.sent;
    socket_failures = new.socket_failures;
    incoming = new.incoming;
  }
