-- A process that is killed in the middle of a turn.
use Rattle.std.specs.Prelude.{◌≡◌, ◌⊎◌, ℕ, Option, List, take}
use Rattle.std.specs.declared.net.socket_addr.SocketAddr.{SocketAddr}
use Rattle.lk_locks.specs.Meaning.{table_meaning}
use Rattle.lk_locks.specs.Packed.{IsTableText}
use Rattle.lk_replica.specs.Groups.{GroupValue}
use Rattle.lk_replica.specs.ReplicaValue.{ReplicaValue}
use Rattle.lk_server_replica.specs.Sayings.{GathersOf}
use Rattle.lk_address_book.specs.Addresses.{AddressBook}
use Rattle.lk_address_book.specs.Senders.{RecordsSenders}
use Rattle.lk_server.specs.Servers.{ServerValue, EnvelopesFirst, TakesEnvelopes, Given, GivenPrefix, MayEndNudged}
use Rattle.lk_server.specs.Servers.{datagrams_in}

-- in a turn of this server its replica has been given this so far, a prefix of what it may be given, or all of that and
-- a nudge, and is now in that state: it has taken all of it into its group, as `gather` ensures, and nothing of the
-- group is synced or sent. `came` is what was taken of the frames that have come in the turn
pub record IsInTurn (Metered observable Honest : Type 0) (came : List (SocketAddr × List ℕ))
    (server : ServerValue ReplicaValue) (given : List (Option (List ℕ))) (now : ReplicaValue) : Type 0 where
  pub envelopes_first : EnvelopesFirst observable came server
  pub count : ℕ
  pub envelopes : TakesEnvelopes count server.loopback
  pub timed : List (Option (List ℕ))
  pub first : GivenPrefix server.pace server.received (datagrams_in (take count server.loopback) came) timed
  pub nudged : MayEndNudged timed given
  pub after_all : (given ≡ timed)
      ⊎ Given server.pace server.received (datagrams_in (take count server.loopback) came) timed
  pub addresses : AddressBook
  pub heard : RecordsSenders server.cluster came server.addresses addresses
  pub group : GroupValue
  pub gathers : Honest → GathersOf table_meaning IsTableText Metered server.replica given group now
