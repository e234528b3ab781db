-- What the only member of a cluster may have become, if nobody but the seeding asks it.
use Rattle.std.specs.Prelude.{◌≡◌, ◌⊎◌, ◌==◌, ℕ, Bool, true, false, List, [], ◌++◌, filter, All, Contains, Ok}
use Rattle.lk_types.specs.declared.command.Op.TheVariants.{Table}
use Rattle.lk_memory_disk.specs.Memory.{empty}
use Rattle.lk_messages.specs.Grammar.{Spells}
use Rattle.lk_messages.specs.declared.message.Content.TheVariants as content
use Rattle.lk_agreement_laws.specs.declared.party.Party.{Party}
use Rattle.lk_agreement_laws.specs.declared.party.Party.TheVariants as party
use Rattle.lk_store_format.specs.Values.{HeaderValue}
use Rattle.lk_locks.specs.Bodies.{spelling}
use Rattle.lk_locks.specs.Meaning.{table_meaning}
use Rattle.lk_locks.specs.Packed.{IsTableText}
use Rattle.lk_locks.specs.declared.body.Body.{Body}
use Rattle.lk_locks.specs.declared.body.Body.TheVariants.{Acquire, Release, Ask, Check, Share, Break}
use Rattle.lk_node.specs.Histories.{Datagram}
use Rattle.lk_node_interface.specs.declared.input.Input.{Input}
use Rattle.lk_node_interface.specs.declared.input.Input.TheVariants.{Tick, Nudge, Datagram as Heard}
use Rattle.lk_node_interface.specs.declared.note.Note.{Note}
use Rattle.lk_replica.specs.ReplicaValue.{ReplicaValue}
use Rattle.lk_replica.specs.Revived.{RevivesTo}
use Rattle.lk_replica.specs.Taking.{ComesTo}
use Rattle.lk_seed.specs.MemberValue.{MemberValue}
use Rattle.lk_seed.specs.declared.wanted.Wanted.{Wanted}

-- the name is one of those that are wanted
abbrev pub IsWanted : List Wanted → List ℕ → Type 0
IsWanted wanted name = (w : Wanted) × Contains wanted w × (w.name ≡ name)

-- it acquires or releases such a name
abbrev pub IsOfGrant : List Wanted → Body → Type 0
IsOfGrant wanted (Acquire name) = IsWanted wanted name
IsOfGrant wanted (Release name fence) = IsWanted wanted name
IsOfGrant wanted (Ask name) = ⊥
IsOfGrant wanted (Check name fence) = ⊥
IsOfGrant wanted (Share name) = ⊥
IsOfGrant wanted (Break name fence) = ⊥

-- the bytes are such a request of client 256 to this cluster
pub record AreOfRequest (cluster : ℕ) (wanted : List Wanted) (bytes : List ℕ) : Type 0 where
  pub number : ℕ
  pub body : Body
  pub of_grant : IsOfGrant wanted body
  pub spelled : Spells (record {
    cluster = cluster;
    content = content.Request (record { client = 256; number = number; op = Table (spelling body) });
  }) bytes

-- the datagram goes to this node
abbrev pub is_to : ℕ → Party → Bool
is_to node (party.Node n) = n == node
is_to node (party.Client client) = false

-- those of these datagrams that go to this node
abbrev pub own_of : ℕ → List Datagram → List Datagram
own_of node ds = filter (λ d. is_to node d.to) ds

-- it has sent this datagram to itself
pub record IsOwn (node : ℕ) (sent : List Datagram) (d : Datagram) : Type 0 where
  pub was_sent : Contains sent d
  pub to_itself : is_to node d.to ≡ true

-- what may reach it: ticks, requests of the seeding, and what it has sent itself
abbrev pub MayReach : HeaderValue → List Wanted → List Datagram → Input → Type 0
MayReach header wanted sent Tick = Unit {0}
MayReach header wanted sent (Nudge reason) = ⊥
MayReach header wanted sent (Heard bytes) =
    AreOfRequest header.cluster wanted bytes
    ⊎ ((d : Datagram) × IsOwn header.node sent d × (d.bytes ≡ bytes))

-- A replica of this header's node began on empty disks, took only what may reach it, one input after another, and is
-- now this; it has sent these datagrams.
pub data Becomes (header : HeaderValue) (wanted : List Wanted) : ReplicaValue → List Datagram → Type 0 where
  begins : (r : ReplicaValue) (notes : List Note)
      → RevivesTo table_meaning IsTableText empty header (Ok (r, notes)) → Becomes header wanted r []
  takes : (r q : ReplicaValue) (sent more : List Datagram) (i : Input) (notes : List Note)
      → Becomes header wanted r sent → MayReach header wanted sent i
      → ComesTo table_meaning IsTableText r i q (Ok (notes, more)) → Becomes header wanted q (sent ++ more)

-- the member has taken something, and keeps what it has sent itself
pub record HasTaken (header : HeaderValue) (wanted : List Wanted) (sent : List Datagram)
    (old new : MemberValue) : Type 0 where
  pub more : List Datagram
  pub becomes : Becomes header wanted new.replica (sent ++ more)
  pub envelopes : new.envelopes ≡ old.envelopes ++ own_of header.node more
  pub whose : new.header ≡ header

-- the member is such a replica, and it has sent itself the envelopes that wait
pub record IsMember (header : HeaderValue) (wanted : List Wanted) (m : MemberValue) : Type 0 where
  pub whose : m.header ≡ header
  pub sent : List Datagram
  pub becomes : Becomes header wanted m.replica sent
  pub own : All (IsOwn header.node sent) m.envelopes
