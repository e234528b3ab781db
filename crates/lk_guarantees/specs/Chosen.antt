-- What is chosen: which lists of commands a majority of the members has accepted, position by position.
use Rattle.std.specs.Prelude.{◌≡◌, ℕ, ◌*◌, ◌<◌, ◌⊎◌, Bool, Some, List, ◌++◌, length, count_by, Contains, IsTrue}
use Rattle.lk_types.specs.BallotValue.{BallotValue as Ballot}
use Rattle.lk_types.specs.declared.command.Command.{Command}
use Rattle.lk_types.specs.declared.genesis.Genesis.{Genesis}
use Rattle.lk_types.specs.declared.member.Member.{Member}
use Rattle.lk_types.specs.declared.vote.Vote.{Vote}
use Rattle.lk_messages.specs.Grammar.{Spells}
use Rattle.lk_messages.specs.declared.message.Content.TheVariants as content
use Rattle.lk_messages.specs.declared.message.NodeMessage.{NodeMessage}
use Rattle.lk_messages.specs.declared.message.NodeMessage.TheVariants as message
use Rattle.lk_agreement_laws.specs.Datagrams.{Datagram}
use Rattle.lk_agreement_laws.specs.declared.party.Party.TheVariants as party
use Rattle.lk_guarantees.specs.Plain.{at, members}

-- the node has sent the message, in the cluster of the genesis
pub record Says (genesis : Genesis) (sent : List Datagram) (node : ℕ) (m : NodeMessage) : Type 0 where
  pub datagram : Datagram
  pub is_sent : Contains sent datagram
  pub by_node : datagram.from ≡ party.Node node
  pub in_words : Spells (record { cluster = genesis.cluster; content = content.Node node m }) datagram.bytes

-- A ballot is used once: only the node that it names proposes in it, and at each position one command. (Lamport, Paxos
-- Made Simple, 2001, section 2.2: different proposals have different numbers)
pub record UsesBallotsOnce (genesis : Genesis) (sent : List Datagram) : Type 0 where
  pub own : (node : ℕ) (x : Vote) → Says genesis sent node (message.Accept x) → x.ballot.node ≡ node
  pub once : (node other i : ℕ) (ballot : Ballot) (v w : Command)
      → Says genesis sent node (message.Accept (record { position = i; ballot = ballot; command = v }))
      → Says genesis sent other (message.Accept (record { position = i; ballot = ballot; command = w })) → v ≡ w

-- more than half of these members have accepted the command at position i in the ballot
pub record IsAcceptedBy (genesis : Genesis) (sent : List Datagram) (set : List Member) (i : ℕ) (v : Command)
    (ballot : Ballot) : Type 0 where
  pub among : Member → Bool
  pub more_than_half : length set < 2 * count_by among set
  pub each : (m : Member) → Contains set m → IsTrue (among m)
      → Says genesis sent m.node (message.Accepted (record { position = i; ballot = ballot; command = v }))

-- the list is chosen: at each of its positions a majority of that position's members has accepted its command in one
-- ballot. (Lamport, Paxos Made Simple, 2001, section 2.2)
unfoldable pub IsChosen : Genesis → List Datagram → List Command → Type 0
IsChosen genesis sent L =
    (i : ℕ) (v : Command) → at L i ≡ Some v
    → (ballot : Ballot) × IsAcceptedBy genesis sent (members genesis L i) i v ballot

-- the first list is a prefix of the second
abbrev pub IsPrefix : List Command → List Command → Type 0
IsPrefix L K = (rest : List Command) × (K ≡ L ++ rest)

-- chosen lists agree: of two of them one is a prefix of the other. (The safety of consensus, for a whole list:
-- Lamport, Paxos Made Simple, 2001, section 2.1)
abbrev pub Agree : Genesis → List Datagram → Type 0
Agree genesis sent = (L K : List Command) → IsChosen genesis sent L → IsChosen genesis sent K → IsPrefix L K
    ⊎ IsPrefix K L
