-- What holds of everything that was ever sent, and makes chosen lists agree.
use Rattle.std.specs.Prelude.{◌≡◌, ℕ, ◌+◌, ◌≤◌, List, length, Contains}
use Rattle.lk_messages.specs.Grammar.{Spells}
use Rattle.lk_messages.specs.Values.{PromiseValue, DecidedValue}
use Rattle.lk_members.specs.Rosters.{members}
use Rattle.lk_members.specs.Majorities.{IsMajority}
use Rattle.lk_agreement_laws.specs.declared.party.Party.TheVariants as party
use Rattle.lk_agreement_laws.specs.Ballots.{BallotValue, IsBelow, IsAtMost}
use Rattle.lk_agreement_laws.specs.Datagrams.{Genesis, Vote, NodeMessage, Datagram, said_by, Promise, Accept, Accepted}
use Rattle.lk_agreement_laws.specs.Datagrams.{Decided, HasSent, WasSent}
use Rattle.lk_agreement_laws.specs.Chosen.{Command, Chosen, AreChosenFrom}

-- a promise that was heard: who gave it, and the votes that it reports from a position on
pub record ReceivedPromise : Type 0 where
  pub node : ℕ
  pub first : ℕ
  pub votes : List Vote

-- its node has sent it, as a promise of this ballot
abbrev pub WasPromised : Genesis → List Datagram → BallotValue → ReceivedPromise → Type 0
WasPromised genesis sent b r =
    HasSent genesis sent r.node (Promise (record { ballot = b; first = r.first; votes = r.votes }))

-- one of the promises reports the vote
abbrev pub IsPromisedVote : List ReceivedPromise → Vote → Type 0
IsPromisedVote received x = (r : ReceivedPromise) × Contains received r × Contains r.votes x

-- one of them is of this node
abbrev pub IsPromiser : List ReceivedPromise → ℕ → Type 0
IsPromiser received n = (r : ReceivedPromise) × Contains received r × (r.node ≡ n)

-- one of the votes is for the position, in this ballot or a greater one
abbrev pub HasVoteAtOrAbove : List Vote → ℕ → BallotValue → Type 0
HasVoteAtOrAbove votes i c = (x : Vote) × Contains votes x × (x.position ≡ i) × IsAtMost c x.ballot

-- why a command may be proposed at a position in a ballot
pub record Justified (genesis : Genesis) (sent : List Datagram) (b : BallotValue) (i : ℕ) (v : Command) : Type 0 where
  -- a chosen list names the members of the position
  pub under : List Command
  pub chosen : Chosen genesis sent under
  pub reaches : i ≤ length under + genesis.alpha
  -- a majority of them has promised the ballot, from the position or one before it on
  pub received : List ReceivedPromise
  pub nodes : List ℕ
  pub majority : IsMajority nodes (members genesis under i)
  pub promisers : (n : ℕ) → Contains nodes n → IsPromiser received n
  pub promised : (r : ReceivedPromise) → Contains received r → (r.first ≤ i) × WasPromised genesis sent b r
  -- each vote that they report at the position is matched by one for this command, in a ballot at least as great, and
  -- below the one of the proposal. So none is reported, or the command is that of the greatest
  pub highest : (x : Vote) → IsPromisedVote received x → x.position ≡ i
      → (y : Vote) × IsPromisedVote received y × (y.position ≡ i) × (y.command ≡ v)
      × IsAtMost x.ballot y.ballot × IsBelow y.ballot b

pub record Sound (genesis : Genesis) (sent : List Datagram) : Type 0 where
  -- the named sender has sent it
  pub signed : (d : Datagram) → Contains sent d → (n : ℕ) (m : NodeMessage)
      → Spells (said_by genesis n m) d.bytes → d.from ≡ party.Node n
  -- at most one command is proposed at a position in a ballot
  pub one_value : (b : BallotValue) (i : ℕ) (v w : Command)
      → WasSent genesis sent (Accept (record { position = i; ballot = b; command = v }))
      → WasSent genesis sent (Accept (record { position = i; ballot = b; command = w })) → v ≡ w
  -- a node proposes only in ballots of its own
  pub own : (n : ℕ) (x : Vote) → HasSent genesis sent n (Accept x) → x.ballot.node ≡ n
  -- what is accepted was proposed
  pub proposed : (n : ℕ) (x : Vote) → HasSent genesis sent n (Accepted x) → WasSent genesis sent (Accept x)
  -- what a promise reports was proposed, in a ballot that is not above the promise
  pub reported : (n : ℕ) (p : PromiseValue) → HasSent genesis sent n (Promise p)
      → (x : Vote) → Contains p.votes x → WasSent genesis sent (Accept x) × IsAtMost x.ballot p.ballot
  -- a promise reports, at each position from its first on, each vote of its node in an earlier ballot, or one above it
  pub complete : (n : ℕ) (p : PromiseValue) (x : Vote) → HasSent genesis sent n (Promise p)
      → HasSent genesis sent n (Accepted x)
      → IsBelow x.ballot p.ballot → p.first ≤ x.position → HasVoteAtOrAbove p.votes x.position x.ballot
  -- what is proposed is justified
  pub justified : (x : Vote) → WasSent genesis sent (Accept x) → Justified genesis sent x.ballot x.position x.command
  -- what is sent as decided is chosen
  pub told : (n : ℕ) (d : DecidedValue) → HasSent genesis sent n (Decided d)
      → AreChosenFrom genesis sent d.first d.commands
