-- Which commands are chosen, given what was sent.
pub use Rattle.lk_types.specs.declared.command.Command.{Command}
use Rattle.std.specs.Prelude.{◌≡◌, ℕ, zero, suc, ◌+◌, ◌≤◌, List, ◌++◌, length, Option, Some, None, slice_get, Contains}
use Rattle.lk_members.specs.Rosters.{Member, Genesis, members}
use Rattle.lk_members.specs.Majorities.{IsMajority}
use Rattle.lk_agreement_laws.specs.Ballots.{BallotValue}
use Rattle.lk_agreement_laws.specs.Datagrams.{Datagram, Accepted, HasSent}

-- the command at a position of a list. Positions begin at 1
abbrev pub command_at : List Command → ℕ → Option Command
command_at L zero = None
command_at L (suc k) = slice_get L k

-- a majority of the set has accepted the command at the position in the ballot
pub record IsAcceptedIn (genesis : Genesis) (sent : List Datagram) (set : List Member) (b : BallotValue) (i : ℕ)
    (v : Command) : Type 0 where
  pub nodes : List ℕ
  pub majority : IsMajority nodes set
  pub accepted : (n : ℕ) → Contains nodes n
      → HasSent genesis sent n (Accepted (record { position = i; ballot = b; command = v }))

-- each command of the list was accepted, in one ballot, by a majority of the members that the list names for its
-- position
unfoldable pub Chosen : Genesis → List Datagram → List Command → Type 0
Chosen genesis sent L =
    (i : ℕ) (v : Command) → command_at L i ≡ Some v
    → (b : BallotValue) × IsAcceptedIn genesis sent (members genesis L i) b i v

-- the command was accepted, in one ballot, by a majority of the members that a chosen list names for the position,
-- which may be beyond the list's end, and beyond a gap
pub record ChosenAt (genesis : Genesis) (sent : List Datagram) (i : ℕ) (v : Command) : Type 0 where
  pub under : List Command
  pub chosen : Chosen genesis sent under
  pub reaches : i ≤ length under + genesis.alpha
  pub ballot : BallotValue
  pub accepted : IsAcceptedIn genesis sent (members genesis under i) ballot i v

-- each of the commands is chosen at its position, the first at this one
abbrev pub AreChosenFrom : Genesis → List Datagram → ℕ → List Command → Type 0
AreChosenFrom genesis sent first commands =
    (k : ℕ) (v : Command) → slice_get commands k ≡ Some v → ChosenAt genesis sent (first + k) v

-- one list is a prefix of the other
abbrev pub IsPrefix : List Command → List Command → Type 0
IsPrefix L K = (rest : List Command) × (L ++ rest ≡ K)
