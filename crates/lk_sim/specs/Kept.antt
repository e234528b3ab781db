-- What the disks of a majority keep of a chosen list.
use Rattle.std.specs.Prelude.{◌≡◌, ℕ, ◌≤◌, ◌⊎◌, List, [], length, Contains}
use Rattle.lk_types.specs.declared.vote.Vote.{Vote}
use Rattle.lk_disk.specs.Disk.{Disk}
use Rattle.lk_disk.specs.declared.device.Side.{Side}
use Rattle.lk_store_format.specs.Values.{StandingValue}
use Rattle.lk_log.specs.Images.{Image, MayLeaveBoth}
use Rattle.lk_members.specs.Rosters.{members}
use Rattle.lk_members.specs.Majorities.{IsMajority}
use Rattle.lk_state.specs.Meanings.{Meaning}
use Rattle.lk_agreement_laws.specs.Acceptors.{CoversSent}
use Rattle.lk_agreement_laws.specs.Chosen.{Chosen, IsPrefix}
use Rattle.lk_node.specs.Histories.{Genesis, Datagram, Command}
use Rattle.lk_node.specs.Leavings.{header_of, acceptor_of, StandsAs}
use Rattle.lk_node.specs.BorneOut.{text}
use Rattle.lk_sim_nodes.specs.SimNodes.{At, disks_of}
use Rattle.lk_sim_nodes.specs.declared.sim_node.SimNode.{SimNode}

-- whatever a stop may leave of the node's disks has a standing with this property
abbrev pub EveryStanding : {R : Type 0} → (R → Side → Disk) → Meaning → Genesis → SimNode R
    → (StandingValue → Type 0) → Type 0
EveryStanding disks m genesis s Is = (image : Image) → MayLeaveBoth (disks_of disks s.run_state) image
    → (x : StandingValue) × StandsAs (header_of genesis s.number) (text m genesis []) image x × Is x

-- every standing that a stop may leave covers everything that the node has sent
abbrev pub CoversAll : {R : Type 0} → (R → Side → Disk) → Meaning → Genesis → List Datagram → SimNode R → Type 0
CoversAll disks m genesis sent s =
    EveryStanding disks m genesis s (λ x. CoversSent genesis sent s.number (acceptor_of x))

-- the snapshot is the packed text of a prefix of the list, or of a chosen list that extends it
pub record HasPacked (m : Meaning) (genesis : Genesis) (sent : List Datagram) (L : List Command)
    (x : StandingValue) : Type 0 where
  pub under : List Command
  pub chosen : Chosen genesis sent under
  pub position : length under ≡ x.position
  pub snapshot : x.snapshot ≡ text m genesis under
  pub agrees : IsPrefix under L ⊎ IsPrefix L under

-- it keeps the command of the position: the snapshot reaches it, or there is a vote for it
abbrev pub KeepsCommand : Meaning → Genesis → List Datagram → List Command → ℕ → Command → StandingValue → Type 0
KeepsCommand m genesis sent L i v x =
    ((i ≤ x.position) × HasPacked m genesis sent L x)
    ⊎ ((y : Vote) × Contains x.votes y × (y.position ≡ i) × (y.command ≡ v))

-- a majority of the members that the list names for the position keeps its command: each was started, and whatever a
-- stop may leave of its disks keeps it
pub record IsKeptBy {R : Type 0} (disks : R → Side → Disk) (m : Meaning) (genesis : Genesis)
    (sim_nodes : List (SimNode R))
    (sent : List Datagram) (L : List Command) (i : ℕ) (v : Command) : Type 0 where
  pub nodes : List ℕ
  pub majority : IsMajority nodes (members genesis L i)
  pub keep : (n : ℕ) → Contains nodes n
      → (k : ℕ) × (s : SimNode R) × At sim_nodes k s × (s.number ≡ n)
      × EveryStanding disks m genesis s (KeepsCommand m genesis sent L i v)
