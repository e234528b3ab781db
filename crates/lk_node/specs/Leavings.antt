-- What a stop may leave on a node's disks, and when that fits a history.
use Rattle.std.specs.Prelude.{◌≡◌, ℕ, List, [], length, None}
use Rattle.lk_state.specs.Meanings.{Meaning}
use Rattle.lk_disk.specs.Disk.{Disk}
use Rattle.lk_disk.specs.declared.device.Side.{Side}
use Rattle.lk_store_format.specs.Values.{HeaderValue, StandingValue}
use Rattle.lk_store_format.specs.Standings.{HasHeader, StandsFor}
use Rattle.lk_store_format.specs.declared.stored.Stored.{Stored}
use Rattle.lk_log.specs.Images.{Image, MayLeaveBoth}
use Rattle.lk_log.specs.Stores.{Found}
use Rattle.lk_agreement_laws.specs.Datagrams.{NodeMessage}
use Rattle.lk_agreement_laws.specs.Acceptors.{AcceptorState, Covers, CoversSent}
use Rattle.lk_agreement_laws.specs.Nodes.{PaxosState, Stems}
use Rattle.lk_node.specs.Histories.{History, Genesis, Command}
use Rattle.lk_node.specs.Reaching.{AllLieNear}
use Rattle.lk_node.specs.BorneOut.{text}

-- whose store it is
abbrev pub header_of : Genesis → ℕ → HeaderValue
header_of genesis n = record { node = n; cluster = genesis.cluster; alpha = genesis.alpha; members = genesis.members }

-- what an acceptor remembers from it
abbrev pub acceptor_of : StandingValue → AcceptorState
acceptor_of s = record { promised = s.promised; votes = s.votes; snapshot_position = s.position }

-- the Paxos state of a node that has just restarted from it, once its snapshot is unpacked: that of these commands
abbrev pub paxos_of : StandingValue → List Command → PaxosState
paxos_of s under = record { acceptor = acceptor_of s; done = under; pairs = s.pairs; term = None }

-- the standing of the image's live file, or that of a new store if there is none
pub record StandsAs (whose : HeaderValue) (zero : List ℕ) (image : Image) (s : StandingValue) : Type 0 where
  pub entries : List Stored
  pub found : Found image whose zero entries
  pub header : HasHeader entries whose
  pub stands : StandsFor entries s

-- The image has a standing that covers everything that the node has sent; the snapshot is the packed text of a chosen
-- list, votes and pairs stem from what was sent, and they lie near enough for a restart.
pub record ImageFits (m : Meaning) (h : History) (n : ℕ) (image : Image) : Type 0 where
  pub standing : StandingValue
  pub stands : StandsAs (header_of h.genesis n) (text m h.genesis []) image standing
  pub under : List Command
  pub position : length under ≡ standing.position
  pub snapshot : standing.snapshot ≡ text m h.genesis under
  pub covers : CoversSent h.genesis h.sent n (acceptor_of standing)
  pub stems : Stems h.genesis h.sent (paxos_of standing under)
  pub near : AllLieNear h.genesis.alpha standing

-- each image that a stop may leave of these disks does
abbrev pub DisksFit : Meaning → History → ℕ → (Side → Disk) → Type 0
DisksFit m h n disks = (image : Image) → MayLeaveBoth disks image → ImageFits m h n image

-- each image that a stop may leave of these disks covers the message
abbrev pub AllCover : Meaning → Genesis → ℕ → (Side → Disk) → NodeMessage → Type 0
AllCover m genesis n disks x = (image : Image) → MayLeaveBoth disks image
    → (s : StandingValue) × StandsAs (header_of genesis n) (text m genesis []) image s × Covers (acceptor_of s) x
