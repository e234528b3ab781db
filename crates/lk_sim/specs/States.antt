-- The states of the nodes of a world, in terms of chosen lists.
use Rattle.std.specs.Prelude.{◌≡◌, ℕ, List, [], length}
use Rattle.lk_disk.specs.Disk.{Disk}
use Rattle.lk_memory_disk.specs.Memory.{Memory, disk_of}
use Rattle.lk_disk.specs.declared.device.Side.{Side}
use Rattle.lk_store_format.specs.Values.{StandingValue}
use Rattle.lk_log.specs.Images.{Image, MayLeaveBoth}
use Rattle.lk_state.specs.Meanings.{Meaning}
use Rattle.lk_state.specs.States.{WholeValue, SumsUp}
use Rattle.lk_agreement_laws.specs.Chosen.{Chosen}
use Rattle.lk_node.specs.Histories.{Genesis, Datagram, Command}
use Rattle.lk_node.specs.Leavings.{header_of, StandsAs}
use Rattle.lk_node.specs.BorneOut.{text}
use Rattle.lk_node.specs.Reaching.{AllLieNear}
use Rattle.lk_sim_nodes.specs.declared.sim_node.SimNode.{SimNode}
use Rattle.lk_sim_nodes.specs.declared.sim_node.RunState.TheVariants.{Up, Down}

-- the snapshot is the packed text of a chosen list, whose length is its position
abbrev pub IsPackedList : Meaning → Genesis → List Datagram → StandingValue → Type 0
IsPackedList m genesis sent s =
    (L : List Command) × Chosen genesis sent L × (length L ≡ s.position) × (s.snapshot ≡ text m genesis L)

-- whatever a stop may leave of the disks has such a snapshot, and no vote and no pair that lies too far above it for a
-- restart
abbrev pub KeepsPacked : Meaning → Genesis → List Datagram → ℕ → (Side → Disk) → Type 0
KeepsPacked m genesis sent n disks = (image : Image) → MayLeaveBoth disks image
    → (s : StandingValue) × StandsAs (header_of genesis n) (text m genesis []) image s × IsPackedList m genesis sent s
    × AllLieNear genesis.alpha s

-- a node that is up has executed a chosen list, which its state sums up; and the snapshots of any node are packed lists
pub record SumsUpChosen {R : Type 0} (whole : R → WholeValue) (disks : R → Side → Disk) (m : Meaning)
    (genesis : Genesis) (sent : List Datagram) (s : SimNode R) : Type 0 where
  pub executed : (r : R) → s.run_state ≡ Up r → (L : List Command) × Chosen genesis sent L
      × SumsUp m genesis L (whole r)
  pub kept : (r : R) → s.run_state ≡ Up r → KeepsPacked m genesis sent s.number (disks r)
  pub left : (d : Memory) → s.run_state ≡ Down d → KeepsPacked m genesis sent s.number (disk_of d)
