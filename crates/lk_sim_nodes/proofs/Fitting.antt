-- A node, or a device, that fits.
use Rattle.std.proofs.Common.{◌≡◌, ℕ, zero, suc, List, [], ◌++◌, take, refl, ap, sym, ◌∙◌, subst, append-nil}
use Rattle.lk_types.specs.declared.member.Member.{Member}
use Rattle.lk_disk.specs.Disk.{Disk, after_stop}
use Rattle.lk_memory_disk.specs.Memory.{Memory, disk_of}
use Rattle.lk_disk.specs.declared.device.Side.{Side}
use Rattle.lk_store_format.specs.Values.{HeaderValue}
use Rattle.lk_state.specs.Meanings.{Meaning}
use Rattle.lk_agreement_laws.specs.Nodes.{PaxosState}
use Rattle.lk_node.specs.Calls.{NodeFits}
use Rattle.lk_node.specs.Histories.{History, Genesis, IsLawful}
use Rattle.lk_node.specs.Holdings.{Holding}
use Rattle.lk_node.specs.Leavings.{header_of, DisksFit}
use Rattle.lk_replica.specs.Behaviours.{Behaviour, disks_by}
use Rattle.lk_sim_nodes.specs.Rooms.{AreShort}
use Rattle.lk_sim_nodes.specs.SimNodes.{UpFits, SimNodeFits, device_in}
use Rattle.lk_sim_nodes.specs.declared.sim_node.SimNode.{SimNode}
use Rattle.lk_sim_nodes.specs.declared.sim_node.RunState.{RunState}
use Rattle.lk_sim_nodes.specs.declared.sim_node.RunState.TheVariants.{Up, Down}
use Rattle.lk_sim_nodes.proofs.Shortness.{same_short}

-- ---- devices

-- disks that are the same fit as well
pub same_disks : (m : Meaning) (h : History) (n : ℕ) (old new : Side → Disk) → ((s : Side) → new s ≡ old s)
    → DisksFit m h n old → DisksFit m h n new
same_disks m h n old new same f image may =
    f image (λ s. subst (λ d. (k : ℕ) × (image s ≡ d.synced ++ take k d.unsynced)) (same s) (may s))

-- what is left once a stop is over is an image that it might leave
pub stopped_fit : (m : Meaning) (h : History) (n : ℕ) (old new : Side → Disk)
    → ((s : Side) → (k : ℕ) × (new s ≡ after_stop k (old s))) → DisksFit m h n old → DisksFit m h n new
stopped_fit m h n old new kept f image may = f image (λ s. side s (kept s).0 (kept s).1 (may s))
  where
    side : (s : Side) (k : ℕ) → new s ≡ after_stop k (old s)
        → (j : ℕ) × (image s ≡ (new s).synced ++ take j (new s).unsynced)
        → (j : ℕ) × (image s ≡ (old s).synced ++ take j (old s).unsynced)
    side s k e l = (
      k,
      l.1 ∙ ap (λ (d : Disk). d.synced ++ take l.0 d.unsynced) e
          ∙ ap (λ z. ((old s).synced ++ take k (old s).unsynced) ++ z) (none l.0) ∙ append-nil _,
    )
      where
        none : (j : ℕ) → ◌≡◌ {A = List ℕ} (take j []) []
        none zero = refl
        none (suc j) = refl

-- ---- nodes

-- the header of a node in a cluster that began so
pub same_header : (x : HeaderValue) (a g : Genesis) (n cluster alpha : ℕ) (members : List Member)
    → x ≡ record { node = n; cluster = cluster; alpha = alpha; members = members }
    → cluster ≡ g.cluster → alpha ≡ g.alpha → members ≡ g.members → a ≡ g → x ≡ header_of a n
same_header x a g n cluster alpha members e c l m same =
    e ∙ rw (c, l, m) (ap (λ (z : Genesis). header_of z n) (sym same))

module _ {R : Type 0} (Shows : R → Genesis → ℕ → Holding → Type 0) (disks : R → Side → Disk) (m : Meaning)
    (h : History) (w : PaxosState) where
  pub node_fits : (n : ℕ) (r : R) → IsLawful m h → UpFits Shows disks m h w n r
      → NodeFits m h n (Shows r h.genesis n) (disks r)
  node_fits n r lawful u =
      record { lawful = lawful; holding = u.holding; shown = u.shown; fits = u.fits; left = u.left }

  -- down, on these disks
  pub down_fits : (new : SimNode R) (d : Memory) → new.run_state ≡ Down d → DisksFit m h new.number (disk_of d)
      → AreShort (disk_of d) → SimNodeFits Shows disks m h w new
  down_fits new d down f short = record {
    up = λ q is. absurd (cc (down, is));
    down = λ e is. let same : d ≡ e = cc (down, is) in subst (λ z. DisksFit m h new.number (disk_of z)) same f;
    room = λ e is. let same : d ≡ e = cc (down, is) in subst (λ (z : Memory). AreShort (disk_of z)) same short;
  }

  -- a trap was set
  pub trapped_up : (s new : SimNode R) (r q : R) → s.run_state ≡ Up r → new.run_state ≡ Up q → new.number ≡ s.number
      → ((n : ℕ) → UpFits Shows disks m h w n r → UpFits Shows disks m h w n q) → SimNodeFits Shows disks m h w s
      → SimNodeFits Shows disks m h w new
  trapped_up s new r q old now number on f = record {
    up = λ p is. let e : q ≡ p = cc (now, is) in
        subst (λ k. UpFits Shows disks m h w k p) (sym number)
        (subst (λ z. UpFits Shows disks m h w s.number z) e (on s.number (f.up r old)));
    down = λ d is. absurd (cc (now, is));
    room = λ d is. absurd (cc (now, is));
  }

  pub trapped_down : (s new : SimNode R) (d e : Memory) → s.run_state ≡ Down d → new.run_state ≡ Down e
      → new.number ≡ s.number
      → ((k : Side) → disk_of e k ≡ disk_of d k) → SimNodeFits Shows disks m h w s → SimNodeFits Shows disks m h w new
  trapped_down s new d e old now number same f =
      down_fits new e now (subst (λ k. DisksFit m h k (disk_of e)) (sym number)
      (same_disks m h s.number (disk_of d) (disk_of e) same (f.down d old)))
      (same_short (disk_of d) (disk_of e) same (f.room d old))

-- where a node is down, what a stop may leave of it fits as it did
pub down_left : {R : Type 0} (Shows : R → Genesis → ℕ → Holding → Type 0) (b : Behaviour R) (m : Meaning) (h : History)
    (w : PaxosState) (s : SimNode R) (d : Memory) → s.run_state ≡ Down d → SimNodeFits Shows (disks_by b) m h w s
    → DisksFit m h s.number (disk_of (device_in b s.run_state)) × AreShort (disk_of (device_in b s.run_state))
down_left Shows b m h w s d down f = (
  subst (λ (l : RunState _). DisksFit m h s.number (disk_of (device_in b l))) (sym down) (f.down d down),
  subst (λ (l : RunState _). AreShort (disk_of (device_in b l))) (sym down) (f.room d down),
)
