-- What holds of servers holds of their replicas.
use Rattle.std.proofs.Common.{◌≡◌, ℕ, zero, suc, List, [], ◌∷◌, refl, ap, sym, ◌∙◌, subst, arith}
use Rattle.std.specs.Prelude.{map}
use Rattle.lk_disk.specs.Disk.{Disk}
use Rattle.lk_memory_disk.specs.Memory.{Memory, disk_of}
use Rattle.lk_disk.specs.declared.device.Side.{Side}
use Rattle.lk_disk.specs.declared.device.Side.TheVariants.{A, B}
use Rattle.lk_locks.specs.Meaning.{table_meaning}
use Rattle.lk_log.specs.StoreValue.{StoreValue, disks}
use Rattle.lk_agreement_laws.specs.Nodes.{PaxosState}
use Rattle.lk_node_interface.specs.declared.note.Note.{Note}
use Rattle.lk_node.specs.Histories.{History, Genesis, Datagram}
use Rattle.lk_node.specs.Holdings.{Holding}
use Rattle.lk_node.specs.Keeping.{ReplicaHolds}
use Rattle.lk_node.specs.Leavings.{DisksFit}
use Rattle.lk_replica.specs.ReplicaValue.{ReplicaValue, device_of}
use Rattle.lk_server.specs.Servers.{ServerValue}
use Rattle.lk_sim_nodes.specs.Rooms.{AreShort}
use Rattle.lk_sim_nodes.specs.SimNodes.{At, UpFits, SimNodeFits}
use Rattle.lk_sim.specs.Traces.{happened}
use Rattle.lk_sim.specs.Worlds.{WorldInvariant}
use Rattle.lk_sim_nodes.specs.declared.sim_node.RunState.{RunState}
use Rattle.lk_sim_nodes.specs.declared.sim_node.RunState.TheVariants.{Up, Down}
use Rattle.lk_sim_nodes.specs.declared.sim_node.SimNode.{SimNode}
use Rattle.lk_cluster_theorems.specs.Clusters.{Node, sim_node_of, run_state_of, ServerHolds, server_disks}

-- ---- lists

at_map : {X Y : Type 0} (f : X → Y) (xs : List X) (k : ℕ) (y : Y) → At (map f xs) k y → (x : X) × At xs k x × (y ≡ f x)
at_map f [] k y c = absurd (omega (arith, c.0))
at_map f (x ∷ xs) zero y c = (x, (omega arith, refl), sym c.1)
at_map f (x ∷ xs) (suc k) y c = let r = at_map f xs k y (omega (arith, c.0), c.1) in
    (r.0, (omega (arith, r.1.0), r.1.1), r.2)

to_map : {X Y : Type 0} (f : X → Y) (xs : List X) (k : ℕ) (x : X) → At xs k x → At (map f xs) k (f x)
to_map f [] k x c = absurd (omega (arith, c.0))
to_map f (y ∷ xs) zero x c = (omega arith, ap f c.1)
to_map f (y ∷ xs) (suc k) x c = let r = to_map f xs k x (omega (arith, c.0), c.1) in (omega (arith, r.0), r.1)

-- ---- disks

pub device_disks : (s : StoreValue) (side : Side) → disks s side ≡ disk_of (device_of s) side
device_disks s A = refl
device_disks s B = refl

-- what holds of the disks of a store holds of those of the device that it is, where that is one in memory
pub on_device : (P : (Side → Disk) → Type 0) (s : StoreValue) → P (disks s) → P (disk_of (device_of s))
on_device P s p = subst P (λ i side. device_disks s side i) p

-- ---- nodes

abbrev pub ReplicaStands : ReplicaValue → Genesis → ℕ → Holding → Type 0
ReplicaStands r genesis n x = ReplicaHolds table_meaning r.node r.store genesis n x

abbrev pub replica_disks : ReplicaValue → Side → Disk
replica_disks r = disk_of (device_of r.store)

module _ (h : History) (v : PaxosState) where
  up_fits : (n : ℕ) (q : ServerValue ReplicaValue) → UpFits ServerHolds server_disks table_meaning h v n q
      → UpFits ReplicaStands replica_disks table_meaning h v n q.replica
  up_fits n q u = record {
    holding = u.holding;
    paxos = u.paxos;
    shown = u.shown;
    fits = u.fits;
    left = on_device (λ d. DisksFit table_meaning h n d) q.replica.store u.left;
    room = on_device (λ d. AreShort d) q.replica.store u.room;
  }

  same_up : (r q : ReplicaValue) → Up q ≡ Up r → q ≡ r
  same_up r q e = cc e

  fits_by : (t : Node) (run_state : RunState (ServerValue ReplicaValue)) → t.run_state ≡ run_state
      → SimNodeFits ServerHolds server_disks table_meaning h v t
      → SimNodeFits ReplicaStands replica_disks table_meaning h v (sim_node_of t)
  fits_by t (Up q) is f = record {
    up = λ r up. subst (λ z. UpFits ReplicaStands replica_disks table_meaning h v t.number z)
        (same_up r q.replica (sym (ap run_state_of is) ∙ up)) (up_fits t.number q (f.up q is));
    down = λ d down. absurd (cc (sym (ap run_state_of is) ∙ down));
    room = λ d down. absurd (cc (sym (ap run_state_of is) ∙ down));
  }
  fits_by t (Down e) is f = record {
    up = λ r up. absurd (cc (sym (ap run_state_of is) ∙ up));
    down = λ d down. f.down d (is ∙ same_down d e (sym (ap run_state_of is) ∙ down));
    room = λ d down. f.room d (is ∙ same_down d e (sym (ap run_state_of is) ∙ down));
  }
    where
      same_down : (d e : Memory) → ◌≡◌ {A = RunState ReplicaValue} (Down e) (Down d)
          → ◌≡◌ {A = RunState (ServerValue ReplicaValue)} (Down e) (Down d)
      same_down d e p = let same : e ≡ d = cc p in ap Down same

  pub sim_node_fits : (t : Node) → SimNodeFits ServerHolds server_disks table_meaning h v t
      → SimNodeFits ReplicaStands replica_disks table_meaning h v (sim_node_of t)
  sim_node_fits t f = fits_by t t.run_state refl f

-- so with all of it
pub mapped : (genesis : Genesis) (sim_nodes : List Node) (sent : List Datagram) (trace : List Note)
    → WorldInvariant ServerHolds server_disks table_meaning genesis sim_nodes sent trace
    → WorldInvariant ReplicaStands replica_disks table_meaning genesis (map sim_node_of sim_nodes) sent trace
mapped genesis sim_nodes sent trace w = record {
  states = w.states;
  world = w.world;
  as_sim_nodes = λ k s c. let a = at_map sim_node_of sim_nodes k s c in
      subst (λ (z : SimNode ReplicaValue). SimNodeFits ReplicaStands replica_disks table_meaning
      (happened genesis sent trace) (w.states z.number) z) (sym a.2)
      (sim_node_fits (happened genesis sent trace) (w.states a.0.number) a.0 (w.as_sim_nodes k a.0 a.1));
  apart = λ i j s t c d same.
      let a = at_map sim_node_of sim_nodes i s c in
      let b = at_map sim_node_of sim_nodes j t d in
      w.apart i j a.0 b.0 a.1 b.1
      (sym (ap (λ (z : SimNode ReplicaValue). z.number) a.2) ∙ same ∙ ap (λ (z : SimNode ReplicaValue). z.number) b.2);
  known = λ n x h. let a = w.known n x h in (a.0, sim_node_of a.1, to_map sim_node_of sim_nodes a.0 a.1 a.2, a.3);
  requests = w.requests;
  proposed = w.proposed;
  list = w.list;
  chosen = w.chosen;
  notes = w.notes;
  messages = w.messages;
  told = w.told;
  in_time = w.in_time;
}
