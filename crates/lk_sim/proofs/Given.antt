-- What stands once a node was given something.
use Rattle.std.proofs.Common.{◌≡◌, ℕ, zero, suc, Option, Some, None, List, [], ◌∷◌, ◌++◌, set, refl, ap, sym, subst}
use Rattle.std.proofs.Common.{append-nil}
use Rattle.lk_disk.specs.Disk.{Disk}
use Rattle.lk_memory_disk.specs.Memory.{Memory, disk_of}
use Rattle.lk_disk.specs.declared.device.Side.{Side}
use Rattle.lk_state.specs.Meanings.{Meaning}
use Rattle.lk_agreement_laws.specs.Nodes.{PaxosState}
use Rattle.lk_node_interface.specs.declared.note.Note.{Note}
use Rattle.lk_node.specs.Histories.{Genesis, Datagram, RequestValue}
use Rattle.lk_node.specs.Holdings.{Holding}
use Rattle.lk_node.specs.Calls.{LeavesFit}
use Rattle.lk_sim_nodes.specs.Told.{NotesReplies}
use Rattle.lk_sim.specs.Traces.{asked_in, happened, asked_note}
use Rattle.lk_sim_nodes.specs.SimNodes.{SimNodeFits, SimNodeGoes, At}
use Rattle.lk_sim.specs.Worlds.{WorldInvariant}
use Rattle.lk_sim_nodes.specs.declared.sim_node.SimNode.{SimNode}
use Rattle.lk_sim_nodes.specs.declared.sim_node.RunState.TheVariants.{Down}
use Rattle.lk_sim_nodes.proofs.Fitting.{down_fits}
use Rattle.lk_sim.proofs.Growth.{disks_move}
use Rattle.lk_sim.proofs.Asking.{injected_holds}
use Rattle.lk_sim.proofs.Sending.{goes_on}
use Rattle.lk_sim.proofs.Ending.{ends}

pub set_twice : {X : Type 0} (xs : List X) (i : ℕ) (y z : X) → set (set xs i y) i z ≡ set xs i z
set_twice [] i y z = refl
set_twice (x ∷ xs) zero y z = refl
set_twice (x ∷ xs) (suc i) y z = ap (λ l. x ∷ l) (set_twice xs i y z)

-- a request that was just asked, if there is one, keeps all
pub asked_maybe : {R : Type 0} (Shows : R → Genesis → ℕ → Holding → Type 0) (disks : R → Side → Disk) (m : Meaning)
    (genesis : Genesis) (sim_nodes : List (SimNode R)) (sent : List Datagram) (trace : List Note)
    → WorldInvariant Shows disks m genesis sim_nodes sent trace → (o : Option RequestValue)
    → WorldInvariant Shows disks m genesis sim_nodes sent (trace ++ asked_note o)
asked_maybe Shows disks m genesis sim_nodes sent trace w None =
    subst (λ l. WorldInvariant Shows disks m genesis sim_nodes sent l) (sym (append-nil trace)) w
asked_maybe Shows disks m genesis sim_nodes sent trace w (Some r) =
    injected_holds Shows disks m genesis sim_nodes sent trace w r

module _ {R : Type 0} (Shows : R → Genesis → ℕ → Holding → Type 0) (disks : R → Side → Disk) (m : Meaning)
    (genesis : Genesis) (sim_nodes : List (SimNode R)) (sent : List Datagram) (trace : List Note)
    (w : WorldInvariant Shows disks m genesis sim_nodes sent trace) (i : ℕ) (s new : SimNode R) (at : At sim_nodes i s)
    (number : new.number ≡ s.number) where
  -- it went down
  pub went_down : SimNodeFits Shows disks m (happened genesis sent trace) (w.states s.number) new
      → WorldInvariant Shows disks m genesis (set sim_nodes i new) sent trace
  went_down f = ends Shows disks m genesis sim_nodes sent trace w i s new at number f

  -- it went down, whatever was asked meanwhile
  pub went_off : (asked : List RequestValue) (v : PaxosState) (d : Memory) → new.run_state ≡ Down d
      → SimNodeFits Shows disks m (record { genesis = genesis; sent = sent; asked = asked }) v new
      → WorldInvariant Shows disks m genesis (set sim_nodes i new) sent trace
  went_off asked v d down f =
      went_down (down_fits Shows disks m (happened genesis sent trace) (w.states s.number) new d down
      (disks_move m genesis sent sent asked (asked_in trace) new.number (disk_of d) (λ x c. c) (λ x c. c)
      (f.down d down)) (f.room d down))

  -- it went on
  pub went_on : (notes told : List Note) (batch : List Datagram)
      → SimNodeGoes Shows disks m (happened genesis sent trace) new notes batch → NotesReplies batch told
      → WorldInvariant Shows disks m genesis (set sim_nodes i new) (sent ++ batch) (trace ++ (notes ++ told))
  went_on notes told batch f tells =
      goes_on Shows disks m genesis sim_nodes sent trace w i s new at f.replica number f.up notes told batch
      (subst (λ k. LeavesFit m (happened genesis sent trace) k (Shows f.replica genesis k)
      (disks f.replica) notes batch)
      number f.goes) tells f.room
