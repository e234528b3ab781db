-- What a world keeps of a node's call or group: the notes and datagrams that it adds, and whether the node stopped.
use Rattle.std.specs.Prelude.{◌≡◌, ℕ, List, [], ◌++◌, Option, set}
use Rattle.lk_state.specs.Meanings.{Meaning}
use Rattle.lk_agreement_laws.specs.Nodes.{PaxosState}
use Rattle.lk_node_interface.specs.declared.note.Note.{Note}
use Rattle.lk_node.specs.Histories.{History, Genesis, Datagram}
use Rattle.lk_node.specs.Holdings.{Holding}
use Rattle.lk_replica.specs.Behaviours.{Behaviour, disks_by}
use Rattle.lk_replica.specs.Together.{parts_of}
use Rattle.lk_replica.specs.declared.taken.Step.{Step}
use Rattle.lk_sim_nodes.specs.Outcomes.{StopsIfArmed}
use Rattle.lk_sim_nodes.specs.SimNodes.{SimNodeFits, At, stopped_on, device_in}
use Rattle.lk_sim_nodes.specs.Told.{NotesReplies}
use Rattle.lk_sim_nodes.specs.declared.end.End.{End}
use Rattle.lk_sim_nodes.specs.declared.sim_node.SimNode.{SimNode}
use Rattle.lk_sim_nodes.specs.declared.sim_node.RunState.TheVariants.{Down}
use Rattle.lk_sim.specs.Events.{Adds}
use Rattle.lk_sim.specs.Groups.{AreNotesOf}
use Rattle.lk_sim.specs.WorldStates.{WorldState}

-- what it noted and sent was added, after what was just asked, with its answers and passes noted as they were sent
pub record HasAdded {R : Type 0} (old new : WorldState R) (asked mine : List Note) (batch : List Datagram)
    (how : Option End) : Type 0 where
  pub told : List Note
  pub tells : NotesReplies batch told
  pub sim_nodes : new.sim_nodes ≡ old.sim_nodes
  pub adds : Adds old new ((asked ++ mine) ++ told) batch
  pub ended : new.ended ≡ how

-- the result was added, and the node at this place has stopped if it has reached an armed stop
pub record HasConcluded {R : Type 0} (Shows : R → Genesis → ℕ → Holding → Type 0) (b : Behaviour R) (m : Meaning)
    (old : WorldState R) (i : ℕ) (new : WorldState R) (asked mine : List Note) (batch : List Datagram)
    (how : Option End)
    (stop : Option ℕ) : Type 0 where
  pub told : List Note
  pub tells : NotesReplies batch told
  pub sim_node : SimNode R
  pub next : SimNode R
  pub at : At old.sim_nodes i sim_node
  pub number : next.number ≡ sim_node.number
  pub sim_nodes : new.sim_nodes ≡ set old.sim_nodes i next
  pub rests : StopsIfArmed b stop sim_node next
  pub fits : (h : History) (w : PaxosState) → SimNodeFits Shows (disks_by b) m h w sim_node
      → SimNodeFits Shows (disks_by b) m h w next
  pub adds : Adds old new ((asked ++ mine) ++ told) batch
  pub ended : new.ended ≡ how

-- what the steps noted and sent was added, step by step, with their answers and passes noted as they were sent
pub record HasAddedSteps {R : Type 0} (old new : WorldState R) (steps : List Step) (batch : List Datagram)
    (how : Option End) : Type 0 where
  pub notes : List Note
  pub tells : AreNotesOf (parts_of steps batch) notes
  pub sim_nodes : new.sim_nodes ≡ old.sim_nodes
  pub adds : Adds old new notes batch
  pub ended : new.ended ≡ how

-- the results were added, and the node at this place has stopped if it has reached an armed stop
pub record HasConcludedSteps {R : Type 0} (Shows : R → Genesis → ℕ → Holding → Type 0) (b : Behaviour R) (m : Meaning)
    (old : WorldState R) (i : ℕ) (new : WorldState R) (steps : List Step) (batch : List Datagram) (how : Option End)
    (stop : Option ℕ) : Type 0 where
  pub notes : List Note
  pub tells : AreNotesOf (parts_of steps batch) notes
  pub sim_node : SimNode R
  pub next : SimNode R
  pub at : At old.sim_nodes i sim_node
  pub number : next.number ≡ sim_node.number
  pub sim_nodes : new.sim_nodes ≡ set old.sim_nodes i next
  pub rests : StopsIfArmed b stop sim_node next
  pub fits : (h : History) (w : PaxosState) → SimNodeFits Shows (disks_by b) m h w sim_node
      → SimNodeFits Shows (disks_by b) m h w next
  pub adds : Adds old new notes batch
  pub ended : new.ended ≡ how

-- the node at this place was stopped, as memory ran out, and nothing was added
pub record HasGivenUp {R : Type 0} (Shows : R → Genesis → ℕ → Holding → Type 0) (b : Behaviour R) (m : Meaning)
    (old : WorldState R) (i : ℕ) (new : WorldState R) : Type 0 where
  pub sim_node : SimNode R
  pub next : SimNode R
  pub at : At old.sim_nodes i sim_node
  pub number : next.number ≡ sim_node.number
  pub sim_nodes : new.sim_nodes ≡ set old.sim_nodes i next
  pub halted : next.run_state ≡ Down (stopped_on 0 0 (device_in b sim_node.run_state))
  pub fits : (h : History) (w : PaxosState) → SimNodeFits Shows (disks_by b) m h w sim_node
      → SimNodeFits Shows (disks_by b) m h w next
  pub adds : Adds old new [] []
  pub ended : new.ended ≡ old.ended
