-- What is guaranteed of every world, whatever has happened in it.
use Rattle.std.specs.Prelude.{◌≡◌, ℕ, ◌⊎◌, Some, List, Contains}
use Rattle.lk_agreement_laws.specs.Ballots.{BallotValue}
use Rattle.lk_agreement_laws.specs.Chosen.{command_at, Chosen, IsPrefix}
use Rattle.lk_agreement_laws.specs.Datagrams.{Genesis, Datagram, Vote, Accept, HasSent, WasSent}
use Rattle.lk_node_interface.specs.declared.note.Note.TheVariants as note
use Rattle.lk_node.specs.Histories.{Command, Request, RequestValue}
use Rattle.lk_replica.specs.Behaviours.{Behaviour, disks_by}
use Rattle.lk_sim.specs.Explained.{Explains}
use Rattle.lk_sim_nodes.specs.SimNodes.{disks_of, At}
use Rattle.lk_sim.specs.Kept.{CoversAll, IsKeptBy}
use Rattle.lk_sim.specs.Orders.{InOrder, ToldInTime}
use Rattle.lk_sim_nodes.specs.Rooms.{AreShort}
use Rattle.lk_sim.specs.WorldStates.{WorldState}
use Rattle.lk_sim.specs.States.{SumsUpChosen}
use Rattle.lk_sim_nodes.specs.Told.{NotesReplies}
use Rattle.lk_sim.specs.Traces.{told_in}
use Rattle.lk_sim_nodes.specs.declared.sim_node.SimNode.{SimNode}
use Rattle.lk_state.specs.Meanings.{Meaning}
use Rattle.lk_state.specs.States.{WholeValue}

-- a ballot is used once: only the node that it names proposes in it, and at each position one command
pub record UsesBallotsOnce (genesis : Genesis) (sent : List Datagram) : Type 0 where
  pub own : (n : ℕ) (x : Vote) → HasSent genesis sent n (Accept x) → x.ballot.node ≡ n
  pub once : (b : BallotValue) (i : ℕ) (v w : Command)
      → WasSent genesis sent (Accept (record { position = i; ballot = b; command = v }))
      → WasSent genesis sent (Accept (record { position = i; ballot = b; command = w })) → v ≡ w

pub record WorldGuarantee {R : Type 0} (b : Behaviour R) (whole : R → WholeValue) (m : Meaning)
    (w : WorldState R) : Type 0 where
  -- some chosen list of no-ops and asked requests explains everything that was noted and sent
  pub explained : (L : List Command) × Chosen w.genesis w.sent L × Explains m w.genesis w.sent w.trace L
  -- each request of a chosen list was asked
  pub asked : (L : List Command) → Chosen w.genesis w.sent L → (r : RequestValue) → Contains L (Request r)
      → Contains w.trace (note.Asked r)
  -- of two chosen lists one is a prefix of the other
  pub agree : (L K : List Command) → Chosen w.genesis w.sent L → Chosen w.genesis w.sent K
      → IsPrefix L K ⊎ IsPrefix K L
  -- the trace has, in order, each answer that was sent
  pub told : NotesReplies w.sent (told_in w.trace)
  -- each node that is up has executed a chosen list
  pub states : (k : ℕ) (s : SimNode R) → At w.sim_nodes k s → SumsUpChosen whole (disks_by b) m w.genesis w.sent s
  -- whatever a stop may leave of a node's disks covers everything that the node has sent
  pub covered : (k : ℕ) (s : SimNode R) → At w.sim_nodes k s → CoversAll (disks_by b) m w.genesis w.sent s
  -- a majority keeps each command of a chosen list, whatever stops may leave
  pub kept : (L : List Command) (i : ℕ) (v : Command) → Chosen w.genesis w.sent L → command_at L i ≡ Some v
      → IsKeptBy (disks_by b) m w.genesis w.sim_nodes w.sent L i v
  -- what was answered before a request was asked takes effect before it
  pub order : InOrder w.genesis w.sent w.trace
  -- a greater number of which a client was told was asked before
  pub told_in_time : ToldInTime w.trace
  -- each ballot is used once
  pub ballots : UsesBallotsOnce w.genesis w.sent
  -- no file of a node is ever longer than 262,144 bytes
  pub room : (k : ℕ) (s : SimNode R) → At w.sim_nodes k s → AreShort (disks_of (disks_by b) s.run_state)
