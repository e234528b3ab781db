-- What holds of every reachable world.
use Rattle.std.specs.Prelude.{◌≡◌, ℕ, List, Contains}
use Rattle.lk_disk.specs.Disk.{Disk}
use Rattle.lk_disk.specs.declared.device.Side.{Side}
use Rattle.lk_messages.specs.Grammar.{Spells}
use Rattle.lk_messages.specs.declared.message.Content.TheVariants as content
use Rattle.lk_state.specs.Meanings.{Meaning}
use Rattle.lk_agreement_laws.specs.Datagrams.{NodeMessage, Vote, Accept, HasSent, WasSent}
use Rattle.lk_agreement_laws.specs.Chosen.{Chosen}
use Rattle.lk_agreement_laws.specs.Nodes.{PaxosState}
use Rattle.lk_agreement_laws.specs.Worlds.{WorldFits}
use Rattle.lk_node_interface.specs.declared.note.Note.{Note}
use Rattle.lk_node.specs.Histories.{Genesis, Datagram, Command, RequestValue, WasAsked}
use Rattle.lk_node.specs.BorneOut.{BearsOut, BearsOutMessage}
use Rattle.lk_node.specs.Holdings.{Holding}
use Rattle.lk_sim.specs.Orders.{InTime}
use Rattle.lk_sim.specs.WorldStates.{WorldState}
use Rattle.lk_sim_nodes.specs.Told.{NotesReplies}
use Rattle.lk_sim.specs.Traces.{asked_in, happened, told_in}
use Rattle.lk_sim_nodes.specs.SimNodes.{SimNodeFits, At}
use Rattle.lk_sim_nodes.specs.declared.sim_node.SimNode.{SimNode}
use Rattle.lk_sim.specs.declared.world_parts.WorldParts.{WorldParts}

pub record WorldInvariant {R : Type 0} (Shows : R → Genesis → ℕ → Holding → Type 0) (disks : R → Side
    → Disk) (m : Meaning)
    (genesis : Genesis) (sim_nodes : List (SimNode R)) (sent : List Datagram) (trace : List Note) : Type 0 where
  -- a Paxos state for each number, which everything that was sent fits
  pub states : ℕ → PaxosState
  pub world : WorldFits genesis (record { sent = sent; states = states })
  -- each node that was started fits, one for each number, and nobody else has sent anything
  pub as_sim_nodes : (k : ℕ) (s : SimNode R) → At sim_nodes k s
      → SimNodeFits Shows disks m (happened genesis sent trace) (states s.number) s
  pub apart : (i j : ℕ) (s t : SimNode R) → At sim_nodes i s → At sim_nodes j t → s.number ≡ t.number → i ≡ j
  pub known : (n : ℕ) (x : NodeMessage) → HasSent genesis sent n x
      → (k : ℕ) × (s : SimNode R) × At sim_nodes k s × (s.number ≡ n)
  -- each request in the list was asked, and so was what was proposed
  pub requests : (d : Datagram) (r : RequestValue) (cluster : ℕ) → Contains sent d
      → Spells (record { cluster = cluster; content = content.Request r }) d.bytes → Contains (asked_in trace) r
  pub proposed : (x : Vote) → WasSent genesis sent (Accept x) → WasAsked (happened genesis sent trace) x.command
  -- one chosen list bears out everything that was noted and sent
  pub list : List Command
  pub chosen : Chosen genesis sent list
  pub notes : (x : Note) → Contains trace x → BearsOut m (happened genesis sent trace) list x
  pub messages : (n : ℕ) (x : NodeMessage) → HasSent genesis sent n x
      → BearsOutMessage m (happened genesis sent trace) list x
  -- what was answered and told was noted, in order
  pub told : NotesReplies sent (told_in trace)
  -- what was answered is borne out by what had been asked by then
  pub in_time : InTime m genesis sent trace

-- the same of what is seen of a world
abbrev pub KeepsInvariant : {R : Type 0} → (R → Genesis → ℕ → Holding → Type 0) → (R → Side → Disk)
    → Meaning → WorldState R → Type 0
KeepsInvariant Shows disks m w = WorldInvariant Shows disks m w.genesis w.sim_nodes w.sent w.trace

-- and of its parts
abbrev pub PartsKeepInvariant : {R : Type 0} → (R → Genesis → ℕ → Holding → Type 0) → (R → Side → Disk)
    → Meaning → WorldParts R → Type 0
PartsKeepInvariant Shows disks m p = WorldInvariant Shows disks m p.genesis p.sim_nodes.items p.sent.items p.trace.items

-- what is seen of them
abbrev pub world_state_of : {R : Type 0} → WorldParts R → WorldState R
world_state_of p =
    record {
      genesis = p.genesis;
      sim_nodes = p.sim_nodes.items;
      sent = p.sent.items;
      trace =
          p.trace.items;
      ended = p.ended;
    }
