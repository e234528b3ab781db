-- What each image of a node's disks covers, and what a majority's images keep of a chosen list.
use Rattle.std.proofs.Common.{◌≡◌, ℕ, List, Some, refl, subst, inl, inr}
use Rattle.lk_disk.specs.Disk.{Disk}
use Rattle.lk_disk.specs.declared.device.Side.{Side}
use Rattle.lk_state.specs.Meanings.{Meaning}
use Rattle.lk_agreement_laws.specs.Acceptors.{CoversSent}
use Rattle.lk_agreement_laws.specs.Datagrams.{Accepted}
use Rattle.lk_agreement_laws.specs.Chosen.{command_at, Chosen}
use Rattle.lk_agreement_laws.proofs.Histories.{chosen_agree, kept_by_majority}
use Rattle.lk_node_interface.specs.declared.note.Note.{Note}
use Rattle.lk_node.specs.Histories.{Genesis, Datagram, Command}
use Rattle.lk_node.specs.Holdings.{Holding}
use Rattle.lk_node.specs.Leavings.{paxos_of, DisksFit}
use Rattle.lk_sim.specs.Traces.{happened}
use Rattle.lk_sim_nodes.specs.SimNodes.{disks_of, At, SimNodeFits}
use Rattle.lk_sim.specs.Kept.{CoversAll, IsKeptBy}
use Rattle.lk_sim_nodes.specs.Rooms.{AreShort}
use Rattle.lk_sim.specs.Worlds.{WorldInvariant}
use Rattle.lk_sim_nodes.specs.declared.sim_node.RunState.{RunState}
use Rattle.lk_sim_nodes.specs.declared.sim_node.RunState.TheVariants.{Up, Down}
use Rattle.lk_sim_nodes.specs.declared.sim_node.SimNode.{SimNode}

module _ {R : Type 0} (Shows : R → Genesis → ℕ → Holding → Type 0) (disks : R → Side → Disk) (m : Meaning)
    (genesis : Genesis) (sim_nodes : List (SimNode R)) (sent : List Datagram) (trace : List Note)
    (w : WorldInvariant Shows disks m genesis sim_nodes sent trace) where
  its_disks_fit : (s : SimNode R) (run_state : RunState R) → s.run_state ≡ run_state
      → SimNodeFits Shows disks m (happened genesis sent trace) (w.states s.number) s
      → DisksFit m (happened genesis sent trace) s.number (disks_of disks run_state)
  its_disks_fit s (Up r) is f = (f.up r is).left
  its_disks_fit s (Down d) is f = f.down d is

  fit_at : (k : ℕ) (s : SimNode R) → At sim_nodes k s
      → DisksFit m (happened genesis sent trace) s.number (disks_of disks s.run_state)
  fit_at k s at = its_disks_fit s s.run_state refl (w.as_sim_nodes k s at)

  its_files_are_short : (s : SimNode R) (run_state : RunState R) → s.run_state ≡ run_state
      → SimNodeFits Shows disks m (happened genesis sent trace) (w.states s.number) s
      → AreShort (disks_of disks run_state)
  its_files_are_short s (Up r) is f = (f.up r is).room
  its_files_are_short s (Down d) is f = f.room d is

  pub room : (k : ℕ) (s : SimNode R) → At sim_nodes k s → AreShort (disks_of disks s.run_state)
  room k s at = its_files_are_short s s.run_state refl (w.as_sim_nodes k s at)

  pub covered : (k : ℕ) (s : SimNode R) → At sim_nodes k s → CoversAll disks m genesis sent s
  covered k s at image may = let i = fit_at k s at image may in (i.standing, i.stands, i.covers)

  module _ (L : List Command) (chosen : Chosen genesis sent L) (i : ℕ) (v : Command)
      (at : command_at L i ≡ Some v) where
    pub kept : IsKeptBy disks m genesis sim_nodes sent L i v
    kept =
        let k = kept_by_majority genesis sent w.world.sound L chosen i v at in
        record {
          nodes = k.nodes;
          majority = k.majority;
          keep = λ n c.
              let a = w.known n (Accepted (record { position = i; ballot = k.ballot; command = v }))
              (k.accepted n c) in (
                a.0,
                a.1,
                a.2,
                a.3,
                λ image may.
                    let f = fit_at a.0 a.1 a.2 image may in
                    let covers : CoversSent genesis sent n (paxos_of f.standing f.under).acceptor =
                    subst (λ z. CoversSent genesis sent z (paxos_of f.standing f.under).acceptor) a.3 f.covers in (
                      f.standing,
                      f.stands,
                      elim (k.held n c (paxos_of f.standing f.under) (covers, f.stems)) [
                        | inl under ↦ inl (
                          under.0,
                          record {
                            under = f.under;
                            chosen = f.stems.done;
                            position = f.position;
                            snapshot = f.snapshot;
                            agrees = chosen_agree genesis sent w.world.sound f.under L f.stems.done chosen;
                          },
                        )
                        | inr vote ↦ inr vote
                      ],
                    ),
              );
        }
