-- What a compaction has left on disk.
use Rattle.std.proofs.Common.{◌≡◌, ℕ, Result, Ok, Err, OnOk, sym, ◌∙◌, subst, subst₂, inl, inr, append-nil, []}
use Rattle.lk_log.specs.Images.{MayLeaveBoth}
use Rattle.lk_state.specs.Meanings.{Meaning}
use Rattle.lk_state.specs.States.{WholeValue}
use Rattle.lk_agreement_laws.specs.Chosen.{Chosen}
use Rattle.lk_node.specs.Histories.{Genesis}
use Rattle.lk_node.specs.Holdings.{Holding}
use Rattle.lk_node.specs.Leavings.{header_of, StandsAs}
use Rattle.lk_node.specs.BorneOut.{text}
use Rattle.lk_replica.specs.Behaviours.{Behaviour, disks_by}
use Rattle.lk_recovery.specs.Compacting.{AllStandAt}
use Rattle.lk_sim.specs.Events.{IsExecuted, IsCompacted, GoesOnCompacted}
use Rattle.lk_sim_nodes.specs.SimNodes.{disks_of, At}
use Rattle.lk_sim.specs.Packed.{HasPackedState, LeavesPackedState}
use Rattle.lk_sim.specs.WorldStates.{WorldState}
use Rattle.lk_sim.specs.Worlds.{WorldInvariant}
use Rattle.lk_sim.specs.declared.event.Event.{Event}
use Rattle.lk_sim.specs.declared.event.Event.TheVariants as event
use Rattle.lk_sim.proofs.Lists.{at_set_here}

-- what follows of what stands at Ok
pub on_ok : {T E : Type 0} (P Q : Type 0) (r : Result T E) → (P → Q) → OnOk r P → OnOk r Q
on_ok P Q (Ok x) f p = f p
on_ok P Q (Err e) f p = tt

module _ {R : Type 0} (b : Behaviour R) (Shows : R → Genesis → ℕ → Holding → Type 0)
    (whole : R → WholeValue) (m : Meaning)
    (law : (old new : R) (genesis : Genesis) (n : ℕ) (x : Holding) → Shows old genesis n x → b.Compacts old new (Ok tt)
    → AllStandAt m genesis n (disks_by b new) (whole new).roster.executed x.paxos.done) where
  stands_packed : (old new : WorldState R) → WorldInvariant Shows (disks_by b) m old.genesis old.sim_nodes
      old.sent old.trace
      → (n : ℕ)
      → (k : IsCompacted b old new n) → GoesOnCompacted b old new k.replica k.next
      → HasPackedState whole (disks_by b) m new n
  stands_packed old new w n k p = record {
    index = k.replaces.index;
    sim_node = k.next;
    at = subst (λ l. At l k.replaces.index k.next) (sym k.replaces.sim_nodes)
        (at_set_here old.sim_nodes k.replaces.index k.next k.replaces.at.0);
    number = k.replaces.number ∙ k.number;
    replica = p.replica;
    up = p.up;
    stands = λ image may.
        let u = (w.as_sim_nodes k.replaces.index k.sim_node k.replaces.at).up k.replica k.up in
        let g = law k.replica p.replica old.genesis k.sim_node.number u.holding u.shown p.compacts image
        (subst (λ z. MayLeaveBoth (disks_of (disks_by b) z) image) p.up may) in (
          g.0,
          subst₂ (λ (z : Genesis) (j : ℕ). StandsAs (header_of z j) (text m z []) image g.0) (sym p.adds.genesis)
              (sym k.replaces.number) g.1,
          (
            g.2,
            (
              u.holding.paxos.done,
              subst₂ (λ z l. Chosen z l u.holding.paxos.done) (sym p.adds.genesis)
                  (sym (p.adds.sent ∙ append-nil old.sent)) u.fits.paxos.stems.done,
              g.3,
              subst (λ z. g.0.snapshot ≡ text m z u.holding.paxos.done) (sym p.adds.genesis) g.4,
            ),
          ),
        );
  }

  -- an event that is done leaves such disks where a node compacted
  pub leaves_packed : (old new : WorldState R) → WorldInvariant Shows (disks_by b) m old.genesis old.sim_nodes
      old.sent old.trace
      → (e : Event) → IsExecuted b old e new → LeavesPackedState whole (disks_by b) m e new
  leaves_packed old new w (event.Start n) k = tt
  leaves_packed old new w (event.Restart n) k = tt
  leaves_packed old new w (event.Tick n) k = tt
  leaves_packed old new w (event.Nudge n reason) k = tt
  leaves_packed old new w (event.Compact n) k = λ ended. elim k.1.comes_to [
    | inl p ↦ stands_packed old new w n k.1 p
    | inr f ↦ absurd (cc (f.ended, ended))
  ]
  leaves_packed old new w (event.Client n r) k = tt
  leaves_packed old new w (event.Deliver i) k = tt
  leaves_packed old new w (event.Group n group_inputs) k = tt
  leaves_packed old new w (event.Inject n bytes) k = tt
  leaves_packed old new w (event.Stop n x y) k = tt
  leaves_packed old new w (event.FailAt n count) k = tt
  leaves_packed old new w (event.Arm n count bytes) k = tt
