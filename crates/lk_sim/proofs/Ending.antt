-- A node goes down, and keeps disks that fit.
use Rattle.std.proofs.Common.{◌≡◌, ℕ, List, set, get_or, refl, ap, sym, ◌∙◌, subst, inl, inr, append-nil}
use Rattle.std.proofs.lemmas.Bool.{cases_eq}
use Rattle.std.proofs.lemmas.List.{get_or_default}
use Rattle.lk_disk.specs.Disk.{Disk}
use Rattle.lk_memory_disk.specs.Memory.{Memory}
use Rattle.lk_disk.specs.declared.device.Side.{Side}
use Rattle.lk_state.specs.Meanings.{Meaning}
use Rattle.lk_agreement_laws.specs.Nodes.{PaxosState}
use Rattle.lk_node_interface.specs.declared.note.Note.{Note}
use Rattle.lk_node.specs.Histories.{History, Genesis, Datagram, RequestValue}
use Rattle.lk_node.specs.Holdings.{Holding}
use Rattle.lk_node.specs.Leavings.{DisksFit}
use Rattle.lk_sim.specs.Traces.{happened}
use Rattle.lk_sim_nodes.specs.SimNodes.{UpFits, SimNodeFits, SimNodeGoes, At}
use Rattle.lk_sim.specs.Worlds.{WorldInvariant}
use Rattle.lk_sim_nodes.specs.declared.sim_node.SimNode.{SimNode}
use Rattle.lk_sim_nodes.specs.declared.sim_node.RunState.TheVariants.{Down}
use Rattle.lk_sim.proofs.Lists.{at_set, at_set_here, at_set_other}

-- a node that is down fits whatever state stands for its number
pub any_state : {R : Type 0} (Shows : R → Genesis → ℕ → Holding → Type 0) (disks : R → Side → Disk) (m : Meaning)
    (h : History) (v x : PaxosState) (s : SimNode R) (d : Memory) → s.run_state ≡ Down d
    → SimNodeFits Shows disks m h v s → SimNodeFits Shows disks m h x s
any_state Shows disks m h v x s d down f = record { up = λ q is. absurd (cc (down, is)); down = f.down; room = f.room }

-- a node is replaced by one of the same number that fits the same state
module _ {R : Type 0} (Shows : R → Genesis → ℕ → Holding → Type 0) (disks : R → Side → Disk) (m : Meaning)
    (genesis : Genesis) (sim_nodes : List (SimNode R)) (sent : List Datagram) (trace : List Note)
    (w : WorldInvariant Shows disks m genesis sim_nodes sent trace)
    (i : ℕ) (s new : SimNode R) (at : At sim_nodes i s) (number : new.number ≡ s.number)
    (fits : SimNodeFits Shows disks m (happened genesis sent trace) (w.states s.number) new) where
  abbrev h : History
  h = happened genesis sent trace

  as_sim_nodes : (k : ℕ) (t : SimNode R) → At (set sim_nodes i new) k t → SimNodeFits Shows disks m h
      (w.states t.number) t
  as_sim_nodes k t c = elim (at_set sim_nodes i new k t c) [
    | inl e ↦ subst (λ z. SimNodeFits Shows disks m h (w.states z.number) z) e.1
        (subst (λ k. SimNodeFits Shows disks m h (w.states k) new) (sym number) fits)
    | inr o ↦ w.as_sim_nodes k t o.1
  ]

  pub apart : (j k : ℕ) (t u : SimNode R) → At (set sim_nodes i new) j t → At (set sim_nodes i new) k u
      → t.number ≡ u.number → j ≡ k
  apart j k t u c d e = elim (at_set sim_nodes i new j t c) [
    | inl a ↦ elim (at_set sim_nodes i new k u d) [
      | inl b ↦ a.0 ∙ sym b.0
      | inr b ↦ a.0 ∙ w.apart i k s u at b.1 (sym number ∙ ap (λ (z : SimNode R). z.number) a.1 ∙ e)
    ]
    | inr a ↦ elim (at_set sim_nodes i new k u d) [
      | inl b ↦ w.apart j i t s a.1 at (e ∙ sym (sym number ∙ ap (λ (z : SimNode R). z.number) b.1)) ∙ sym b.0
      | inr b ↦ w.apart j k t u a.1 b.1 e
    ]
  ]

  still_there : (j : ℕ) (t : SimNode R) → At sim_nodes j t
      → (k : ℕ) × (u : SimNode R) × At (set sim_nodes i new) k u × (u.number ≡ t.number)
  still_there j t c = elim (cases_eq j i) [
    | inl e ↦ (i, new, at_set_here sim_nodes i new at.0, number ∙ ap (λ (z : SimNode R). z.number) (same e))
    | inr ne ↦ (j, t, at_set_other sim_nodes i new j t ne c, refl)
  ]
    where
      same : j ≡ i → s ≡ t
      same e = sym at.1 ∙ get_or_default sim_nodes i s t at.0 ∙ ap (λ k. get_or sim_nodes k t) (sym e) ∙ c.1

  pub ends : WorldInvariant Shows disks m genesis (set sim_nodes i new) sent trace
  ends = record {
    states = w.states;
    world = w.world;
    as_sim_nodes = as_sim_nodes;
    apart = apart;
    known = λ k x c. let a = w.known k x c in let b = still_there a.0 a.1 a.2 in (b.0, b.1, b.2, b.3 ∙ a.3);
    requests = w.requests;
    proposed = w.proposed;
    list = w.list;
    chosen = w.chosen;
    notes = w.notes;
    messages = w.messages;
    told = w.told;
    in_time = w.in_time;
  }

-- a node that has come up, or went on, fits
pub goes_fits : {R : Type 0} (Shows : R → Genesis → ℕ → Holding → Type 0) (disks : R → Side → Disk) (m : Meaning)
    (genesis : Genesis) (sent : List Datagram) (asked : List RequestValue) (s : SimNode R)
    (notes : List Note) (batch : List Datagram)
    → (g : SimNodeGoes Shows disks m (record { genesis = genesis; sent = sent; asked = asked }) s notes batch)
    → SimNodeFits Shows disks m (record { genesis = genesis; sent = sent; asked = asked }) g.goes.holding.paxos s
goes_fits Shows disks m genesis sent asked s notes batch g = record {
  up = λ q is. let same : g.replica ≡ q = cc (g.up, is) in
      subst (λ r. UpFits Shows disks m
      (record { genesis = genesis; sent = sent; asked = asked }) g.goes.holding.paxos s.number r) same (record {
        holding = g.goes.holding;
        paxos = refl;
        shown = g.goes.shown;
        fits = g.goes.fits;
        left = subst (λ l. DisksFit m (record { genesis = genesis; sent = l; asked = asked }) s.number
            (disks g.replica)) (append-nil sent) (g.goes.left 0);
        room = g.room;
      });
  down = λ d is. absurd (cc (g.up, is));
  room = λ d is. absurd (cc (g.up, is));
}
