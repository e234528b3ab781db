-- A node is started: its disks are empty, and it has sent nothing.
use Rattle.std.proofs.Common.{◌≡◌, ℕ, zero, suc, ◌⊎◌, List, [], ◌∷◌, ◌++◌, length, take, Contains, refl, ap, sym, ◌∙◌}
use Rattle.std.proofs.Common.{subst, inl, inr, arith}
use Rattle.lk_disk.specs.Disk.{Disk}
use Rattle.lk_memory_disk.specs.Memory.{Memory, disk_of}
use Rattle.lk_disk.specs.declared.device.Side.{Side}
use Rattle.lk_state.specs.Meanings.{Meaning}
use Rattle.lk_store_format.specs.declared.stored.Stored.TheVariants.{Base}
use Rattle.lk_log.specs.Stores.{first_base}
use Rattle.lk_log.proofs.StoreLaws.{empty_image, first_stands}
use Rattle.lk_agreement_laws.specs.Datagrams.{NodeMessage, HasSent}
use Rattle.lk_agreement_laws.specs.Nodes.{fresh}
use Rattle.lk_agreement_laws.proofs.Histories.{still_stems}
use Rattle.lk_agreement_laws.proofs.Histories.{start_fits}
use Rattle.lk_node_interface.specs.declared.note.Note.{Note}
use Rattle.lk_node.specs.Histories.{History, Genesis, Datagram}
use Rattle.lk_node.specs.BorneOut.{text}
use Rattle.lk_node.specs.Holdings.{Holding}
use Rattle.lk_node.specs.Leavings.{header_of, DisksFit}
use Rattle.lk_sim.specs.Traces.{happened}
use Rattle.lk_sim_nodes.specs.Rooms.{AreShort}
use Rattle.lk_sim_nodes.proofs.Shortness.{empty_short}
use Rattle.lk_sim_nodes.specs.SimNodes.{SimNodeFits, At}
use Rattle.lk_sim.specs.Worlds.{WorldInvariant}
use Rattle.lk_sim_nodes.specs.declared.sim_node.SimNode.{SimNode}
use Rattle.lk_sim_nodes.specs.declared.sim_node.RunState.TheVariants.{Down}

-- empty disks fit where the node has sent nothing
pub empty_fits : (m : Meaning) (h : History) (n : ℕ) (disks : Side → Disk)
    → ((s : Side) → disks s ≡ record { synced = []; unsynced = [] })
    → ((x : NodeMessage) → HasSent h.genesis h.sent n x → ⊥) → DisksFit m h n disks
empty_fits m h n disks empty silent image may = record {
  standing = (first_base (header_of h.genesis n) (text m h.genesis [])).standing;
  stands = record {
    entries = Base (first_base (header_of h.genesis n) (text m h.genesis [])) ∷ [];
    found = inr (
      empty_image image
          (λ s. (may s).1 ∙ ap (λ (d : Disk). d.synced ++ take (may s).0 d.unsynced) (empty s) ∙ none (may s).0),
      refl,
    );
    header = refl;
    stands = first_stands (header_of h.genesis n) (text m h.genesis []);
  };
  under = [];
  position = refl;
  snapshot = refl;
  covers = λ x c. absurd (silent x c);
  stems = still_stems h.genesis [] h.sent fresh ((start_fits h.genesis).states n).stems;
  near = record { votes = λ v c. absurd (omega (arith, c.1)); pairs = λ p c. absurd (omega (arith, c.1)) };
}
  where
    none : (k : ℕ) → ◌≡◌ {A = List ℕ} (take k []) []
    none zero = refl
    none (suc k) = refl

pub at_push : {X : Type 0} (xs : List X) (y : X) (j : ℕ) (x : X) → At (xs ++ y ∷ []) j x
    → At xs j x ⊎ ((j ≡ length xs) × (y ≡ x))
at_push [] y zero x c = inr (refl, c.1)
at_push [] y (suc j) x c = absurd (omega (arith, c.0))
at_push (z ∷ xs) y zero x c = inl (omega arith, c.1)
at_push (z ∷ xs) y (suc j) x c =
    elim (at_push xs y j x (omega (arith, c.0), c.1))
    [ inl a ↦ inl (omega (arith, a.0), a.1) | inr a ↦ inr (omega (arith, a.0), a.1) ]

at_front : {X : Type 0} (xs : List X) (y : X) (j : ℕ) (x : X) → At xs j x → At (xs ++ y ∷ []) j x
at_front [] y j x c = absurd (omega (arith, c.0))
at_front (z ∷ xs) y zero x c = (omega arith, c.1)
at_front (z ∷ xs) y (suc j) x c = let a = at_front xs y j x (omega (arith, c.0), c.1) in (omega (arith, a.0), a.1)

pub at_end : {X : Type 0} (xs : List X) (y : X) → At (xs ++ y ∷ []) (length xs) y
at_end [] y = (omega arith, refl)
at_end (z ∷ xs) y = let a = at_end xs y in (omega (arith, a.0), a.1)

module _ {R : Type 0} (Shows : R → Genesis → ℕ → Holding → Type 0) (disks : R → Side → Disk) (m : Meaning)
    (genesis : Genesis) (sim_nodes : List (SimNode R)) (sent : List Datagram) (trace : List Note)
    (w : WorldInvariant Shows disks m genesis sim_nodes sent trace)
    (new : SimNode R) (unused : (k : ℕ) (t : SimNode R) → At sim_nodes k t → t.number ≡ new.number → ⊥)
    (device : Memory) (down : new.run_state ≡ Down device)
    (left : (s : Side) → disk_of device s ≡ record { synced = []; unsynced = [] }) where
  silent : (x : NodeMessage) → HasSent genesis sent new.number x → ⊥
  silent x h = let a = w.known new.number x h in unused a.0 a.1 a.2 a.3

  mine : SimNodeFits Shows disks m (happened genesis sent trace) (w.states new.number) new
  mine = record {
    up = λ q is. absurd (cc (down, is));
    down = λ d is. let same : device ≡ d = cc (down, is) in
        subst (λ z. DisksFit m (happened genesis sent trace) new.number (disk_of z)) same
        (empty_fits m (happened genesis sent trace) new.number (disk_of device) left silent);
    room = λ d is. let same : device ≡ d = cc (down, is) in
        subst (λ (z : Memory). AreShort (disk_of z)) same (empty_short (disk_of device) left);
  }

  pub starts : WorldInvariant Shows disks m genesis (sim_nodes ++ new ∷ []) sent trace
  starts = record {
    states = w.states;
    world = w.world;
    as_sim_nodes = λ k t c. elim (at_push sim_nodes new k t c) [
      | inl old ↦ w.as_sim_nodes k t old
      | inr e ↦ subst (λ z. SimNodeFits Shows disks m (happened genesis sent trace) (w.states z.number) z) e.1 mine
    ];
    apart = λ j k t u c d e. elim (at_push sim_nodes new j t c) [
      | inl a ↦ elim (at_push sim_nodes new k u d) [
        | inl b ↦ w.apart j k t u a b e
        | inr b ↦ absurd (unused j t a (e ∙ ap (λ (z : SimNode R). z.number) (sym b.1)))
      ]
      | inr a ↦ elim (at_push sim_nodes new k u d) [
        | inl b ↦ absurd (unused k u b (sym e ∙ ap (λ (z : SimNode R). z.number) (sym a.1)))
        | inr b ↦ a.0 ∙ sym b.0
      ]
    ];
    known = λ k x c. let a = w.known k x c in (a.0, a.1, at_front sim_nodes new a.0 a.1 a.2, a.3);
    requests = w.requests;
    proposed = w.proposed;
    list = w.list;
    chosen = w.chosen;
    notes = w.notes;
    messages = w.messages;
    told = w.told;
    in_time = w.in_time;
  }

-- nothing was started, sent or noted
pub nothing_holds : {R : Type 0} (Shows : R → Genesis → ℕ → Holding → Type 0) (disks : R → Side → Disk) (m : Meaning)
    (genesis : Genesis) → WorldInvariant Shows disks m genesis [] [] []
nothing_holds Shows disks m genesis = record {
  states = λ n. fresh;
  world = start_fits genesis;
  as_sim_nodes = λ k t c. absurd (omega (arith, c.0));
  apart = λ j k t u c. absurd (omega (arith, c.0));
  known = λ n x c. absurd (omega (arith, c.listed.1));
  requests = λ d q cluster c. absurd (omega (arith, c.1));
  proposed = λ x c. absurd (omega (arith, c.has_sent.listed.1));
  list = [];
  chosen = ((start_fits genesis).states 0).stems.done;
  notes = λ x c. absurd (omega (arith, c.1));
  messages = λ n x c. absurd (omega (arith, c.listed.1));
  told = refl;
  in_time = λ front back parted x c. absurd (nobody front back parted x c);
}
  where
    nobody : (front back : List Note) → [] ≡ front ++ back → (x : Note) → Contains front x → ⊥
    nobody [] back e x c = omega (arith, c.1)
    nobody (y ∷ front) back e x c = cc e
