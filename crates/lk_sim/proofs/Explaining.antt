-- The list of a world explains it, and chosen lists agree in it.
use Rattle.std.proofs.Common.{◌≡◌, ℕ, suc, ◌+◌, ◌⊎◌, List, [], ◌∷◌, Some, Contains, ap, ◌∙◌, subst, inl, inr, arith}
use Rattle.std.proofs.lemmas.Option.{slice_get-get_or}
use Rattle.std.proofs.lemmas.List.Elements.{Contains-append_cases}
use Rattle.lk_disk.specs.Disk.{Disk}
use Rattle.lk_memory_disk.specs.Memory.{disk_of}
use Rattle.lk_disk.specs.declared.device.Side.{Side}
use Rattle.lk_messages.specs.declared.message.NodeMessage.TheVariants as kinds
use Rattle.lk_state.specs.Meanings.{Meaning}
use Rattle.lk_state.specs.States.{WholeValue, SumsUp}
use Rattle.lk_agreement_laws.specs.Chosen.{command_at, Chosen, ChosenAt, IsPrefix}
use Rattle.lk_agreement_laws.specs.Snapshots.{IsSlice}
use Rattle.lk_agreement_laws.specs.Soundness.{Sound}
use Rattle.lk_agreement_laws.proofs.Histories.{entry_chosen, one_chosen, chosen_agree, chosen_was_accepted}
use Rattle.lk_agreement_laws.proofs.Histories.{prefix_slice}
use Rattle.lk_agreement_laws.proofs.Histories.{only, contains_more}
use Rattle.lk_node_interface.specs.declared.note.Note.{Note}
use Rattle.lk_node_interface.specs.declared.note.Note.TheVariants as note
use Rattle.lk_node.specs.Histories.{Genesis, Datagram, Command, Request, RequestValue, WasAsked, IsLawful, text}
use Rattle.lk_node.specs.Holdings.{Holding}
use Rattle.lk_node.specs.Leavings.{DisksFit}
use Rattle.lk_sim.specs.Traces.{asked_by, asked_in, happened}
use Rattle.lk_sim.specs.Explained.{Explains}
use Rattle.lk_sim.specs.Orders.{InOrder, ToldInTime}
use Rattle.lk_sim_nodes.specs.SimNodes.{At}
use Rattle.lk_sim.specs.States.{KeepsPacked, SumsUpChosen}
use Rattle.lk_sim.specs.Worlds.{WorldInvariant}
use Rattle.lk_sim_nodes.specs.declared.sim_node.SimNode.{SimNode}
use Rattle.lk_sim.proofs.Ordering as ordering

asked_of : (x : Note) (r : RequestValue) → Contains (asked_by x) r → x ≡ note.Asked r
asked_of (note.Asked q) r c = ap note.Asked (only q r c)
asked_of (note.Counted node i set v) r c = absurd (omega (arith, c.1))
asked_of (note.Ran node i v) r c = absurd (omega (arith, c.1))
asked_of (note.Answered node client number a) r c = absurd (omega (arith, c.1))
asked_of (note.Told node client number last) r c = absurd (omega (arith, c.1))

pub noted_asked : (trace : List Note) (r : RequestValue) → Contains (asked_in trace) r → Contains trace (note.Asked r)
noted_asked [] r c = absurd (omega (arith, c.1))
noted_asked (x ∷ xs) r c = elim (Contains-append_cases (asked_by x) (asked_in xs) r c) [
  | inl here ↦ (0, omega arith, asked_of x r here)
  | inr later ↦ contains_more x xs (note.Asked r) (noted_asked xs r later)
]

at_place : (L : List Command) (v : Command) → Contains L v → (k : ℕ) × (command_at L (suc k) ≡ Some v)
at_place L v c = (c.0, slice_get-get_or L c.0 v c.1 ∙ ap Some c.2)

module _ {R : Type 0} (Shows : R → Genesis → ℕ → Holding → Type 0) (disks : R → Side → Disk) (m : Meaning)
    (genesis : Genesis) (sim_nodes : List (SimNode R)) (sent : List Datagram) (trace : List Note)
    (w : WorldInvariant Shows disks m genesis sim_nodes sent trace) where
  abbrev sound : Sound genesis sent
  sound = w.world.sound

  pub lawful : IsLawful m (happened genesis sent trace)
  lawful = record {
    sound = sound;
    asked = w.proposed;
    parts = λ n p s.
        let b = w.messages n (kinds.Part p) s in
        subst (λ (total : ℕ). IsSlice genesis sent (text m genesis) p.position total p.offset p.bytes) b.total
        (prefix_slice genesis sent (text m genesis) w.list p.position p.offset p.bytes w.chosen b.reaches b.slice);
  }

  pub agree : (L K : List Command) → Chosen genesis sent L → Chosen genesis sent K → IsPrefix L K ⊎ IsPrefix K L
  agree L K l k = chosen_agree genesis sent sound L K l k

  -- what is chosen was asked
  pub chosen_asked : (i : ℕ) (v : Command) → ChosenAt genesis sent i v → WasAsked (happened genesis sent trace) v
  chosen_asked i v p =
      let n = chosen_was_accepted genesis sent i v p in
      w.proposed (record { position = i; ballot = n.1; command = v })
      (sound.proposed n.0 (record { position = i; ballot = n.1; command = v }) n.2)

  -- so is each request of a chosen list
  pub request_asked : (L : List Command) → Chosen genesis sent L → (r : RequestValue) → Contains L (Request r)
      → Contains (asked_in trace) r
  request_asked L l r c = let at = at_place L (Request r) c in
      chosen_asked (suc at.0) (Request r) (entry_chosen genesis sent L l (suc at.0) (Request r) at.1)

  -- and so was each request of a chosen list noted
  pub asked : (L : List Command) → Chosen genesis sent L → (r : RequestValue) → Contains L (Request r)
      → Contains trace (note.Asked r)
  asked L l r c = noted_asked trace r (request_asked L l r c)

  pub ordered : InOrder genesis sent trace
  ordered = ordering.in_order m genesis sent sound trace w.in_time noted_asked

  pub told_in_time : ToldInTime trace
  told_in_time = ordering.told_in_time m genesis sent sound trace w.in_time noted_asked

  pub explains : Explains m genesis sent trace w.list
  explains = record {
    asked = asked w.list w.chosen;
    ran = λ n i v c. w.notes (note.Ran n i v) c;
    among = λ n i set v c. let b = w.notes (note.Counted n i set v) c in (b.0, b.1);
    counted = λ n i set v u c at. one_chosen genesis sent sound i v u (w.notes (note.Counted n i set v) c).2
        (entry_chosen genesis sent w.list w.chosen i u at);
    counted_twice = λ n k i set other v u c d. one_chosen genesis sent sound i v u
        (w.notes (note.Counted n i set v) c).2 (w.notes (note.Counted k i other u) d).2;
    answered = λ n client number a c. w.notes (note.Answered n client number a) c;
    told = λ n client number last c. w.notes (note.Told n client number last) c;
    answers = λ n a h. w.messages n (kinds.Answer a) h;
    passes = λ n p h. w.messages n (kinds.Passed p) h;
    decided = λ n j d v u h at there. one_chosen genesis sent sound (d.first + j) v u (sound.told n d h j v at)
        (entry_chosen genesis sent w.list w.chosen (d.first + j) u there);
    parts = λ n p h. w.messages n (kinds.Part p) h;
  }

  -- what a node holds as executed, and what its snapshots have, is a chosen list
  packed_lists : (n : ℕ) (d : Side → Disk) → DisksFit m (happened genesis sent trace) n d
      → KeepsPacked m genesis sent n d
  packed_lists n d f image may = let i = f image may in
      (i.standing, i.stands, (i.under, i.stems.done, i.position, i.snapshot), i.near)

  pub states : (whole : R → WholeValue)
      → ((r : R) (g : Genesis) (n : ℕ) (x : Holding) → Shows r g n x → SumsUp m g x.paxos.done (whole r))
      → (k : ℕ) (s : SimNode R) → At sim_nodes k s → SumsUpChosen whole disks m genesis sent s
  states whole sums k s at = let f = w.as_sim_nodes k s at in record {
    executed = λ r is. let u = f.up r is in
        (u.holding.paxos.done, u.fits.paxos.stems.done, sums r genesis s.number u.holding u.shown);
    kept = λ r is. packed_lists s.number (disks r) (f.up r is).left;
    left = λ d is. packed_lists s.number (disk_of d) (f.down d is);
  }
