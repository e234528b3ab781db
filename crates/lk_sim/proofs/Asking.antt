-- A client asks: its request joins what was asked, and may join what was sent.
use Rattle.std.proofs.Common.{◌≡◌, ℕ, List, [], ◌∷◌, ◌++◌, Contains, refl, ap, sym, ◌∙◌, subst, inl, inr, arith}
use Rattle.std.proofs.Common.{append-nil}
use Rattle.std.proofs.lemmas.List.Elements.{Contains-append_cases, Contains-append_right, Contains-push_cases}
use Rattle.lk_disk.specs.Disk.{Disk}
use Rattle.lk_memory_disk.specs.Memory.{disk_of}
use Rattle.lk_disk.specs.declared.device.Side.{Side}
use Rattle.lk_messages.specs.Grammar.{Spells}
use Rattle.lk_messages.specs.declared.message.Content.TheVariants as content
use Rattle.lk_messages.proofs.Spellings.{one_message}
use Rattle.lk_state.specs.Meanings.{Meaning}
use Rattle.lk_agreement_laws.specs.Datagrams.{NodeMessage, Accept, said_by, HasSent}
use Rattle.lk_agreement_laws.specs.Nodes.{PaxosFits}
use Rattle.lk_agreement_laws.specs.Worlds.{IsClientRequest, WorldFits}
use Rattle.lk_agreement_laws.proofs.Histories.{still_chosen, still_stems}
use Rattle.lk_agreement_laws.proofs.Histories.{only}
use Rattle.lk_agreement_laws.proofs.Histories.{sent_cases, asked_is_no_saying}
use Rattle.lk_agreement_laws.proofs.Histories.{asked_fits}
use Rattle.lk_node_interface.specs.declared.note.Note.{Note}
use Rattle.lk_node_interface.specs.declared.note.Note.TheVariants as note
use Rattle.lk_node.specs.Histories.{History, Genesis, Datagram, RequestValue}
use Rattle.lk_node.specs.BorneOut.{BearsOut}
use Rattle.lk_node.specs.Holdings.{Holding}
use Rattle.lk_node.specs.Leavings.{DisksFit}
use Rattle.lk_sim_nodes.specs.Told.{NotesReplies}
use Rattle.lk_sim.specs.Traces.{asked_in, happened, told_in}
use Rattle.lk_sim_nodes.proofs.Tellings.{tells_append}
use Rattle.lk_sim.proofs.Told.{told_in-append}
use Rattle.lk_sim_nodes.specs.SimNodes.{SimNodeFits, At}
use Rattle.lk_sim.specs.Worlds.{WorldInvariant}
use Rattle.lk_sim_nodes.specs.declared.sim_node.SimNode.{SimNode}
use Rattle.lk_sim.proofs.Lists.{asked_in-append, asked_among}
use Rattle.lk_sim.proofs.Growth.{disks_move, still_asked, still_holding, still_bears}
use Rattle.lk_sim.proofs.Ordering.{still_in_time}
use Rattle.lk_sim.specs.Orders.{RestsOn}

-- what was asked last was asked
pub asked_last : (trace : List Note) (r : RequestValue) → Contains (asked_in (trace ++ note.Asked r ∷ [])) r
asked_last trace r = subst (λ l. Contains l r) (sym (asked_in-append trace (note.Asked r ∷ [])))
    (Contains-append_right (asked_in trace) (r ∷ []) r (0, omega arith, refl))

module _ {R : Type 0} (Shows : R → Genesis → ℕ → Holding → Type 0) (disks : R → Side → Disk) (m : Meaning)
    (genesis : Genesis) (sim_nodes : List (SimNode R)) (sent : List Datagram) (trace : List Note)
    (w : WorldInvariant Shows disks m genesis sim_nodes sent trace) (r : RequestValue) where
  -- datagrams of clients
  module _ (more : List Datagram) (fits : WorldFits genesis (record { sent = sent ++ more; states = w.states }))
      (silent : (d : Datagram) → Contains more d → (n : ℕ) (x : NodeMessage) → Spells (said_by genesis n x) d.bytes → ⊥)
      (tells : NotesReplies more []) (asks : (d : Datagram) → Contains more d → (q : RequestValue) (cluster : ℕ)
      → Spells (record { cluster = cluster; content = content.Request q }) d.bytes → q ≡ r) where
    abbrev notes : List Note
    notes = note.Asked r ∷ []

    abbrev since : History
    since = happened genesis (sent ++ more) (trace ++ notes)

    among : (q : RequestValue) → Contains (asked_in trace) q → Contains (asked_in (trace ++ notes)) q
    among = asked_among trace notes

    old_sent : (n : ℕ) (x : NodeMessage) → HasSent genesis (sent ++ more) n x → HasSent genesis sent n x
    old_sent n x h = elim (sent_cases genesis sent more n x h)
        [ inl old ↦ old | inr fresh ↦ absurd (silent fresh.datagram fresh.listed n x fresh.spelled) ]

    images : (n : ℕ) (d : Side → Disk) → DisksFit m (happened genesis sent trace) n d → DisksFit m since n d
    images n d f = disks_move m genesis sent (sent ++ more) (asked_in trace) (asked_in (trace ++ notes)) n d
        (λ s c x h. c x (old_sent n x h)) (still_stems genesis sent more) f

    as_sim_nodes : (k : ℕ) (t : SimNode R) → At sim_nodes k t → SimNodeFits Shows disks m since (w.states t.number) t
    as_sim_nodes k t at = let f = w.as_sim_nodes k t at in record {
      up = λ q is. let u = f.up q is in record {
        holding = u.holding;
        paxos = u.paxos;
        shown = u.shown;
        fits = still_holding genesis sent more (asked_in trace) (asked_in (trace ++ notes)) among m t.number u.holding
            (subst (λ v. PaxosFits genesis (sent ++ more) t.number v) (sym u.paxos) (fits.states t.number)) u.fits;
        left = images t.number (disks q) u.left;
        room = u.room;
      };
      down = λ d is. images t.number (disk_of d) (f.down d is);
      room = f.room;
    }

    goes_on : WorldInvariant Shows disks m genesis sim_nodes (sent ++ more) (trace ++ notes)
    goes_on = record {
      states = w.states;
      world = fits;
      as_sim_nodes = as_sim_nodes;
      apart = w.apart;
      known = λ n x h. w.known n x (old_sent n x h);
      requests = λ d q cluster c said. elim (Contains-append_cases sent more d c) [
        | inl old ↦ among q (w.requests d q cluster old said)
        | inr fresh ↦
            subst (λ z. Contains (asked_in (trace ++ notes)) z) (sym (asks d fresh q cluster said)) (asked_last trace r)
      ];
      proposed = λ x h. still_asked genesis sent more (asked_in trace) (asked_in (trace ++ notes)) among x.command
          (w.proposed x (record { sender = h.sender; has_sent = old_sent h.sender (Accept x) h.has_sent }));
      list = w.list;
      chosen = still_chosen genesis sent more w.list w.chosen;
      notes = λ x c. elim (Contains-push_cases trace (note.Asked r) x c) [
        | inl old ↦
            still_bears genesis sent more (asked_in trace) (asked_in (trace ++ notes)) among m w.list x (w.notes x old)
        | inr e ↦ subst (λ z. BearsOut m since w.list z) e (asked_last trace r)
      ];
      messages = λ n x h. w.messages n x (old_sent n x h);
      told = subst (λ l. NotesReplies (sent ++ more) l) (sym (told_in-append trace notes))
          (tells_append sent more (told_in trace) [] w.told tells);
      in_time = still_in_time m genesis sent more trace notes w.in_time
          (λ x c. subst (λ z. RestsOn m genesis sent trace z) (only (note.Asked r) x c) tt);
    }

  -- a request that is injected
  pub injected_holds : WorldInvariant Shows disks m genesis sim_nodes sent (trace ++ note.Asked r ∷ [])
  injected_holds = subst (λ l. WorldInvariant Shows disks m genesis sim_nodes l (trace ++ note.Asked r ∷ []))
      (append-nil sent)
      (goes_on [] (subst (λ l. WorldFits genesis (record { sent = l; states = w.states }))
      (sym (append-nil sent)) w.world) (λ d c. absurd (omega (arith, c.1))) refl (λ d c. absurd (omega (arith, c.1))))

  -- a client's datagram
  pub asked_holds : (d : Datagram) (a : IsClientRequest d) → a.request ≡ r
      → WorldInvariant Shows disks m genesis sim_nodes (sent ++ d ∷ []) (trace ++ note.Asked r ∷ [])
  asked_holds d a is = goes_on (d ∷ []) (asked_fits genesis (record { sent = sent; states = w.states }) d w.world a)
      (λ x c n k said. asked_is_no_saying genesis d a n k
      (subst (λ (z : Datagram). Spells (said_by genesis n k) z.bytes) (sym (only d x c)) said))
      (record { cluster = a.cluster; content = content.Request a.request }, [], a.spelled, refl, refl)
      (λ x c q cluster said. same q
      (ap (λ z. z.content) (one_message _ _ d.bytes a.spelled
      (subst (λ (z : Datagram). Spells (record { cluster = cluster; content = content.Request q }) z.bytes)
      (sym (only d x c)) said))))
    where
      same : (q : RequestValue) → content.Request a.request ≡ content.Request q → q ≡ r
      same q e = let f : a.request ≡ q = cc e in sym f ∙ is
