-- A node goes on: what it sends and notes keeps all that holds of the world.
use Rattle.std.proofs.Common.{◌≡◌, ℕ, ◌==◌, Bool, true, false, cond, List, ◌++◌, length, set, get_or, Contains, refl}
use Rattle.std.proofs.Common.{ap, sym, ◌∙◌, subst, inl, inr, eqb-true}
use Rattle.std.proofs.lemmas.Bool.{cases_eq, eqb-false}
use Rattle.std.proofs.lemmas.List.{get_or_default}
use Rattle.std.proofs.Math.Seq.{take-length}
use Rattle.std.proofs.lemmas.List.Elements.{Contains-append_cases}
use Rattle.lk_disk.specs.Disk.{Disk}
use Rattle.lk_memory_disk.specs.Memory.{disk_of}
use Rattle.lk_disk.specs.declared.device.Side.{Side}
use Rattle.lk_messages.specs.Grammar.{Spells}
use Rattle.lk_messages.specs.declared.message.Content.TheVariants as content
use Rattle.lk_messages.proofs.Spellings.{one_message}
use Rattle.lk_state.specs.Meanings.{Meaning}
use Rattle.lk_agreement_laws.specs.Datagrams.{NodeMessage, Vote, Accept, said_by, HasSent, WasSent}
use Rattle.lk_agreement_laws.specs.Nodes.{PaxosState, PaxosFits, MaySend, MaySendDatagrams}
use Rattle.lk_agreement_laws.specs.Chosen.{Chosen}
use Rattle.lk_agreement_laws.specs.Worlds.{PaxosWorld, with_paxos, with_sent, WorldFits}
use Rattle.lk_agreement_laws.proofs.Histories.{still_chosen, still_stems}
use Rattle.lk_agreement_laws.proofs.Histories.{said_alike, sent_cases}
use Rattle.lk_agreement_laws.proofs.Histories.{with_paxos_fits, batch_fits, covers_elsewhere}
use Rattle.lk_node_interface.specs.declared.note.Note.{Note}
use Rattle.lk_node_interface.specs.declared.note.Note.TheVariants as note
use Rattle.lk_node.specs.Histories.{History, Genesis, Datagram, Command, RequestValue, WasAsked, later}
use Rattle.lk_node.specs.BorneOut.{BearsOut, BearsOutMessage}
use Rattle.lk_node.specs.Holdings.{Holding}
use Rattle.lk_node.specs.Leavings.{DisksFit}
use Rattle.lk_node.specs.Calls.{LeavesFit}
use Rattle.lk_sim_nodes.specs.Told.{told_by, NotesReplies}
use Rattle.lk_sim.specs.Traces.{asked_in, happened, told_in}
use Rattle.lk_sim_nodes.specs.Rooms.{AreShort}
use Rattle.lk_sim_nodes.specs.SimNodes.{UpFits, SimNodeFits, At}
use Rattle.lk_sim.specs.Worlds.{WorldInvariant}
use Rattle.lk_sim_nodes.specs.declared.sim_node.SimNode.{SimNode}
use Rattle.lk_sim_nodes.specs.declared.sim_node.RunState.TheVariants.{Up}
use Rattle.lk_sim_nodes.proofs.Tellings.{tells_append}
use Rattle.lk_sim.proofs.Told.{told_in-append, told_in-of_node, told_in-tells, told_from, bears_told}
use Rattle.lk_sim.proofs.Lists.{at_set, at_set_here, at_set_other, asked_among}
use Rattle.lk_sim.proofs.Growth.{disks_move, still_asked, still_holding, still_bears}
use Rattle.lk_sim.proofs.Bearing.{begins_all, bears_longer, message_longer, all_borne}
use Rattle.lk_sim.proofs.Ordering.{still_in_time}
use Rattle.lk_sim.proofs.Explaining.{request_asked}
use Rattle.lk_sim.specs.Orders.{RestsOn}

-- one state in the place of a number's
pub same_state : (n : ℕ) (y v : PaxosState) → (t : Bool) → (n == n) ≡ t → cond t y v ≡ y
same_state n y v true e = refl
same_state n y v false e = absurd (eqb-false n n e refl)

pub other_state : (k n : ℕ) (y v : PaxosState) → (k ≡ n → ⊥) → (t : Bool) → (k == n) ≡ t → cond t y v ≡ v
other_state k n y v ne true e = absurd (ne (eqb-true k n e))
other_state k n y v ne false e = refl

no_request : (genesis : Genesis) (n : ℕ) (x : NodeMessage) (r : RequestValue) (cluster : ℕ) (bytes : List ℕ)
    → Spells (said_by genesis n x) bytes
    → Spells (record { cluster = cluster; content = content.Request r }) bytes → ⊥
no_request genesis n x r cluster bytes said asked = none (ap (λ k. k.content) (one_message _ _ bytes said asked))
  where
    none : content.Node n x ≡ content.Request r → ⊥
    none e = cc e

module _ {R : Type 0} (Shows : R → Genesis → ℕ → Holding → Type 0) (disks : R → Side → Disk) (m : Meaning)
    (genesis : Genesis) (sim_nodes : List (SimNode R)) (sent : List Datagram) (trace : List Note)
    (w : WorldInvariant Shows disks m genesis sim_nodes sent trace)
    (i : ℕ) (s new : SimNode R) (at : At sim_nodes i s) (r : R) (number : new.number ≡ s.number)
    (up : new.run_state ≡ Up r)
    (mine told : List Note) (batch : List Datagram)
    (g : LeavesFit m (happened genesis sent trace) s.number (Shows r genesis s.number) (disks r) mine batch)
    (tells : NotesReplies batch told) (short : AreShort (disks r)) where
  abbrev notes : List Note
  notes = mine ++ told

  abbrev n : ℕ
  n = s.number

  abbrev y : PaxosState
  y = g.holding.paxos

  abbrev before : PaxosWorld
  before = record { sent = sent; states = w.states }

  abbrev now : PaxosWorld
  now = with_paxos before n y

  now_fits : WorldFits genesis now
  now_fits = with_paxos_fits genesis before n y w.world g.fits.paxos

  here : now.states n ≡ y
  here = same_state n y (w.states n) (n == n) refl

  may : MaySendDatagrams genesis sent n (now.states n) batch
  may d c =
      let p = g.may d c in
      record {
        message = p.message;
        from = p.from;
        spelled = p.spelled;
        may = subst (λ v. MaySend genesis sent v p.message) (sym here) p.may;
      }

  after_fits : WorldFits genesis (with_sent now batch)
  after_fits = batch_fits genesis now n batch may now_fits

  among : (q : RequestValue) → Contains (asked_in trace) q → Contains (asked_in (trace ++ notes)) q
  among = asked_among trace notes

  abbrev since : History
  since = happened genesis (sent ++ batch) (trace ++ notes)

  own : UpFits Shows disks m since (now.states n) n r
  own = record {
    holding = g.holding;
    paxos = sym here;
    shown = g.shown;
    fits = still_holding genesis sent batch (asked_in trace) (asked_in (trace ++ notes)) among m n g.holding
        (subst (λ v. PaxosFits genesis (sent ++ batch) n v) here (after_fits.states n)) g.fits;
    left = disks_move m genesis (sent ++ batch) (sent ++ batch) (asked_in trace) (asked_in (trace ++ notes)) n
        (disks r) (λ x c. c) (λ x c. c)
        (subst (λ b. DisksFit m (later (happened genesis sent trace) b) n (disks r)) (take-length batch)
        (g.left (length batch)));
    room = short;
  }

  others : (k : ℕ) → (k ≡ n → ⊥) → (d : Side → Disk)
      → DisksFit m (happened genesis sent trace) k d → DisksFit m since k d
  others k ne d f = disks_move m genesis sent (sent ++ batch) (asked_in trace) (asked_in (trace ++ notes)) k d
      (λ x c. covers_elsewhere genesis now n batch may k x (λ e. ne (sym e)) c) (still_stems genesis sent batch) f

  elsewhere : (t : SimNode R) → (t.number ≡ n → ⊥)
      → SimNodeFits Shows disks m (happened genesis sent trace) (w.states t.number) t
      → SimNodeFits Shows disks m since (now.states t.number) t
  elsewhere t ne f = record {
    up = λ q is. let u = f.up q is in
        let same : now.states t.number ≡ w.states t.number =
        other_state t.number n y (w.states t.number) ne (t.number == n) refl in
        record {
          holding = u.holding;
          paxos = u.paxos ∙ sym same;
          shown = u.shown;
          fits =
              still_holding genesis sent batch (asked_in trace) (asked_in (trace ++ notes)) among m t.number u.holding
              (subst (λ v. PaxosFits genesis (sent ++ batch) t.number v) (same ∙ sym u.paxos)
              (after_fits.states t.number)) u.fits;
          left = others t.number ne (disks q) u.left;
          room = u.room;
        };
    down = λ d is. others t.number ne (disk_of d) (f.down d is);
    room = f.room;
  }

  as_sim_nodes : (k : ℕ) (t : SimNode R) → At (set sim_nodes i new) k t → SimNodeFits Shows disks m since
      (now.states t.number) t
  as_sim_nodes k t c = elim (at_set sim_nodes i new k t c) [
    | inl e ↦ subst (λ z. SimNodeFits Shows disks m since (now.states z.number) z) e.1 own_sim_node
    | inr o ↦ elsewhere t (λ same. o.0 (w.apart k i t s o.1 at same)) (w.as_sim_nodes k t o.1)
  ]
    where
      own_sim_node : SimNodeFits Shows disks m since (now.states new.number) new
      own_sim_node = record {
        up = λ q is. let same : r ≡ q = cc (up, is) in
            subst (λ z. UpFits Shows disks m since (now.states new.number) new.number z) same
            (subst (λ k. UpFits Shows disks m since (now.states k) k r) (sym number) own);
        down = λ d is. absurd (cc (up, is));
        room = λ d is. absurd (cc (up, is));
      }

  apart : (j k : ℕ) (t u : SimNode R) → At (set sim_nodes i new) j t → At (set sim_nodes i new) k u → t.number
      ≡ u.number → j ≡ k
  apart j k t u c d e = elim (at_set sim_nodes i new j t c) [
    | inl a ↦ elim (at_set sim_nodes i new k u d) [
      | inl b ↦ a.0 ∙ sym b.0
      | inr b ↦ a.0 ∙ w.apart i k s u at b.1 (sym number ∙ ap (λ (z : SimNode R). z.number) a.1 ∙ e)
    ]
    | inr a ↦ elim (at_set sim_nodes i new k u d) [
      | inl b ↦ w.apart j i t s a.1 at (e ∙ sym (sym number ∙ ap (λ (z : SimNode R). z.number) b.1)) ∙ sym b.0
      | inr b ↦ w.apart j k t u a.1 b.1 e
    ]
  ]

  still_there : (j : ℕ) (t : SimNode R) → At sim_nodes j t
      → (k : ℕ) × (u : SimNode R) × At (set sim_nodes i new) k u × (u.number ≡ t.number)
  still_there j t c = elim (cases_eq j i) [
    | inl e ↦ (i, new, at_set_here sim_nodes i new at.0, number ∙ ap (λ (z : SimNode R). z.number) (same e))
    | inr ne ↦ (j, t, at_set_other sim_nodes i new j t ne c, refl)
  ]
    where
      same : j ≡ i → s ≡ t
      same e = sym at.1 ∙ get_or_default sim_nodes i s t at.0 ∙ ap (λ k. get_or sim_nodes k t) (sym e) ∙ c.1

  said_now : (k : ℕ) (x : NodeMessage) → HasSent genesis batch k x → (n ≡ k) × MaySend genesis sent y x
  said_now k x h =
      let p = g.may h.datagram h.listed in
      let e = said_alike genesis n k p.message x h.datagram.bytes p.spelled h.spelled in
      (e.0, subst (λ z. MaySend genesis sent y z) e.1 p.may)

  known : (k : ℕ) (x : NodeMessage) → HasSent genesis (sent ++ batch) k x
      → (j : ℕ) × (t : SimNode R) × At (set sim_nodes i new) j t × (t.number ≡ k)
  known k x h = elim (sent_cases genesis sent batch k x h) [
    | inl old ↦ (let a = w.known k x old in let b = still_there a.0 a.1 a.2 in (b.0, b.1, b.2, b.3 ∙ a.3))
    | inr fresh ↦ (i, new, at_set_here sim_nodes i new at.0, number ∙ (said_now k x fresh).0)
  ]

  requests : (d : Datagram) (q : RequestValue) (cluster : ℕ) → Contains (sent ++ batch) d
      → Spells (record { cluster = cluster; content = content.Request q }) d.bytes
      → Contains (asked_in (trace ++ notes)) q
  requests d q cluster c said = elim (Contains-append_cases sent batch d c) [
    | inl old ↦ among q (w.requests d q cluster old said)
    | inr fresh ↦ (let p = g.may d fresh in absurd (no_request genesis n p.message q cluster d.bytes p.spelled said))
  ]

  proposed : (x : Vote) → WasSent genesis (sent ++ batch) (Accept x) → WasAsked since x.command
  proposed x h = elim (sent_cases genesis sent batch h.sender (Accept x) h.has_sent) [
    | inl old ↦ still_asked genesis sent batch (asked_in trace) (asked_in (trace ++ notes)) among x.command
        (w.proposed x (record { sender = h.sender; has_sent = old }))
    | inr fresh ↦ (let t = (said_now h.sender (Accept x) fresh).1 in
        still_asked genesis sent batch (asked_in trace) (asked_in (trace ++ notes)) among x.command
        (g.fits.proposals t.0 t.1 x.position x.command t.3))
  ]

  abbrev BearsDatagram : List Command → Datagram → Type 0
  BearsDatagram L d = (k : ℕ) (x : NodeMessage) → Spells (said_by genesis k x) d.bytes
      → BearsOutMessage m (happened genesis sent trace) L x

  of_datagram : (d : Datagram) → Contains batch d → (K : List Command) × Chosen genesis sent K × BearsDatagram K d
  of_datagram d c =
      let p = g.may d c in (
        p.borne_out.under,
        p.borne_out.chosen,
        λ k x said. subst (λ z. BearsOutMessage m (happened genesis sent trace) p.borne_out.under z)
            (said_alike genesis n k p.message x d.bytes p.spelled said).1 p.borne_out.bears,
      )

  of_told : (x : Note) → Contains told x
      → (K : List Command) × Chosen genesis sent K × BearsOut m (happened genesis sent trace) K x
  of_told x c =
      let t = told_from batch told tells x c in
      let p = g.may t.0 t.2 in
      let same : t.1.content ≡ content.Node n p.message =
      ap (λ k. k.content) (one_message _ _ t.0.bytes t.3 p.spelled) in (
        p.borne_out.under,
        p.borne_out.chosen,
        bears_told m (happened genesis sent trace) p.borne_out.under n p.message t.0.bytes p.spelled p.borne_out.bears x
            (subst (λ k. Contains (told_by k) x) same t.4),
      )

  of_note : (x : Note) → Contains notes x
      → (K : List Command) × Chosen genesis sent K × BearsOut m (happened genesis sent trace) K x
  of_note x c = elim (Contains-append_cases mine told x c)
      [ inl own ↦ (let b = (g.noted x own).1 in (b.under, b.chosen, b.bears)) | inr now ↦ of_told x now ]

  -- what is borne out rests on what was asked before
  rests : (x : Note) (L : List Command) → Chosen genesis sent L → BearsOut m (happened genesis sent trace) L x
      → RestsOn m genesis sent trace x
  rests (note.Asked r) L l b = tt
  rests (note.Counted k j set v) L l b = tt
  rests (note.Ran k j v) L l b = tt
  rests (note.Answered k client number a) L l b =
      record {
        under = L;
        chosen = l;
        replied = b;
        asked =
            request_asked Shows disks m genesis sim_nodes sent trace w L l;
      }
  rests (note.Told k client number last) L l b = (
    b.1.0,
    record {
      under = L;
      chosen = l;
      replied = b.1.1;
      asked = request_asked Shows disks m genesis sim_nodes sent trace w L l;
    },
  )

  rests_now : (x : Note) → Contains notes x → RestsOn m genesis sent trace x
  rests_now x c = let b = of_note x c in rests x b.0 b.1 b.2

  told_now : told_in (trace ++ notes) ≡ told_in trace ++ told
  told_now = told_in-append trace notes ∙ ap (λ l. told_in trace ++ l)
      (told_in-append mine told ∙ ap (λ l. l ++ told_in told) (told_in-of_node mine (λ x c. (g.noted x c).0))
      ∙ told_in-tells batch told tells)

  pub goes_on : WorldInvariant Shows disks m genesis (set sim_nodes i new) (sent ++ batch) (trace ++ notes)
  goes_on =
      let h = happened genesis sent trace in
      let a = all_borne genesis sent w.world.sound (BearsOut m h) (bears_longer m h) notes of_note w.list w.chosen in
      let b = all_borne genesis sent w.world.sound BearsDatagram
      (λ L rest d bears k x said. message_longer m h L rest x (bears k x said)) batch of_datagram a.0 a.1 in
      record {
        states = now.states;
        world = after_fits;
        as_sim_nodes = as_sim_nodes;
        apart = apart;
        known = known;
        requests = requests;
        proposed = proposed;
        list = b.0;
        chosen = still_chosen genesis sent batch b.0 b.1;
        notes = λ x c. still_bears genesis sent batch (asked_in trace) (asked_in (trace ++ notes)) among m b.0 x
            (begins_all (BearsOut m h) (bears_longer m h) a.0 b.0 b.2 x
            (elim (Contains-append_cases trace notes x c) [
              | inl old ↦ begins_all (BearsOut m h) (bears_longer m h) w.list a.0 a.2 x (w.notes x old)
              | inr fresh ↦ a.3 x fresh
            ]));
        messages = λ k x c. elim (sent_cases genesis sent batch k x c) [
          | inl old ↦ begins_all (BearsOutMessage m h) (message_longer m h) a.0 b.0 b.2 x
              (begins_all (BearsOutMessage m h) (message_longer m h) w.list a.0 a.2 x (w.messages k x old))
          | inr fresh ↦ b.3 fresh.datagram fresh.listed k x fresh.spelled
        ];
        told = subst (λ l. NotesReplies (sent ++ batch) l) (sym told_now)
            (tells_append sent batch (told_in trace) told w.told tells);
        in_time = still_in_time m genesis sent batch trace notes w.in_time rests_now;
      }
