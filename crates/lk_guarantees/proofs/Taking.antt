-- What a replica that takes something leaves, in the words of the guarantee.
use Rattle.std.proofs.Common.{◌≡◌, ℕ, zero, suc, ◌+◌, ◌-◌, ◌<◌, Bool, true, false, nat_lt, nat_le, ◌&&◌, List, [], ◌∷◌}
use Rattle.std.proofs.Common.{◌++◌, length, map, take, set, slice_get, Option, Some, None, Result, Ok, Err, refl, ap}
use Rattle.std.proofs.Common.{sym}
use Rattle.std.proofs.Common.{◌∙◌, subst, inl, inr, append_assoc, append-nil, arith}
use Rattle.std.proofs.lemmas.Bool.{and_parts, ltb-true, leb-true}
use Rattle.lk_memory_disk.specs.Memory.{Memory}
use Rattle.lk_disk.specs.Meters.{stopping, trapped}
use Rattle.lk_disk.specs.declared.trap.Trap.{Trap}
use Rattle.lk_disk.specs.declared.trap.Trap.TheVariants.{Off, Fail, Arm}
use Rattle.lk_locks.specs.Meaning.{table_meaning}
use Rattle.lk_locks.specs.Packed.{IsTableText}
use Rattle.lk_messages.specs.declared.message.Content.TheVariants as content
use Rattle.lk_agreement_laws.specs.declared.party.Party.TheVariants as party
use Rattle.lk_node_interface.specs.declared.input.Input.{Input}
use Rattle.lk_node_interface.specs.declared.input.Input.TheVariants as input
use Rattle.lk_node_interface.specs.declared.note.Note.{Note}
use Rattle.lk_node_interface.specs.declared.note.Note.TheVariants as note
use Rattle.lk_node.specs.Histories.{Datagram, RequestValue}
use Rattle.lk_replica.specs.Behaviours.{Behaviour}
use Rattle.lk_replica.specs.ReplicaValue.{ReplicaValue, device_of}
use Rattle.lk_replica.specs.Taking.{ComesTo}
use Rattle.lk_replica.specs.Together.{Said, sent_of, ComesToAll}
use Rattle.lk_sim.specs.Events.{ReplacesSeat, Adds, IsGiven, IsGivenTogether, HasEffect}
use Rattle.lk_sim.specs.Groups as groups
use Rattle.lk_sim.specs.Groups.{bringing, given_by}
use Rattle.lk_sim.specs.Heard.{IsRequestIn}
use Rattle.lk_sim.specs.Refusals.{datagram_at, AreFor, IsPermitted}
use Rattle.lk_sim.specs.WorldStates.{WorldState}
use Rattle.lk_sim.specs.Traces.{asked_note}
use Rattle.lk_sim.specs.declared.event.Event.{Event}
use Rattle.lk_sim.specs.declared.event.Event.TheVariants as event
use Rattle.lk_sim.specs.declared.event.GroupInput.{GroupInput}
use Rattle.lk_sim.specs.declared.event.GroupInput.TheVariants as group_input
use Rattle.lk_sim_nodes.specs.Ends.{end_by}
use Rattle.lk_sim_nodes.specs.SimNodes.{stopped_on, rested_on}
use Rattle.lk_sim_nodes.specs.Sends as sending
use Rattle.lk_sim_nodes.specs.Sends.{stop_among, left_over, cut_short}
use Rattle.lk_sim_nodes.specs.declared.end.End.TheVariants.{Stopped}
use Rattle.lk_sim_nodes.specs.declared.sim_node.RunState.{RunState}
use Rattle.lk_sim_nodes.specs.declared.sim_node.RunState.TheVariants.{Up, Down}
use Rattle.lk_sim_nodes.specs.declared.sim_node.SimNode.{SimNode}
use Rattle.lk_guarantees.proofs.Reviving.{same_sim_node, stands_at, ends_on}
use Rattle.lk_guarantees.proofs.Telling.{replies}
use Rattle.lk_guarantees.specs.Events.{requests, AreAskedIn, IsFor, EndsOn, Step, datagrams_of, up_to, AreNotesOf, Call}
use Rattle.lk_guarantees.specs.Events.{Takes, TakesAll, with_sends, after_sends, GoesOn, StopsSending, Breaks, IsTaken}
use Rattle.lk_guarantees.specs.Events.{AreGiven, TakesAsStated}

-- ---- what was asked

no_request : (r : RequestValue) → None ≡ Some r → ⊥
no_request r e = absurd cc

pub asked_in : (bytes : List ℕ) (o : Option RequestValue) → IsRequestIn bytes o
    → AreAskedIn bytes (requests (asked_note o))
asked_in bytes (Some r) a = inl (r, a.spelled r refl, refl)
asked_in bytes None a = inr (
  λ r cluster spelled. let x = a.only (record { cluster = cluster; content = content.Request r }) spelled in
      no_request x.0 x.2,
  refl,
)

abbrev notes_asking : List RequestValue → List Note
notes_asking asked = map (λ r. note.Asked r) asked

asked_notes : (o : Option RequestValue) → asked_note o ≡ notes_asking (requests (asked_note o))
asked_notes None = refl
asked_notes (Some r) = refl

-- ---- what a group is given

brought : (sent : List Datagram) (n : ℕ) (group_inputs : List GroupInput) → AreFor sent n group_inputs
    → AreGiven sent group_inputs (map (given_by sent) group_inputs)
brought sent n [] are = refl
brought sent n (group_input.Tick ∷ group_inputs) are = (
  map
      (given_by sent) group_inputs,
  refl,
  brought sent n group_inputs are.1,
)
brought sent n (group_input.Nudge reason ∷ group_inputs) are = (
  map
      (given_by sent) group_inputs,
  refl,
  brought sent n group_inputs are.1,
)
brought sent n (group_input.Deliver zero ∷ group_inputs) are = absurd (cc are.0.1)
brought sent n (group_input.Deliver (suc j) ∷ group_inputs) are = (
  j,
  are.0.0,
  omega arith,
  are.0.1,
  (
    map (given_by sent) group_inputs,
    ap (λ (o : Option Datagram). bringing o ∷ map (given_by sent) group_inputs) are.0.1,
    brought sent n group_inputs are.1,
  ),
)

-- ---- its steps

all_sent : (said : List Said) → sent_of said ≡ datagrams_of said
all_sent [] = refl
all_sent (x ∷ said) = ap (λ (l : List Datagram). x.1 ++ l) (all_sent said)

are_notes : (said : List Said) (notes : List Note) → groups.AreNotesOf said notes → AreNotesOf said notes
are_notes [] notes e = e
are_notes (x ∷ said) notes k = (k.0, k.1, replies x.1 k.0 k.2, k.3, are_notes said k.1 k.4)

left_is : (k : ℕ) (xs : List Datagram) → left_over k xs ≡ k - length xs
left_is k [] = omega arith
left_is zero (x ∷ xs) = omega arith
left_is (suc k) (x ∷ xs) = let rest = left_is k xs in omega (arith, rest)

cut_is : (k : ℕ) (said : List Said) → cut_short k said ≡ up_to k said
cut_is k [] = refl
cut_is k (x ∷ said) =
    let rest : cut_short (left_over k x.1) said ≡ up_to (k - length x.1) said =
    cut_is (left_over k x.1) said ∙ ap (λ (j : ℕ). up_to j said) (left_is k x.1) in
    ap (λ (l : List Said). (x.0, take k x.1) ∷ l) rest

-- the notes of one step, after what was asked
one_step : (told notes mine : List Note) → (told ++ notes) ++ mine ≡ told ++ ((notes ++ mine) ++ [])
one_step told notes mine =
    append_assoc told notes mine ∙ ap (λ (l : List Note). told ++ l) (sym (append-nil (notes ++ mine)))

-- ---- an armed trap

abbrev both : ℕ → ℕ → ℕ × ℕ
both sends bytes = (sends, bytes)

abbrev stop_at : ℕ → ℕ → Option (ℕ × ℕ)
stop_at sends bytes = Some (both sends bytes)

some_pair : (a b x y : ℕ) → stop_at a x ≡ stop_at b y → (a ≡ b) × (x ≡ y)
some_pair a b x y e =
    let same : both a x ≡ both b y = cc e in
    (ap (λ (p : ℕ × ℕ). p.0) same, ap (λ (p : ℕ × ℕ). p.1) same)

armed_for : (count x most sends bytes : ℕ) → (b : Bool) → (nat_lt 0 count && nat_le count most) ≡ b
    → stop_among (Arm count x) most ≡ stop_at sends bytes → (Arm count x ≡ Arm (sends + 1) bytes) × (sends < most)
armed_for count x most sends bytes false is e =
    let none : None ≡ stop_at sends bytes = rw is at e in
    absurd (cc none)
armed_for count x most sends bytes true is e =
    let some : stop_at (count - 1) x ≡ stop_at sends bytes = rw is at e in
    let pair = some_pair (count - 1) sends x bytes some in
    let within = and_parts (nat_lt 0 count) (nat_le count most) is in
    let low = ltb-true 0 count within.0 in
    let high = leb-true count most within.1 in
    let next : count ≡ sends + 1 = omega (arith, low, pair.0) in
    (λ i. Arm (next i) (pair.1 i), omega (arith, low, high, pair.0))

armed : (trap : Trap) (most sends bytes : ℕ) → stop_among trap most ≡ stop_at sends bytes
    → (trap ≡ Arm (sends + 1) bytes) × (sends < most)
armed Off most sends bytes e = absurd (cc e)
armed (Fail count) most sends bytes e = absurd (cc e)
armed (Arm count x) most sends bytes e =
    armed_for count x most sends bytes (nat_lt 0 count && nat_le count most) refl e

-- ---- what a call leaves

module _ (b : Behaviour ReplicaValue) (memory_is : (r : ReplicaValue) → b.memory r ≡ device_of r.store)
    (traps : (t : Trap) (r : ReplicaValue)
    → b.with_trap t r ≡ record r { store = record r.store { meter = trapped t r.store.meter } }) where
  counted : (trap : Trap) (sends : ℕ) (r : ReplicaValue) → sending.counting b trap sends r ≡ with_sends trap sends r
  counted Off sends r = refl
  counted (Fail count) sends r = refl
  counted (Arm count bytes) sends r = traps (Arm (count - sends) bytes) r

  all_counted : (sends : ℕ) (r : ReplicaValue) → sending.after_sends b sends r ≡ after_sends sends r
  all_counted sends r =
      ap (λ (m : Memory). sending.counting b m.meter.trap sends r) (memory_is r) ∙ counted r.store.meter.trap sends r

  module _ (old new : WorldState ReplicaValue) (n : ℕ) (Calls : Call) (asked : List RequestValue)
      (sim_node next : SimNode ReplicaValue) (number_is : sim_node.number ≡ n) (before : ReplicaValue)
      (was : sim_node.run_state ≡ Up before) (replaces : ReplacesSeat old.sim_nodes new.sim_nodes sim_node next) where
    was_up : slice_get old.sim_nodes replaces.index ≡ Some (record { number = n; run_state = Up before })
    was_up = stands_at old.sim_nodes new.sim_nodes sim_node next replaces
        ∙ ap Some (same_sim_node sim_node n (Up before) number_is was)

    is_now : (run_state : RunState ReplicaValue) → next.run_state ≡ run_state
        → new.sim_nodes ≡ set old.sim_nodes replaces.index (record { number = n; run_state = run_state })
    is_now run_state is =
        replaces.sim_nodes
        ∙ ap (set old.sim_nodes replaces.index) (same_sim_node next n run_state (replaces.number ∙ number_is) is)

    went_on : (after : ReplicaValue) (said : List Step) (batch : List Datagram) (notes : List Note)
        → batch ≡ datagrams_of said → Calls before after (Ok said)
        → next.run_state ≡ Up (sending.after_sends b (length batch) after) → AreNotesOf said notes
        → Adds old new (notes_asking asked ++ notes) batch → new.ended ≡ None → GoesOn old n Calls asked new
    went_on after said batch notes whole calls up are adds ended = record {
      index = replaces.index;
      before = before;
      was_up = was_up;
      after = after;
      said = said;
      calls = calls;
      is_up = is_now (Up (after_sends (length (datagrams_of said)) after))
          (up ∙ ap Up (all_counted (length batch) after)
          ∙ ap (λ (l : List Datagram). Up (after_sends (length l) after)) whole);
      sent = adds.sent ∙ ap (λ (l : List Datagram). old.sent ++ l) whole;
      notes = notes;
      are_notes = are;
      noted = adds.trace;
      none_ended = ended;
    }

    stopped_sending : (after : ReplicaValue) (said : List Step) (batch : List Datagram) (notes : List Note)
        (sends bytes : ℕ) → batch ≡ datagrams_of said → Calls before after (Ok said)
        → stop_among (b.memory after).meter.trap (length batch) ≡ Some (sends, bytes)
        → next.run_state ≡ Down (stopped_on bytes bytes (b.memory after)) → AreNotesOf (up_to sends said) notes
        → Adds old new (notes_asking asked ++ notes) (take sends batch) → new.ended ≡ Some (Stopped next.number)
        → StopsSending old n Calls asked new
    stopped_sending after said batch notes sends bytes whole calls stop down are adds ended =
        let due = armed after.store.meter.trap (length batch) sends bytes
        (subst (λ (m : Memory). stop_among m.meter.trap (length batch) ≡ Some (sends, bytes)) (memory_is after)
        stop) in
        record {
          index = replaces.index;
          before = before;
          was_up = was_up;
          after = after;
          said = said;
          calls = calls;
          sends = sends;
          bytes = bytes;
          fewer = subst (λ (l : List Datagram). sends < length l) whole due.1;
          armed = due.0;
          rest = stopped_on bytes bytes (device_of after.store);
          is_down = is_now (Down (stopped_on bytes bytes (device_of after.store)))
              (down ∙ ap (λ (m : Memory). Down (stopped_on bytes bytes m)) (memory_is after));
          disk_a = refl;
          disk_b = refl;
          sent = adds.sent ∙ ap (λ (l : List Datagram). old.sent ++ take sends l) whole;
          notes = notes;
          are_notes = are;
          noted = adds.trace;
          ended = ended ∙ ap (λ (m : ℕ). Some (Stopped m)) (replaces.number ∙ number_is);
        }

    broke : (after : ReplicaValue) (number : ℕ) (left : Memory) → Calls before after (Err number)
        → left ≡ b.memory after → (number ≡ 8 → ⊥) × (number ≡ 14 → ⊥) × (number ≡ 15 → ⊥)
        → left.meter.starved ≡ false
        → next.run_state ≡ Down (rested_on (stopping left.meter) left)
        → new.ended ≡ Some (end_by (stopping left.meter) next.number number)
        → Adds old new (notes_asking asked) [] → Breaks old n Calls asked new
    broke after number left calls left_is other fed down ended adds =
        let is : left ≡ device_of after.store = left_is ∙ memory_is after in
        record {
          index = replaces.index;
          before = before;
          was_up = was_up;
          after = after;
          number = number;
          calls = calls;
          no_memory = other;
          not_starved = subst (λ (d : Memory). d.meter.starved ≡ false) is fed;
          rest = rested_on (stopping left.meter) left;
          is_down = is_now (Down (rested_on (stopping left.meter) left)) down;
          ends = subst (λ (d : Memory). EndsOn (stopping d.meter) n number d (rested_on (stopping left.meter) left)
              new.ended) is (ends_on (stopping left.meter) n number left new.ended
              (ended ∙ ap (λ (m : ℕ). Some (end_by (stopping left.meter) m number)) (replaces.number ∙ number_is)));
          nothing_sent = adds.sent ∙ append-nil old.sent;
          noted = adds.trace;
        }

  -- ---- by events

  module _ (contract : (r : ReplicaValue) (x : Input) (q : ReplicaValue)
      (came : Result (List Note × List Datagram) ℕ) → b.Takes r x q came → ComesTo table_meaning IsTableText r x q came)
      (contract_of_all : (r : ReplicaValue) (given : List Input) (q : ReplicaValue)
      (came : Result (List Said) ℕ) → b.TakesAll r given q came
      → ComesToAll table_meaning IsTableText r given q came) where
    taken : (old new : WorldState ReplicaValue) (n : ℕ) (x : Input) (asked : List RequestValue)
        → IsGiven b old new n x (notes_asking asked) → IsTaken old n (Takes x) asked new
    taken old new n x asked k =
        let told : List Note = notes_asking asked in
        elim k.comes_to [
          | inl r ↦ inl (went_on old new n (Takes x) asked k.sim_node k.next k.number k.replica k.up
              k.replaces r.replica
              ((r.notes, r.batch) ∷ []) r.batch ((r.notes ++ r.told) ++ []) (sym (append-nil r.batch))
              ((r.notes, r.batch), refl, contract k.replica x r.replica (Ok (r.notes, r.batch)) r.takes) r.up
              (r.told, [], replies r.batch r.told r.tells, refl, refl)
              (subst (λ (l : List Note). Adds old new l r.batch) (one_step told r.notes r.told) r.adds) r.ended)
          | inr (inl r) ↦ inr (inl (stopped_sending old new n (Takes x) asked k.sim_node k.next k.number k.replica k.up
              k.replaces r.replica ((r.notes, r.batch) ∷ []) r.batch ((r.notes ++ r.told) ++ []) r.sends r.bytes
              (sym (append-nil r.batch))
              ((r.notes, r.batch), refl, contract k.replica x r.replica (Ok (r.notes, r.batch)) r.takes) r.stop r.down
              (r.told, [], replies (take r.sends r.batch) r.told r.tells, refl, refl)
              (subst (λ (l : List Note). Adds old new l (take r.sends r.batch)) (one_step told r.notes r.told) r.adds)
              r.ended))
          | inr (inr f) ↦ inr (inr (broke old new n (Takes x) asked k.sim_node k.next k.number k.replica k.up k.replaces
              f.ends.0 f.number f.left (contract k.replica x f.ends.0 (Err f.number) f.ends.1) f.ends.3
              (f.no_want.memory, f.no_want.halted, f.no_want.envelopes) f.no_want.starved f.down f.ended f.adds))
        ]

    taken_together : (old new : WorldState ReplicaValue) (n : ℕ) (given : List Input)
        → IsGivenTogether b old new n given → IsTaken old n (TakesAll given) [] new
    taken_together old new n given k = elim k.comes_to [
      | inl r ↦ inl (went_on old new n (TakesAll given) [] k.sim_node k.next k.number k.replica k.up
          k.replaces r.replica
          r.said (sent_of r.said) r.notes (all_sent r.said)
          (contract_of_all k.replica given r.replica (Ok r.said) r.takes) r.up (are_notes r.said r.notes r.tells)
          r.adds r.ended)
      | inr (inl r) ↦ inr (inl (stopped_sending old new n (TakesAll given) [] k.sim_node k.next k.number k.replica k.up
          k.replaces r.replica r.said (sent_of r.said) r.notes r.sends r.bytes (all_sent r.said)
          (contract_of_all k.replica given r.replica (Ok r.said) r.takes) r.stop r.down
          (subst (λ (l : List Said). AreNotesOf l r.notes) (cut_is r.sends r.said)
          (are_notes (cut_short r.sends r.said) r.notes r.tells)) r.adds r.ended))
      | inr (inr f) ↦ inr (inr (broke old new n (TakesAll given) [] k.sim_node k.next k.number k.replica k.up k.replaces
          f.ends.0 f.number f.left (contract_of_all k.replica given f.ends.0 (Err f.number) f.ends.1) f.ends.3
          (f.no_want.memory, f.no_want.halted, f.no_want.envelopes) f.no_want.starved f.down f.ended f.adds))
    ]

    pub takes_as_told : (old new : WorldState ReplicaValue) (e : Event) → IsPermitted old e
        → HasEffect b old e new → TakesAsStated old e new
    takes_as_told old new (event.Start n) may k = tt
    takes_as_told old new (event.Restart n) may k = tt
    takes_as_told old new (event.Tick n) may k = taken old new n input.Tick [] k
    takes_as_told old new (event.Nudge n reason) may k = taken old new n (input.Nudge reason) [] k
    takes_as_told old new (event.Compact n) may k = tt
    takes_as_told old new (event.Client n q) may k = tt
    takes_as_told old new (event.Deliver i) may k =
        delivered i k.datagram k.node k.stands k.bound
        (taken old new k.node (input.Datagram k.datagram.bytes) [] k.given)
      where
        delivered : (i : ℕ) (d : Datagram) (n : ℕ) → datagram_at old.sent i ≡ Some d → d.to ≡ party.Node n
            → IsTaken old n (Takes (input.Datagram d.bytes)) [] new
            → (n : ℕ) × (f : IsFor old.sent (event.Deliver i) n)
            × IsTaken old n (Takes (input.Datagram f.1.bytes)) [] new
        delivered zero d n e to t = absurd cc
        delivered (suc j) d n e to t = (n, (j, d, omega arith, e, to), t)
    takes_as_told old new (event.Group n group_inputs) may k = (
      map (given_by old.sent) group_inputs.items,
      brought old.sent n group_inputs.items may.1,
      taken_together old new n (map (given_by old.sent) group_inputs.items) k,
    )
    takes_as_told old new (event.Inject n bytes) may k =
        let asked : List RequestValue = requests (asked_note k.request) in (
          asked,
          asked_in bytes.items k.request k.asks,
          taken old new n (input.Datagram bytes.items) asked
              (subst (λ (l : List Note). IsGiven b old new n (input.Datagram bytes.items) l) (asked_notes k.request)
              k.given),
        )
    takes_as_told old new (event.Stop n x y) may k = tt
    takes_as_told old new (event.FailAt n count) may k = tt
    takes_as_told old new (event.Arm n count bytes) may k = tt
