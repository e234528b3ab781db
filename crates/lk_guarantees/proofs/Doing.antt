-- What events do, in the words of the guarantee.
use Rattle.std.proofs.Common.{◌≡◌, ℕ, zero, suc, ◌⊎◌, List, [], ◌∷◌, ◌++◌, map, take, set, Option, Some, None, Result}
use Rattle.std.proofs.Common.{refl, sym, ap, ◌∙◌, inl, inr, append-nil, arith}
use Rattle.std.proofs.lemmas.List.Elements.{filter_map-append}
use Rattle.lk_memory_disk.specs.Memory.{Memory, empty}
use Rattle.lk_disk.specs.Meters.{trapped}
use Rattle.lk_disk.specs.declared.trap.Trap.{Trap}
use Rattle.lk_store_format.specs.Values.{HeaderValue}
use Rattle.lk_locks.specs.Meaning.{table_meaning}
use Rattle.lk_locks.specs.Packed.{IsTableText}
use Rattle.lk_replica.specs.Taking.{ComesTo}
use Rattle.lk_messages.specs.declared.message.Content.{Content}
use Rattle.lk_messages.specs.declared.message.Content.TheVariants as content
use Rattle.lk_messages.specs.declared.message.NodeMessage.TheVariants as message
use Rattle.lk_agreement_laws.specs.declared.party.Party.TheVariants as party
use Rattle.lk_node_interface.specs.declared.input.Input.{Input}
use Rattle.lk_node_interface.specs.declared.input.Input.TheVariants as input
use Rattle.lk_node_interface.specs.declared.note.Note.{Note}
use Rattle.lk_node_interface.specs.declared.note.Note.TheVariants as note
use Rattle.lk_node.specs.Histories.{Datagram, RequestValue}
use Rattle.lk_node.specs.Leavings.{header_of}
use Rattle.lk_node.specs.BorneOut.{IsOfNode}
use Rattle.lk_replica.specs.Behaviours.{Behaviour}
use Rattle.lk_replica.specs.ReplicaValue.{ReplicaValue, device_of}
use Rattle.lk_replica.specs.Revived.{RevivesTo}
use Rattle.lk_sim.specs.Events.{ReplacesSeat, AreOfNodes, AreAllOfNodes, Adds, IsGiven, IsGivenTogether, ComesUp}
use Rattle.lk_sim.specs.Events.{IsCompacted}
use Rattle.lk_sim.specs.Events.{HasEffect}
use Rattle.lk_sim.specs.Events.{IsExecuted, IsHalted, LeftBy, LeftByGroup, LeftByRevival, LeftByCompacting, Wants}
use Rattle.lk_sim.specs.Events.{IsRefused}
use Rattle.lk_replica.specs.Together.{Said, sent_of, ComesToAll}
use Rattle.lk_sim_nodes.specs.Sends.{cut_short, left_over}
use Rattle.lk_sim.specs.Groups.{AreNotesOf, given_by}
use Rattle.lk_sim.specs.Refusals.{datagram_at, IsPermitted}
use Rattle.lk_sim.specs.WorldStates.{WorldState}
use Rattle.lk_sim_nodes.specs.Told.{told_by, NotesReplies}
use Rattle.lk_sim.specs.Traces.{asked_note}
use Rattle.lk_sim.specs.declared.event.Event.{Event}
use Rattle.lk_sim.specs.declared.event.Event.TheVariants as event
use Rattle.lk_sim_nodes.specs.declared.refused.Refused.{Refused}
use Rattle.lk_sim.specs.Events.{GoesDown}
use Rattle.lk_sim.specs.Runs.{AreExecuted, StopsAt, Runs}
use Rattle.lk_sim_nodes.specs.SimNodes.{stopped_on}
use Rattle.lk_sim.specs.declared.end.RunEnd.{RunEnd}
use Rattle.lk_sim_nodes.specs.declared.sim_node.SimNode.{SimNode}
use Rattle.lk_sim_nodes.specs.declared.sim_node.RunState.{RunState}
use Rattle.lk_sim_nodes.specs.declared.sim_node.RunState.TheVariants.{Up, Down}
use Rattle.lk_guarantees.proofs.Falling.{leaves_down}
use Rattle.lk_guarantees.proofs.Refusing.{none_started, has_cause, leaves_up}
use Rattle.lk_guarantees.proofs.Reviving.{same_sim_node, stands_at, restarts_as_told}
use Rattle.lk_guarantees.proofs.Taking.{asked_in, takes_as_told}
use Rattle.lk_guarantees.specs.Events as guarantee
use Rattle.lk_guarantees.specs.Events.{asked_of, requests, AreAskedBy, IsFor, ChangesOnly, FallsDown}
use Rattle.lk_guarantees.specs.Events.{SendsAsAsked, IsStopped, StopsAsAsked, IsSilent}

-- ---- notes that ask nothing

requests-append : (xs ys : List Note) → requests (xs ++ ys) ≡ requests xs ++ requests ys
requests-append xs ys = filter_map-append asked_of xs ys

own_asks : (x : Note) → IsOfNode x → asked_of x ≡ None
own_asks (note.Asked r) own = absurd own
own_asks (note.Counted node i set v) own = refl
own_asks (note.Ran node i v) own = refl
own_asks (note.Answered node client number a) own = refl
own_asks (note.Told node client number last) own = refl

own_ask : (xs : List Note) → AreOfNodes xs → requests xs ≡ []
own_ask [] own = refl
own_ask (x ∷ xs) own =
    rw (own_asks x (own x (0, omega arith, refl))) (own_ask xs (λ y c. own y (suc c.0, omega (arith, c.1), c.2)))

told_ask : (x : Content) (rest : List Note) → requests (told_by x ++ rest) ≡ requests rest
told_ask (content.Request r) rest = refl
told_ask (content.Node n (message.Prepare b first)) rest = refl
told_ask (content.Node n (message.Promise p)) rest = refl
told_ask (content.Node n (message.Accept v)) rest = refl
told_ask (content.Node n (message.Accepted v)) rest = refl
told_ask (content.Node n (message.Nack x)) rest = refl
told_ask (content.Node n (message.Decided d)) rest = refl
told_ask (content.Node n (message.Want w)) rest = refl
told_ask (content.Node n (message.Part p)) rest = refl
told_ask (content.Node n (message.Answer a)) rest = refl
told_ask (content.Node n (message.Elsewhere e)) rest = refl
told_ask (content.Node n (message.Passed p)) rest = refl
told_ask (content.Node n (message.Lead b executed)) rest = refl

tells_ask : (batch : List Datagram) (told : List Note) → NotesReplies batch told → requests told ≡ []
tells_ask [] told e = rw e refl
tells_ask (d ∷ ds) told t = ap requests t.3 ∙ told_ask t.0.content t.1 ∙ tells_ask ds t.1 t.4

-- ---- what was asked

-- this was asked, and nothing else
abbrev AsksThese : WorldState ReplicaValue → WorldState ReplicaValue → List Note → Type 0
AsksThese old new asked = requests new.trace ≡ requests old.trace ++ requests asked

adds_ask : (old new : WorldState ReplicaValue) (asked notes told : List Note) (batch more : List Datagram)
    → AreOfNodes notes
    → NotesReplies batch told → Adds old new ((asked ++ notes) ++ told) more → AsksThese old new asked
adds_ask old new asked notes told batch more own tells adds =
    let parts : requests ((asked ++ notes) ++ told) ≡ requests asked =
    requests-append (asked ++ notes) told
    ∙ ap (λ (r : List RequestValue). requests (asked ++ notes) ++ r) (tells_ask batch told tells)
    ∙ append-nil (requests (asked ++ notes))
    ∙ requests-append asked notes ∙ ap (λ (r : List RequestValue). requests asked ++ r) (own_ask notes own)
    ∙ append-nil (requests asked) in
    ap requests adds.trace ∙ requests-append old.trace ((asked ++ notes) ++ told)
    ∙ ap (λ (r : List RequestValue). requests old.trace ++ r) parts

adds_just : (old new : WorldState ReplicaValue) (asked : List Note) (more : List Datagram) → Adds old new asked more
    → AsksThese old new asked
adds_just old new asked more adds = ap requests adds.trace ∙ requests-append old.trace asked

module _ (b : Behaviour ReplicaValue) where
  -- a compaction adds nothing, whatever it came to
  compacted_adds : (old new : WorldState ReplicaValue) (n : ℕ) → IsCompacted b old new n → Adds old new [] []
  compacted_adds old new n k = elim k.comes_to [ inl r ↦ r.adds | inr f ↦ f.adds ]

  given_asks : (old new : WorldState ReplicaValue) (n : ℕ) (x : Input) (asked : List Note)
      → IsGiven b old new n x asked → AsksThese old new asked
  given_asks old new n x asked k = elim k.comes_to [
    | inl r ↦ adds_ask old new asked r.notes r.told r.batch r.batch r.of_nodes r.tells r.adds
    | inr (inl r) ↦
        adds_ask old new asked r.notes r.told (take r.sends r.batch) (take r.sends r.batch) r.of_nodes r.tells r.adds
    | inr (inr f) ↦ adds_just old new asked [] f.adds
  ]

  steps_ask : (said : List Said) (notes : List Note) → AreAllOfNodes said → AreNotesOf said notes → requests notes ≡ []
  steps_ask [] notes own tells = rw tells refl
  steps_ask (x ∷ said) notes own tells =
      ap requests tells.3 ∙ requests-append (x.0 ++ tells.0) tells.1
      ∙ ap (λ (r : List RequestValue). r ++ requests tells.1)
      (requests-append x.0 tells.0 ∙ (λ i. own_ask x.0 own.0 i ++ tells_ask x.1 tells.0 tells.2 i))
      ∙ steps_ask said tells.1 own.1 tells.4

  steps_add : (old new : WorldState ReplicaValue) (said : List Said) (notes : List Note) (batch : List Datagram)
      → AreAllOfNodes said → AreNotesOf said notes → Adds old new notes batch → AsksThese old new []
  steps_add old new said notes batch own tells adds =
      ap requests adds.trace ∙ requests-append old.trace notes
      ∙ ap (λ (r : List RequestValue). requests old.trace ++ r) (steps_ask said notes own tells)

  -- a step that sends less is as much its own
  cut_own : (k : ℕ) (said : List Said) → AreAllOfNodes said → AreAllOfNodes (cut_short k said)
  cut_own k [] own = tt
  cut_own k (x ∷ said) own = (own.0, cut_own (left_over k x.1) said own.1)

  together_asks : (old new : WorldState ReplicaValue) (n : ℕ) (given : List Input)
      → IsGivenTogether b old new n given → AsksThese old new []
  together_asks old new n given k = elim k.comes_to [
    | inl r ↦ steps_add old new r.said r.notes (sent_of r.said) r.of_nodes r.tells r.adds
    | inr (inl r) ↦ steps_add old new (cut_short r.sends r.said) r.notes (take r.sends (sent_of r.said))
        (cut_own r.sends r.said r.of_nodes) r.tells r.adds
    | inr (inr f) ↦ adds_just old new [] [] f.adds
  ]

  comes_ask : (old new : WorldState ReplicaValue) (t : SimNode ReplicaValue) (d : Memory)
      → ComesUp b old new t d → AsksThese old new []
  comes_ask old new t d c = elim c [
    | inl r ↦ ap requests r.adds.trace ∙ requests-append old.trace r.notes
        ∙ ap (λ (rs : List RequestValue). requests old.trace ++ rs) (own_ask r.notes r.of_nodes)
    | inr f ↦ adds_just old new [] [] f.adds
  ]

-- ---- the node that an event is for

turned : (old new : List (SimNode ReplicaValue)) (n : ℕ) (s t : SimNode ReplicaValue) → ReplacesSeat old new s t
    → s.number ≡ n → ChangesOnly n old new
turned old new n s t k number =
    inr (inl (k.index, s, t, stands_at old new s t k, number, k.number ∙ number, k.sim_nodes))

bound : (sent : List Datagram) (i : ℕ) (d : Datagram) (n : ℕ) → datagram_at sent i ≡ Some d → d.to ≡ party.Node n
    → IsFor sent (event.Deliver i) n
bound sent zero d n e to = absurd cc
bound sent (suc j) d n e to = (j, d, omega arith, e, to)

module _ (b : Behaviour ReplicaValue) where
  brings_only : (old new : WorldState ReplicaValue) (e : Event) → IsPermitted old e → HasEffect b old e new
      → (n : ℕ) × IsFor old.sent e n × ChangesOnly n old.sim_nodes new.sim_nodes
  brings_only old new (event.Start n) may k =
      (n, refl, inr (inr (none_started old.sim_nodes n may.0, (k.sim_node, k.number, k.sim_nodes))))
  brings_only old new (event.Restart n) may k =
      (n, refl, turned old.sim_nodes new.sim_nodes n k.sim_node k.next k.replaces k.number)
  brings_only old new (event.Tick n) may k =
      (n, refl, turned old.sim_nodes new.sim_nodes n k.sim_node k.next k.replaces k.number)
  brings_only old new (event.Nudge n reason) may k =
      (n, refl, turned old.sim_nodes new.sim_nodes n k.sim_node k.next k.replaces k.number)
  brings_only old new (event.Compact n) may k =
      (n, refl, turned old.sim_nodes new.sim_nodes n k.sim_node k.next k.replaces k.number)
  brings_only old new (event.Client n r) may k = (n, refl, inl k.sim_nodes)
  brings_only old new (event.Deliver i) may k =
      let g = k.given in (
        k.node,
        bound old.sent i k.datagram k.node k.stands k.bound,
        turned old.sim_nodes new.sim_nodes k.node g.sim_node g.next g.replaces g.number,
      )
  brings_only old new (event.Group n group_inputs) may k =
      (n, refl, turned old.sim_nodes new.sim_nodes n k.sim_node k.next k.replaces k.number)
  brings_only old new (event.Inject n bytes) may k = let g = k.given in
      (n, refl, turned old.sim_nodes new.sim_nodes n g.sim_node g.next g.replaces g.number)
  brings_only old new (event.Stop n x y) may k =
      (n, refl, turned old.sim_nodes new.sim_nodes n k.sim_node k.next k.replaces k.number)
  brings_only old new (event.FailAt n count) may k =
      (n, refl, turned old.sim_nodes new.sim_nodes n k.sim_node k.next k.replaces k.number)
  brings_only old new (event.Arm n count bytes) may k =
      (n, refl, turned old.sim_nodes new.sim_nodes n k.sim_node k.next k.replaces k.number)

  brings_sends : (old new : WorldState ReplicaValue) (e : Event) → HasEffect b old e new → SendsAsAsked old e new
  brings_sends old new (event.Start n) k = tt
  brings_sends old new (event.Restart n) k = tt
  brings_sends old new (event.Tick n) k = tt
  brings_sends old new (event.Nudge n reason) k = tt
  brings_sends old new (event.Compact n) k = tt
  brings_sends old new (event.Client n r) k =
      (k.datagram, k.from, k.to, k.spelled, k.adds.sent, k.adds.trace, k.sim_nodes)
  brings_sends old new (event.Deliver i) k = tt
  brings_sends old new (event.Group n group_inputs) k = tt
  brings_sends old new (event.Inject n bytes) k = tt
  brings_sends old new (event.Stop n x y) k = tt
  brings_sends old new (event.FailAt n count) k = tt
  brings_sends old new (event.Arm n count bytes) k = tt

-- ---- the datagrams and the trace grow

-- what an event adds
pub record Adding (old new : WorldState ReplicaValue) : Type 0 where
  pub notes : List Note
  pub batch : List Datagram
  pub adds : Adds old new notes batch

module _ (b : Behaviour ReplicaValue) where
  given_adds : (old new : WorldState ReplicaValue) (n : ℕ) (x : Input) (asked : List Note)
      → IsGiven b old new n x asked → Adding old new
  given_adds old new n x asked k = elim k.comes_to [
    | inl r ↦ record { notes = (asked ++ r.notes) ++ r.told; batch = r.batch; adds = r.adds }
    | inr (inl r) ↦ record { notes = (asked ++ r.notes) ++ r.told; batch = take r.sends r.batch; adds = r.adds }
    | inr (inr f) ↦ record { notes = asked; batch = []; adds = f.adds }
  ]

  comes_add : (old new : WorldState ReplicaValue) (t : SimNode ReplicaValue) (d : Memory)
      → ComesUp b old new t d → Adding old new
  comes_add old new t d c = elim c [
    | inl r ↦ record { notes = r.notes; batch = []; adds = r.adds }
    | inr f ↦ record { notes = []; batch = []; adds = f.adds }
  ]

  together_adds : (old new : WorldState ReplicaValue) (n : ℕ) (given : List Input)
      → IsGivenTogether b old new n given → Adding old new
  together_adds old new n given k = elim k.comes_to [
    | inl r ↦ record { notes = r.notes; batch = sent_of r.said; adds = r.adds }
    | inr (inl r) ↦ record { notes = r.notes; batch = take r.sends (sent_of r.said); adds = r.adds }
    | inr (inr f) ↦ record { notes = []; batch = []; adds = f.adds }
  ]

  brings_adds : (old new : WorldState ReplicaValue) (e : Event) → HasEffect b old e new → Adding old new
  brings_adds old new (event.Start n) k = comes_add old new k.sim_node empty k.comes
  brings_adds old new (event.Restart n) k = comes_add old new k.next k.device k.comes
  brings_adds old new (event.Tick n) k = given_adds old new n input.Tick [] k
  brings_adds old new (event.Nudge n reason) k = given_adds old new n (input.Nudge reason) [] k
  brings_adds old new (event.Compact n) k = record { notes = []; batch = []; adds = compacted_adds b old new n k }
  brings_adds old new (event.Client n r) k =
      record { notes = note.Asked r ∷ []; batch = k.datagram ∷ []; adds = k.adds }
  brings_adds old new (event.Deliver i) k = given_adds old new k.node (input.Datagram k.datagram.bytes) [] k.given
  brings_adds old new (event.Group n group_inputs) k = together_adds old new n (map
      (given_by old.sent) group_inputs.items) k
  brings_adds old new (event.Inject n bytes) k =
      given_adds old new n (input.Datagram bytes.items) (asked_note k.request) k.given
  brings_adds old new (event.Stop n x y) k = record { notes = []; batch = []; adds = k.adds }
  brings_adds old new (event.FailAt n count) k = record { notes = []; batch = []; adds = k.adds }
  brings_adds old new (event.Arm n count bytes) k = record { notes = []; batch = []; adds = k.adds }

  grown : (old new : WorldState ReplicaValue) → Adding old new → guarantee.Grows old new
  grown old new a = ((a.batch, a.adds.sent), (a.notes, a.adds.trace), a.adds.genesis)

  done_grows : (old new : WorldState ReplicaValue) (e : Event) → IsExecuted b old e new → guarantee.Grows old new
  done_grows old new e d = grown old new (brings_adds old new e d.1)

  -- ---- what was asked

  brings_asks : (old new : WorldState ReplicaValue) (e : Event) → HasEffect b old e new
      → (rs : List RequestValue) × AreAskedBy e rs × (requests new.trace ≡ requests old.trace ++ rs)
  brings_asks old new (event.Start n) k = ([], refl, comes_ask b old new k.sim_node empty k.comes)
  brings_asks old new (event.Restart n) k = ([], refl, comes_ask b old new k.next k.device k.comes)
  brings_asks old new (event.Tick n) k = ([], refl, given_asks b old new n input.Tick [] k)
  brings_asks old new (event.Nudge n reason) k = ([], refl, given_asks b old new n (input.Nudge reason) [] k)
  brings_asks old new (event.Compact n) k = ([], refl, adds_just old new [] [] (compacted_adds b old new n k))
  brings_asks old new (event.Client n r) k =
      (r ∷ [], refl, adds_just old new (note.Asked r ∷ []) (k.datagram ∷ []) k.adds)
  brings_asks old new (event.Deliver i) k =
      ([], refl, given_asks b old new k.node (input.Datagram k.datagram.bytes) [] k.given)
  brings_asks old new (event.Group n group_inputs) k =
      ([], refl, together_asks b old new n (map (given_by old.sent) group_inputs.items) k)
  brings_asks old new (event.Inject n bytes) k = (
    requests (asked_note k.request),
    asked_in bytes.items k.request k.asks,
    given_asks b old new n (input.Datagram bytes.items) (asked_note k.request) k.given,
  )
  brings_asks old new (event.Stop n x y) k = ([], refl, adds_just old new [] [] k.adds)
  brings_asks old new (event.FailAt n count) k = ([], refl, adds_just old new [] [] k.adds)
  brings_asks old new (event.Arm n count bytes) k = ([], refl, adds_just old new [] [] k.adds)

  -- ---- what is refused

  same_adds : (old new : WorldState ReplicaValue) → new ≡ old → Adds old new [] []
  same_adds old new same = record {
    genesis = ap (λ (w : WorldState ReplicaValue). w.genesis) same;
    sent = ap (λ (w : WorldState ReplicaValue). w.sent) same ∙ sym (append-nil old.sent);
    trace = ap (λ (w : WorldState ReplicaValue). w.trace) same ∙ sym (append-nil old.trace);
  }

  wants_add : (old new : WorldState ReplicaValue) (e : Event) → Wants b old e new → Adds old new [] []
  wants_add old new (event.Start n) k = same_adds old new k
  wants_add old new (event.Restart n) k = k.adds
  wants_add old new (event.Tick n) k = k.adds
  wants_add old new (event.Nudge n reason) k = k.adds
  wants_add old new (event.Compact n) k = k.adds
  wants_add old new (event.Client n r) k = same_adds old new k
  wants_add old new (event.Deliver i) k = elim k [ inl same ↦ same_adds old new same | inr h ↦ h.4.adds ]
  wants_add old new (event.Group n group_inputs) k = elim k [ inl same ↦ same_adds old new same.0 | inr h ↦ h.adds ]
  wants_add old new (event.Inject n bytes) k = elim k [ inl same ↦ same_adds old new same.0 | inr h ↦ h.adds ]
  wants_add old new (event.Stop n x y) k = absurd k
  wants_add old new (event.FailAt n count) k = absurd k
  wants_add old new (event.Arm n count bytes) k = absurd k

  refused_adds : (old new : WorldState ReplicaValue) (e : Event) (r : Refused) → IsRefused b old e r new
      → Adds old new [] []
  refused_adds old new e r k = elim k [ inl same ↦ same_adds old new same.1 | inr wants ↦ wants_add old new e wants.2 ]

  -- at most the node that the event is for has gone down
  abbrev MayFall : WorldState ReplicaValue → Event → WorldState ReplicaValue → Type 0
  MayFall old e new = (new.sim_nodes ≡ old.sim_nodes) ⊎ ((n : ℕ) × IsFor old.sent e n × FallsDown n old.sim_nodes
      new.sim_nodes)

  same_sim_nodes : (old new : WorldState ReplicaValue) → new ≡ old → new.sim_nodes ≡ old.sim_nodes
  same_sim_nodes old new same = ap (λ (w : WorldState ReplicaValue). w.sim_nodes) same

  halted_falls : (Left : RunState ReplicaValue → Memory → Type 0) (old new : WorldState ReplicaValue) (n : ℕ)
      → IsHalted Left old new n → FallsDown n old.sim_nodes new.sim_nodes
  halted_falls Left old new n h =
      let device = stopped_on 0 0 h.device in (
        h.replaces.index,
        h.sim_node,
        device,
        stands_at old.sim_nodes new.sim_nodes h.sim_node h.next h.replaces,
        h.number,
        h.replaces.sim_nodes ∙ ap (set old.sim_nodes h.replaces.index)
            (same_sim_node h.next n (Down device) (h.replaces.number ∙ h.number) h.down),
      )

  wants_falls : (old new : WorldState ReplicaValue) (e : Event) → Wants b old e new → MayFall old e new
  wants_falls old new (event.Start n) k = inl (same_sim_nodes old new k)
  wants_falls old new (event.Restart n) k =
      inr (n, refl, halted_falls (LeftByRevival b (header_of old.genesis n)) old new n k)
  wants_falls old new (event.Tick n) k = inr (n, refl, halted_falls (LeftBy b input.Tick) old new n k)
  wants_falls old new (event.Nudge n reason) k =
      inr (n, refl, halted_falls (LeftBy b (input.Nudge reason)) old new n k)
  wants_falls old new (event.Compact n) k = inr (n, refl, halted_falls (LeftByCompacting b) old new n k)
  wants_falls old new (event.Client n r) k = inl (same_sim_nodes old new k)
  wants_falls old new (event.Deliver i) k = elim k [
    | inl same ↦ inl (same_sim_nodes old new same)
    | inr h ↦ inr (
      h.0,
      bound old.sent i h.1 h.0 h.2 h.3,
      halted_falls (LeftBy b (input.Datagram h.1.bytes)) old new h.0 h.4,
    )
  ]
  wants_falls old new (event.Group n group_inputs) k = elim k [
    | inl same ↦ inl (same_sim_nodes old new same.0)
    | inr h ↦ inr (n, refl, halted_falls (LeftByGroup b (map (given_by old.sent) group_inputs.items)) old new n h)
  ]
  wants_falls old new (event.Inject n bytes) k = elim k [
    | inl same ↦ inl (same_sim_nodes old new same.0)
    | inr h ↦ inr (n, refl, halted_falls (LeftBy b (input.Datagram bytes.items)) old new n h)
  ]
  wants_falls old new (event.Stop n x y) k = absurd k
  wants_falls old new (event.FailAt n count) k = absurd k
  wants_falls old new (event.Arm n count bytes) k = absurd k

  refused_falls : (old new : WorldState ReplicaValue) (e : Event) (r : Refused) → IsRefused b old e r new
      → MayFall old e new
  refused_falls old new e r k =
      elim k [ inl same ↦ inl (same_sim_nodes old new same.1) | inr wants ↦ wants_falls old new e wants.2 ]

  is_refused : (old new : WorldState ReplicaValue) (e : Event) (r : Refused) → IsRefused b old e r new
      → guarantee.IsRefused old e r new
  is_refused old new e r k =
      let adds = refused_adds old new e r k in
      record {
        cause = has_cause old b new e r k;
        unchanged = λ other. elim k [ inl same ↦ same.1 | inr wants ↦ absurd (other wants.0) ];
        only = refused_falls old new e r k;
        nothing_sent = adds.sent ∙ append-nil old.sent;
        nothing_noted = adds.trace ∙ append-nil old.trace;
        same_genesis = adds.genesis;
      }

-- ---- a stop

module _ (b : Behaviour ReplicaValue) (memory_is : (r : ReplicaValue) → b.memory r ≡ device_of r.store)
    (traps : (t : Trap) (r : ReplicaValue)
    → b.with_trap t r ≡ record r { store = record r.store { meter = trapped t r.store.meter } })
    (contract : (r : ReplicaValue) (i : Input) (q : ReplicaValue)
    (came : Result (List Note × List Datagram) ℕ) → b.Takes r i q came → ComesTo table_meaning IsTableText r i q came)
    (contract_of_all : (r : ReplicaValue) (given : List Input) (q : ReplicaValue)
    (came : Result (List Said) ℕ) → b.TakesAll r given q came → ComesToAll table_meaning IsTableText r given q came)
    (contract_of_restart : (device : Memory) (whose : HeaderValue)
    (came : Result (ReplicaValue × List Note) (ℕ × Memory)) → b.Revives device whose came
    → RevivesTo table_meaning IsTableText device whose came) where
  stopped : (old new : WorldState ReplicaValue) (n x y : ℕ) → GoesDown b old new n x y → IsStopped old new n x y
  stopped old new n x y k =
      let device = stopped_on x y (device_of k.replica.store) in
      let down : k.next.run_state ≡ Down device = k.down
      ∙ ap (λ (m : Memory). Down (stopped_on x y m)) (memory_is k.replica) in
      record {
        index = k.replaces.index;
        replica = k.replica;
        was_up = stands_at old.sim_nodes new.sim_nodes k.sim_node k.next k.replaces
            ∙ ap Some (same_sim_node k.sim_node n (Up k.replica) k.number k.up);
        device = device;
        is_down = k.replaces.sim_nodes ∙ ap (set old.sim_nodes k.replaces.index)
            (same_sim_node k.next n (Down device) (k.replaces.number ∙ k.number) down);
        disk_a = refl;
        disk_b = refl;
        untrapped = (refl, refl);
        nothing_sent = k.adds.sent ∙ append-nil old.sent;
        nothing_noted = k.adds.trace ∙ append-nil old.trace;
      }

  stops : (old new : WorldState ReplicaValue) (e : Event) → HasEffect b old e new → StopsAsAsked old e new
  stops old new (event.Start n) k = tt
  stops old new (event.Restart n) k = tt
  stops old new (event.Tick n) k = tt
  stops old new (event.Nudge n reason) k = tt
  stops old new (event.Compact n) k = tt
  stops old new (event.Client n r) k = tt
  stops old new (event.Deliver i) k = tt
  stops old new (event.Group n group_inputs) k = tt
  stops old new (event.Inject n bytes) k = tt
  stops old new (event.Stop n x y) k = stopped old new n x y k
  stops old new (event.FailAt n count) k = tt
  stops old new (event.Arm n count bytes) k = tt

  adds_nothing : (old new : WorldState ReplicaValue) → Adds old new [] [] → (new.sent ≡ old.sent)
      × (new.trace ≡ old.trace)
  adds_nothing old new adds = (adds.sent ∙ append-nil old.sent, adds.trace ∙ append-nil old.trace)

  silent : (old new : WorldState ReplicaValue) (e : Event) → HasEffect b old e new → IsSilent old e new
  silent old new (event.Start n) k = tt
  silent old new (event.Restart n) k = tt
  silent old new (event.Tick n) k = tt
  silent old new (event.Nudge n reason) k = tt
  silent old new (event.Compact n) k = adds_nothing old new (compacted_adds b old new n k)
  silent old new (event.Client n r) k = tt
  silent old new (event.Deliver i) k = tt
  silent old new (event.Group n group_inputs) k = tt
  silent old new (event.Inject n bytes) k = tt
  silent old new (event.Stop n x y) k = tt
  silent old new (event.FailAt n count) k = adds_nothing old new k.adds
  silent old new (event.Arm n count bytes) k = adds_nothing old new k.adds

  pub is_done : (old new : WorldState ReplicaValue) (e : Event) → IsExecuted b old e new → guarantee.IsDone old e new
  is_done old new e d = record {
    asked = brings_asks b old new e d.1;
    only = brings_only b old new e d.0 d.1;
    sends = brings_sends b old new e d.1;
    stops = stops old new e d.1;
    silent = silent old new e d.1;
    up = leaves_up old b new e d.1;
    down = leaves_down old new b e d.1;
    takes = takes_as_told b memory_is traps contract contract_of_all old new e d.0 d.1;
    restarts = restarts_as_told b contract_of_restart old new e d.1;
    grows = done_grows b old new e d;
  }

  pub refused : (old new : WorldState ReplicaValue) (e : Event) (r : Refused) → IsRefused b old e r new
      → guarantee.IsRefused old e r new
  refused old new e r k = is_refused b old new e r k

  -- ---- a run

  all_done : (es : List Event) (old new : WorldState ReplicaValue) → AreExecuted b es old new
      → guarantee.AreDone es old new
  all_done [] old new p = p
  all_done (e ∷ es) old new p = (p.0, is_done old p.0 e p.1, all_done es p.0 new p.2)

  ends : (events : List Event) (done : ℕ) (o : Option Refused) (last new : WorldState ReplicaValue)
      → StopsAt b events done o last new → guarantee.EndsSo events done o last new
  ends events done None last new s = s
  ends events done (Some r) last new s = (s.0, s.1, refused last new s.0 r s.2)

  pub runs : (old : WorldState ReplicaValue) (events : List Event) (how : RunEnd) (new : WorldState ReplicaValue)
      → Runs b old events how new → guarantee.IsRun old events how new
  runs old events how new r =
      record {
        last = r.last;
        done = all_done (take how.done events) old r.last r.are_executed;
        ends = ends events how.done how.refused r.last new r.stops;
      }
