-- Why an event is refused, and what one leaves up, in the words of the guarantee.
use Rattle.std.proofs.Common.{◌≡◌, ℕ, zero, suc, ◌+◌, List, [], ◌∷◌, map, slice_get, Option, Some}
use Rattle.std.proofs.Common.{None, Contains, refl, ap, sym, ◌∙◌, subst, inl, inr, arith}
use Rattle.std.specs.Global.{Global}
use Rattle.std.specs.Prelude.{Vec}
use Rattle.std.proofs.lemmas.List.Elements.{Contains-append_right}
use Rattle.lk_messages.specs.Grammar.{Spells}
use Rattle.lk_messages.specs.declared.message.Content.{Content}
use Rattle.lk_messages.specs.declared.message.Content.TheVariants as content
use Rattle.lk_messages.specs.declared.message.Message.{Message}
use Rattle.lk_agreement_laws.specs.declared.party.Party.{Party}
use Rattle.lk_agreement_laws.specs.declared.party.Party.TheVariants as party
use Rattle.lk_agreement_laws.proofs.Histories.{contains_more}
use Rattle.lk_node_interface.specs.declared.input.Input.{Input}
use Rattle.lk_node_interface.specs.declared.input.Input.TheVariants as input
use Rattle.lk_node_interface.specs.declared.note.Note.{Note}
use Rattle.lk_node_interface.specs.declared.nudge_reason.NudgeReason.{NudgeReason}
use Rattle.lk_node.specs.Histories.{Datagram, RequestValue}
use Rattle.lk_replica.specs.Behaviours.{Behaviour}
use Rattle.lk_replica.specs.ReplicaValue.{ReplicaValue}
use Rattle.lk_sim.specs.Events.{ReplacesSeat, IsGiven, IsGivenTogether, ComesUp, HasEffect, Wants}
use Rattle.lk_sim.specs.Events as doing
use Rattle.lk_sim.specs.Groups.{given_by}
use Rattle.lk_sim_nodes.specs.Refusals.{NoneUp, NoRestart}
use Rattle.lk_sim.specs.Refusals.{datagram_at, AreFor, NotStarted, NoStep, NoStart, NoClient, NoneBound, NoDelivery}
use Rattle.lk_sim.specs.Refusals.{NoInjection, NoGroup, IsRejectedFor}
use Rattle.lk_sim.specs.WorldStates.{WorldState}
use Rattle.lk_sim_nodes.specs.SimNodes.{HasNo}
use Rattle.lk_sim_nodes.specs.SimNodes as sim_nodes
use Rattle.lk_sim.specs.Traces.{asked_note}
use Rattle.lk_sim_nodes.specs.declared.end.End.{End}
use Rattle.lk_sim.specs.declared.event.Event.{Event}
use Rattle.lk_sim.specs.declared.event.Event.TheVariants as event
use Rattle.lk_sim.specs.declared.event.GroupInput.{GroupInput}
use Rattle.lk_sim.specs.declared.event.GroupInput.TheVariants as group_input
use Rattle.lk_sim_nodes.specs.declared.refused.Refused.{Refused}
use Rattle.lk_sim_nodes.specs.declared.refused.Refused.TheVariants.{NoSuchNode, NotUp, AlreadyUp, NoSuchDatagram}
use Rattle.lk_sim_nodes.specs.declared.refused.Refused.TheVariants.{Forged, WorldFull, WorldMemory}
use Rattle.lk_sim_nodes.specs.declared.sim_node.SimNode.{SimNode}
use Rattle.lk_sim_nodes.specs.declared.sim_node.RunState.TheVariants.{Up}
use Rattle.lk_sim.proofs.Networks.{at_set_here}
use Rattle.lk_guarantees.specs.Events.{IsFor, IsStarted, IsUp, IsDown, HasCause, LeavesUp}

-- ---- where the node is

pub none_started : (nodes : List (SimNode ReplicaValue)) (n : ℕ) → HasNo nodes n → IsStarted nodes n → ⊥
none_started nodes n none s = none s.1.0 s.0 (s.1.1, s.1.2) s.2

started : (nodes : List (SimNode ReplicaValue)) (n : ℕ) → sim_nodes.IsStarted nodes n → IsStarted nodes n
started nodes n s = (s.1.1, (s.1.0, s.1.2.0, s.1.2.1), s.1.3)

up : (nodes : List (SimNode ReplicaValue)) (n : ℕ) → sim_nodes.IsUp nodes n → IsUp nodes n
up nodes n s = (s.1.1, s.0, (s.1.0, s.1.2.0, s.1.2.1), s.1.3, s.1.4)

down : (nodes : List (SimNode ReplicaValue)) (n : ℕ) → sim_nodes.IsDown nodes n → IsDown nodes n
down nodes n s = (s.1.1, s.0, (s.1.0, s.1.2.0, s.1.2.1), s.1.3, s.1.4)

-- ---- the datagram

stands_there : (sent : List Datagram) (k j : ℕ) (d : Datagram) → k ≡ j + 1 → slice_get sent j ≡ Some d
    → datagram_at sent k ≡ Some d
stands_there sent k j d index at = let next : j + 1 ≡ suc j = omega arith in ap (datagram_at sent) (index ∙ next) ∙ at

pub is_for : (sent : List Datagram) (k : ℕ) (d : Datagram) (n : ℕ) → datagram_at sent k ≡ Some d → d.to ≡ party.Node n
    → IsFor sent (event.Deliver k) n
is_for sent zero d n e to = absurd cc
is_for sent (suc j) d n e to = (j, d, omega arith, e, to)

nobody : (o : Option Datagram) (d : Datagram) → o ≡ Some d → o ≡ None → ⊥
nobody o d some none = cc (some, none)

no_client : (a b : Datagram) (o : Option Datagram) (n c : ℕ) → o ≡ Some a → o ≡ Some b → a.to ≡ party.Node n
    → b.to ≡ party.Client c → ⊥
no_client a b o n c first second to other = cc (ap (λ (d : Datagram). d.to) (same (sym first ∙ second)), to, other)
  where
    same : Some a ≡ Some b → a ≡ b
    same e = cc e

-- each input of a group is for its node, where each of its datagrams is
are_for : (sent : List Datagram) (n : ℕ) (group_inputs : List GroupInput)
    → ((k : ℕ) → Contains group_inputs (group_input.Deliver k) → IsFor sent (event.Deliver k) n)
    → AreFor sent n group_inputs
are_for sent n [] each = tt
are_for sent n (group_input.Tick ∷ group_inputs) each = (
  tt,
  are_for sent n group_inputs (λ k c. each k (contains_more group_input.Tick group_inputs
      (group_input.Deliver k) c)),
)
are_for sent n (group_input.Nudge reason ∷ group_inputs) each = (
  tt,
  are_for sent n group_inputs (λ k c. each k (contains_more (group_input.Nudge reason) group_inputs
      (group_input.Deliver k) c)),
)
are_for sent n (group_input.Deliver j ∷ group_inputs) each =
    let f = each j (0, omega arith, refl) in (
      (f.1, stands_there sent j f.0 f.1 f.2 f.3, f.4),
      are_for sent n group_inputs (λ k c. each k (contains_more (group_input.Deliver j) group_inputs
          (group_input.Deliver k) c)),
    )

-- what only a node says
by_node : (bytes : List ℕ) (x : Message) (c : Content) → x.content ≡ c → Spells x bytes
    → ((r : RequestValue) → x.content ≡ content.Request r → ⊥)
    → (cluster node : ℕ) × (m : _) × Spells (record { cluster = cluster; content = content.Node node m }) bytes
by_node bytes x (content.Request r) e spelled none = absurd (none r e)
by_node bytes x (content.Node node m) e spelled none =
    let made : Content → Message = λ c. record { cluster = x.cluster; content = c } in
    (x.cluster, node, m, subst (λ (z : Message). Spells z bytes) (ap made e) spelled)

module _ (old : WorldState ReplicaValue) where
  -- ---- why

  no_start : (n : ℕ) (r : Refused) → NoStart old.sim_nodes n r → HasCause old (event.Start n) r
  no_start n NoSuchNode k = absurd k
  no_start n NotUp k = absurd k
  no_start n AlreadyUp k = started old.sim_nodes n k
  no_start n NoSuchDatagram k = absurd k
  no_start n Forged k = absurd k
  no_start n WorldFull k = k.1
  no_start n WorldMemory k = absurd k

  no_restart : (n : ℕ) (r : Refused) → NoRestart old.sim_nodes n r → HasCause old (event.Restart n) r
  no_restart n NoSuchNode k = (n, refl, none_started old.sim_nodes n k)
  no_restart n NotUp k = absurd k
  no_restart n AlreadyUp k = up old.sim_nodes n k
  no_restart n NoSuchDatagram k = absurd k
  no_restart n Forged k = absurd k
  no_restart n WorldFull k = absurd k
  no_restart n WorldMemory k = absurd k

  no_tick : (n : ℕ) (r : Refused) → NoStep old.sim_nodes old.sent n r → HasCause old (event.Tick n) r
  no_tick n NoSuchNode k = (n, refl, none_started old.sim_nodes n k)
  no_tick n NotUp k = (n, refl, down old.sim_nodes n k)
  no_tick n AlreadyUp k = absurd k
  no_tick n NoSuchDatagram k = absurd k
  no_tick n Forged k = absurd k
  no_tick n WorldFull k = k.1
  no_tick n WorldMemory k = absurd k

  no_nudge : (n : ℕ) (reason : NudgeReason) (r : Refused) → NoStep old.sim_nodes old.sent n r
      → HasCause old (event.Nudge n reason) r
  no_nudge n reason NoSuchNode k = (n, refl, none_started old.sim_nodes n k)
  no_nudge n reason NotUp k = (n, refl, down old.sim_nodes n k)
  no_nudge n reason AlreadyUp k = absurd k
  no_nudge n reason NoSuchDatagram k = absurd k
  no_nudge n reason Forged k = absurd k
  no_nudge n reason WorldFull k = k.1
  no_nudge n reason WorldMemory k = absurd k

  no_compact : (n : ℕ) (r : Refused) → NoneUp old.sim_nodes n r → HasCause old (event.Compact n) r
  no_compact n NoSuchNode k = (n, refl, none_started old.sim_nodes n k)
  no_compact n NotUp k = (n, refl, down old.sim_nodes n k)
  no_compact n AlreadyUp k = absurd k
  no_compact n NoSuchDatagram k = absurd k
  no_compact n Forged k = absurd k
  no_compact n WorldFull k = absurd k
  no_compact n WorldMemory k = absurd k

  no_stop : (n x y : ℕ) (r : Refused) → NoneUp old.sim_nodes n r → HasCause old (event.Stop n x y) r
  no_stop n x y NoSuchNode k = (n, refl, none_started old.sim_nodes n k)
  no_stop n x y NotUp k = (n, refl, down old.sim_nodes n k)
  no_stop n x y AlreadyUp k = absurd k
  no_stop n x y NoSuchDatagram k = absurd k
  no_stop n x y Forged k = absurd k
  no_stop n x y WorldFull k = absurd k
  no_stop n x y WorldMemory k = absurd k

  no_client_event : (n : ℕ) (q : RequestValue) (r : Refused) → NoClient old.sim_nodes old.sent n r
      → HasCause old (event.Client n q) r
  no_client_event n q NoSuchNode k = (n, refl, none_started old.sim_nodes n k)
  no_client_event n q NotUp k = absurd k
  no_client_event n q AlreadyUp k = absurd k
  no_client_event n q NoSuchDatagram k = absurd k
  no_client_event n q Forged k = absurd k
  no_client_event n q WorldFull k = k.1
  no_client_event n q WorldMemory k = absurd k

  no_fail : (n count : ℕ) (r : Refused) → NotStarted old.sim_nodes n r → HasCause old (event.FailAt n count) r
  no_fail n count NoSuchNode k = (n, refl, none_started old.sim_nodes n k)
  no_fail n count NotUp k = absurd k
  no_fail n count AlreadyUp k = absurd k
  no_fail n count NoSuchDatagram k = absurd k
  no_fail n count Forged k = absurd k
  no_fail n count WorldFull k = absurd k
  no_fail n count WorldMemory k = absurd k

  no_arm : (n count bytes : ℕ) (r : Refused) → NotStarted old.sim_nodes n r → HasCause old (event.Arm n count bytes) r
  no_arm n count bytes NoSuchNode k = (n, refl, none_started old.sim_nodes n k)
  no_arm n count bytes NotUp k = absurd k
  no_arm n count bytes AlreadyUp k = absurd k
  no_arm n count bytes NoSuchDatagram k = absurd k
  no_arm n count bytes Forged k = absurd k
  no_arm n count bytes WorldFull k = absurd k
  no_arm n count bytes WorldMemory k = absurd k

  no_turn : (i n : ℕ) (f : IsFor old.sent (event.Deliver i) n) (r : Refused) → NoStep old.sim_nodes old.sent n r
      → HasCause old (event.Deliver i) r
  no_turn i n f NoSuchNode k = (n, f, none_started old.sim_nodes n k)
  no_turn i n f NotUp k = (n, f, down old.sim_nodes n k)
  no_turn i n f AlreadyUp k = absurd k
  no_turn i n f NoSuchDatagram k = absurd k
  no_turn i n f Forged k = absurd k
  no_turn i n f WorldFull k = k.1
  no_turn i n f WorldMemory k = absurd k

  no_bound : (i : ℕ) (d : Datagram) (to : Party) (r : Refused) → datagram_at old.sent i ≡ Some d → d.to ≡ to
      → NoneBound old.sim_nodes old.sent to r → HasCause old (event.Deliver i) r
  no_bound i d (party.Node n) r e is k = no_turn i n (is_for old.sent i d n e is) r k
  no_bound i d (party.Client c) r e is k =
      subst (HasCause old (event.Deliver i)) (sym k)
      (λ n f. no_client f.1 d (datagram_at old.sent i) n c (stands_there old.sent i f.0 f.1 f.2 f.3) e f.4 is)

  no_delivery : (i : ℕ) (o : Option Datagram) (r : Refused) → datagram_at old.sent i ≡ o
      → NoDelivery old.sim_nodes old.sent o r → HasCause old (event.Deliver i) r
  no_delivery i None r e k =
      subst (HasCause old (event.Deliver i)) (sym k)
      (λ n f. nobody (datagram_at old.sent i) f.1 (stands_there old.sent i f.0 f.1 f.2 f.3) e)
  no_delivery i (Some d) r e k = no_bound i d d.to r e refl k

  no_group : (n : ℕ) (group_inputs : Vec GroupInput Global) (r : Refused)
      → NoGroup old.sim_nodes old.sent n group_inputs.items r
      → HasCause old (event.Group n group_inputs) r
  no_group n group_inputs NoSuchNode k = (n, refl, none_started old.sim_nodes n k)
  no_group n group_inputs NotUp k = (n, refl, down old.sim_nodes n k)
  no_group n group_inputs AlreadyUp k = absurd k
  no_group n group_inputs NoSuchDatagram k = λ each. k.1 (are_for old.sent n group_inputs.items each)
  no_group n group_inputs Forged k = absurd k
  no_group n group_inputs WorldFull k = k.2
  no_group n group_inputs WorldMemory k = absurd k

  no_injection : (n : ℕ) (bytes : Vec ℕ Global) (r : Refused) → NoInjection old.sim_nodes old.sent n bytes.items r
      → HasCause old (event.Inject n bytes) r
  no_injection n bytes NoSuchNode k = (n, refl, none_started old.sim_nodes n k)
  no_injection n bytes NotUp k = (n, refl, down old.sim_nodes n k)
  no_injection n bytes AlreadyUp k = absurd k
  no_injection n bytes NoSuchDatagram k = absurd k
  no_injection n bytes Forged k = by_node bytes.items k.1.message k.1.message.content refl k.1.spelled k.1.of_node
  no_injection n bytes WorldFull k = k.2
  no_injection n bytes WorldMemory k = absurd k

  may_not : (e : Event) (r : Refused) → IsRejectedFor old e r → HasCause old e r
  may_not (event.Start n) r k = no_start n r k
  may_not (event.Restart n) r k = no_restart n r k
  may_not (event.Tick n) r k = no_tick n r k
  may_not (event.Nudge n reason) r k = no_nudge n reason r k
  may_not (event.Compact n) r k = no_compact n r k
  may_not (event.Client n q) r k = no_client_event n q r k
  may_not (event.Deliver i) r k = no_delivery i (datagram_at old.sent i) r refl k
  may_not (event.Group n group_inputs) r k = no_group n group_inputs r k
  may_not (event.Inject n bytes) r k = no_injection n bytes r k
  may_not (event.Stop n x y) r k = no_stop n x y r k
  may_not (event.FailAt n count) r k = no_fail n count r k
  may_not (event.Arm n count bytes) r k = no_arm n count bytes r k

  module _ (b : Behaviour ReplicaValue) (new : WorldState ReplicaValue) where
    wanting : (e : Event) → Wants b old e new → HasCause old e WorldMemory
    wanting (event.Start n) k = tt
    wanting (event.Restart n) k = tt
    wanting (event.Tick n) k = tt
    wanting (event.Nudge n reason) k = tt
    wanting (event.Compact n) k = tt
    wanting (event.Client n q) k = tt
    wanting (event.Deliver i) k = tt
    wanting (event.Group n group_inputs) k = tt
    wanting (event.Inject n bytes) k = tt
    wanting (event.Stop n x y) k = absurd k
    wanting (event.FailAt n count) k = absurd k
    wanting (event.Arm n count bytes) k = absurd k

    pub has_cause : (e : Event) (r : Refused) → doing.IsRefused b old e r new → HasCause old e r
    has_cause e r k =
        elim k [ inl why ↦ may_not e r why.0 | inr wants ↦ subst (HasCause old e) (sym wants.0) (wanting e wants.2) ]

    -- ---- what is up

    not_ended : (x : End) → new.ended ≡ Some x → new.ended ≡ None → ⊥
    not_ended x some none = cc (some, none)

    sits : (s t : SimNode ReplicaValue) (n : ℕ) (replica : ReplicaValue) → ReplacesSeat old.sim_nodes new.sim_nodes s t
        → s.number ≡ n
        → t.run_state ≡ Up replica → IsUp new.sim_nodes n
    sits s t n replica k number run_state =
        let here = at_set_here old.sim_nodes k.index t k.at.0 in (
          t,
          replica,
          subst (λ (l : List (SimNode ReplicaValue)). Contains l t) (sym k.sim_nodes) (k.index, here.0, here.1),
          k.number ∙ number,
          run_state,
        )

    given_up : (n : ℕ) (x : Input) (asked : List Note) → IsGiven b old new n x asked
        → new.ended ≡ None → IsUp new.sim_nodes n
    given_up n x asked k none = elim k.comes_to [
      | inl r ↦ sits k.sim_node k.next n _ k.replaces k.number r.up
      | inr (inl r) ↦ absurd (not_ended _ r.ended none)
      | inr (inr f) ↦ absurd (not_ended _ f.ended none)
    ]

    together_up : (n : ℕ) (given : List Input) → IsGivenTogether b old new n given
        → new.ended ≡ None → IsUp new.sim_nodes n
    together_up n given k none = elim k.comes_to [
      | inl r ↦ sits k.sim_node k.next n _ k.replaces k.number r.up
      | inr (inl r) ↦ absurd (not_ended _ r.ended none)
      | inr (inr f) ↦ absurd (not_ended _ f.ended none)
    ]

    pub leaves_up : (e : Event) → HasEffect b old e new → LeavesUp old e new
    leaves_up (event.Start n) k = λ none. elim k.comes [
      | inl r ↦ (
        n,
        refl,
        (
          k.sim_node,
          r.replica,
          subst (λ (l : List (SimNode ReplicaValue)). Contains l k.sim_node) (sym k.sim_nodes)
              (Contains-append_right old.sim_nodes (k.sim_node ∷ []) k.sim_node (0, omega arith, refl)),
          k.number,
          r.up,
        ),
      )
      | inr f ↦ absurd (not_ended _ f.ended none)
    ]
    leaves_up (event.Restart n) k = λ none. elim k.comes [
      | inl r ↦ (n, refl, sits k.sim_node k.next n r.replica k.replaces k.number r.up)
      | inr f ↦ absurd (not_ended _ f.ended none)
    ]
    leaves_up (event.Tick n) k = λ none. (n, refl, given_up n input.Tick [] k none)
    leaves_up (event.Nudge n reason) k = λ none. (n, refl, given_up n (input.Nudge reason) [] k none)
    leaves_up (event.Compact n) k = λ none. elim k.comes_to [
      | inl r ↦ (n, refl, sits k.sim_node k.next n r.replica k.replaces k.number r.up)
      | inr f ↦ absurd (not_ended _ f.ended none)
    ]
    leaves_up (event.Client n q) k = tt
    leaves_up (event.Deliver i) k =
        λ none. (
          k.node,
          is_for old.sent i k.datagram k.node k.stands k.bound,
          given_up k.node (input.Datagram k.datagram.bytes) [] k.given none,
        )
    leaves_up (event.Group n group_inputs) k = λ none. (
      n,
      refl,
      together_up n (map
          (given_by old.sent) group_inputs.items) k none,
    )
    leaves_up (event.Inject n bytes) k =
        λ none. (n, refl, given_up n (input.Datagram bytes.items) (asked_note k.request) k.given none)
    leaves_up (event.Stop n x y) k = tt
    leaves_up (event.FailAt n count) k = tt
    leaves_up (event.Arm n count bytes) k = tt
