-- A rejected candidate goes above the ballots that it hears of.
use Rattle.std.proofs.Common.{◌≡◌, ◌∙◌, ◌⊎◌, inl, inr, ℕ, ◌+◌, ◌<◌, ◌≤◌, max, nat_lt, Bool}
use Rattle.std.proofs.Common.{true, false, cond, List, [], ◌∷◌, ◌++◌}
use Rattle.std.proofs.Common.{Some, None, Contains, refl, ap, sym, subst, arith}
use Rattle.std.proofs.lemmas.Bool.{cases_Bool, cases_order}
use Rattle.std.proofs.lemmas.Bool.Decides.{nat_tests}
use Rattle.std.proofs.lemmas.List.Elements.{Contains-push}
use Rattle.lk_types.specs.BallotValue.{BallotValue}
use Rattle.lk_types.specs.Ballots.{is_below, IsAtMost, IsBelow}
use Rattle.lk_messages.specs.declared.message.Content.{Content}
use Rattle.lk_messages.specs.declared.message.Content.TheVariants as content
use Rattle.lk_messages.specs.declared.message.Nack.{Nack}
use Rattle.lk_messages.specs.declared.message.NodeMessage.{NodeMessage}
use Rattle.lk_messages.specs.declared.message.NodeMessage.TheVariants as kinds
use Rattle.lk_store_format.specs.Values.{HeaderValue}
use Rattle.lk_agreement_laws.proofs.Histories.{at_most_below, below_at_most, below_self}
use Rattle.lk_state.specs.Meanings.{Meaning}
use Rattle.lk_acceptor.specs.AcceptorValue.{AcceptorValue}
use Rattle.lk_acceptor.specs.Replies.{RepliesToPrepare}
use Rattle.lk_leader.specs.Terms.{TermValue, is_term_below}
use Rattle.lk_learner.specs.Learners.{executed}
use Rattle.lk_node_interface.specs.Grants.{is_granted}
use Rattle.lk_node_interface.specs.Outboxes.{OutboxValue, nothing, with_optional}
use Rattle.lk_node_interface.specs.Rounds.{greater_round}
use Rattle.lk_node_interface.specs.declared.input.Input.TheVariants.{Tick}
use Rattle.lk_node.specs.Beginning.{greatest_round, next_ballot}
use Rattle.lk_node.specs.CatchingUp.{refusal}
use Rattle.lk_node.specs.NodeValue.{NodeValue}
use Rattle.lk_node.specs.Responding.{Responds, replied}
use Rattle.lk_node.specs.Telling.{envelope_to}
use Rattle.lk_node.specs.Yielding.{seeing, without_term, with_round, yielded}
use Rattle.lk_progress.specs.Electing.{DueNodeAsks, GoesAbove, RejectedNodeGoesAbove}
use Rattle.lk_progress.specs.Exchanges.{prepare_by}
use Rattle.lk_rebases.proofs.Rebases.{HasSame, Handled, handled, proposed_envelopes, proposed_same}
use Rattle.lk_replica.specs.ReplicaValue.{ReplicaValue}
use Rattle.lk_sim.specs.WorldStates.{WorldState}
use Rattle.lk_sim.specs.declared.event.Event.TheVariants as event
use Rattle.lk_sim_nodes.specs.declared.sim_node.RunState.TheVariants.{Up}
use Rattle.lk_world_progress.proofs.Balloting.{found_tells, tick_begins}
use Rattle.lk_world_progress.proofs.Delivering.{EachHeard, HeardIt, each_heard, heard_from, heard_it}
use Rattle.lk_world_progress.proofs.Sending.{sent_as}
use Rattle.lk_world_progress.proofs.Stepping.{event_steps, found_header, has_header, one_replica}
use Rattle.lk_world_progress.specs.Balloting.{BeginsIn, HasSentTo}
use Rattle.lk_world_progress.specs.Exchanging.{number_of}
use Rattle.lk_world_progress.specs.Overtaking.{DeliveredNackRaises, GoesAboveIn, HasFewerRivals, IsRejected, IsRival}
use Rattle.lk_world_progress.specs.Overtaking.{RejectedCandidateHasFewerRivals}
use Rattle.lk_world_progress.specs.Stepping.{IsUpAs, TakesStep}

-- ---- rounds

later_round : (b : BallotValue) (seen later : ℕ) → seen ≤ later → greater_round b seen ≤ greater_round b later
later_round b seen later le =
    elim (cases_Bool (nat_lt b.round seen)) [
      | inl t ↦ let u : nat_lt b.round later ≡ true = grind (arith, nat_tests) in rw (t, u) le
      | inr f ↦ elim (cases_Bool (nat_lt b.round later)) [
        | inl u ↦ rw (f, u) (grind (arith, nat_tests))
        | inr u ↦ rw (f, u) (omega arith)
      ]
    ]

pub promised_round : (b : BallotValue) (seen : ℕ) → b.round ≤ greater_round b seen
promised_round b seen =
    elim (cases_Bool (nat_lt b.round seen)) [
      | inl t ↦ rw t (grind (arith, nat_tests))
      | inr f ↦ rw f (omega arith)
    ]

next_round : (a b c : ℕ) → a ≤ b → c ≡ b → a + 1 ≤ c + 1
next_round a b c le same = omega (arith, le, same)

pub round_above : (a p c : ℕ) → p ≤ c → p ≡ a → a < c + 1
round_above a p c le same = omega (arith, le, same)

-- the same node with a round that is not smaller
not_lower : (b c : BallotValue) → b.round ≤ c.round → b.node ≡ c.node → IsAtMost b c
not_lower b c le same = elim (cases_order b.round c.round) [
  | inl round ↦ inr (λ i. record { round = round i; node = same i })
  | inr (inl below) ↦ inl (inl below)
  | inr (inr above) ↦ absurd (omega (arith, le, above))
]

-- ---- a rejection at a node

under_max : (a c : ℕ) → a ≤ max a c
under_max a c = omega arith

-- recording a ballot leaves all but the term
pub seen_recorded : (b : BallotValue) (node : NodeValue)
    → ((seeing b node).header ≡ node.header) × ((seeing b node).acceptor ≡ node.acceptor)
    × (node.rounds ≤ (seeing b node).rounds)
seen_recorded b node = by_test (is_term_below b node.leader.term)
  where
    by_test : (t : Bool)
        → ((cond t (without_term (with_round b node)) (with_round b node)).header ≡ node.header)
        × ((cond t (without_term (with_round b node)) (with_round b node)).acceptor ≡ node.acceptor)
        × (node.rounds ≤ (cond t (without_term (with_round b node)) (with_round b node)).rounds)
    by_test true = (refl, refl, under_max node.rounds b.round)
    by_test false = (refl, refl, under_max node.rounds b.round)

module _ (m : Meaning) (IsText : List ℕ → Type 0) where
  module _ (old new : NodeValue) (from : ℕ) (nack : Nack) (out : OutboxValue)
      (h : Handled m IsText old (content.Node from (kinds.Nack nack)) new out) where
    same : HasSame h.mid new
    same = proposed_same h.proposes.0 h.mid new h.first out h.proposes.1

    first : NodeValue
    first = seeing nack.ballot old

    once : (first.header ≡ old.header) × (first.acceptor ≡ old.acceptor) × (old.rounds ≤ first.rounds)
    unfolding first
    once = seen_recorded nack.ballot old

    twice : ((seeing nack.promised first).header ≡ first.header)
        × ((seeing nack.promised first).acceptor ≡ first.acceptor)
        × (first.rounds ≤ (seeing nack.promised first).rounds)
    twice = seen_recorded nack.promised first

    header : new.header ≡ old.header
    unfolding first
    header = same.header ∙ ap (λ (n : NodeValue). n.header) h.handles.0 ∙ twice.0 ∙ once.0

    acceptor : new.acceptor ≡ old.acceptor
    unfolding first
    acceptor = same.acceptor ∙ ap (λ (n : NodeValue). n.acceptor) h.handles.0 ∙ twice.1 ∙ once.1

    rounds : old.rounds ≤ new.rounds
    unfolding first
    rounds =
        let last : new.rounds ≡ (seeing nack.promised first).rounds =
        same.rounds ∙ ap (λ (n : NodeValue). n.rounds) h.handles.0 in
        omega (arith, once.2, twice.2, last)

    raised : IsAtMost (next_ballot old) (next_ballot new)
    raised = not_lower (next_ballot old) (next_ballot new)
        (next_round (greatest_round old) (greater_round old.acceptor.state.promised new.rounds) (greatest_round new)
        (later_round old.acceptor.state.promised old.rounds new.rounds rounds)
        (ap (λ (a : AcceptorValue). greater_round a.state.promised new.rounds) acceptor))
        (sym (ap (λ (w : HeaderValue). w.node) header))

  -- ---- the same in a world

  pub nack_raises : RejectedNodeGoesAbove m IsText → DeliveredNackRaises m IsText
  nack_raises law old new n r from nack up hears =
      by_heard (heard_it m IsText n (content.Node from (kinds.Nack nack)) old new r tt up hears)
    where
      by_heard : HeardIt m IsText n (content.Node from (kinds.Nack nack)) r new → GoesAboveIn n r nack new
      by_heard s =
          let above : GoesAbove s.start nack s.after.node = law s.start s.after.node from nack s.out s.takes in
          record {
            after = s.after;
            is = s.is;
            next = above.next;
            least = found_tells r s.start s.found
                (λ node. IsAtMost (next_ballot node) (next_ballot s.after.node)) (λ e. e)
                (raised s.start s.after.node from nack s.out (handled m IsText s.start _ s.after.node s.out s.takes));
            ends = found_tells r s.start s.found
                (λ node. (t : TermValue) → node.leader.term ≡ Some t → is_below t.ballot nack.promised ≡ true
                → s.after.node.leader.term ≡ None) (λ e. e) above.ends;
          }

  -- ---- what a Prepare leaves of a promise

  pub replied_acceptor : (reply : NodeMessage) (node : NodeValue) → (replied reply node).acceptor ≡ node.acceptor
  replied_acceptor reply node = by_test (is_granted reply)
    where
      by_term : (x : NodeValue) (t : Bool) → (cond t (without_term x) x).acceptor ≡ x.acceptor
      by_term x true = refl
      by_term x false = refl

      by_test : (t : Bool) → (yielded node.acceptor.state.promised (cond t (record node { ticks = 0 }) node)).acceptor
          ≡ node.acceptor
      by_test true = by_term (record node { ticks = 0 })
          (is_term_below node.acceptor.state.promised node.leader.term)
      by_test false = by_term node (is_term_below node.acceptor.state.promised node.leader.term)

  module _ (old new : NodeValue) (from : ℕ) (b : BallotValue) (position : ℕ) (out : OutboxValue)
      (h : Handled m IsText old (content.Node from (kinds.Prepare b position)) new out) where
    pub responds : Responds old from (RepliesToPrepare old.acceptor (executed old.learner) b position) h.mid h.first
    responds = h.handles

    pub new_acceptor : new.acceptor ≡ responds.acceptor
    new_acceptor = (proposed_same h.proposes.0 h.mid new h.first out h.proposes.1).acceptor
        ∙ ap (λ (n : NodeValue). n.acceptor) responds.becomes
        ∙ replied_acceptor responds.response.reply (record old { acceptor = responds.acceptor })

    -- it has promised this ballot, or what it had
    pub promised_is : (new.acceptor.state.promised ≡ b) ⊎ (new.acceptor.state.promised ≡ old.acceptor.state.promised)
    promised_is = elim responds.given [
      | inl granted ↦ inl
          (ap (λ (a : AcceptorValue). a.state.promised) new_acceptor
          ∙ ap (λ (a : AcceptorValue). a.state.promised) granted.1.state)
      | inr refused ↦ inr
          (ap (λ (a : AcceptorValue). a.state.promised) new_acceptor
          ∙ ap (λ (a : AcceptorValue). a.state.promised) refused.1.state)
    ]

    -- a rival rejects it
    module _ (above : IsBelow b old.acceptor.state.promised) where
      told : Contains out.envelopes (envelope_to old (kinds.Nack (refusal b old)) from)
      told = elim responds.given [
        | inl granted ↦ absurd (below_self b
            (below_at_most b old.acceptor.state.promised b above granted.0.ballot))
        | inr refused ↦
            let reply : responds.response.reply ≡ kinds.Nack (refusal b old) = refused.1.reply in
            proposed_envelopes h.proposes.0 h.mid new h.first out _ h.proposes.1
            (subst (λ (o : OutboxValue). Contains o.envelopes (envelope_to old (kinds.Nack (refusal b old)) from))
            (sym responds.comes_to)
            (subst (λ (y : NodeMessage). Contains
            ((with_optional responds.response.entry nothing).envelopes ++ envelope_to old y from ∷ [])
            (envelope_to old (kinds.Nack (refusal b old)) from)) (sym reply)
            (Contains-push (with_optional responds.response.entry nothing).envelopes
            (envelope_to old (kinds.Nack (refusal b old)) from))))
      ]

      keeps : new.acceptor.state.promised ≡ old.acceptor.state.promised
      keeps = elim responds.given [
        | inl granted ↦ absurd (below_self b
            (below_at_most b old.acceptor.state.promised b above granted.0.ballot))
        | inr refused ↦ ap (λ (a : AcceptorValue). a.state.promised) new_acceptor
            ∙ ap (λ (a : AcceptorValue). a.state.promised) refused.1.state
      ]

  -- ---- a rejected candidate

  module _ (law : RejectedNodeGoesAbove m IsText) (due_asks : DueNodeAsks) (c : ReplicaValue) (others : List ℕ)
      (rival : ℕ) (first last : WorldState ReplicaValue) (k : IsRejected m IsText c others rival first last) where
    abbrev x : ℕ
    x = number_of c

    abbrev b : BallotValue
    b = next_ballot c.node

    abbrev prepare : Content
    prepare = content.Node x (prepare_by c.node)

    began : BeginsIn x c.node k.ticked
    began = tick_begins m IsText due_asks first k.ticked x c k.up k.due k.ticks

    stepped : TakesStep m IsText first x Tick k.ticked
    stepped = event_steps m IsText first k.ticked (event.Tick x) x Tick k.ticks (refl, refl)

    heard : EachHeard m IsText prepare others k.ticked k.asked
    heard = each_heard m IsText prepare others k.ticked k.asked k.ticks.after tt k.distinct.1 k.asks

    raised_in : GoesAboveIn x began.after (refusal b k.is_rival.replica.node) last
    raised_in = nack_raises law k.asked last x began.after rival (refusal b k.is_rival.replica.node)
        (heard.others x (Up began.after) k.distinct.0 began.is) k.tells

    abbrev above : BallotValue
    above = next_ballot raised_in.after.node

    least : IsBelow b above
    least = below_at_most b (next_ballot began.after.node) above
        (inl (round_above b.round began.after.node.acceptor.state.promised.round (greatest_round began.after.node)
        (promised_round began.after.node.acceptor.state.promised began.after.node.rounds)
        (ap (λ (p : BallotValue). p.round) began.promised))) raised_in.least

    apart : (n : ℕ) → Contains others n → n ≡ x → ⊥
    apart n o e = k.distinct.0 (subst (λ (j : ℕ). Contains others j) e o)

    -- what another node took
    module _ (n : ℕ) (o : Contains others n) (r : ReplicaValue) (up : IsUpAs first n r) where
      took : HeardIt m IsText n prepare r k.asked
      took = heard.heard n r o (stepped.others n (Up r) (apart n o) up)

      handles : Handled m IsText took.start prepare took.after.node took.out
      handles = handled m IsText took.start prepare took.after.node took.out took.takes

      had : took.start.acceptor.state.promised ≡ r.node.acceptor.state.promised
      had = found_tells r took.start took.found
          (λ node. took.start.acceptor.state.promised ≡ node.acceptor.state.promised) (λ e. e) refl

      promised : (took.after.node.acceptor.state.promised ≡ b)
          ⊎ (took.after.node.acceptor.state.promised ≡ r.node.acceptor.state.promised)
      promised = elim (promised_is took.start took.after.node x b (executed c.node.learner + 1) took.out handles)
          [ inl e ↦ inl e | inr e ↦ inr (e ∙ had) ]

      still : IsUpAs last n took.after
      still = (heard_from m IsText x (content.Node rival (kinds.Nack (refusal b k.is_rival.replica.node))) k.asked last
          k.tells).others n (Up took.after) (apart n o) took.is

      is_replica : (q : ReplicaValue) → IsUpAs last n q → q ≡ took.after
      is_replica q there = one_replica m IsText last k.tells.goes.after n q took.after there still

    fewer : (n : ℕ) → Contains others n → IsRival last above n → IsRival first b n
    fewer n o is_rival =
        let r = k.others_up n o in
        let is : is_rival.replica ≡ (took n o r.0 r.1).after = is_replica n o r.0 r.1 is_rival.replica is_rival.up in
        let there : IsBelow above (took n o r.0 r.1).after.node.acceptor.state.promised =
        subst (λ (q : ReplicaValue). IsBelow above q.node.acceptor.state.promised) is is_rival.above in
        elim (promised n o r.0 r.1) [
          | inl e ↦ absurd (below_self b (at_most_below b above b (inl least)
              (subst (λ (p : BallotValue). IsBelow above p) e there)))
          | inr e ↦ record {
            replica = r.0;
            up = r.1;
            above = at_most_below b above r.0.node.acceptor.state.promised (inl least)
                (subst (λ (p : BallotValue). IsBelow above p) e there);
          }
        ]

    abbrev rejecting : ReplicaValue
    rejecting = k.is_rival.replica

    rejected : HeardIt m IsText rival prepare rejecting k.asked
    rejected = took rival k.among rejecting k.is_rival.up

    start_above : IsBelow b rejected.start.acceptor.state.promised
    unfolding rejected
    start_above = subst (λ (p : BallotValue). IsBelow b p) (sym (had rival k.among rejecting k.is_rival.up))
        k.is_rival.above

    less : IsRival last above rival → ⊥
    unfolding rejected
    less is_rival =
        let is : is_rival.replica ≡ rejected.after =
        is_replica rival k.among rejecting k.is_rival.up is_rival.replica is_rival.up in
        let kept : rejected.after.node.acceptor.state.promised ≡ rejecting.node.acceptor.state.promised =
        keeps rejected.start rejected.after.node x b (executed c.node.learner + 1) rejected.out
        (handles rival k.among rejecting k.is_rival.up) start_above ∙ had rival k.among rejecting k.is_rival.up in
        let there : IsBelow above rejecting.node.acceptor.state.promised =
        subst (λ (p : BallotValue). IsBelow above p) kept
        (subst (λ (q : ReplicaValue). IsBelow above q.node.acceptor.state.promised) is is_rival.above) in
        below_self above (below_at_most above rejecting.node.acceptor.state.promised above there (inl raised_in.next))

    sent : HasSentTo k.asked rival x (kinds.Nack (refusal b rejecting.node))
    unfolding rejected
    sent = found_tells rejecting rejected.start rejected.found
        (λ node. HasSentTo k.asked rival x (kinds.Nack (refusal b node))) (λ s. s)
        (sent_as first k.asked rival x rejected.start (kinds.Nack (refusal b rejected.start))
        (found_header rejecting rejected.start rejected.found
        ∙ has_header m IsText first k.holds rival rejecting k.is_rival.up)
        (heard.genesis ∙ stepped.genesis)
        (rejected.sent (envelope_to rejected.start (kinds.Nack (refusal b rejected.start)) x)
        (told rejected.start rejected.after.node x b (executed c.node.learner + 1) rejected.out
        (handles rival k.among rejecting k.is_rival.up) start_above)))

    has_fewer : HasFewerRivals m IsText c others rival first last k
    has_fewer = record {
      sent = sent;
      after = raised_in.after;
      is = raised_in.is;
      least = inl least;
      fewer = fewer;
      less = less;
    }

  pub fewer_rivals : RejectedNodeGoesAbove m IsText → DueNodeAsks → RejectedCandidateHasFewerRivals m IsText
  fewer_rivals law due_asks c others rival first last k = has_fewer law due_asks c others rival first last k
