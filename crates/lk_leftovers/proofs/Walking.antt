-- What a leader that fills keeps through the acceptances of one position.
use Rattle.std.proofs.Common.{◌≡◌, ◌∙◌, ◌⊎◌, inl, inr, ℕ, ◌+◌, ◌<◌, ◌≤◌, ◌||◌, ◌&&◌, nat_le}
use Rattle.std.proofs.Common.{nat_lt, Bool, true, false, cond, eqb}
use Rattle.std.proofs.Common.{List, [], ◌∷◌, ◌++◌, Option, Some, None, Contains, length, refl, ap, sym, subst, arith}
use Rattle.std.proofs.lemmas.Bool.{cases_Bool, eqb-true}
use Rattle.std.proofs.lemmas.List.Elements.{Contains-append_cases}
use Rattle.lk_types.specs.declared.member.Member.{Member}
use Rattle.lk_types.specs.declared.vote.Vote.{Vote}
use Rattle.lk_messages.proofs.Spellings.{one_message}
use Rattle.lk_messages.specs.declared.message.Content.TheVariants as content
use Rattle.lk_messages.specs.declared.message.Message.{Message}
use Rattle.lk_messages.specs.declared.message.NodeMessage.TheVariants as kinds
use Rattle.lk_agreement_laws.proofs.Histories.{cons_cases, contains_more, filter_from, only}
use Rattle.lk_members.specs.Effects.{Command, Noop, Request, RequestValue}
use Rattle.lk_members.specs.Rosters.{IsChange, Join, Leave, Op, Raise, Table}
use Rattle.lk_members.specs.Windows.{RosterValue}
use Rattle.lk_state.specs.Meanings.{Meaning}
use Rattle.lk_state.specs.Runs.{after_request, ran, run_answer}
use Rattle.lk_state.specs.Sessions.{is_new, session_of}
use Rattle.lk_state.specs.declared.session.Session.{Session}
use Rattle.lk_leader.specs.Acceptances.{heard, heard_at}
use Rattle.lk_leader.specs.Proposing.{proposed}
use Rattle.lk_leader.specs.Terms.{ProposalValue, ReceivedPromise, TermValue, in_window, with_proposals}
use Rattle.lk_leader.specs.Values.{IsLeadersValue, fills, first_new, has_vote_from, highest, is_changing_at}
use Rattle.lk_leader.specs.Waits.{left_by}
use Rattle.lk_learner.proofs.Learnerships.{ran_moves, with_only, without_from}
use Rattle.lk_learner.specs.Learners.{Pair, WholeValue, advanced, alpha, executed}
use Rattle.lk_node_interface.specs.KeptReplies.{session_by}
use Rattle.lk_node_interface.specs.Envelopes.{EnvelopeValue}
use Rattle.lk_node_interface.specs.Outboxes.{OutboxValue}
use Rattle.lk_node.specs.Deciding.{HandlesAccepted, IsForProposal, with_vote}
use Rattle.lk_node.specs.Executing.{EndsWaitIfAny, Executes, Runs, stays, goes_on, is_outside, without_term_if_outside}
use Rattle.lk_node.specs.Leading.{NothingToPropose, ProposesAll, ProposesVote, having_proposed}
use Rattle.lk_node.specs.Learning.{Learns, with_learner}
use Rattle.lk_node.specs.NodeValue.{NodeValue}
use Rattle.lk_node.specs.Steps.{Handles, HandlesBytes}
use Rattle.lk_node.specs.Yielding.{without_term}
use Rattle.lk_progress.specs.Deciding.{acceptances}
use Rattle.lk_progress.specs.Hearing.{Hears, TakesEach}
use Rattle.lk_progress.specs.LeadingOn.{KeepsMembers}
use Rattle.lk_leftovers.proofs.Reported.{has_vote, later_unchanged, reported_at}
use Rattle.lk_leftovers.specs.Filling.{ReportNoChange}

-- ---- the last change

op_changes : (m : Meaning) (w : WholeValue) (r : RequestValue) (op : Op) → r.op ≡ op → (IsChange op → ⊥)
    → (after_request m w (Some r)).roster.changed ≡ w.roster.changed
op_changes m w r (Table body) is keeps = rw is refl
op_changes m w r (Join node port) is keeps = absurd (keeps tt)
op_changes m w r (Leave node) is keeps = absurd (keeps tt)
op_changes m w r Raise is keeps = rw is refl

pub same_change : (m : Meaning) (v : Command) (w : WholeValue) → KeepsMembers v
    → (ran m v w).roster.changed ≡ w.roster.changed
same_change m Noop w keeps = refl
same_change m (Request r) w keeps = by_test (is_new (session_of r.client w.sessions) r.number)
  where
    by_test : (t : Bool) → (after_request m w (cond t (Some r) None)).roster.changed ≡ w.roster.changed
    by_test true = op_changes m w r r.op refl keeps
    by_test false = refl

-- ---- the invariant

-- a proposal above the executed positions: a vote is reported there or above it, it changes no members, and nobody has
-- been heard to accept it, unless it is that of this position
pub record IsKept (qs : List ReceivedPromise) (i : ℕ) (p : ProposalValue) : Type 0 where
  pub reported : has_vote_from qs p.position ≡ true
  pub keeps : KeepsMembers p.command
  pub yet_to_accept : (p.position ≡ i) ⊎ (p.accepted ≡ [])

-- whatever its term, if any, is
pub record Walks (qs : List ReceivedPromise) (i : ℕ) (node : NodeValue) : Type 0 where
  pub received : (u : TermValue) → node.leader.term ≡ Some u → u.received ≡ qs
  pub proposed : (u : TermValue) → node.leader.term ≡ Some u → (p : ProposalValue) → Contains u.proposals p
      → executed node.learner < p.position → IsKept qs i p
  pub waiting : node.leader.waiting ≡ []
  pub unchanged : is_changing_at node.learner.whole.roster (executed node.learner + 1) ≡ false
  pub some : 1 ≤ alpha node.learner
  pub pairs : (p : Pair) → Contains node.learner.pairs p → KeepsMembers p.1

module _ (qs : List ReceivedPromise) (i : ℕ) where
  -- ---- an acceptance is heard

  pub heard_was : (set : List Member) (from : ℕ) (ps : List ProposalValue) (p : ProposalValue)
      → Contains (heard_at set from i ps) p
      → (q : ProposalValue) × Contains ps q × (p.position ≡ q.position) × (p.command ≡ q.command)
      × ((q.position ≡ i) ⊎ (p.accepted ≡ q.accepted))
  heard_was set from [] p c = absurd (omega (arith, c.1))
  heard_was set from (q ∷ ps) p c = elim (cases_Bool (eqb q.position i)) [
    | inl t ↦ elim (cons_cases (heard set from q) ps p (rw t at c)) [
      | inl is ↦ (
        q,
        (0, omega arith, refl),
        sym (ap (λ (x : ProposalValue). x.position) is),
        sym (ap (λ (x : ProposalValue). x.command) is),
        inl (eqb-true q.position i t),
      )
      | inr later ↦ (p, contains_more q ps p later, refl, refl, inr refl)
    ]
    | inr f ↦ elim (cons_cases q (heard_at set from i ps) p (rw f at c)) [
      | inl is ↦ (p, (0, omega arith, is), refl, refl, inr refl)
      | inr later ↦
          let h = heard_was set from ps p later in
          (h.0, contains_more q ps h.0 h.1, h.2, h.3, h.4)
    ]
  ]

  heard_walks : (from : ℕ) (x : Vote) (old : NodeValue) (k : IsForProposal old x) → x.position ≡ i → Walks qs i old
      → Walks qs i (with_vote from x old k)
  heard_walks from x old k here w = record {
    received = λ u is.
        let e : Some (with_proposals (heard_at k.set from x.position k.term.proposals) k.term) ≡ Some u = is in
        let one : with_proposals (heard_at k.set from x.position k.term.proposals) k.term ≡ u = cc e in
        ap (λ (t : TermValue). t.received) (sym one) ∙ w.received k.term k.current;
    proposed = λ u is p c above.
        let e : Some (with_proposals (heard_at k.set from x.position k.term.proposals) k.term) ≡ Some u = is in
        let one : with_proposals (heard_at k.set from x.position k.term.proposals) k.term ≡ u = cc e in
        kept p (subst (λ (j : ℕ). Contains (heard_at k.set from j k.term.proposals) p) here
        (subst (λ (t : TermValue). Contains t.proposals p) (sym one) c)) above;
    waiting = w.waiting;
    unchanged = w.unchanged;
    some = w.some;
    pairs = w.pairs;
  }
    where
      kept : (p : ProposalValue) → Contains (heard_at k.set from i k.term.proposals) p
          → executed old.learner < p.position → IsKept qs i p
      kept p c above =
          let h = heard_was k.set from k.term.proposals p c in
          let q = w.proposed k.term k.current h.0 h.1 (omega (arith, above, h.2)) in
          record {
            reported = subst (λ (j : ℕ). has_vote_from qs j ≡ true) (sym h.2) q.reported;
            keeps = subst KeepsMembers (sym h.3) q.keeps;
            yet_to_accept = elim h.4 [
              | inl at ↦ inl (h.2 ∙ at)
              | inr same ↦ elim q.yet_to_accept [ inl at ↦ inl (h.2 ∙ at) | inr none ↦ inr (same ∙ none) ]
            ];
          }

  -- ---- a pair is learned

  learned_walks : (p : Pair) (old new : NodeValue) (before after : OutboxValue) → Learns p old before new after
      → KeepsMembers p.1 → Walks qs i old → Walks qs i new
  learned_walks p old new before after (inl kept) plain w = subst (Walks qs i) (sym kept.1) (record {
    received = w.received;
    proposed = w.proposed;
    waiting = w.waiting;
    unchanged = w.unchanged;
    some = w.some;
    pairs = λ q c. elim (with_only p old.learner.pairs q c)
        [ inl is ↦ subst (λ (y : Pair). KeepsMembers y.1) is plain | inr there ↦ w.pairs q there ];
  })
  learned_walks p old new before after (inr left) plain w = subst (Walks qs i) (sym left.1) w

  -- ---- executions

  none_left : (client number : ℕ) (rs : List RequestValue) → rs ≡ [] → left_by client number rs ≡ []
  none_left client number [] e = refl
  none_left client number (r ∷ rs) e = absurd (cc e)

  waited_walks : (o : Option Session) (old new : NodeValue) (before after : OutboxValue)
      → EndsWaitIfAny o old before new after → Walks qs i old → Walks qs i new
  waited_walks None old new before after ends w = subst (Walks qs i) (sym ends.0) w
  waited_walks (Some s) old new before after ends w = subst (Walks qs i) (sym ends.becomes) (record {
    received = w.received;
    proposed = w.proposed;
    waiting = none_left s.client s.number old.leader.waiting w.waiting;
    unchanged = w.unchanged;
    some = w.some;
    pairs = w.pairs;
  })

  inside_walks : (node : NodeValue) → Walks qs i node → Walks qs i (without_term_if_outside node)
  inside_walks node w = by_test (is_outside node)
    where
      by_test : (t : Bool) → Walks qs i (cond t (without_term node) node)
      by_test true = record {
        received = λ u is. absurd (cc is);
        proposed = λ u is p c above. absurd (cc is);
        waiting = refl;
        unchanged = w.unchanged;
        some = w.some;
        pairs = w.pairs;
      }
      by_test false = w

  ran_walks : (m : Meaning) (v : Command) (old : NodeValue) → KeepsMembers v → Walks qs i old
      → Walks qs i (with_learner old (advanced m v old.learner))
  ran_walks m v old plain w =
      let moves = ran_moves m v old.learner.whole w.some in
      let change : (ran m v old.learner.whole).roster.changed ≡ old.learner.whole.roster.changed =
      same_change m v old.learner.whole plain in
      record {
        received = w.received;
        proposed = λ u is p c above. w.proposed u is p c (omega (arith, above, moves.0));
        waiting = w.waiting;
        unchanged = moved_unchanged moves.0 moves.1 change;
        some = omega (arith, w.some, moves.1);
        pairs = λ p c. w.pairs p (without_from (executed old.learner + 1) old.learner.pairs p c);
      }
    where
      later : RosterValue
      later = (ran m v old.learner.whole).roster

      was : RosterValue
      was = old.learner.whole.roster

      moved_unchanged : later.executed ≡ was.executed + 1 → length later.sets ≡ length was.sets
          → later.changed ≡ was.changed → is_changing_at later (later.executed + 1) ≡ false
      moved_unchanged reach window change =
          let e : is_changing_at was (was.executed + 1) ≡ false = w.unchanged in
          let next : is_changing_at was (later.executed + 1) ≡ false =
          later_unchanged was (was.executed + 1) (later.executed + 1) (omega (arith, reach)) e in
          subst (λ (c : ℕ). nat_lt 0 c && nat_le (later.executed + 1) (c + length later.sets) ≡ false) (sym change)
          (subst (λ (n : ℕ). nat_lt 0 was.changed && nat_le (later.executed + 1) (was.changed + n) ≡ false) (sym window)
          next)

  executes_walks : (m : Meaning) (old new : NodeValue) (before after : OutboxValue) → Executes m old before new after
      → Walks qs i old → Walks qs i new
  executes_walks m old new before after e w = subst (Walks qs i) (sym e.becomes) (inside_walks e.mid
      (waited_walks (session_by e.command (run_answer m e.command old.learner.whole)) _ e.mid _ after e.ends_wait
      (ran_walks m e.command old (w.pairs (executed old.learner + 1, e.command) e.next) w)))

  runs_walk : (m : Meaning) (old : NodeValue) (before : OutboxValue) (new : NodeValue) (after : OutboxValue)
      → Runs m old before new after → Walks qs i old → Walks qs i new
  runs_walk m old before _ _ stays w = w
  runs_walk m old before new after (goes_on so_far e) w =
      executes_walks m _ new _ after e (runs_walk m old before _ _ so_far w)

  -- ---- proposals

  module _ (reports : ReportNoChange qs) where
    -- what is proposed is a reported vote, or fills a gap below one
    pub value_kept : (t : TermValue) (waiting : List RequestValue) (roster : RosterValue) (set : List Member) (j : ℕ)
        (v : Command) → t.received ≡ qs → waiting ≡ [] → is_changing_at roster j ≡ false
        → IsLeadersValue t waiting roster set j v
        → (has_vote_from qs j ≡ true) × KeepsMembers v
    value_kept t waiting roster set j v same none still (highest h is) =
        reported_at h j set t.received (λ r x. record { node = r.node; vote = x }) is.among
        (λ u. (has_vote_from qs j ≡ true) × KeepsMembers u.vote.command)
        (λ q x c d at.
        let among : Contains qs q = subst (λ (l : List ReceivedPromise). Contains l q) same c in
        (has_vote j qs q x among d (omega (arith, at)), reports q among x d))
    value_kept t waiting roster set j v same none still (first_new q unreported first) =
        absurd (no_parts first.before first.behind q (sym none ∙ first.parts))
      where
        no_parts : (before behind : List RequestValue) (r : RequestValue) → [] ≡ before ++ (r ∷ behind) → ⊥
        no_parts [] behind r e = cc e
        no_parts (b ∷ before) behind r e = cc e
    value_kept t waiting roster set j v same none still (fills unreported old why) = (
      subst (λ (l : List ReceivedPromise). has_vote_from l j ≡ true) same (or_left (has_vote_from t.received j) why),
      tt,
    )
      where
        or_left : (b : Bool) → b || is_changing_at roster j ≡ true → b ≡ true
        or_left true e = refl
        or_left false e = absurd (cc (sym still ∙ e))

    vote_walks : (old : NodeValue) (x : Vote) (p : ProposesVote old x) → Walks qs i old
        → Walks qs i (having_proposed old x p)
    vote_walks old x p w = record {
      received = λ u is.
          let e : Some (proposed old.learner.whole.roster x.position x.command p.term) ≡ Some u = is in
          let one : proposed old.learner.whole.roster x.position x.command p.term ≡ u = cc e in
          ap (λ (t : TermValue). t.received) (sym one) ∙ w.received p.term p.current;
      proposed = λ u is q c above.
          let e : Some (proposed old.learner.whole.roster x.position x.command p.term) ≡ Some u = is in
          let one : proposed old.learner.whole.roster x.position x.command p.term ≡ u = cc e in
          by_part q (Contains-append_cases
          (in_window (executed old.learner) (alpha old.learner) p.term.proposals) (made ∷ []) q
          (subst (λ (t : TermValue). Contains t.proposals q) (sym one) c)) above;
      waiting = w.waiting;
      unchanged = w.unchanged;
      some = w.some;
      pairs = w.pairs;
    }
      where
        made : ProposalValue
        made = record { position = x.position; command = x.command; accepted = [] }

        value : (has_vote_from qs x.position ≡ true) × KeepsMembers x.command
        value = value_kept p.term old.leader.waiting old.learner.whole.roster p.proposes.set x.position x.command
            (w.received p.term p.current) w.waiting
            (later_unchanged old.learner.whole.roster (executed old.learner + 1) x.position
            (let above = p.proposes.next.above in omega (arith, above)) w.unchanged) p.proposes.value

        by_part : (q : ProposalValue)
            → Contains (in_window (executed old.learner) (alpha old.learner) p.term.proposals) q
            ⊎ Contains (made ∷ []) q → executed old.learner < q.position → IsKept qs i q
        by_part q (inl before) above =
            w.proposed p.term p.current q (filter_from _ p.term.proposals q before) above
        by_part q (inr last) above = subst (IsKept qs i) (only made q last)
            (record { reported = value.0; keeps = value.1; yet_to_accept = inr refl })

    proposed_walks : (xs : List Vote) (old new : NodeValue) (before out : OutboxValue)
        → ProposesAll xs old new before out → Walks qs i old → Walks qs i new × NothingToPropose new
    proposed_walks [] old new before out all w =
        (subst (Walks qs i) (sym all.1) w, subst NothingToPropose (sym all.1) all.0)
    proposed_walks (x ∷ xs) old new before out all w =
        proposed_walks xs (having_proposed old x all.0) new _ out all.1 (vote_walks old x all.0 w)

    -- ---- acceptances

    accepted_walks : (m : Meaning) (from : ℕ) (x : Vote) (old new : NodeValue) (out : OutboxValue) → x.position ≡ i
        → KeepsMembers x.command → HandlesAccepted m from x old new out → Walks qs i old → Walks qs i new
    accepted_walks m from x old new out here plain (inl counted) w =
        let d = counted.2 in
        runs_walk m d.learned d.written new d.ran d.runs.0
        (learned_walks (x.position, x.command) (with_vote from x old counted.0) d.learned _ d.written d.learns plain
        (heard_walks from x old counted.0 here w))
    accepted_walks m from x old new out here plain (inr (inl only_heard, silent)) w =
        subst (Walks qs i) (sym only_heard.2) (heard_walks from x old only_heard.0 here w)
    accepted_walks m from x old new out here plain (inr (inr other, silent)) w = subst (Walks qs i) (sym other.1) w

    one_walks : (m : Meaning) (IsText : List ℕ → Type 0) (from : ℕ) (x : Vote) (old new : NodeValue)
        (out : OutboxValue) → x.position ≡ i → KeepsMembers x.command
        → Hears m IsText old from (kinds.Accepted x) new out → Walks qs i old → Walks qs i new × NothingToPropose new
    one_walks m IsText from x old new out here plain k w = by_bytes k.step.handles
      where
        message : Message
        message = record { cluster = old.header.cluster; content = content.Node from (kinds.Accepted x) }

        by_bytes : HandlesBytes m IsText old k.bytes k.step.mid k.step.first
            → Walks qs i new × NothingToPropose new
        by_bytes (inl known) = proposed_walks k.step.proposes.0 k.step.mid new k.step.first out k.step.proposes.1
            (accepted_walks m from x old k.step.mid k.step.first here plain
            (subst (λ (y : Message). Handles m IsText old y.content k.step.mid k.step.first)
            (one_message known.0 message k.bytes known.1 k.spells) known.3) w)
        by_bytes (inr foreign) = absurd (foreign.0 message k.spells refl)

    pub all_walk : (m : Meaning) (IsText : List ℕ → Type 0) (x : Vote) (voters : List ℕ) (old new : NodeValue)
        (envelopes : List EnvelopeValue) → x.position ≡ i → KeepsMembers x.command
        → TakesEach m IsText (acceptances voters x) old new envelopes → Walks qs i old × NothingToPropose old
        → Walks qs i new × NothingToPropose new
    all_walk m IsText x [] old new envelopes here plain takes w =
        subst (λ (node : NodeValue). Walks qs i node × NothingToPropose node) (sym takes.0) w
    all_walk m IsText x (n ∷ voters) old new envelopes here plain takes w =
        all_walk m IsText x voters takes.0 new takes.2 here plain takes.4
        (one_walks m IsText n x old takes.0 takes.1 here plain takes.3 w.0)
