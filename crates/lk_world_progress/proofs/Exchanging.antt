-- An exchange in a world is one of its nodes.
use Rattle.std.proofs.Common.{◌≡◌, ◌∙◌, inl, inr, ℕ, ◌+◌, ◌-◌, true, List, ◌∷◌, map, Contains}
use Rattle.std.proofs.Common.{refl, ap, sym, subst, arith}
use Rattle.std.proofs.lemmas.Option.{slice_get_within}
use Rattle.lk_types.specs.declared.command.Request.{Request as RequestValue}
use Rattle.lk_types.specs.declared.genesis.Genesis.{Genesis}
use Rattle.lk_types.specs.declared.member.Member.{Member}
use Rattle.lk_types.specs.declared.vote.Vote.{Vote}
use Rattle.lk_store_format.specs.Entries.{plain}
use Rattle.lk_messages.specs.Grammar.{IsMessage, spelling}
use Rattle.lk_messages.specs.Values.{PromiseValue}
use Rattle.lk_messages.specs.declared.message.Answered.{Answered}
use Rattle.lk_messages.specs.declared.message.Content.{Content}
use Rattle.lk_messages.specs.declared.message.Content.TheVariants as content
use Rattle.lk_messages.specs.declared.message.NodeMessage.{NodeMessage}
use Rattle.lk_messages.specs.declared.message.NodeMessage.TheVariants as kinds
use Rattle.lk_agreement_laws.proofs.Histories.{cons_cases, contains_more}
use Rattle.lk_agreement_laws.specs.Datagrams.{said_by}
use Rattle.lk_agreement_laws.specs.declared.party.Party.TheVariants as party
use Rattle.lk_state.specs.Meanings.{KeepsTexts, Meaning}
use Rattle.lk_state.specs.Runs.{session_for}
use Rattle.lk_state.specs.Sessions.{session_of, is_new}
use Rattle.lk_store_format.specs.Values.{HeaderValue}
use Rattle.lk_learner.specs.Learners.{LearnerValue, executed}
use Rattle.lk_node_interface.specs.Envelopes.{EnvelopeValue, datagram_of}
use Rattle.lk_node_interface.specs.Outboxes.{OutboxValue}
use Rattle.lk_node_interface.specs.declared.input.Input.TheVariants.{Tick}
use Rattle.lk_node_interface.specs.declared.note.Note.TheVariants as note
use Rattle.lk_node.proofs.Nodes.{map_contains}
use Rattle.lk_members.specs.Nodes.{nodes_of}
use Rattle.lk_node.specs.Beginning.{next_ballot}
use Rattle.lk_node.specs.NodeValue.{NodeValue}
use Rattle.lk_node.specs.Reminding.{Ticks}
use Rattle.lk_node.specs.Telling.{envelope_to}
use Rattle.lk_node.specs.Waiting.{ticked}
use Rattle.lk_progress.specs.Answering.{answer_envelope}
use Rattle.lk_progress.specs.Deciding.{acceptances}
use Rattle.lk_progress.specs.Electing.{promises}
use Rattle.lk_progress.specs.Exchanges.{Exchanges as NodeExchanges, Succeeds, Votes, prepare_by, promise_to, vote_by}
use Rattle.lk_progress.specs.Exchanges.{IsQuietVoter, QuietMajorityAnswers}
use Rattle.lk_rebases.proofs.Rebases.{idle_begins, taken_learner}
use Rattle.lk_rebases.specs.Pasts.{IsPlain, IsStatic}
use Rattle.lk_replica.specs.ReplicaValue.{ReplicaValue}
use Rattle.lk_sim.specs.Events.{IsAsked}
use Rattle.lk_sim.specs.WorldStates.{WorldState}
use Rattle.lk_sim.specs.Traces.{told_in}
use Rattle.lk_sim.specs.declared.event.Event.TheVariants as event
use Rattle.lk_sim_nodes.specs.declared.sim_node.RunState.{RunState}
use Rattle.lk_sim_nodes.specs.declared.sim_node.RunState.TheVariants.{Up}
use Rattle.lk_sim_nodes.specs.declared.sim_node.SimNode.{SimNode}
use Rattle.lk_world_progress.proofs.Delivering.{EachHeard, HeardIt, TakesFrom, among, each_heard, heard_from}
use Rattle.lk_world_progress.proofs.Noting.{answer_fits, from_trace, genesis_fits, header_fits, noted}
use Rattle.lk_world_progress.proofs.Rebasing.{begun_rests}
use Rattle.lk_world_progress.proofs.Sending.{has_sent, sent_as}
use Rattle.lk_world_progress.proofs.Shadowing.{ShadowTakes, ShadowTakesAll, ShadowTicks, Shadows, each_learner}
use Rattle.lk_world_progress.proofs.Shadowing.{shadow_from, shadow_header, shadow_hears, shadow_in_turn, shadow_ticks}
use Rattle.lk_world_progress.proofs.Shadowing.{shadows_found, shadows_itself}
use Rattle.lk_world_progress.proofs.Stepping.{event_steps, has_header, one_replica, up_fits}
use Rattle.lk_world_progress.specs.Balloting.{HasSentTo}
use Rattle.lk_world_progress.specs.Delivering.{InstallsNothing}
use Rattle.lk_world_progress.specs.Exchanging.{Exchanges, HasAnswered, HasNoted, IsAnsweredBy, IsQuietWorld}
use Rattle.lk_world_progress.specs.Exchanging.{QuietWorldAnswers, number_of}
use Rattle.lk_world_progress.specs.Stepping.{Holds, IsFound, IsUpAs, Lives, TakesStep}

module _ (P : Content → Type 0) where
  pub each_promise : ((n : ℕ) (p : PromiseValue) → P (content.Node n (kinds.Promise p)))
      → (heard : List (ℕ × PromiseValue)) (y : Content) → Contains (promises heard) y → P y
  each_promise all heard y c =
      let h = map_contains (λ (h : ℕ × PromiseValue). content.Node h.0 (kinds.Promise h.1)) heard y c in
      subst P h.2 (all h.0.0 h.0.1)

  pub each_acceptance : (x : Vote) → ((n : ℕ) → P (content.Node n (kinds.Accepted x)))
      → (nodes : List ℕ) (y : Content) → Contains (acceptances nodes x) y → P y
  each_acceptance x all nodes y c =
      let h = map_contains (λ (n : ℕ). content.Node n (kinds.Accepted x)) nodes y c in
      subst P h.2 (all h.0)

module _ (m : Meaning) (IsText : List ℕ → Type 0) (keeps : KeepsTexts IsText m) (law : QuietMajorityAnswers m IsText)
    (c : ReplicaValue) (set : List Member) (r : RequestValue)
    (others : List ℕ) (first last : WorldState ReplicaValue) (quiet : IsQuietWorld m IsText first c set others)
    (fresh : is_new (session_of r.client c.node.learner.whole.sessions) r.number ≡ true)
    (k : Exchanges m IsText c r others first last) where
  abbrev x : ℕ
  x = number_of c

  here : Contains (x ∷ others) x
  here = (0, omega arith, refl)

  abbrev prepare : Content
  prepare = content.Node x (prepare_by c.node)

  abbrev accept : Content
  accept = content.Node x (kinds.Accept (vote_by c.node r))

  abbrev replies : List Content
  replies = promises (map (λ n. (n, promise_to c.node)) (x ∷ others))

  -- ---- the tick

  record Began : Type 0 where
    after : ReplicaValue
    is : IsUpAs k.ticked x after
    out : OutboxValue
    shadow : NodeValue
    shadows : Shadows shadow after.node
    ticks : Ticks c.node shadow out
    learner : shadow.learner ≡ c.node.learner
    sent : (l : EnvelopeValue) → Contains out.envelopes l → Contains k.ticked.sent (datagram_of x l)
    stay : (j : ℕ) (run_state : RunState ReplicaValue) → (j ≡ x → ⊥) → Lives first j run_state
        → Lives k.ticked j run_state
    genesis : k.ticked.genesis ≡ first.genesis

  module _ (s : TakesStep m IsText first x Tick k.ticked) where
    found : IsFound c s.start
    found = subst (λ (q : ReplicaValue). IsFound q s.start)
        (one_replica m IsText first quiet.holds x s.before c s.was quiet.up) s.found

    behind : Shadows c.node s.start
    behind = shadows_found c.node c s.start found (shadows_itself c.node
        (let lt = slice_get_within c.node.learner.whole.roster.sets
        (executed c.node.learner + 1 - (executed c.node.learner + 1)) set quiet.quiet.members.1 in omega (arith, lt))
        quiet.quiet.near.snapshot)

    shadow : ShadowTicks c.node s.last s.out
    shadow = shadow_ticks c.node s.start s.last s.out behind quiet.quiet.due.idle s.steps

    left_is : s.after.node ≡ s.last
    left_is = s.left.rests (begun_rests (ticked s.start) s.last s.out
        (idle_begins s.start s.last s.out
        (sym (ap (λ (node : NodeValue). node.leader.term) behind.is) ∙ quiet.quiet.due.idle) s.steps))

    began_by : Began
    began_by = record {
      after = s.after;
      is = s.is;
      out = s.out;
      shadow = shadow.shadow;
      shadows = subst (λ (node : NodeValue). Shadows shadow.shadow node) (sym left_is) shadow.shadows;
      ticks = shadow.ticks;
      learner = shadow.learner;
      sent = among x s.out.envelopes first k.ticked s.sent;
      stay = s.others;
      genesis = s.genesis;
    }

  began : Began
  began = began_by (event_steps m IsText first k.ticked (event.Tick x) x Tick k.ticks (refl, refl))

  -- ---- what the candidate takes

  prepared : EachHeard m IsText prepare (x ∷ others) k.ticked k.asked
  prepared = each_heard m IsText prepare (x ∷ others) k.ticked k.asked k.ticks.after tt quiet.distinct k.asks

  own : HeardIt m IsText x prepare began.after k.asked
  own = prepared.heard x began.after here began.is

  second : ShadowTakes m IsText began.shadow prepare own.after.node own.out
  second = shadow_hears m IsText began.shadow x prepare began.after k.asked own began.shadows
      (omega (arith, ap (λ (l : LearnerValue). executed l) began.learner))

  second_learner : second.shadow_after.learner ≡ c.node.learner
  second_learner = taken_learner m IsText prepare began.shadow second.shadow_after own.out tt second.takes
      ∙ began.learner

  third : ShadowTakesAll m IsText x replies second.shadow_after k.asked k.promised
  third = shadow_in_turn m IsText x replies second.shadow_after k.asked k.promised own.after prepared.holds own.is
      second.shadows (each_promise InstallsNothing (λ n p. tt) (map (λ n. (n, promise_to c.node)) (x ∷ others)))
      (each_promise (λ y. (e : ℕ) → IsPlain e y) (λ n p e. tt) (map (λ n. (n, promise_to c.node)) (x ∷ others)))
      k.leads

  third_learner : third.shadow_after.learner ≡ c.node.learner
  third_learner = each_learner m IsText replies second.shadow_after third.shadow_after third.envelopes
      (each_promise IsStatic (λ n p. tt) (map (λ n. (n, promise_to c.node)) (x ∷ others))) third.takes ∙ second_learner

  asking : IsAsked k.promised k.requested x r
  asking = k.requests.done.1

  requested_lives : (n : ℕ) (run_state : RunState ReplicaValue) → Lives k.promised n run_state
      → Lives k.requested n run_state
  requested_lives n run_state l =
      subst (λ (sim_nodes : List (SimNode ReplicaValue)). Contains sim_nodes (record {
        number = n;
        run_state =
            run_state;
      }))
      (sym asking.sim_nodes) l

  third_up : IsUpAs k.requested x third.after
  third_up = requested_lives x (Up third.after) third.is

  request : TakesFrom m IsText x (content.Request r) k.requested k.proposed
  request = heard_from m IsText x (content.Request r) k.requested k.proposed k.proposes

  fourth : ShadowTakes m IsText third.shadow_after (content.Request r) request.after.node request.out
  fourth = shadow_from m IsText third.shadow_after x (content.Request r) k.requested k.proposed third.after
      k.requests.after third_up tt request third.shadows tt

  fourth_learner : fourth.shadow_after.learner ≡ c.node.learner
  fourth_learner = taken_learner m IsText (content.Request r) third.shadow_after fourth.shadow_after request.out tt
      fourth.takes ∙ third_learner

  accepted : EachHeard m IsText accept (x ∷ others) k.proposed k.accepted
  accepted = each_heard m IsText accept (x ∷ others) k.proposed k.accepted k.proposes.goes.after tt quiet.distinct
      k.accepts

  own_vote : HeardIt m IsText x accept request.after k.accepted
  own_vote = accepted.heard x request.after here request.is

  fifth : ShadowTakes m IsText fourth.shadow_after accept own_vote.after.node own_vote.out
  fifth = shadow_hears m IsText fourth.shadow_after x accept request.after k.accepted own_vote fourth.shadows
      (omega (arith, ap (λ (l : LearnerValue). executed l) fourth_learner))

  sixth : ShadowTakesAll m IsText x (acceptances (x ∷ others) (vote_by c.node r)) fifth.shadow_after k.accepted last
  sixth = shadow_in_turn m IsText x (acceptances (x ∷ others) (vote_by c.node r)) fifth.shadow_after k.accepted last
      own_vote.after accepted.holds own_vote.is fifth.shadows
      (each_acceptance InstallsNothing (vote_by c.node r) (λ n. tt) (x ∷ others))
      (each_acceptance (λ y. (e : ℕ) → IsPlain e y) (vote_by c.node r) (λ n e. tt) (x ∷ others)) k.replies

  -- ---- what another node takes

  module _ (n : ℕ) (other : Contains others n) where
    apart : n ≡ x → ⊥
    apart e = quiet.distinct.0 (subst (λ (j : ℕ). Contains others j) e other)

    abbrev voter : ReplicaValue
    voter = (quiet.voters n other).0

    voter_up : IsUpAs first n voter
    voter_up = (quiet.voters n other).1

    abbrev quiet_voter : IsQuietVoter voter.node (next_ballot c.node) (executed c.node.learner)
    quiet_voter = (quiet.voters n other).2

    promising : HeardIt m IsText n prepare voter k.asked
    promising = prepared.heard n voter (contains_more x others n other) (began.stay n (Up voter) apart voter_up)

    promise : ShadowTakes m IsText voter.node prepare promising.after.node promising.out
    promise = shadow_hears m IsText voter.node n prepare voter k.asked promising
        (shadows_itself voter.node (omega (arith, quiet_voter.behind, quiet_voter.within)) quiet_voter.near.snapshot)
        (omega (arith, quiet_voter.behind))

    promised_learner : promise.shadow_after.learner ≡ voter.node.learner
    promised_learner = taken_learner m IsText prepare voter.node promise.shadow_after promising.out tt promise.takes

    promised_up : IsUpAs k.proposed n promising.after
    promised_up = request.others n (Up promising.after) apart
        (requested_lives n (Up promising.after) (third.others n (Up promising.after) apart promising.is))

    accepting : HeardIt m IsText n accept promising.after k.accepted
    accepting = accepted.heard n promising.after (contains_more x others n other) promised_up

    acceptance : ShadowTakes m IsText promise.shadow_after accept accepting.after.node accepting.out
    acceptance = shadow_hears m IsText promise.shadow_after n accept promising.after k.accepted accepting
        promise.shadows
        (omega (arith, quiet_voter.behind, ap (λ (l : LearnerValue). executed l) promised_learner))

    abbrev vote : Votes m IsText c.node r n
    vote = record {
      first = voter.node;
      quiet = quiet_voter;
      second = promise.shadow_after;
      promising = promising.out;
      promises = promise.takes;
      third = acceptance.shadow_after;
      accepting = accepting.out;
      accepts = acceptance.takes;
    }

  -- ---- the exchange of the nodes

  abbrev run : NodeExchanges m IsText c.node r others
  run = record {
    votes = vote;
    first = began.shadow;
    asking = began.out;
    ticks = began.ticks;
    second = second.shadow_after;
    promising = own.out;
    promises_itself = second.takes;
    third = third.shadow_after;
    leading = third.envelopes;
    leads = third.takes;
    fourth = fourth.shadow_after;
    proposing = request.out;
    proposes = fourth.takes;
    fifth = fifth.shadow_after;
    accepting = own_vote.out;
    accepts_itself = fifth.takes;
    sixth = sixth.shadow_after;
    answering = sixth.envelopes;
    answers = sixth.takes;
  }

  succeeds : Succeeds m IsText c.node set r others run
  succeeds = law c.node set r others quiet.quiet quiet.majority fresh run

  genesis_is : last.genesis ≡ first.genesis
  genesis_is = sixth.genesis ∙ accepted.genesis ∙ request.genesis ∙ asking.adds.genesis ∙ third.genesis
      ∙ prepared.genesis ∙ began.genesis

  -- what a shadow sends, the node sends
  said : (old new : WorldState ReplicaValue) (n : ℕ) (q : ReplicaValue) (shadow : NodeValue) (y : NodeMessage)
      → Holds m IsText old → IsUpAs old n q → Shadows shadow q.node → new.genesis ≡ old.genesis
      → Contains new.sent (datagram_of n (envelope_to shadow y x)) → HasSentTo new n x y
  said old new n q shadow y holds up s genesis d = sent_as old new n x shadow y
      (shadow_header shadow q.node s ∙ has_header m IsText old holds n q up) genesis d

  promise_sent : (n : ℕ) → Contains (x ∷ others) n → HasSentTo k.asked n x (kinds.Promise (promise_to c.node))
  promise_sent n d = elim (cons_cases x others n d) [
    | inl is ↦ subst (λ (j : ℕ). HasSentTo k.asked j x (kinds.Promise (promise_to c.node))) is
        (said k.ticked k.asked x began.after began.shadow (kinds.Promise (promise_to c.node)) k.ticks.after began.is
        began.shadows prepared.genesis
        (own.sent (envelope_to began.shadow (kinds.Promise (promise_to c.node)) x) succeeds.promises_itself))
    | inr other ↦
        has_sent m IsText first k.asked n x (voter n other) (kinds.Promise (promise_to c.node)) quiet.holds
        (voter_up n other) (prepared.genesis ∙ began.genesis)
        ((promising n other).sent (envelope_to (voter n other).node (kinds.Promise (promise_to c.node)) x)
        (succeeds.promises n other))
  ]

  accepted_sent : (n : ℕ) → Contains (x ∷ others) n
      → HasSentTo k.accepted n x (kinds.Accepted (vote_by c.node r))
  accepted_sent n d = elim (cons_cases x others n d) [
    | inl is ↦ subst (λ (j : ℕ). HasSentTo k.accepted j x (kinds.Accepted (vote_by c.node r))) is
        (said k.proposed k.accepted x request.after fourth.shadow_after (kinds.Accepted (vote_by c.node r))
        k.proposes.goes.after request.is fourth.shadows accepted.genesis
        (own_vote.sent (envelope_to fourth.shadow_after (kinds.Accepted (vote_by c.node r)) x) succeeds.accepts_itself))
    | inr other ↦
        said k.proposed k.accepted n (promising n other).after (promise n other).shadow_after
        (kinds.Accepted (vote_by c.node r)) k.proposes.goes.after (promised_up n other) (promise n other).shadows
        accepted.genesis
        ((accepting n other).sent (envelope_to (promise n other).shadow_after (kinds.Accepted (vote_by c.node r)) x)
        (succeeds.accepts n other))
  ]

  proposed_sent : (n : ℕ) → Contains (nodes_of set) n
      → HasSentTo k.proposed x n (kinds.Accept (vote_by c.node r))
  proposed_sent n d = sent_as k.requested k.proposed x n third.shadow_after (kinds.Accept (vote_by c.node r))
      (shadow_header third.shadow_after third.after.node third.shadows
      ∙ has_header m IsText k.requested k.requests.after x third.after third_up)
      request.genesis
      (among x request.out.envelopes k.requested k.proposed request.sent
      (envelope_to third.shadow_after (kinds.Accept (vote_by c.node r)) n) (succeeds.proposes n d))

  -- ---- the answer

  abbrev answer : Answered
  answer =
      record { client = r.client; number = r.number; answer = (session_for m c.node.learner.whole r).answer }

  answer_sent : HasAnswered m last c.node r
  answer_sent = subst (λ (g : Genesis). Contains last.sent (record {
    from = party.Node x;
    to = party.Client r.client;
    bytes = spelling (said_by g x (kinds.Answer answer));
  })) (sym genesis_is)
      (subst (λ (h : HeaderValue). Contains last.sent (record {
        from = party.Node x;
        to = party.Client r.client;
        bytes = spelling (record { cluster = h.cluster; content = content.Node x (kinds.Answer answer) });
      })) (has_header m IsText first quiet.holds x c quiet.up)
      (among x sixth.envelopes k.accepted last sixth.sent (answer_envelope m c.node r) succeeds.answers))

  answer_valid : IsMessage (said_by last.genesis x (kinds.Answer answer))
  answer_valid =
      let u = up_fits m IsText first quiet.holds x c quiet.up in
      let kept = u.shown.keeps in
      let h = header_fits kept.entries (plain kept.loose) first.genesis x kept.header kept.holds.on.fit in
      let asked = k.proposes.spelled.0.1 in
      subst (λ (g : Genesis). IsMessage (said_by g x (kinds.Answer answer))) (sym genesis_is) (
        h.0,
        (
          h.1,
          (
            asked.0,
            asked.1,
            answer_fits m IsText keeps first.genesis first.sent u.holding.paxos.done c.node.learner.whole r
                (genesis_fits first.genesis x h) u.fits.paxos.stems.done u.shown.held.follows.sums
                quiet.quiet.due.position asked fresh,
          ),
        ),
      )

  answer_noted : HasNoted m last c.node r
  answer_noted = from_trace last.trace (note.Answered x r.client r.number answer.answer)
      (noted last.sent (told_in last.trace) sixth.holds.told (record {
        from = party.Node x;
        to = party.Client r.client;
        bytes = spelling (said_by last.genesis x (kinds.Answer answer));
      }) answer_sent (said_by last.genesis x (kinds.Answer answer)) (answer_valid, refl)
      (note.Answered x r.client r.number answer.answer) (0, omega arith, refl))

  answered : IsAnsweredBy m IsText c set r others first last k
  answered = record {
    asks = λ n d above. has_sent m IsText first k.ticked x n c (prepare_by c.node) quiet.holds quiet.up began.genesis
        (began.sent (envelope_to c.node (prepare_by c.node) n) (succeeds.asks n d above));
    promises = promise_sent;
    proposes = proposed_sent;
    accepts = accepted_sent;
    answers = answer_sent;
    notes = answer_noted;
  }

pub quiet_world_answers : (m : Meaning) (IsText : List ℕ → Type 0) → KeepsTexts IsText m
    → QuietMajorityAnswers m IsText → QuietWorldAnswers m IsText
quiet_world_answers m IsText keeps law candidate set r others first last quiet fresh k =
    answered m IsText keeps law candidate set r others first last quiet fresh k
