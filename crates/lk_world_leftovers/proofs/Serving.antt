-- A leader of a world that is ready answers.
use Rattle.std.proofs.Common.{◌≡◌, ◌∙◌, inl, inr, ℕ, ◌+◌, ◌≤◌, true, Some, List, [], ◌∷◌, Contains, refl, ap, sym}
use Rattle.std.proofs.Common.{subst, arith}
use Rattle.lk_types.specs.Ballots.{IsAtMost, IsBelow}
use Rattle.lk_types.specs.declared.command.Request.{Request as RequestValue}
use Rattle.lk_types.specs.declared.genesis.Genesis.{Genesis}
use Rattle.lk_types.specs.declared.member.Member.{Member}
use Rattle.lk_types.specs.declared.vote.Vote.{Vote}
use Rattle.lk_store_format.specs.Entries.{plain}
use Rattle.lk_store_format.specs.Values.{HeaderValue}
use Rattle.lk_messages.specs.Grammar.{IsMessage, spelling}
use Rattle.lk_messages.specs.declared.message.Answered.{Answered}
use Rattle.lk_messages.specs.declared.message.Content.{Content}
use Rattle.lk_messages.specs.declared.message.Content.TheVariants as content
use Rattle.lk_messages.specs.declared.message.NodeMessage.TheVariants as kinds
use Rattle.lk_agreement_laws.proofs.Histories.{cons_cases, contains_more}
use Rattle.lk_agreement_laws.specs.Datagrams.{said_by}
use Rattle.lk_agreement_laws.specs.declared.party.Party.TheVariants as party
use Rattle.lk_members.specs.Effects.{Request}
use Rattle.lk_members.specs.Nodes.{nodes_of}
use Rattle.lk_state.specs.Meanings.{KeepsTexts, Meaning}
use Rattle.lk_state.specs.Runs.{session_for}
use Rattle.lk_state.specs.Sessions.{session_of, is_new}
use Rattle.lk_acceptor.specs.AcceptorValue.{AcceptorValue}
use Rattle.lk_leader.specs.Terms.{LeaderValue, TermValue}
use Rattle.lk_leader.specs.Waits.{waiting_of}
use Rattle.lk_learner.specs.Learners.{LearnerValue, alpha, executed}
use Rattle.lk_node_interface.specs.Envelopes.{EnvelopeValue}
use Rattle.lk_node_interface.specs.declared.note.Note.TheVariants as note
use Rattle.lk_node.specs.Leavings.{header_of}
use Rattle.lk_node.specs.Nearness.{AreNear}
use Rattle.lk_node.specs.NodeValue.{NodeValue}
use Rattle.lk_node.specs.Telling.{envelope_to}
use Rattle.lk_node.specs.Yielding.{with_round}
use Rattle.lk_progress.proofs.Exchanges.{carried}
use Rattle.lk_progress.proofs.Hearing.{Handled, handled, proposed_header, same_acceptor, same_learner}
use Rattle.lk_progress.proofs.Proposing.{goes_on_proposing, goes_on_waiting}
use Rattle.lk_progress.proofs.Rejecting.{keeps_header, keeps_leader}
use Rattle.lk_progress.specs.Answering.{WaitsFresh, answer_envelope}
use Rattle.lk_progress.specs.Deciding.{AcceptedRequestIsAnswered, AsksMembers, FreshRequestIsProposed, HasProposed}
use Rattle.lk_progress.specs.Deciding.{NearNodeAccepts, acceptances, vote_for_next}
use Rattle.lk_progress.specs.Hearing.{TakesEach}
use Rattle.lk_progress.specs.Rejecting.{Accepts}
use Rattle.lk_rebases.specs.Pasts.{IsPlain}
use Rattle.lk_leftovers.proofs.Accepting.{near_vote}
use Rattle.lk_leftovers.specs.Accepting.{IsVoterAt}
use Rattle.lk_replica.specs.ReplicaValue.{ReplicaValue}
use Rattle.lk_sim.specs.Events.{IsAsked}
use Rattle.lk_sim.specs.WorldStates.{WorldState}
use Rattle.lk_sim.specs.Traces.{told_in}
use Rattle.lk_sim.specs.declared.event.Event.TheVariants as event
use Rattle.lk_sim_nodes.specs.declared.sim_node.RunState.{RunState}
use Rattle.lk_sim_nodes.specs.declared.sim_node.RunState.TheVariants.{Up}
use Rattle.lk_sim_nodes.specs.declared.sim_node.SimNode.{SimNode}
use Rattle.lk_world_progress.proofs.Balloting.{found_has}
use Rattle.lk_world_progress.proofs.Delivering.{EachHeard, HeardIt, TakesFrom, among, each_heard, heard_from}
use Rattle.lk_world_progress.proofs.Exchanging.{each_acceptance}
use Rattle.lk_world_progress.proofs.Noting.{answer_fits, from_trace, genesis_fits, header_fits, noted}
use Rattle.lk_world_progress.proofs.Sending.{sent_as}
use Rattle.lk_world_progress.proofs.Shadowing.{ShadowTakes, ShadowTakesAll, shadow_from, shadow_header, shadow_hears}
use Rattle.lk_world_progress.proofs.Shadowing.{shadow_in_turn, shadows_itself}
use Rattle.lk_world_progress.proofs.Stepping.{found_header, has_header, up_fits}
use Rattle.lk_world_progress.specs.Balloting.{HasSentTo}
use Rattle.lk_world_progress.specs.Delivering.{Hears, HearsEach, HearsInTurn, InstallsNothing}
use Rattle.lk_world_progress.specs.Exchanging.{HasAnswered, HasNoted}
use Rattle.lk_world_progress.specs.Stepping.{GoesWell, IsUpAs, Lives}
use Rattle.lk_world_leftovers.proofs.Keeping.{voter_snapshot}
use Rattle.lk_world_leftovers.specs.Answering.{IsReadyIn, IsServed, ReadyLeaderAnswers, Serves, vote_in}

-- The steps of a run, as far as it has come: first the request, then the votes, and then the replies.
module _ (m : Meaning) (IsText : List ℕ → Type 0) (proposes_law : FreshRequestIsProposed m IsText) (x : ℕ)
    (leader : ReplicaValue) (t : TermValue) (set : List Member) (r : RequestValue) (others : List ℕ)
    (first : WorldState ReplicaValue) (k : IsReadyIn m IsText first x leader t set others)
    (fresh : is_new (session_of r.client leader.node.learner.whole.sessions) r.number ≡ true)
    (requested : WorldState ReplicaValue) (requests : GoesWell m IsText first (event.Client x r) requested)
    (proposed : WorldState ReplicaValue) (proposes : Hears m IsText x (content.Request r) requested proposed) where
  abbrev e : ℕ
  e = executed leader.node.learner

  abbrev pub vote : Vote
  vote = vote_in leader t r

  abbrev accept : Content
  accept = content.Node x (kinds.Accept (vote_in leader t r))

  header_is : leader.node.header ≡ header_of first.genesis x
  header_is = has_header m IsText first k.holds x leader k.up

  number_is : leader.node.header.node ≡ x
  number_is = ap (λ (h : HeaderValue). h.node) header_is

  -- ---- the request

  asking : IsAsked first requested x r
  asking = requests.done.1

  requested_lives : (n : ℕ) (run_state : RunState ReplicaValue) → Lives first n run_state → Lives requested n run_state
  requested_lives n run_state l =
      subst (λ (sim_nodes : List (SimNode ReplicaValue)). Contains sim_nodes (record {
        number = n;
        run_state =
            run_state;
      }))
      (sym asking.sim_nodes) l

  request : TakesFrom m IsText x (content.Request r) requested proposed
  request = heard_from m IsText x (content.Request r) requested proposed proposes

  one : ShadowTakes m IsText leader.node (content.Request r) request.after.node request.out
  one = shadow_from m IsText leader.node x (content.Request r) requested proposed leader requests.after
      (requested_lives x (Up leader) k.up) tt request
      (shadows_itself leader.node (omega (arith, k.own.within)) k.own.from.near.snapshot) tt

  abbrev asked : NodeValue
  asked = one.shadow_after

  asks : AsksMembers leader.node t set r asked request.out
  asks = proposes_law leader.node asked t set r request.out k.ready fresh one.takes

  asked_votes : IsVoterAt asked t.ballot (e + 1)
  asked_votes = record {
    from = record {
      near = subst (λ (l : LearnerValue). AreNear asked.acceptor l) (sym asks.learner)
          (subst (λ (a : AcceptorValue). AreNear a leader.node.learner) (sym asks.acceptor) k.own.from.near);
      ballot = subst (λ (a : AcceptorValue). IsAtMost a.state.promised t.ballot) (sym asks.acceptor)
          k.own.from.ballot;
      above = omega (arith, ap (λ (l : LearnerValue). executed l) asks.learner);
      older = subst (λ (a : AcceptorValue). (v : Vote) → Contains a.state.votes v → e + 1 ≤ v.position
          → IsBelow v.ballot t.ballot) (sym asks.acceptor) k.own.from.older;
    };
    within = omega (
      arith,
      k.own.within,
      ap (λ (l : LearnerValue). executed l) asks.learner,
      ap (λ (l : LearnerValue). alpha l) asks.learner,
    );
  }

  ballot_is : asks.term.ballot ≡ t.ballot
  ballot_is = ap (λ (v : Vote). v.ballot) asks.vote

  pub proposed_sent : (n : ℕ) → Contains (nodes_of set) n → HasSentTo proposed x n (kinds.Accept vote)
  proposed_sent n d = sent_as requested proposed x n leader.node (kinds.Accept vote)
      (has_header m IsText requested requests.after x leader (requested_lives x (Up leader) k.up))
      request.genesis
      (among x request.out.envelopes requested proposed request.sent
      (envelope_to leader.node (kinds.Accept vote) n) (asks.told n d))

  module _ (near_law : NearNodeAccepts m IsText) (polled : WorldState ReplicaValue)
      (polls : HearsEach m IsText (content.Node x (kinds.Accept (vote_in leader t r))) (x ∷ others) proposed polled)
    where
      -- ---- the votes

      accepted : EachHeard m IsText accept (x ∷ others) proposed polled
      accepted = each_heard m IsText accept (x ∷ others) proposed polled proposes.goes.after tt k.distinct
          polls

      own_vote : HeardIt m IsText x accept request.after polled
      own_vote = accepted.heard x request.after (0, omega arith, refl) request.is

      two : ShadowTakes m IsText asked accept own_vote.after.node own_vote.out
      two = shadow_hears m IsText asked x accept request.after polled own_vote one.shadows
          (omega (arith, ap (λ (l : LearnerValue). executed l) asks.learner))

      abbrev voted : NodeValue
      voted = two.shadow_after

      casts : Accepts asked x vote voted own_vote.out
      casts = near_law asked voted x vote own_vote.out (near_vote asked vote asked_votes) two.takes

      -- another node
      module _ (n : ℕ) (other : Contains others n) where
        apart : n ≡ x → ⊥
        apart is = k.distinct.0 (subst (λ (j : ℕ). Contains others j) is other)

        abbrev voter : ReplicaValue
        voter = (k.voters n other).0

        voter_up : IsUpAs proposed n voter
        voter_up = request.others n (Up voter) apart (requested_lives n (Up voter) (k.voters n other).1)

        voting : HeardIt m IsText n accept voter polled
        voting = accepted.heard n voter (contains_more x others n other) voter_up

        other_casts : Accepts voting.start x vote voting.after.node voting.out
        other_casts = near_law voting.start voting.after.node x vote voting.out
            (near_vote voting.start vote (found_has voter voting.start voting.found
            (λ node. IsVoterAt node t.ballot (e + 1)) (voter_snapshot voter.node t.ballot (e + 1))
            (k.voters n other).2))
            voting.takes

        other_sent : HasSentTo polled n x (kinds.Accepted vote)
        other_sent = sent_as proposed polled n x voting.start (kinds.Accepted vote)
            (found_header voter voting.start voting.found
            ∙ has_header m IsText proposed proposes.goes.after n voter voter_up) accepted.genesis
            (voting.sent (envelope_to voting.start (kinds.Accepted vote) x) other_casts.told)

      own_sent : HasSentTo polled x x (kinds.Accepted vote)
      own_sent = sent_as proposed polled x x asked (kinds.Accepted vote)
          (shadow_header asked request.after.node one.shadows
          ∙ has_header m IsText proposed proposes.goes.after x request.after request.is) accepted.genesis
          (own_vote.sent (envelope_to asked (kinds.Accepted vote) x) casts.told)

      pub replied : (n : ℕ) → Contains (x ∷ others) n → HasSentTo polled n x (kinds.Accepted vote)
      replied n c = elim (cons_cases x others n c) [
        | inl is ↦ subst (λ (j : ℕ). HasSentTo polled j x (kinds.Accepted vote)) is own_sent
        | inr other ↦ other_sent n other
      ]

      module _ (keeps : KeepsTexts IsText m) (answers_law : AcceptedRequestIsAnswered m IsText)
          (last : WorldState ReplicaValue)
          (replies : HearsInTurn m IsText x (acceptances (x ∷ others) (vote_in leader t r)) polled last) where
        -- ---- the replies

        three : ShadowTakesAll m IsText x (acceptances (x ∷ others) (vote_in leader t r)) voted polled last
        three = shadow_in_turn m IsText x (acceptances (x ∷ others) (vote_in leader t r)) voted polled last
            own_vote.after accepted.holds own_vote.is two.shadows
            (each_acceptance InstallsNothing (vote_in leader t r) (λ n. tt) (x ∷ others))
            (each_acceptance (λ y. (i : ℕ) → IsPlain i y) (vote_in leader t r) (λ n i. tt) (x ∷ others)) replies

        voted_learner : voted.learner ≡ leader.node.learner
        voted_learner = casts.learner ∙ asks.learner

        module _ (h : Handled m IsText asked accept voted own_vote.out) where
          voted_leader : h.mid.leader ≡ asked.leader
          voted_leader = keeps_leader (with_round t.ballot asked) h.mid x _ h.first h.handles asks.term
              asks.proposed.current
              (ap (λ (a : AcceptorValue). a.state.promised)
              (sym (same_acceptor m IsText asked accept voted own_vote.out h))
              ∙ ap (λ (a : AcceptorValue). a.state.promised) casts.acceptor ∙ sym ballot_is)

          proposing : HasProposed h.mid asks.term set (Request r) []
          proposing = carried asked h.mid asks.term set (Request r) [] asks.proposed voted_leader
              (sym (same_learner m IsText asked accept voted own_vote.out h) ∙ casts.learner)

          still : (u : TermValue) × (u.ballot ≡ asks.term.ballot) × HasProposed voted u set (Request r) []
          still = goes_on_proposing h.proposes.0 h.mid voted h.first own_vote.out asks.term set (Request r) []
              h.proposes.1
              proposing

          waits : WaitsFresh voted r
          waits = record {
            waits = subst (λ (rs : List RequestValue). waiting_of r.client rs ≡ Some r)
                (sym (goes_on_waiting h.proposes.0 h.mid voted h.first own_vote.out h.proposes.1
                ∙ ap (λ (l : LeaderValue). l.waiting) voted_leader)) asks.waits.waits;
            fresh = subst (λ (l : LearnerValue). is_new (session_of r.client l.whole.sessions) r.number ≡ true)
                (sym voted_learner) fresh;
          }

          voted_header : voted.header ≡ leader.node.header
          voted_header = proposed_header h.proposes.0 h.mid voted h.first own_vote.out h.proposes.1
              ∙ keeps_header (with_round t.ballot asked) h.mid x _ h.first h.handles ∙ asks.header

          vote_is : vote_for_next voted still.0 (Request r) ≡ vote_in leader t r
          vote_is = λ i. record {
            position = executed (voted_learner i) + 1;
            ballot = (still.1 ∙ ballot_is) i;
            command = Request r;
          }

          answer_told : Contains three.envelopes (answer_envelope m leader.node r)
          answer_told = subst (λ (l : EnvelopeValue). Contains three.envelopes l)
              (λ i. answer_envelope m (record leader.node { header = voted_header i; learner = voted_learner i }) r)
              (answers_law voted three.shadow_after still.0 set r [] (x ∷ others) three.envelopes still.2
              waits k.majority
              (subst (λ (v : Vote). TakesEach m IsText (acceptances (x ∷ others) v) voted three.shadow_after
              three.envelopes)
              (sym vote_is) three.takes))

        genesis_is : last.genesis ≡ first.genesis
        genesis_is = three.genesis ∙ accepted.genesis ∙ request.genesis ∙ asking.adds.genesis

        -- ---- the answer

        abbrev answer : Answered
        answer =
            record { client = r.client; number = r.number; answer = (session_for m leader.node.learner.whole r).answer }

        answer_from : Contains last.sent (record {
          from = party.Node x;
          to = party.Client r.client;
          bytes = spelling (said_by last.genesis x (kinds.Answer answer));
        })
        answer_from = subst (λ (g : Genesis). Contains last.sent (record {
          from = party.Node x;
          to = party.Client r.client;
          bytes = spelling (said_by g x (kinds.Answer answer));
        })) (sym genesis_is)
            (subst (λ (h : HeaderValue). Contains last.sent (record {
              from = party.Node x;
              to = party.Client r.client;
              bytes = spelling (record { cluster = h.cluster; content = content.Node h.node (kinds.Answer answer) });
            })) header_is
            (among x three.envelopes polled last three.sent (answer_envelope m leader.node r)
            (answer_told (handled m IsText asked accept voted own_vote.out two.takes))))

        answer_sent : HasAnswered m last leader.node r
        answer_sent = subst (λ (n : ℕ). Contains last.sent (record {
          from = party.Node n;
          to = party.Client r.client;
          bytes = spelling (said_by last.genesis n (kinds.Answer answer));
        })) (sym number_is) answer_from

        answer_valid : IsMessage (said_by last.genesis x (kinds.Answer answer))
        answer_valid =
            let u = up_fits m IsText first k.holds x leader k.up in
            let kept = u.shown.keeps in
            let h = header_fits kept.entries (plain kept.loose) first.genesis x kept.header kept.holds.on.fit in
            let asked_fits = proposes.spelled.0.1 in
            subst (λ (g : Genesis). IsMessage (said_by g x (kinds.Answer answer))) (sym genesis_is) (
              h.0,
              (
                h.1,
                (
                  asked_fits.0,
                  asked_fits.1,
                  answer_fits m IsText keeps first.genesis first.sent u.holding.paxos.done leader.node.learner.whole r
                      (genesis_fits first.genesis x h) u.fits.paxos.stems.done u.shown.held.follows.sums
                      k.ready.room asked_fits fresh,
                ),
              ),
            )

        answer_noted : HasNoted m last leader.node r
        answer_noted = subst (λ (n : ℕ). Contains last.trace (note.Answered n r.client r.number answer.answer))
            (sym number_is)
            (from_trace last.trace (note.Answered x r.client r.number answer.answer)
            (noted last.sent (told_in last.trace) three.holds.told (record {
              from = party.Node x;
              to = party.Client r.client;
              bytes = spelling (said_by last.genesis x (kinds.Answer answer));
            }) answer_from (said_by last.genesis x (kinds.Answer answer)) (answer_valid, refl)
            (note.Answered x r.client r.number answer.answer) (0, omega arith, refl)))

        abbrev run : Serves m IsText x leader t r others first last
        run = record {
          requested = requested;
          requests = requests;
          proposed = proposed;
          proposes = proposes;
          accepted = polled;
          accepts = polls;
          replies = replies;
        }

        served : IsServed m IsText x leader t set r others first last run
        served = record {
          proposes = proposed_sent;
          accepts = replied;
          answers = answer_sent;
          notes = answer_noted;
        }

pub ready_answers : (m : Meaning) (IsText : List ℕ → Type 0) → KeepsTexts IsText m → FreshRequestIsProposed m IsText
    → NearNodeAccepts m IsText → AcceptedRequestIsAnswered m IsText → ReadyLeaderAnswers m IsText
ready_answers m IsText keeps proposes_law near_law answers_law x leader t set r others first last k fresh run =
    served m IsText proposes_law x leader t set r others first k fresh run.requested run.requests run.proposed
    run.proposes near_law run.accepted run.accepts keeps answers_law last run.replies
