-- The steps of one exchange fit together: what each takes, one before has sent.
use Rattle.std.proofs.Common.{◌≡◌, ◌∙◌, ◌⊎◌, inl, inr, ℕ, ◌+◌, ◌≤◌, true, false, nat_le, List, [], ◌∷◌}
use Rattle.std.proofs.Common.{map, Contains, Some, refl, ap, sym, subst, arith}
use Rattle.std.proofs.Common.{◌==◌}
use Rattle.std.proofs.lemmas.Bool.{cases_Bool, eq-eqb}
use Rattle.std.proofs.lemmas.Bool.Decides.{nat_tests}
use Rattle.lk_acceptor.specs.AcceptorValue.{AcceptorValue}
use Rattle.lk_acceptor.specs.States.{with_state}
use Rattle.lk_acceptor.specs.VoteLists.{votes_from}
use Rattle.lk_agreement_laws.proofs.Histories.{at_most_below, below_self, cons_cases, contains_more}
use Rattle.lk_agreement_laws.specs.Changes.{with_promise}
use Rattle.lk_leader.specs.Proposing.{AreMembersAt}
use Rattle.lk_leader.specs.Terms.{TermValue, LeaderValue, begun, proposal_at, with_term}
use Rattle.lk_leader.specs.Values.{is_changing_at}
use Rattle.lk_leader.specs.Waits.{waiting_of}
use Rattle.lk_learner.specs.Learners.{LearnerValue, IsNext, executed, alpha}
use Rattle.lk_members.specs.Effects.{Command, RequestValue, Request}
use Rattle.lk_members.specs.Majorities.{IsMajority}
use Rattle.lk_members.specs.Rosters.{is_member}
use Rattle.lk_messages.specs.declared.message.Content.TheVariants as content
use Rattle.lk_messages.specs.declared.message.NodeMessage.TheVariants as kinds
use Rattle.lk_node.specs.Beginning.{next_ballot}
use Rattle.lk_node.specs.Nearness.{AreNear}
use Rattle.lk_node.specs.NodeValue.{NodeValue}
use Rattle.lk_node.specs.Telling.{envelope_to}
use Rattle.lk_node.specs.Yielding.{with_round}
use Rattle.lk_node_interface.specs.Outboxes.{OutboxValue}
use Rattle.lk_node_interface.specs.Envelopes.{EnvelopeValue}
use Rattle.lk_progress.proofs.Deciding.{accepted_answered, near_accepts}
use Rattle.lk_progress.proofs.Electing.{due_asks, named_by}
use Rattle.lk_progress.proofs.Hearing.{Handled, handled, proposed_header, same_acceptor, same_learner}
use Rattle.lk_progress.proofs.Proposing.{goes_on_proposing, goes_on_waiting, next_set, request_proposed, some_set}
use Rattle.lk_progress.proofs.Quiet.{IsCollecting, collects, proposes_nothing}
use Rattle.lk_progress.proofs.Rejecting.{keeps_header, keeps_leader, prepare_has_cause}
use Rattle.lk_progress.specs.Answering.{WaitsFresh, answer_envelope}
use Rattle.lk_progress.specs.Deciding.{acceptances, vote_for_next, AsksMembers, HasProposed, IsNearVote, IsReady}
use Rattle.lk_progress.specs.Electing.{AsksWindow}
use Rattle.lk_progress.specs.Exchanges.{Exchanges, IsQuietCandidate, IsQuietVoter, QuietMajorityAnswers, Succeeds}
use Rattle.lk_progress.specs.Exchanges.{Votes, prepare_by, vote_by}
use Rattle.lk_progress.specs.Hearing.{Hears, TakesEach}
use Rattle.lk_progress.specs.Rejecting.{Promises, RejectsPrepare, Accepts}
use Rattle.lk_state.specs.Meanings.{Meaning}
use Rattle.lk_state.specs.Sessions.{session_of, is_new}
use Rattle.lk_types.specs.BallotValue.{BallotValue}
use Rattle.lk_types.specs.Ballots.{IsBelow}
use Rattle.lk_types.specs.declared.member.Member.{Member}
use Rattle.lk_types.specs.declared.vote.Vote.{Vote}

-- ---- a quiet acceptor

-- it has no vote to report
none_from : (e : ℕ) (votes : List Vote) → ((v : Vote) → Contains votes v → v.position ≤ e)
    → votes_from (e + 1) votes ≡ []
none_from e [] low = refl
none_from e (v ∷ votes) low =
    let here = low v (0, omega arith, refl) in
    let out : nat_le (e + 1) v.position ≡ false = grind (arith, nat_tests) in
    rw out (none_from e votes (λ w c. low w (contains_more v votes w c)))

record PromisesQuietly (old : NodeValue) (from : ℕ) (b : BallotValue) (e : ℕ) (new : NodeValue)
    (out : OutboxValue) : Type 0 where
  acceptor : new.acceptor ≡ with_state old.acceptor (with_promise old.acceptor.state b)
  learner : new.learner ≡ old.learner
  told : Contains out.envelopes
      (envelope_to old (kinds.Promise (record { ballot = b; first = e + 1; votes = [] })) from)

promises_quietly : (m : Meaning) (IsText : List ℕ → Type 0) (old new : NodeValue) (from : ℕ) (b : BallotValue) (e : ℕ)
    (out : OutboxValue) → IsQuietVoter old b e → Hears m IsText old from (kinds.Prepare b (e + 1)) new out
    → PromisesQuietly old from b e new out
promises_quietly m IsText old new from b e out quiet takes =
    by_cause (prepare_has_cause m IsText old new from b (e + 1) out quiet.near takes)
  where
    why_not : IsBelow b old.acceptor.state.promised ⊎ (e + 1 ≤ executed old.learner) → ⊥
    why_not (inl greater) = below_self old.acceptor.state.promised
        (at_most_below old.acceptor.state.promised b old.acceptor.state.promised quiet.ballot greater)
    why_not (inr ahead) = omega (arith, ahead, quiet.behind)

    by_cause : Promises old from b (e + 1) new out ⊎ RejectsPrepare old from b (e + 1) new out
        → PromisesQuietly old from b e new out
    by_cause (inr rejects) = absurd (why_not rejects.why)
    by_cause (inl promises) = record {
      acceptor = promises.acceptor;
      learner = promises.learner;
      told = subst (λ (votes : List Vote). Contains out.envelopes
          (envelope_to old (kinds.Promise (record { ballot = b; first = e + 1; votes = votes })) from))
          (none_from e old.acceptor.state.votes quiet.votes) promises.told;
    }

-- after its promise it is near the vote at the next position
near_after : (old new : NodeValue) (b : BallotValue) (e : ℕ) (v : Command) → IsQuietVoter old b e
    → new.acceptor ≡ with_state old.acceptor (with_promise old.acceptor.state b) → new.learner ≡ old.learner
    → IsNearVote new (record { position = e + 1; ballot = b; command = v })
near_after old new b e v quiet acceptor learner = record {
  near = subst (λ (l : LearnerValue). AreNear new.acceptor l) (sym learner)
      (subst (λ (a : AcceptorValue). AreNear a old.learner) (sym acceptor) (record {
        alpha_is = quiet.near.alpha_is;
        snapshot = quiet.near.snapshot;
        votes = quiet.near.votes;
      }));
  ballot = inr (ap (λ (a : AcceptorValue). a.state.promised) acceptor);
  above = omega (arith, ap (λ (l : LearnerValue). executed l) learner, quiet.behind);
  within = omega (
    arith,
    ap (λ (l : LearnerValue). executed l) learner,
    ap (λ (l : LearnerValue). alpha l) learner,
    quiet.within,
  );
  agrees = λ w c here. absurd (omega (
    arith,
    here,
    quiet.votes w
        (subst (λ (a : AcceptorValue). Contains a.state.votes w) acceptor c),
  ));
}

-- what depends on a node's leader and learner alone
pub carried : (old new : NodeValue) (t : TermValue) (set : List Member) (v : Command) (accepted : List ℕ)
    → HasProposed old t set v accepted → new.leader ≡ old.leader → new.learner ≡ old.learner
    → HasProposed new t set v accepted
carried old new t set v accepted has leader learner = record {
  current = ap (λ (l : LeaderValue). l.term) leader ∙ has.current;
  members = subst (λ (l : LearnerValue). AreMembersAt l.whole.roster (executed l + 1) set) (sym learner) has.members;
  proposal = subst (λ (l : LearnerValue). proposal_at (executed l + 1) t.proposals
      ≡ Some (record { position = executed l + 1; command = v; accepted = accepted })) (sym learner) has.proposal;
  few = has.few;
  known = subst (λ (l : LearnerValue). (w : Command) → IsNext l w → ⊥) (sym learner) has.known;
}

pub node_named : (set : List Member) (n : ℕ) → Contains (map (λ (m : Member). m.node) set) n → is_member n set ≡ true
node_named [] n c = absurd (omega (arith, c.1))
node_named (m ∷ set) n c =
    elim (cases_Bool (m.node == n)) [
      | inl same ↦ rw same refl
      | inr other ↦ elim (cons_cases m.node (map (λ (x : Member). x.node) set) n c) [
        | inl is ↦ absurd (cc (sym other ∙ eq-eqb m.node n is))
        | inr later ↦ rw other (node_named set n later)
      ]
    ]

-- ---- the candidate's steps

module _ (m : Meaning) (IsText : List ℕ → Type 0) (c : NodeValue) (set : List Member) (r : RequestValue)
    (others : List ℕ) (quiet : IsQuietCandidate c set) (major : IsMajority (c.header.node ∷ others) set)
    (fresh : is_new (session_of r.client c.learner.whole.sessions) r.number ≡ true)
    (k : Exchanges m IsText c r others) where
  asks : AsksWindow c k.first k.asking
  asks = due_asks c k.first k.asking quiet.due k.ticks

  first_learner : k.first.learner ≡ c.learner
  first_learner = ap (λ (node : NodeValue). node.learner) asks.becomes

  first_leader : k.first.leader ≡ with_term (begun (next_ballot c)) c.leader
  first_leader = ap (λ (node : NodeValue). node.leader) asks.becomes

  first_term : k.first.leader.term ≡ Some (begun (next_ballot c))
  first_term = ap (λ (l : LeaderValue). l.term) first_leader

  some : 1 ≤ alpha c.learner
  some = some_set c.learner.whole.roster set quiet.members

  first_quiet : IsQuietVoter k.first (next_ballot c) (executed c.learner)
  first_quiet = subst (λ (node : NodeValue). IsQuietVoter node (next_ballot c) (executed c.learner)) (sym asks.becomes)
      (record {
        near = record {
          alpha_is = quiet.near.alpha_is;
          snapshot = quiet.near.snapshot;
          votes = quiet.near.votes;
        };
        ballot = inr refl;
        behind = omega arith;
        within = omega (arith, some);
        votes = quiet.votes;
      })

  -- its own promise
  second : PromisesQuietly k.first c.header.node (next_ballot c) (executed c.learner) k.second k.promising
  second = promises_quietly m IsText k.first k.second c.header.node (next_ballot c) (executed c.learner) k.promising
      first_quiet k.promises_itself

  abbrev promised : AcceptorValue
  promised = with_state k.first.acceptor (with_promise k.first.acceptor.state (next_ballot c))

  second_learner : k.second.learner ≡ c.learner
  second_learner = second.learner ∙ first_learner

  module _ (h : Handled m IsText k.first (content.Node c.header.node (prepare_by c)) k.second k.promising) where
    mid_leader : h.mid.leader ≡ k.first.leader
    mid_leader = keeps_leader k.first h.mid c.header.node _ h.first h.handles (begun (next_ballot c)) first_term
        (ap (λ (a : AcceptorValue). a.state.promised) (sym (same_acceptor m IsText k.first _ k.second k.promising h))
        ∙ ap (λ (a : AcceptorValue). a.state.promised) second.acceptor)

    mid_term : h.mid.leader.term ≡ Some (begun (next_ballot c))
    mid_term = ap (λ (l : LeaderValue). l.term) mid_leader ∙ first_term

    mid_waiting : h.mid.leader.waiting ≡ []
    mid_waiting = ap (λ (l : LeaderValue). l.waiting) (mid_leader ∙ first_leader) ∙ quiet.waiting

    mid_learner : h.mid.learner ≡ c.learner
    mid_learner = sym (same_learner m IsText k.first _ k.second k.promising h) ∙ second_learner

    unchanged : k.second ≡ h.mid
    unchanged = proposes_nothing h.mid k.second h.first k.promising (begun (next_ballot c)) h.proposes mid_term
        mid_waiting (λ q d. absurd (omega (arith, d.1)))
        (subst (λ (l : LearnerValue). is_changing_at l.whole.roster (executed l + 1) ≡ false) (sym mid_learner)
        quiet.unchanged)

    second_collects : IsCollecting c promised [] k.second
    second_collects = record {
      has = record {
        learner = second_learner;
        term = begun (next_ballot c);
        current = ap (λ (node : NodeValue). node.leader.term) unchanged ∙ mid_term;
        ballot = refl;
        each = λ q d. absurd (omega (arith, d.1));
        has = λ n d. absurd (omega (arith, d.1));
      };
      acceptor = second.acceptor;
      header = ap (λ (node : NodeValue). node.header) unchanged
          ∙ keeps_header k.first h.mid c.header.node _ h.first h.handles
          ∙ ap (λ (node : NodeValue). node.header) asks.becomes;
      waiting = ap (λ (node : NodeValue). node.leader.waiting) unchanged ∙ mid_waiting;
      empty = λ u is.
          let e : Some (begun (next_ballot c)) ≡ Some u =
          sym (ap (λ (node : NodeValue). node.leader.term) unchanged ∙ mid_term) ∙ is in
          let one : begun (next_ballot c) ≡ u = cc e in
          ap (λ (w : TermValue). w.proposals) (sym one);
    }

  -- the others' promises
  third : (all : List ℕ) × (g : IsCollecting c promised all k.third) × IsReady k.third g.has.term set
  third = collects m IsText c set promised (c.header.node ∷ others) k.second k.third k.leading quiet major
      (second_collects (handled m IsText k.first _ k.second k.promising k.promises_itself)) k.leads

  module _ (all : List ℕ) (g : IsCollecting c promised all k.third) (ready : IsReady k.third g.has.term set) where
    -- the request
    fourth : AsksMembers k.third g.has.term set r k.fourth k.proposing
    fourth = request_proposed m IsText k.third k.fourth g.has.term set r k.proposing ready
        (subst (λ (l : LearnerValue). is_new (session_of r.client l.whole.sessions) r.number ≡ true)
        (sym g.has.learner) fresh) k.proposes

    third_vote : vote_for_next k.third g.has.term (Request r) ≡ vote_by c r
    third_vote = λ i. record {
      position = executed (g.has.learner i) + 1;
      ballot = g.has.ballot i;
      command = Request r;
    }

    fourth_ballot : fourth.term.ballot ≡ next_ballot c
    fourth_ballot = ap (λ (x : Vote). x.ballot) (fourth.vote ∙ third_vote)

    fourth_near : IsNearVote k.fourth (vote_by c r)
    fourth_near = near_after k.first k.fourth (next_ballot c) (executed c.learner) (Request r) first_quiet
        (fourth.acceptor ∙ g.acceptor) (fourth.learner ∙ g.has.learner ∙ sym first_learner)

    -- its own vote
    fifth : Accepts k.fourth c.header.node (vote_by c r) k.fifth k.accepting
    fifth = near_accepts m IsText k.fourth k.fifth c.header.node (vote_by c r) k.accepting fourth_near k.accepts_itself

    fifth_learner : k.fifth.learner ≡ c.learner
    fifth_learner = fifth.learner ∙ fourth.learner ∙ g.has.learner

    module _ (h : Handled m IsText k.fourth (content.Node c.header.node (kinds.Accept (vote_by c r))) k.fifth
        k.accepting) where
      voted_leader : h.mid.leader ≡ k.fourth.leader
      voted_leader = keeps_leader (with_round (next_ballot c) k.fourth) h.mid c.header.node _ h.first h.handles
          fourth.term fourth.proposed.current
          (ap (λ (a : AcceptorValue). a.state.promised) (sym (same_acceptor m IsText k.fourth _ k.fifth k.accepting h))
          ∙ ap (λ (a : AcceptorValue). a.state.promised) fifth.acceptor ∙ sym fourth_ballot)

      voted : HasProposed h.mid fourth.term set (Request r) []
      voted = carried k.fourth h.mid fourth.term set (Request r) [] fourth.proposed voted_leader
          (sym (same_learner m IsText k.fourth _ k.fifth k.accepting h) ∙ fifth.learner)

      still : (u : TermValue) × (u.ballot ≡ fourth.term.ballot) × HasProposed k.fifth u set (Request r) []
      still = goes_on_proposing h.proposes.0 h.mid k.fifth h.first k.accepting fourth.term set (Request r) []
          h.proposes.1 voted

      waits : WaitsFresh k.fifth r
      waits = record {
        waits = subst (λ (rs : List RequestValue). waiting_of r.client rs ≡ Some r)
            (sym (goes_on_waiting h.proposes.0 h.mid k.fifth h.first k.accepting h.proposes.1
            ∙ ap (λ (l : LeaderValue). l.waiting) voted_leader)) fourth.waits.waits;
        fresh = subst (λ (l : LearnerValue). is_new (session_of r.client l.whole.sessions) r.number ≡ true)
            (sym fifth_learner) fresh;
      }

      fifth_header : k.fifth.header ≡ c.header
      fifth_header = proposed_header h.proposes.0 h.mid k.fifth h.first k.accepting h.proposes.1
          ∙ keeps_header (with_round (next_ballot c) k.fourth) h.mid c.header.node _ h.first h.handles
          ∙ fourth.header ∙ g.header

      -- the others' votes
      answered : Contains k.answering (answer_envelope m c r)
      answered = subst (λ (l : EnvelopeValue). Contains k.answering l)
          (λ i. answer_envelope m (record c { header = fifth_header i; learner = fifth_learner i }) r)
          (accepted_answered m IsText k.fifth k.sixth still.0 set r [] (c.header.node ∷ others) k.answering still.2
          waits
          major
          (subst (λ (x : Vote). TakesEach m IsText (acceptances (c.header.node ∷ others) x) k.fifth k.sixth k.answering)
          (sym vote_is) k.answers))
        where
          vote_is : vote_for_next k.fifth still.0 (Request r) ≡ vote_by c r
          vote_is = λ i. record {
            position = executed (fifth_learner i) + 1;
            ballot = (still.1 ∙ fourth_ballot) i;
            command = Request r;
          }

    succeeds : Succeeds m IsText c set r others k
    succeeds = record {
      asks = λ n d above. asks.told n above
          (named_by c.learner.whole.roster.sets set n (next_set c.learner.whole.roster set quiet.members)
          (node_named set n d));
      promises_itself = second.told;
      promises = λ n other. (other_promises (k.votes n other)).told;
      proposes = λ n d. subst (λ (x : Vote). Contains k.proposing.envelopes (envelope_to k.third (kinds.Accept x) n))
          third_vote (fourth.told n d);
      accepts_itself = fifth.told;
      accepts = λ n other. other_accepts (k.votes n other);
      answers = answered (handled m IsText k.fourth _ k.fifth k.accepting k.accepts_itself);
    }
      where
        other_promises : {n : ℕ} (v : Votes m IsText c r n)
            → PromisesQuietly v.first c.header.node (next_ballot c) (executed c.learner) v.second v.promising
        other_promises v = promises_quietly m IsText v.first v.second c.header.node (next_ballot c)
            (executed c.learner) v.promising v.quiet v.promises

        other_accepts : {n : ℕ} (v : Votes m IsText c r n)
            → Contains v.accepting.envelopes (envelope_to v.second (kinds.Accepted (vote_by c r)) c.header.node)
        other_accepts v =
            let p : PromisesQuietly v.first c.header.node (next_ballot c) (executed c.learner) v.second v.promising =
            promises_quietly m IsText v.first v.second c.header.node (next_ballot c) (executed c.learner)
            v.promising v.quiet v.promises in
            (near_accepts m IsText v.second v.third c.header.node (vote_by c r) v.accepting
            (near_after v.first v.second (next_ballot c) (executed c.learner) (Request r) v.quiet p.acceptor p.learner)
            v.accepts).told

pub quiet_answers : (m : Meaning) (IsText : List ℕ → Type 0) → QuietMajorityAnswers m IsText
quiet_answers m IsText candidate set r others quiet major fresh k =
    let g = third m IsText candidate set r others quiet major fresh k in
    succeeds m IsText candidate set r others quiet major fresh k g.0 g.1 g.2
