-- A candidate that has no rival any more answers.
use Rattle.std.proofs.Common.{◌≡◌, ◌∙◌, inl, inr, ℕ, ◌+◌, ◌*◌, ◌<◌, ◌≤◌, List, [], ◌∷◌, map, Contains, ap, sym, subst}
use Rattle.std.proofs.Common.{arith}
use Rattle.lk_types.specs.Ballots.{IsAtMost}
use Rattle.lk_types.specs.declared.command.Request.{Request as RequestValue}
use Rattle.lk_store_format.specs.Values.{HeaderValue}
use Rattle.lk_agreement_laws.proofs.Histories.{at_most_unless_below, cons_cases}
use Rattle.lk_members.specs.Majorities.{IsMajority}
use Rattle.lk_members.specs.Rosters.{is_member}
use Rattle.lk_state.specs.Meanings.{Meaning}
use Rattle.lk_learner.specs.Learners.{alpha, executed}
use Rattle.lk_node.proofs.Nodes.{map_has}
use Rattle.lk_node.specs.Beginning.{next_ballot}
use Rattle.lk_node.specs.Executing.{NothingToRun}
use Rattle.lk_node.specs.Nearness.{AreNear}
use Rattle.lk_replica.specs.ReplicaValue.{ReplicaValue}
use Rattle.lk_sim.specs.WorldStates.{WorldState}
use Rattle.lk_world_progress.proofs.Stepping.{has_header, one_replica}
use Rattle.lk_world_progress.specs.Delivering.{AreDistinct}
use Rattle.lk_world_progress.specs.Exchanging.{number_of}
use Rattle.lk_world_progress.specs.Stepping.{IsUpAs}
use Rattle.lk_world_leftovers.proofs.Retrying.{waited}
use Rattle.lk_world_leftovers.specs.Exchanging.{WorldWithLeftoversAnswers}
use Rattle.lk_world_leftovers.specs.Filling.{PairsUpTo}
use Rattle.lk_world_leftovers.specs.Fixed.{FixedWorldHasLeftovers, FreshRequestsAreNew, IsFresh, NobodyIsAhead}
use Rattle.lk_world_leftovers.specs.Persisting.{AreFixed, Contends, HasAnsweredInTime, HasPersisted}
use Rattle.lk_world_leftovers.specs.Persisting.{MayVote, Persists}
use Rattle.lk_world_leftovers.specs.Persisting.{PersistingCandidateAnswers, RejectionsAreFew, VotesUpTo}

-- ---- the answer

module _ (m : Meaning) (IsText : List ℕ → Type 0) (few_law : RejectionsAreFew m IsText)
    (fixed_law : FixedWorldHasLeftovers m IsText) (new_law : FreshRequestsAreNew m IsText)
    (answers_law : WorldWithLeftoversAnswers m IsText) (x e top : ℕ)
    (others : List ℕ) (highest : ℕ) (r : RequestValue) (first last : WorldState ReplicaValue)
    (k : Contends m IsText first x e top others highest) (ahead_of : top ≤ e) (low : e ≤ highest)
    (room : highest < 281474976710656)
    (run : Persists m IsText x others r first last) (fixed : AreFixed run.ready x others)
    (fresh : IsFresh run.exchanges.ready r) where
  persisted : HasPersisted m IsText x e top others highest run.rivals run.retried
  persisted = few_law x e top others highest run.rivals first run.retried k run.retries

  ready : Contends m IsText run.ready x e top others highest
  ready = (waited m IsText x e top others highest run.ticks run.retried run.ready persisted.contends run.waits).contends

  is_candidate : ready.candidate ≡ run.candidate
  is_candidate = one_replica m IsText run.ready ready.holds x ready.candidate run.candidate ready.up run.up

  number_is : number_of run.candidate ≡ x
  number_is = ap (λ (h : HeaderValue). h.node) (has_header m IsText run.ready ready.holds x run.candidate run.up)

  on : (P : ReplicaValue → Type 0) → P ready.candidate → P run.candidate
  on P p = subst P is_candidate p

  reach : executed run.candidate.node.learner ≡ e
  reach = on (λ q. executed q.node.learner ≡ e) ready.reach

  -- the numbers of the voters are the others'
  others_are : map number_of run.voters ≡ others
  others_are = tail_same (number_of run.candidate) x (map number_of run.voters) others run.numbers
    where
      tail_same : (n k : ℕ) (ns ks : List ℕ) → n ∷ ns ≡ k ∷ ks → ns ≡ ks
      tail_same n k ns ks is = cc is

  one_of : (q : ReplicaValue) → Contains run.voters q → Contains others (number_of q)
  one_of q c = subst (λ (ns : List ℕ). Contains ns (number_of q)) others_are (map_has number_of run.voters q c)

  module _ (q : ReplicaValue) (c : Contains run.voters q) where
    abbrev may : MayVote run.ready top highest (number_of q)
    may = ready.others_may (number_of q) (one_of q c)

    is_voter : may.replica ≡ q
    is_voter = one_replica m IsText run.ready ready.holds (number_of q) may.replica q may.up (run.voters_up q c)

    of_voter : (P : ReplicaValue → Type 0) → P may.replica → P q
    of_voter P p = subst P is_voter p

    not_above : IsAtMost q.node.acceptor.state.promised (next_ballot run.candidate.node)
    not_above = at_most_unless_below q.node.acceptor.state.promised (next_ballot run.candidate.node)
        (λ above. run.no_rival (number_of q) (one_of q c) run.candidate run.up
        (record { replica = q; up = run.voters_up q c; above = above }))

  ahead : NobodyIsAhead m IsText run.ready run.candidate run.voters highest
  ahead = record {
    holds = ready.holds;
    changes = fixed.changes;
    up = subst (λ (n : ℕ). IsUpAs run.ready n run.candidate) (sym number_is) run.up;
    due = run.due;
    named = ap (λ (n : ℕ). is_member n run.ready.genesis.members) number_is ∙ fixed.named;
    idle = on (λ q. q.node.leader.waiting ≡ []) ready.waiting;
    known = on (λ q. NothingToRun q.node) ready.known;
    near = on (λ q. AreNear q.node.acceptor q.node.learner) ready.near;
    within = omega (arith, reach, low);
    others_up = run.voters_up;
    others_near = λ q c. of_voter q c (λ y. AreNear y.node.acceptor y.node.learner) (may q c).near;
    ballot = not_above;
    behind = λ q c. of_voter q c (λ y. executed y.node.learner ≤ executed run.candidate.node.learner)
        (let low_one = (may q c).behind in omega (arith, reach, low_one, ahead_of));
    reaches = λ q c. of_voter q c (λ y. highest ≤ executed y.node.learner + 2 * alpha y.node.learner)
        (may q c).reaches;
    pairs = λ q c. elim (cons_cases run.candidate run.voters q c) [
      | inl is ↦ subst (λ (y : ReplicaValue). PairsUpTo y.node highest) is
          (on (λ y. PairsUpTo y.node highest) ready.pairs)
      | inr other ↦ of_voter q other (λ y. PairsUpTo y.node highest) (may q other).pairs
    ];
    votes = λ q c. elim (cons_cases run.candidate run.voters q c) [
      | inl is ↦ subst (λ (y : ReplicaValue). VotesUpTo y.node highest) is
          (on (λ y. VotesUpTo y.node highest) ready.votes)
      | inr other ↦ of_voter q other (λ y. VotesUpTo y.node highest) (may q other).votes
    ];
    distinct = subst AreDistinct (sym run.numbers) ready.distinct;
    majority = subst (λ (ns : List ℕ). IsMajority ns run.ready.genesis.members) (sym run.numbers) fixed.majority;
    room = room;
  }

  answered : HasAnsweredInTime m IsText x e others highest r first last run
  answered = record {
    few = persisted.few;
    answer = answers_law run.candidate run.ready.genesis.members r run.voters highest run.ready last
        (fixed_law run.ready run.candidate run.voters highest ahead) run.exchanges
        (new_law run.exchanges.ready (number_of run.candidate) run.exchanges.leader r
        run.exchanges.serves.requests.before run.exchanges.is fresh);
    reach = reach;
  }

pub persisting_answers : (m : Meaning) (IsText : List ℕ → Type 0) → RejectionsAreFew m IsText
    → FixedWorldHasLeftovers m IsText → FreshRequestsAreNew m IsText → WorldWithLeftoversAnswers m IsText
    → PersistingCandidateAnswers m IsText
persisting_answers m IsText few_law fixed_law new_law answers_law x e top others highest r first last k ahead_of low
    room run fixed fresh =
    answered m IsText few_law fixed_law new_law answers_law x e top others highest r first last k ahead_of low room run
    fixed fresh
