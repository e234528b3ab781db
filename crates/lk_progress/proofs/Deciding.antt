-- A leader that has proposed a request hears its members accept it, decides it, executes it and answers.
use Rattle.std.proofs.Common.{◌≡◌, ◌∙◌, ◌⊎◌, inl, inr, ℕ, ◌+◌, ◌*◌, ◌<◌, ◌≤◌, ◌==◌, true, eqb, Option, Some}
use Rattle.std.proofs.Common.{None, List, [], ◌∷◌, ◌++◌, length, Contains, refl, ap, sym, subst, arith}
use Rattle.std.proofs.lemmas.Bool.{cases_Bool}
use Rattle.std.proofs.lemmas.List.Elements.{Contains-append_left, Contains-append_right}
use Rattle.std.specs.List.{list_any}
use Rattle.lk_agreement_laws.proofs.Histories.{at_most_below, below_self, cons_cases}
use Rattle.lk_agreement_laws.specs.Chosen.{Command}
use Rattle.lk_leader.specs.Acceptances.{members_among, HasMajority, heard, heard_at, GainsMajority}
use Rattle.lk_leader.specs.Terms.{ProposalValue, TermValue, proposal_at, with_proposals}
use Rattle.lk_learner.proofs.Learnerships.{with_has, with_only}
use Rattle.lk_leader.specs.Waits.{waiting_of}
use Rattle.lk_state.specs.Sessions.{session_of, is_new}
use Rattle.lk_learner.specs.Learners.{WholeValue, LearnerValue, Pair, executed, alpha, IsNext, keeping}
use Rattle.lk_members.proofs.Memberships.{majority_lies_within}
use Rattle.lk_members.specs.Effects.{RequestValue, Request}
use Rattle.lk_members.specs.Majorities.{IsMajority}
use Rattle.lk_members.specs.Rosters.{is_member}
use Rattle.lk_messages.specs.declared.message.Content.TheVariants as content
use Rattle.lk_messages.specs.declared.message.NodeMessage.TheVariants as kinds
use Rattle.lk_node.specs.Deciding.{IsForProposal, with_vote, BringsMajority, Decides, HandlesAccepted}
use Rattle.lk_node.specs.Executing.{EndsWaitIfAny, Executes, Runs, stays, goes_on, NothingToRun}
use Rattle.lk_node.specs.Executing.{waiting_number, with_session_reply}
use Rattle.lk_node.specs.Learning.{with_learner, Learns}
use Rattle.lk_node.specs.NodeValue.{NodeValue}
use Rattle.lk_node_interface.specs.KeptReplies.{session_by}
use Rattle.lk_node_interface.specs.Envelopes.{EnvelopeValue}
use Rattle.lk_node_interface.specs.Outboxes.{OutboxValue, nothing}
use Rattle.lk_progress.proofs.Answering.{answers}
use Rattle.lk_progress.proofs.Hearing.{Handled, handled, proposed_header, proposed_learner, still_told}
use Rattle.lk_progress.proofs.Majorities.{majority_more, passing_has, passing_named}
use Rattle.lk_progress.proofs.Majorities.{any_contains}
use Rattle.lk_progress.proofs.Executing.{executes_moves, learns_whole, runs_move}
use Rattle.lk_progress.proofs.Proposing.{goes_on_proposing, goes_on_waiting, some_set}
use Rattle.lk_progress.proofs.Rejecting.{accept_has_cause}
use Rattle.lk_progress.specs.Answering.{WaitsFresh, answer_envelope}
use Rattle.lk_progress.specs.Deciding.{vote_for_next, HasProposed, NearNodeAccepts, acceptances}
use Rattle.lk_progress.specs.Deciding.{AcceptedCommandIsExecuted, AcceptedRequestIsAnswered}
use Rattle.lk_progress.specs.Hearing.{Hears, TakesEach}
use Rattle.lk_state.specs.Meanings.{Meaning}
use Rattle.lk_state.specs.Runs.{run_answer}
use Rattle.lk_state.specs.declared.session.Session.{Session}
use Rattle.lk_types.specs.Ballots.{IsBelow}
use Rattle.lk_types.specs.declared.member.Member.{Member}
use Rattle.lk_types.specs.declared.vote.Vote.{Vote}

-- ---- a near member accepts

pub near_accepts : (m : Meaning) (IsText : List ℕ → Type 0) → NearNodeAccepts m IsText
near_accepts m IsText old new from x out k takes =
    elim (accept_has_cause m IsText old new from x out k.near k.agrees takes)
    [ inl accepts ↦ accepts | inr rejects ↦ absurd (none rejects.why) ]
  where
    none : IsBelow x.ballot old.acceptor.state.promised ⊎ (x.position ≤ executed old.learner)
        ⊎ (executed old.learner + 2 * alpha old.learner < x.position) → ⊥
    none (inl greater) = below_self old.acceptor.state.promised
        (at_most_below old.acceptor.state.promised x.ballot old.acceptor.state.promised k.ballot greater)
    none (inr (inl reached)) = omega (arith, reached, k.above)
    none (inr (inr far)) = omega (arith, far, k.within)

-- ---- what is executed first, and what envelopes stay

runs_first : (m : Meaning) (old : NodeValue) (before : OutboxValue) (new : NodeValue) (after : OutboxValue)
    → Runs m old before new after
    → ((new ≡ old) × (after ≡ before))
    ⊎ ((mid : NodeValue) × (between : OutboxValue) × Executes m old before mid between × Runs m mid between new after)
runs_first m old before _ _ stays = inl (refl, refl)
runs_first m old before new after (goes_on {mid = mid} {between = between} so_far k) =
    elim (runs_first m old before mid between so_far) [
      | inl none ↦ inr (
        new,
        after,
        subst (λ (o : OutboxValue). Executes m old o new after) none.1
            (subst (λ (node : NodeValue). Executes m node between new after) none.0 k),
        stays,
      )
      | inr first ↦ inr (first.0, first.1, first.2, goes_on first.3 k)
    ]

waited_envelopes : (o : Option Session) (old new : NodeValue) (before after : OutboxValue) (l : EnvelopeValue)
    → EndsWaitIfAny o old before new after → Contains before.envelopes l → Contains after.envelopes l
waited_envelopes None old new before after l k c = subst (λ (out : OutboxValue). Contains out.envelopes l) (sym k.1) c
waited_envelopes (Some s) old new before after l k c =
    subst (λ (out : OutboxValue). Contains out.envelopes l) (sym k.comes_to) (more (waiting_number s old))
  where
    more : (o : Option ℕ) → Contains (with_session_reply old.header s o before).envelopes l
    more None = c
    more (Some number) = Contains-append_left before.envelopes _ l c

executes_envelopes : (m : Meaning) (old new : NodeValue) (before after : OutboxValue) (l : EnvelopeValue)
    → Executes m old before new after → Contains before.envelopes l → Contains after.envelopes l
executes_envelopes m old new before after l k c =
    waited_envelopes (session_by k.command (run_answer m k.command old.learner.whole)) _ k.mid _ after l k.ends_wait c

runs_envelopes : (m : Meaning) (old : NodeValue) (before : OutboxValue) (new : NodeValue) (after : OutboxValue)
    (l : EnvelopeValue) → Runs m old before new after → Contains before.envelopes l → Contains after.envelopes l
runs_envelopes m old before _ _ l stays c = c
runs_envelopes m old before new after l (goes_on so_far k) c =
    executes_envelopes m _ new _ after l k (runs_envelopes m old before _ _ l so_far c)

-- ---- what a decision brings

-- the node has executed more, in as large a window, and if the command is a request that waits, its client is answered
record IsDone (m : Meaning) (old : NodeValue) (v : Command) (new : NodeValue) (out : OutboxValue) : Type 0 where
  moves : executed old.learner < executed new.learner
  window : alpha new.learner ≡ alpha old.learner
  answers : (r : RequestValue) → v ≡ Request r → WaitsFresh old r → Contains out.envelopes (answer_envelope m old r)

-- ---- what is decided is executed, and answered

module _ (m : Meaning) (old : NodeValue) (t : TermValue) (set : List Member) (v : Command) (accepted : List ℕ)
    (has : HasProposed old t set v accepted) (from : ℕ) where
  abbrev vote : Vote
  vote = vote_for_next old t v

  abbrev pair : Pair
  pair = (executed old.learner + 1, v)

  -- the node that has learned the pair
  abbrev learned_by : NodeValue → NodeValue
  learned_by heard_by = with_learner heard_by (keeping pair old.learner)

  module _ (k : IsForProposal old vote) where
    abbrev heard_by : NodeValue
    heard_by = with_vote from vote old k

    learns_it : (learned : NodeValue) (before written : OutboxValue) → Learns pair heard_by before learned written
        → learned ≡ learned_by heard_by
    learns_it learned before written (inl kept) = kept.1
    learns_it learned before written (inr other) = absurd (other.0 (record {
      above = omega arith;
      near = omega (arith, some_set old.learner.whole.roster set has.members);
      new = has.known;
    }))

    runs_it : (command : Command) → IsNext (keeping pair old.learner) command → command ≡ v
    runs_it command next =
        elim (with_only pair old.learner.pairs (executed old.learner + 1, command) next) [
          | inl same ↦ sym (ap (λ (p : Pair). p.1) same)
          | inr known ↦ absurd (has.known command known)
        ]

    decides_brings : (new : NodeValue) (out : OutboxValue) → Decides m k.set pair heard_by nothing new out
        → IsDone m old v new out
    decides_brings new out d = by_first (runs_first m (learned_by heard_by) d.written new d.ran runs)
      where
        is : d.learned ≡ learned_by heard_by
        is = learns_it d.learned _ d.written d.learns

        runs : Runs m (learned_by heard_by) d.written new d.ran
        runs = subst (λ (node : NodeValue). Runs m node d.written new d.ran) is d.runs.0

        some : 1 ≤ alpha old.learner
        some = some_set old.learner.whole.roster set has.members

        by_first : ((new ≡ learned_by heard_by) × (d.ran ≡ d.written))
            ⊎ ((mid : NodeValue) × (between : OutboxValue) × Executes m (learned_by heard_by) d.written mid between
            × Runs m mid between new d.ran)
            → IsDone m old v new out
        by_first (inl none) = absurd (subst NothingToRun none.0 d.runs.1 v (with_has pair old.learner.pairs))
        by_first (inr first) =
            let moves = executes_moves m (learned_by heard_by) first.0 d.written first.1 first.2 some in
            let rest = runs_move m first.0 first.1 new d.ran first.3 (omega (arith, moves.1, some)) in
            record {
              moves = omega (arith, moves.0, rest.0);
              window = rest.1 ∙ moves.1;
              answers = λ r is_it waits.
                  subst (λ (o : OutboxValue). Contains o.envelopes (answer_envelope m old r)) (sym d.comes_to)
                  (Contains-append_left d.ran.envelopes d.envelopes (answer_envelope m old r)
                  (runs_envelopes m first.0 first.1 new d.ran (answer_envelope m old r) first.3
                  (answers m (learned_by heard_by) first.0 d.written first.1 r
                  (record { waits = waits.waits; fresh = waits.fresh }) first.2
                  (runs_it first.2.command first.2.next ∙ is_it))));
            }

  -- ---- an acceptance

  abbrev here : ProposalValue
  here = record { position = executed old.learner + 1; command = v; accepted = accepted }

  for_it : IsForProposal old vote
  for_it = record {
    term = t;
    current = has.current;
    set = set;
    proposal = here;
    vote = record { ballot = refl; members = has.members; proposal = has.proposal; command = refl };
  }

  module _ (k : IsForProposal old vote) where
    one_term : k.term ≡ t
    one_term = let e : Some k.term ≡ Some t = sym k.current ∙ has.current in cc e

    one_set : k.set ≡ set
    one_set = let e : Some k.set ≡ Some set = sym k.vote.members.1 ∙ has.members.1 in cc e

    one_proposal : k.proposal ≡ here
    one_proposal =
        let at : proposal_at (executed old.learner + 1) t.proposals ≡ Some k.proposal =
        subst (λ (u : TermValue). proposal_at (executed old.learner + 1) u.proposals ≡ Some k.proposal) one_term
        k.vote.proposal in
        let e : Some k.proposal ≡ Some here = sym at ∙ has.proposal in
        cc e

    -- no majority yet
    still_few : (BringsMajority from vote old k → ⊥)
        → HasMajority set (heard set from here) → ⊥
    still_few not_now major =
        not_now (subst (λ (s : List Member). GainsMajority s from k.proposal) (sym one_set)
        (subst (λ (p : ProposalValue). GainsMajority set from p) (sym one_proposal) (has.few, major)))

    -- the members that are then heard to have accepted
    abbrev now_accepted : List ℕ
    now_accepted = members_among set (accepted ++ from ∷ [])

    more_heard : (BringsMajority from vote old k → ⊥) → HasProposed (with_vote from vote old k)
        (with_proposals (heard_at k.set from (executed old.learner + 1) k.term.proposals) k.term) set v now_accepted
    more_heard not_now = record {
      current = refl;
      members = has.members;
      proposal = subst (λ (u : TermValue). proposal_at i (heard_at k.set from i u.proposals) ≡ Some (later set))
          (sym one_term)
          (subst (λ (s : List Member). proposal_at i (heard_at s from i t.proposals) ≡ Some (later set)) (sym one_set)
          (found t.proposals has.proposal));
      few = still_few not_now;
      known = has.known;
    }
      where
        i : ℕ
        i = executed old.learner + 1

        later : List Member → ProposalValue
        later s = record { position = i; command = v; accepted = members_among s (accepted ++ from ∷ []) }

        found : (ps : List ProposalValue) → proposal_at i ps ≡ Some here
            → proposal_at i (heard_at set from i ps) ≡ Some (later set)
        found [] at = absurd (cc at)
        found (p ∷ ps) at =
            elim (cases_Bool (eqb p.position i)) [
              | inl same ↦ (let is : p ≡ here = (let e : Some p ≡ Some here = rw same at at in cc e) in
                  rw (same, same) (ap (λ (q : ProposalValue). Some (heard set from q)) is))
              | inr other ↦ rw (other, other) (found ps (rw other at at))
            ]

-- ---- one acceptance after another

-- a step leaves the command proposed, with these members heard to have accepted, which are no majority, and changes
-- neither what is executed nor what waits
record GoesOn (old : NodeValue) (t : TermValue) (set : List Member) (v : Command) (accepted : List ℕ)
    (new : NodeValue) : Type 0 where
  term : TermValue
  ballot : term.ballot ≡ t.ballot
  proposed : HasProposed new term set v accepted
  learner : new.learner ≡ old.learner
  header : new.header ≡ old.header
  waiting : new.leader.waiting ≡ old.leader.waiting

abbrev with_node : List Member → List ℕ → ℕ → List ℕ
with_node set accepted n = members_among set (accepted ++ n ∷ [])

heard_one : (m : Meaning) (IsText : List ℕ → Type 0) (old new : NodeValue) (t : TermValue) (set : List Member)
    (v : Command) (accepted : List ℕ) (from : ℕ) (out : OutboxValue) → HasProposed old t set v accepted
    → Hears m IsText old from (kinds.Accepted (vote_for_next old t v)) new out
    → IsDone m old v new out ⊎ GoesOn old t set v (with_node set accepted from) new
heard_one m IsText old new t set v accepted from out has takes = by_vote k.handles
  where
    x : Vote
    x = vote_for_next old t v

    k : Handled m IsText old (content.Node from (kinds.Accepted x)) new out
    k = handled m IsText old _ new out takes

    same : new.learner ≡ k.mid.learner
    same = proposed_learner k.proposes.0 k.mid new k.first out k.proposes.1

    by_vote : HandlesAccepted m from x old k.mid k.first
        → IsDone m old v new out ⊎ GoesOn old t set v (with_node set accepted from) new
    by_vote (inl counted) =
        let d : IsDone m old v k.mid k.first =
        decides_brings m old t set v accepted has from counted.0 k.mid k.first counted.2 in
        inl (record {
          moves = subst (λ (l : LearnerValue). executed old.learner < executed l) (sym same) d.moves;
          window = ap (λ (l : LearnerValue). alpha l) same ∙ d.window;
          answers = λ r is waits. still_told m IsText old _ new out k (answer_envelope m old r) (d.answers r is waits);
        })
    by_vote (inr (inr other, silent)) = absurd (other.0 (for_it m old t set v accepted has from))
    by_vote (inr (inl only, silent)) =
        let p : IsForProposal old x = only.0 in
        let u : TermValue = with_proposals (heard_at p.set from (executed old.learner + 1) p.term.proposals) p.term in
        let mid : HasProposed k.mid u set v (with_node set accepted from) =
        subst (λ (node : NodeValue). HasProposed node u set v (with_node set accepted from)) (sym only.2)
        (more_heard m old t set v accepted has from p only.1) in
        let rest = goes_on_proposing k.proposes.0 k.mid new k.first out u set v (with_node set accepted from)
        k.proposes.1 mid in
        inr (record {
          term = rest.0;
          ballot = rest.1 ∙ ap (λ (w : TermValue). w.ballot) (one_term m old t set v accepted has from p);
          proposed = rest.2;
          learner = same ∙ ap (λ (node : NodeValue). node.learner) only.2;
          header = proposed_header k.proposes.0 k.mid new k.first out k.proposes.1
              ∙ ap (λ (node : NodeValue). node.header) only.2;
          waiting = goes_on_waiting k.proposes.0 k.mid new k.first out k.proposes.1
              ∙ ap (λ (node : NodeValue). node.leader.waiting) only.2;
        })

-- whatever acceptances come then, nothing that is executed is undone
later_acceptance : (m : Meaning) (IsText : List ℕ → Type 0) (old new : NodeValue) (from : ℕ) (x : Vote)
    (out : OutboxValue) → Hears m IsText old from (kinds.Accepted x) new out → 1 ≤ alpha old.learner
    → (executed old.learner ≤ executed new.learner) × (alpha new.learner ≡ alpha old.learner)
later_acceptance m IsText old new from x out takes some =
    let k : Handled m IsText old (content.Node from (kinds.Accepted x)) new out =
    handled m IsText old _ new out takes in
    subst (λ (l : LearnerValue). (executed old.learner ≤ executed l) × (alpha l ≡ alpha old.learner))
    (sym (proposed_learner k.proposes.0 k.mid new k.first out k.proposes.1)) (by_vote k.mid k.first k.handles)
  where
    by_vote : (mid : NodeValue) (first : OutboxValue) → HandlesAccepted m from x old mid first
        → (executed old.learner ≤ executed mid.learner) × (alpha mid.learner ≡ alpha old.learner)
    by_vote mid first (inl counted) =
        let d = counted.2 in
        let voted : NodeValue = with_vote from x old counted.0 in
        let whole = learns_whole (x.position, x.command) voted d.learned _ d.written d.learns in
        let window : alpha d.learned.learner ≡ alpha old.learner =
        ap (λ (w : WholeValue). length w.roster.sets) whole in
        let same : executed d.learned.learner ≡ executed old.learner =
        ap (λ (w : WholeValue). w.roster.executed) whole in
        let moved = runs_move m d.learned d.written mid d.ran d.runs.0 (omega (arith, window, some)) in
        (omega (arith, moved.0, same), moved.1 ∙ window)
    by_vote mid first (inr (inl only, silent)) =
        let is : mid.learner ≡ old.learner = ap (λ (node : NodeValue). node.learner) only.2 in
        (omega (arith, ap (λ (l : LearnerValue). executed l) is), ap (λ (l : LearnerValue). alpha l) is)
    by_vote mid first (inr (inr other, silent)) =
        let is : mid.learner ≡ old.learner = ap (λ (node : NodeValue). node.learner) other.1 in
        (omega (arith, ap (λ (l : LearnerValue). executed l) is), ap (λ (l : LearnerValue). alpha l) is)

later_acceptances : (m : Meaning) (IsText : List ℕ → Type 0) (x : Vote) (voters : List ℕ) (old new : NodeValue)
    (envelopes : List EnvelopeValue) → TakesEach m IsText (acceptances voters x) old new envelopes
    → 1 ≤ alpha old.learner
    → executed old.learner ≤ executed new.learner
later_acceptances m IsText x [] old new envelopes takes some =
    omega (arith, ap (λ (node : NodeValue). executed node.learner) takes.0)
later_acceptances m IsText x (n ∷ voters) old new envelopes takes some =
    let one = later_acceptance m IsText old takes.0 n x takes.1 takes.3 some in
    let rest = later_acceptances m IsText x voters takes.0 new takes.2 takes.4 (omega (arith, one.1, some)) in
    omega (arith, one.0, rest)

-- what a majority's acceptances bring
record AreDone (m : Meaning) (old : NodeValue) (v : Command) (new : NodeValue)
    (envelopes : List EnvelopeValue) : Type 0 where
  moves : executed old.learner < executed new.learner
  answers : (r : RequestValue) → v ≡ Request r → WaitsFresh old r → Contains envelopes (answer_envelope m old r)

all_heard : (m : Meaning) (IsText : List ℕ → Type 0) (set : List Member) (v : Command) (voters : List ℕ)
    (old new : NodeValue) (t : TermValue) (accepted : List ℕ) (envelopes : List EnvelopeValue)
    → HasProposed old t set v accepted
    → TakesEach m IsText (acceptances voters (vote_for_next old t v)) old new envelopes
    → AreDone m old v new envelopes
    ⊎ ((later : List ℕ) × (IsMajority (members_among set later) set → ⊥)
    × ((n : ℕ) → is_member n set ≡ true → Contains accepted n ⊎ Contains voters n → Contains later n))
all_heard m IsText set v [] old new t accepted envelopes has takes =
    inr (accepted, has.few, λ n named c. elim c [ inl there ↦ there | inr none ↦ absurd (omega (arith, none.1)) ])
all_heard m IsText set v (n ∷ voters) old new t accepted envelopes has takes =
    elim (heard_one m IsText old takes.0 t set v accepted n takes.1 has takes.3) [
      | inl d ↦ inl (record {
        moves =
            let later = later_acceptances m IsText (vote_for_next old t v) voters takes.0 new takes.2 takes.4
            (omega (arith, d.window, some_set old.learner.whole.roster set has.members)) in
            omega (arith, d.moves, later);
        answers = λ r is waits. in_all (answer_envelope m old r)
            (Contains-append_left takes.1.envelopes takes.2 _ (d.answers r is waits));
      })
      | inr g ↦ elim (all_heard m IsText set v voters takes.0 new g.term (with_node set accepted n) takes.2
          g.proposed
          (subst (λ (x : Vote). TakesEach m IsText (acceptances voters x) takes.0 new takes.2)
          (sym (same_vote takes.0 g)) takes.4)) [
            | inl later ↦ inl (record {
              moves = omega (arith, later.moves, ap (λ (l : LearnerValue). executed l) g.learner);
              answers = λ r is waits. in_all (answer_envelope m old r)
                  (Contains-append_right takes.1.envelopes takes.2 _
                  (subst (λ (l : EnvelopeValue). Contains takes.2 l) (same_answer takes.0 g r)
                  (later.answers r is (still_waits takes.0 g r waits))));
            })
            | inr rest ↦ inr (rest.0, rest.1, λ k named c. rest.2 k named (with_this k named c))
          ]
    ]
  where
    in_all : (l : EnvelopeValue) → Contains (takes.1.envelopes ++ takes.2) l → Contains envelopes l
    in_all l c = subst (λ (ls : List EnvelopeValue). Contains ls l) (sym takes.5) c

    same_vote : (mid : NodeValue) (g : GoesOn old t set v (with_node set accepted n) mid)
        → vote_for_next mid g.term v ≡ vote_for_next old t v
    same_vote mid g = λ i. record { position = executed (g.learner i) + 1; ballot = g.ballot i; command = v }

    same_answer : (mid : NodeValue) → GoesOn old t set v (with_node set accepted n) mid → (r : RequestValue)
        → answer_envelope m mid r ≡ answer_envelope m old r
    same_answer mid g r = λ i. answer_envelope m (record old { header = g.header i; learner = g.learner i }) r

    still_waits : (mid : NodeValue) → GoesOn old t set v (with_node set accepted n) mid → (r : RequestValue)
        → WaitsFresh old r → WaitsFresh mid r
    still_waits mid g r waits = record {
      waits = subst (λ (rs : List RequestValue). waiting_of r.client rs ≡ Some r) (sym g.waiting) waits.waits;
      fresh = subst (λ (l : LearnerValue). is_new (session_of r.client l.whole.sessions) r.number ≡ true)
          (sym g.learner) waits.fresh;
    }

    heard_now : (k : ℕ) → is_member k set ≡ true → Contains (accepted ++ n ∷ []) k
        → Contains (with_node set accepted n) k
    heard_now k named c =
        passing_has (λ j. list_any (λ i. i == j) (accepted ++ n ∷ [])) set k named
        (any_contains (accepted ++ n ∷ []) k c)

    with_this : (k : ℕ) → is_member k set ≡ true → Contains accepted k ⊎ Contains (n ∷ voters) k
        → Contains (with_node set accepted n) k ⊎ Contains voters k
    with_this k named (inl old') = inl (heard_now k named (Contains-append_left accepted (n ∷ []) k old'))
    with_this k named (inr c) =
        elim (cons_cases n voters k c) [
          | inl is ↦ inl (heard_now k named (Contains-append_right accepted (n ∷ []) k (0, omega arith, is)))
          | inr later ↦ inr later
        ]

majority_done : (m : Meaning) (IsText : List ℕ → Type 0) (old new : NodeValue) (t : TermValue) (set : List Member)
    (v : Command) (accepted voters : List ℕ) (envelopes : List EnvelopeValue) → HasProposed old t set v accepted
    → IsMajority voters set
    → TakesEach m IsText (acceptances voters (vote_for_next old t v)) old new envelopes → AreDone m old v new envelopes
majority_done m IsText old new t set v accepted voters envelopes has major takes =
    elim (all_heard m IsText set v voters old new t accepted envelopes has takes) [
      | inl done ↦ done
      | inr rest ↦ absurd (rest.1 (majority_more set voters (members_among set rest.0) major
          (passing_named (λ j. list_any (λ i. i == j) rest.0) set) (among rest.0 rest.2)))
    ]
  where
    among : (later : List ℕ) → ((n : ℕ) → is_member n set ≡ true → Contains accepted n ⊎ Contains voters n
        → Contains later n)
        → (n : ℕ) → Contains voters n → Contains (members_among set later) n
    among later keeps n c =
        let named = majority_lies_within set voters n major c in
        passing_has (λ j. list_any (λ i. i == j) later) set n named (any_contains later n (keeps n named (inr c)))

pub accepted_executed : (m : Meaning) (IsText : List ℕ → Type 0) → AcceptedCommandIsExecuted m IsText
accepted_executed m IsText old new t set v accepted voters envelopes has major takes =
    (majority_done m IsText old new t set v accepted voters envelopes has major takes).moves

pub accepted_answered : (m : Meaning) (IsText : List ℕ → Type 0) → AcceptedRequestIsAnswered m IsText
accepted_answered m IsText old new t set r accepted voters envelopes has waits major takes =
    (majority_done m IsText old new t set (Request r) accepted voters envelopes has major takes).answers r refl waits
