-- Nothing that a leader does with acceptances of commands that keep the members ends its term or changes its window.
use Rattle.std.proofs.Common.{◌≡◌, ◌∙◌, inl, inr, ℕ, zero, suc, ◌+◌, ◌-◌, ◌<◌, ◌≤◌, ◌==◌, ◌&&◌, nat_le, Bool, true}
use Rattle.std.proofs.Common.{false, cond, Option, Some, None, List, [], ◌∷◌, ◌++◌, length, drop, Contains, refl, ap}
use Rattle.std.proofs.Common.{sym, subst, arith}
use Rattle.std.proofs.lemmas.Bool.{cases_Bool, and_parts, and_from, leb-true, le-leb}
use Rattle.std.proofs.lemmas.Option.{get_or_from_slice_get}
use Rattle.std.specs.List.{list_any}
use Rattle.std.specs.Prelude.{slice_get}
use Rattle.lk_agreement_laws.specs.Soundness.{ReceivedPromise}
use Rattle.lk_leader.specs.Acceptances.{heard_at}
use Rattle.lk_leader.specs.Proposing.{promisers}
use Rattle.lk_leader.specs.Terms.{TermValue, with_proposals, has_term}
use Rattle.lk_learner.proofs.Learnerships.{ran_moves, with_only, without_from}
use Rattle.lk_learner.specs.Learners.{Pair, LearnerValue, WholeValue, IsNext, advanced, executed}
use Rattle.lk_members.proofs.Memberships.{majority_lies_within}
use Rattle.lk_members.specs.Effects.{Command, RequestValue, Noop, Request}
use Rattle.lk_members.specs.Majorities.{IsMajority}
use Rattle.lk_members.specs.Ports.{is_named}
use Rattle.lk_members.specs.Rosters.{is_member, Op, Table, Join, Leave, Raise, IsChange}
use Rattle.lk_members.specs.Sets.{newest}
use Rattle.lk_messages.specs.declared.message.Content.TheVariants as content
use Rattle.lk_messages.specs.declared.message.NodeMessage.TheVariants as kinds
use Rattle.lk_node.specs.Deciding.{IsForProposal, with_vote, HandlesAccepted}
use Rattle.lk_node.specs.Executing.{EndsWaitIfAny, Executes, Runs, stays, goes_on, is_outside, without_term_if_outside}
use Rattle.lk_node.specs.Executing.{NothingToRun}
use Rattle.lk_node.specs.Learning.{Learns, with_learner}
use Rattle.lk_node.specs.Leading.{ProposesOpen}
use Rattle.lk_node.specs.NodeValue.{NodeValue}
use Rattle.lk_node.specs.Yielding.{without_term}
use Rattle.lk_node_interface.specs.KeptReplies.{session_by}
use Rattle.lk_node_interface.specs.Envelopes.{EnvelopeValue}
use Rattle.lk_node_interface.specs.Outboxes.{OutboxValue}
use Rattle.lk_progress.proofs.Deciding.{accepted_executed}
use Rattle.lk_progress.proofs.Electing.{named_by, proposes_term}
use Rattle.lk_progress.proofs.Hearing.{Handled, handled, proposed_header, proposed_learner}
use Rattle.lk_progress.proofs.Majorities.{majority_more, passing_has, passing_named, passing_pass}
use Rattle.lk_progress.proofs.Proposing.{some_set}
use Rattle.lk_progress.specs.Deciding.{acceptances, vote_for_next}
use Rattle.lk_progress.specs.Hearing.{Hears, TakesEach}
use Rattle.lk_progress.specs.LeadingOn.{AreAll, KeepsMembers, LeaderLeadsOn}
use Rattle.lk_state.specs.Meanings.{Meaning}
use Rattle.lk_state.specs.Runs.{ran, after_request, run_answer}
use Rattle.lk_state.specs.Sessions.{session_of, is_new}
use Rattle.lk_state.specs.declared.session.Session.{Session}
use Rattle.lk_types.specs.BallotValue.{BallotValue}
use Rattle.lk_types.specs.declared.member.Member.{Member}
use Rattle.lk_types.specs.declared.vote.Vote.{Vote}

-- ---- the window

-- with the newest set once more
pushed_all : (sets : List (List Member)) (set : List Member) → AreAll sets set → AreAll (sets ++ set ∷ []) set
pushed_all [] set all zero within = refl
pushed_all [] set all (suc k) within = absurd (omega (arith, within))
pushed_all (s ∷ sets) set all zero within = all zero (omega arith)
pushed_all (s ∷ sets) set all (suc k) within =
    pushed_all sets set (λ j lt. all (suc j) (omega (arith, lt))) k (omega (arith, within))

moved_all : (sets : List (List Member)) (set : List Member) → 1 ≤ length sets → AreAll sets set
    → AreAll (drop 1 sets ++ newest sets ∷ []) set
moved_all [] set some all = absurd (omega (arith, some))
moved_all (s ∷ sets) set some all =
    let last : newest (s ∷ sets) ≡ set =
    get_or_from_slice_get (s ∷ sets) (length (s ∷ sets) - 1) set [] (all (length (s ∷ sets) - 1) (omega arith)) in
    subst (λ (x : List Member). AreAll (sets ++ x ∷ []) set) (sym last)
    (pushed_all sets set (λ j lt. all (suc j) (omega (arith, lt))))

op_moves : (m : Meaning) (w : WholeValue) (r : RequestValue) (op : Op) (set : List Member) → r.op ≡ op
    → (IsChange op → ⊥) → 1 ≤ length w.roster.sets → AreAll w.roster.sets set
    → AreAll (after_request m w (Some r)).roster.sets set
op_moves m w r (Table body) set is keeps some all = rw is (moved_all w.roster.sets set some all)
op_moves m w r (Join node port) set is keeps some all = absurd (keeps tt)
op_moves m w r (Leave node) set is keeps some all = absurd (keeps tt)
op_moves m w r Raise set is keeps some all = rw is (moved_all w.roster.sets set some all)

pub ran_fixed : (m : Meaning) (v : Command) (w : WholeValue) (set : List Member) → KeepsMembers v
    → 1 ≤ length w.roster.sets → AreAll w.roster.sets set → AreAll (ran m v w).roster.sets set
ran_fixed m Noop w set keeps some all = moved_all w.roster.sets set some all
ran_fixed m (Request r) w set keeps some all = by_test (is_new (session_of r.client w.sessions) r.number)
  where
    by_test : (t : Bool) → AreAll (after_request m w (cond t (Some r) None)).roster.sets set
    by_test true = op_moves m w r r.op set refl keeps some all
    by_test false = moved_all w.roster.sets set some all

-- ---- what a leader keeps

pub record Keeps (set : List Member) (b : BallotValue) (received : List ReceivedPromise) (node : NodeValue)
    : Type 0 where
  pub term : TermValue
  pub current : node.leader.term ≡ Some term
  pub ballot : term.ballot ≡ b
  pub heard : term.received ≡ received
  pub some : 1 ≤ length node.learner.whole.roster.sets
  pub fixed : AreAll node.learner.whole.roster.sets set
  pub named : is_member node.header.node set ≡ true
  pub keeps : (p : Pair) → Contains node.learner.pairs p → KeepsMembers p.1

module _ (set : List Member) (b : BallotValue) (received : List ReceivedPromise) where
  -- with the same term, learner and header it does
  as_before : (old new : NodeValue) → new.leader.term ≡ old.leader.term → new.learner ≡ old.learner
      → new.header ≡ old.header → Keeps set b received old → Keeps set b received new
  as_before old new term learner header k = record {
    term = k.term;
    current = term ∙ k.current;
    ballot = k.ballot;
    heard = k.heard;
    some = subst (λ (l : LearnerValue). 1 ≤ length l.whole.roster.sets) (sym learner) k.some;
    fixed = subst (λ (l : LearnerValue). AreAll l.whole.roster.sets set) (sym learner) k.fixed;
    named = ap (λ h. is_member h.node set) header ∙ k.named;
    keeps = subst (λ (l : LearnerValue). (p : Pair) → Contains l.pairs p → KeepsMembers p.1) (sym learner) k.keeps;
  }

  pub heard_keeps : (from : ℕ) (x : Vote) (old : NodeValue) (p : IsForProposal old x) → Keeps set b received old
      → Keeps set b received (with_vote from x old p)
  heard_keeps from x old p k =
      let one : p.term ≡ k.term = (let e : Some p.term ≡ Some k.term = sym p.current ∙ k.current in cc e) in
      record {
        term = with_proposals (heard_at p.set from x.position p.term.proposals) p.term;
        current = refl;
        ballot = ap (λ (u : TermValue). u.ballot) one ∙ k.ballot;
        heard = ap (λ (u : TermValue). u.received) one ∙ k.heard;
        some = k.some;
        fixed = k.fixed;
        named = k.named;
        keeps = k.keeps;
      }

  pub learned_keeps : (p : Pair) (old new : NodeValue) (before after : OutboxValue) → Learns p old before new after
      → KeepsMembers p.1 → Keeps set b received old → Keeps set b received new
  learned_keeps p old new before after (inl kept) plain k =
      subst (Keeps set b received) (sym kept.1) (record {
        term = k.term;
        current = k.current;
        ballot = k.ballot;
        heard = k.heard;
        some = k.some;
        fixed = k.fixed;
        named = k.named;
        keeps = λ q c. elim (with_only p old.learner.pairs q c)
            [ inl is ↦ subst (λ (x : Pair). KeepsMembers x.1) is plain | inr there ↦ k.keeps q there ];
      })
  learned_keeps p old new before after (inr other) plain k = subst (Keeps set b received) (sym other.1) k

  waited_keeps : (o : Option Session) (old new : NodeValue) (before after : OutboxValue)
      → EndsWaitIfAny o old before new after → Keeps set b received old → Keeps set b received new
  waited_keeps None old new before after ends k = subst (Keeps set b received) (sym ends.0) k
  waited_keeps (Some s) old new before after ends k = subst (Keeps set b received) (sym ends.becomes)
      (as_before old _ refl refl refl k)

  ran_keeps : (m : Meaning) (v : Command) (old : NodeValue) → KeepsMembers v → Keeps set b received old
      → Keeps set b received (with_learner old (advanced m v old.learner))
  ran_keeps m v old plain k = record {
    term = k.term;
    current = k.current;
    ballot = k.ballot;
    heard = k.heard;
    some = (let moves = ran_moves m v old.learner.whole k.some in omega (arith, moves.1, k.some));
    fixed = ran_fixed m v old.learner.whole set plain k.some k.fixed;
    named = k.named;
    keeps = λ p c. k.keeps p (without_from (executed old.learner + 1) old.learner.pairs p c);
  }

  -- a member of its window is not outside
  inside_keeps : (node : NodeValue) → Keeps set b received node → Keeps set b received (without_term_if_outside node)
  inside_keeps node k = by_test (is_outside node) inside
    where
      inside : is_outside node ≡ false
      inside =
          let named : is_named node.header.node node.learner.whole.roster.sets ≡ true =
          named_by node.learner.whole.roster.sets set node.header.node (k.fixed 0 (omega (arith, k.some))) k.named in
          let term : has_term node.leader.term ≡ true = ap has_term k.current in
          rw (term, named) refl

      by_test : (t : Bool) → t ≡ false → Keeps set b received (cond t (without_term node) node)
      by_test true e = absurd (cc e)
      by_test false e = k

  executes_keeps : (m : Meaning) (old new : NodeValue) (before after : OutboxValue) → Executes m old before new after
      → Keeps set b received old → Keeps set b received new
  executes_keeps m old new before after e k = subst (Keeps set b received) (sym e.becomes) (inside_keeps e.mid
      (waited_keeps (session_by e.command (run_answer m e.command old.learner.whole)) _ e.mid _ after e.ends_wait
      (ran_keeps m e.command old (k.keeps (executed old.learner + 1, e.command) e.next) k)))

  pub runs_keep : (m : Meaning) (old : NodeValue) (before : OutboxValue) (new : NodeValue) (after : OutboxValue)
      → Runs m old before new after → Keeps set b received old → Keeps set b received new
  runs_keep m old before _ _ stays k = k
  runs_keep m old before new after (goes_on so_far e) k =
      executes_keeps m _ new _ after e (runs_keep m old before _ _ so_far k)

  proposed_keeps : (old new : NodeValue) (before out : OutboxValue) → ProposesOpen old new before out
      → Keeps set b received old → Keeps set b received new
  proposed_keeps old new before out p k =
      let u = proposes_term p.0 old new before out k.term p.1 k.current in
      let learner : new.learner ≡ old.learner = proposed_learner p.0 old new before out p.1 in
      record {
        term = u.0;
        current = u.1;
        ballot = u.2 ∙ k.ballot;
        heard = u.3 ∙ k.heard;
        some = subst (λ (l : LearnerValue). 1 ≤ length l.whole.roster.sets) (sym learner) k.some;
        fixed = subst (λ (l : LearnerValue). AreAll l.whole.roster.sets set) (sym learner) k.fixed;
        named = ap (λ h. is_member h.node set) (proposed_header p.0 old new before out p.1) ∙ k.named;
        keeps = subst (λ (l : LearnerValue). (q : Pair) → Contains l.pairs q → KeepsMembers q.1) (sym learner) k.keeps;
      }

  -- ---- an acceptance, and all of them

  pub one_keeps : (m : Meaning) (IsText : List ℕ → Type 0) (old new : NodeValue) (from : ℕ) (x : Vote)
      (out : OutboxValue) → Hears m IsText old from (kinds.Accepted x) new out → KeepsMembers x.command
      → Keeps set b received old × NothingToRun old → Keeps set b received new × NothingToRun new
  one_keeps m IsText old new from x out takes plain k =
      let h : Handled m IsText old (content.Node from (kinds.Accepted x)) new out =
      handled m IsText old _ new out takes in
      let mid = by_vote h.mid h.first h.handles in (
        proposed_keeps h.mid new h.first out h.proposes mid.0,
        subst (λ (l : LearnerValue). (v : Command) → IsNext l v → ⊥)
            (sym (proposed_learner h.proposes.0 h.mid new h.first out h.proposes.1)) mid.1,
      )
    where
      by_vote : (mid : NodeValue) (first : OutboxValue) → HandlesAccepted m from x old mid first
          → Keeps set b received mid × NothingToRun mid
      by_vote mid first (inl counted) =
          let d = counted.2 in (
            runs_keep m d.learned d.written mid d.ran d.runs.0
                (learned_keeps (x.position, x.command) (with_vote from x old counted.0) d.learned _ d.written
                d.learns plain
                (heard_keeps from x old counted.0 k.0)),
            d.runs.1,
          )
      by_vote mid first (inr (inl only, silent)) = subst
          (λ (node : NodeValue). Keeps set b received node × NothingToRun node) (sym only.2)
          (heard_keeps from x old only.0 k.0, k.1)
      by_vote mid first (inr (inr other, silent)) =
          subst (λ (node : NodeValue). Keeps set b received node × NothingToRun node) (sym other.1) k

  all_keep : (m : Meaning) (IsText : List ℕ → Type 0) (x : Vote) (voters : List ℕ) (old new : NodeValue)
      (envelopes : List EnvelopeValue) → TakesEach m IsText (acceptances voters x) old new envelopes
      → KeepsMembers x.command
      → Keeps set b received old × NothingToRun old → Keeps set b received new × NothingToRun new
  all_keep m IsText x [] old new envelopes takes plain k =
      subst (λ (node : NodeValue). Keeps set b received node × NothingToRun node) (sym takes.0) k
  all_keep m IsText x (n ∷ voters) old new envelopes takes plain k =
      all_keep m IsText x voters takes.0 new takes.2 takes.4 plain
      (one_keeps m IsText old takes.0 n x takes.1 takes.3 plain k)

-- ---- it leads on

later_promisers : (i j n : ℕ) (qs : List ReceivedPromise) → i ≤ j
    → list_any (λ r. r.node == n && nat_le r.first i) qs ≡ true
    → list_any (λ r. r.node == n && nat_le r.first j) qs ≡ true
later_promisers i j n [] le e = absurd (cc e)
later_promisers i j n (q ∷ qs) le e =
    elim (cases_Bool (q.node == n && nat_le q.first i)) [
      | inl t ↦
          let parts = and_parts (q.node == n) (nat_le q.first i) t in
          let near : nat_le q.first j ≡ true = le-leb q.first j (let le' =
          leb-true q.first i parts.1 in omega (arith, le', le)) in
          let both : q.node == n && nat_le q.first j ≡ true = and_from (q.node == n) (nat_le q.first j) parts.0 near in
          rw both refl
      | inr f ↦
          let rest = later_promisers i j n qs le (rw f at e) in
          elim (cases_Bool (q.node == n && nat_le q.first j)) [ inl t ↦ rw t refl | inr g ↦ rw g rest ]
    ]

promised_later : (set : List Member) (i j : ℕ) (qs : List ReceivedPromise) → i ≤ j → IsMajority (promisers set i qs) set
    → IsMajority (promisers set j qs) set
promised_later set i j qs le major =
    majority_more set (promisers set i qs) (promisers set j qs) major
    (passing_named (λ n. list_any (λ r. r.node == n && nat_le r.first j) qs) set)
    (λ n c. passing_has (λ k. list_any (λ r. r.node == k && nat_le r.first j) qs) set n
    (majority_lies_within set _ n major c)
    (later_promisers i j n qs le (passing_pass (λ k. list_any (λ r. r.node == k && nat_le r.first i) qs) set n c)))

pub leads_on : (m : Meaning) (IsText : List ℕ → Type 0) → LeaderLeadsOn m IsText
leads_on m IsText old new t set v accepted voters envelopes fixed plain has major takes = record {
  moves = moves;
  leads = λ room. (
    k.0.term,
    k.0.ballot,
    record {
      leads = record {
        current = k.0.current;
        members = (
          omega arith,
          subst (λ (i : ℕ). slice_get new.learner.whole.roster.sets i ≡ Some set) (sym zero_is)
              (k.0.fixed 0 (omega (arith, k.0.some))),
        );
        promised = subst (λ (qs : List ReceivedPromise). IsMajority (promisers set (executed new.learner + 1) qs) set)
            (sym k.0.heard)
            (promised_later set (executed old.learner + 1) (executed new.learner + 1) t.received
            (omega (arith, moves)) fixed.leads.promised);
        room = room;
      };
      fixed = k.0.fixed;
      named = k.0.named;
      keeps = k.0.keeps;
      known = k.1;
    },
  );
}
  where
    moves : executed old.learner < executed new.learner
    moves = accepted_executed m IsText old new t set v accepted voters envelopes has major takes

    begins : Keeps set t.ballot t.received old
    begins = record {
      term = t;
      current = fixed.leads.current;
      ballot = refl;
      heard = refl;
      some = some_set old.learner.whole.roster set fixed.leads.members;
      fixed = fixed.fixed;
      named = fixed.named;
      keeps = fixed.keeps;
    }

    k : Keeps set t.ballot t.received new × NothingToRun new
    k = all_keep set t.ballot t.received m IsText (vote_for_next old t v) voters old new envelopes takes plain
        (begins, fixed.known)

    zero_is : executed new.learner + 1 - (executed new.learner + 1) ≡ 0
    zero_is = omega arith
