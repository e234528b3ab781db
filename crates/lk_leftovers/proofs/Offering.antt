-- A leader sends each member an Accept of what it proposes, and what else its steps leave.
use Rattle.std.proofs.Common.{◌≡◌, ◌∙◌, ◌⊎◌, inl, inr, ℕ, ◌+◌, ◌≤◌, Bool, true, false, cond}
use Rattle.std.proofs.Common.{List, [], ◌∷◌, ◌++◌, Option, Some, None, Contains, map, refl, ap, sym, subst}
use Rattle.std.proofs.Common.{arith, ◌-◌}
use Rattle.std.proofs.lemmas.List.Elements.{Contains-append_cases, Contains-append_left, Contains-append_right}
use Rattle.std.proofs.lemmas.Option.{slice_get_within}
use Rattle.std.specs.Prelude.{slice_get}
use Rattle.lk_types.specs.BallotValue.{BallotValue}
use Rattle.lk_types.specs.declared.member.Member.{Member}
use Rattle.lk_types.specs.declared.vote.Vote.{Vote}
use Rattle.lk_store_format.specs.Values.{HeaderValue}
use Rattle.lk_messages.specs.Values.{PromiseValue}
use Rattle.lk_messages.specs.declared.message.Content.TheVariants as content
use Rattle.lk_messages.specs.declared.message.NodeMessage.{NodeMessage}
use Rattle.lk_messages.specs.declared.message.NodeMessage.TheVariants as kinds
use Rattle.lk_agreement_laws.proofs.Histories.{contains_more, filter_from, only}
use Rattle.lk_members.specs.Effects.{Command}
use Rattle.lk_members.specs.Nodes.{nodes_of}
use Rattle.lk_state.specs.Meanings.{Meaning}
use Rattle.lk_state.specs.Runs.{run_answer}
use Rattle.lk_state.specs.declared.session.Session.{Session}
use Rattle.lk_acceptor.specs.AcceptorValue.{AcceptorValue}
use Rattle.lk_leader.specs.Acceptances.{heard_at}
use Rattle.lk_leader.specs.Proposing.{proposed}
use Rattle.lk_leader.specs.Terms.{ProposalValue, ReceivedPromise, TermValue, in_window, with_proposals, with_received}
use Rattle.lk_learner.proofs.Learnerships.{ran_moves, with_only, without_from}
use Rattle.lk_learner.specs.Learners.{LearnerValue, Pair, advanced, alpha, executed}
use Rattle.lk_node_interface.specs.KeptReplies.{session_by}
use Rattle.lk_node_interface.specs.Envelopes.{EnvelopeValue}
use Rattle.lk_node_interface.specs.Outboxes.{OutboxValue}
use Rattle.lk_node.proofs.Nodes.{map_has}
use Rattle.lk_node.specs.Deciding.{HandlesAccepted, IsForProposal, with_vote}
use Rattle.lk_node.specs.Executing.{EndsWaitIfAny, NothingToRun, Runs, stays, goes_on, is_outside}
use Rattle.lk_node.specs.Executing.{without_term_if_outside}
use Rattle.lk_node.specs.Leading.{DropsPromise, ProposesAll, ProposesVote, RecordsPromise, having_proposed}
use Rattle.lk_node.specs.Leading.{received_from}
use Rattle.lk_node.specs.Learning.{Learns, with_learner}
use Rattle.lk_node.specs.NodeValue.{NodeValue}
use Rattle.lk_node.specs.Telling.{envelope_to}
use Rattle.lk_node.specs.Yielding.{without_term}
use Rattle.lk_progress.proofs.Hearing.{Handled, handled, proposed_learner, proposed_envelopes}
use Rattle.lk_progress.proofs.LeadingOn.{Keeps, one_keeps}
use Rattle.lk_progress.specs.Deciding.{acceptances}
use Rattle.lk_progress.specs.Electing.{promises}
use Rattle.lk_progress.specs.Hearing.{Hears, TakesEach}
use Rattle.lk_progress.specs.LeadingOn.{AreAll, KeepsMembers}
use Rattle.lk_leftovers.proofs.Walking.{heard_was}

-- a node of this header sends that node this in one of these envelopes
pub record Tells (whose : HeaderValue) (envelopes : List EnvelopeValue) (y : NodeMessage) (n : ℕ) : Type 0 where
  pub node : NodeValue
  pub header : node.header ≡ whose
  pub told : Contains envelopes (envelope_to node y n)

abbrev pub vote_in : BallotValue → ProposalValue → Vote
vote_in b p = record { position = p.position; ballot = b; command = p.command }

-- The node has this header and this acceptor. Its term, if any, is of this ballot, F holds of each vote that it
-- proposes, and G of each that is reported to it.
pub record Offers (b : BallotValue) (whose : HeaderValue) (a : AcceptorValue) (F G : Vote → Type 0)
    (node : NodeValue) : Type 0 where
  pub header : node.header ≡ whose
  pub acceptor : node.acceptor ≡ a
  pub ballot : (u : TermValue) → node.leader.term ≡ Some u → u.ballot ≡ b
  pub offered : (u : TermValue) → node.leader.term ≡ Some u → (p : ProposalValue) → Contains u.proposals p
      → F (vote_in b p)
  pub reported : (u : TermValue) → node.leader.term ≡ Some u → (q : ReceivedPromise) → Contains u.received q
      → (v : Vote) → Contains q.votes v → G v

-- its members are known so far ahead, and neither what it has executed nor a pair that it knows is above the last
-- position
pub record Reaches (width last : ℕ) (node : NodeValue) : Type 0 where
  pub width_is : alpha node.learner ≡ width
  pub within : executed node.learner ≤ last
  pub pairs : (p : Pair) → Contains node.learner.pairs p → p.0 ≤ last

-- the set of each position of a window in which all are alike
set_is : (sets : List (List Member)) (set s : List Member) (k : ℕ) → AreAll sets set → slice_get sets k ≡ Some s
    → s ≡ set
set_is sets set s k all at =
    let e : Some s ≡ Some set = sym at ∙ all k (slice_get_within sets k s at) in cc e

-- ---- what is proposed is offered

module _ (b : BallotValue) (whose : HeaderValue) (a : AcceptorValue) (F G : Vote → Type 0) (set : List Member)
    (all : List EnvelopeValue)
    (told : (x : Vote) → ((n : ℕ) → Contains (nodes_of set) n → Tells whose all (kinds.Accept x) n) → F x) where
  vote_offers : (old : NodeValue) (x : Vote) (p : ProposesVote old x) → F x → Offers b whose a F G old
      → Offers b whose a F G (having_proposed old x p)
  vote_offers old x p f k = record {
    header = k.header;
    acceptor = k.acceptor;
    ballot = λ u is. ap (λ (t : TermValue). t.ballot) (sym (one u is)) ∙ k.ballot p.term p.current;
    offered = λ u is q c. by_part q (Contains-append_cases
        (in_window (executed old.learner) (alpha old.learner) p.term.proposals) (made ∷ []) q
        (subst (λ (t : TermValue). Contains t.proposals q) (sym (one u is)) c));
    reported = λ u is q c. k.reported p.term p.current q
        (subst (λ (t : TermValue). Contains t.received q) (sym (one u is)) c);
  }
    where
      made : ProposalValue
      made = record { position = x.position; command = x.command; accepted = [] }

      one : (u : TermValue) → (having_proposed old x p).leader.term ≡ Some u
          → proposed old.learner.whole.roster x.position x.command p.term ≡ u
      one u is =
          let e : Some (proposed old.learner.whole.roster x.position x.command p.term) ≡ Some u = is in cc e

      is_x : x ≡ vote_in b made
      is_x = λ i. record {
        position = x.position;
        ballot = (p.ballot ∙ k.ballot p.term p.current) i;
        command = x.command;
      }

      by_part : (q : ProposalValue)
          → Contains (in_window (executed old.learner) (alpha old.learner) p.term.proposals) q
          ⊎ Contains (made ∷ []) q → F (vote_in b q)
      by_part q (inl before) = k.offered p.term p.current q (filter_from _ p.term.proposals q before)
      by_part q (inr last) = subst (λ (r : ProposalValue). F (vote_in b r)) (only made q last) (subst F is_x f)

  proposed_offers : (xs : List Vote) (old new : NodeValue) (before out : OutboxValue)
      → ProposesAll xs old new before out → AreAll old.learner.whole.roster.sets set
      → ((l : EnvelopeValue) → Contains out.envelopes l → Contains all l) → Offers b whose a F G old
      → Offers b whose a F G new
  proposed_offers [] old new before out p fixed more k = subst (Offers b whose a F G) (sym p.1) k
  proposed_offers (x ∷ xs) old new before out p fixed more k =
      proposed_offers xs (having_proposed old x p.0) new _ out p.1 fixed more
      (vote_offers old x p.0 (told x (λ n c. record {
        node = old;
        header = k.header;
        told = more (envelope_to old (kinds.Accept x) n) (proposed_envelopes xs (having_proposed old x p.0) new _ out
            (envelope_to old (kinds.Accept x) n) p.1
            (Contains-append_right before.envelopes (map (envelope_to old (kinds.Accept x)) (nodes_of p.0.proposes.set))
            (envelope_to old (kinds.Accept x) n)
            (map_has (envelope_to old (kinds.Accept x)) (nodes_of p.0.proposes.set) n
            (subst (λ (s : List Member). Contains (nodes_of s) n) (sym same) c))));
      })) k)
    where
      same : p.0.proposes.set ≡ set
      same = set_is old.learner.whole.roster.sets set p.0.proposes.set
          (x.position - (executed old.learner + 1)) fixed p.0.proposes.members.1

  -- ---- promises

  recorded_offers : (old new : NodeValue) (from : ℕ) (p : PromiseValue) → ((v : Vote) → Contains p.votes v → G v)
      → RecordsPromise old from p new ⊎ DropsPromise old from p new → Offers b whose a F G old
      → Offers b whose a F G new
  recorded_offers old new from p good (inr drops) k = subst (Offers b whose a F G) (sym drops.1) k
  recorded_offers old new from p good (inl records) k = subst (Offers b whose a F G) (sym records.2) (record {
    header = k.header;
    acceptor = k.acceptor;
    ballot = λ u is. ap (λ (t : TermValue). t.ballot) (sym (one u is)) ∙ k.ballot records.0 records.1.current;
    offered = λ u is q c. k.offered records.0 records.1.current q
        (subst (λ (t : TermValue). Contains t.proposals q) (sym (one u is)) c);
    reported = λ u is q c v d. by_part q v d (Contains-append_cases records.0.received (received_from from p ∷ []) q
        (subst (λ (t : TermValue). Contains t.received q) (sym (one u is)) c));
  })
    where
      one : (u : TermValue) → Some (with_received (received_from from p) records.0) ≡ Some u
          → with_received (received_from from p) records.0 ≡ u
      one u e = cc e

      by_part : (q : ReceivedPromise) (v : Vote) → Contains q.votes v
          → Contains records.0.received q ⊎ Contains (received_from from p ∷ []) q → G v
      by_part q v d (inl before) = k.reported records.0 records.1.current q before v d
      by_part q v d (inr last) =
          good v (subst (λ (r : ReceivedPromise). Contains r.votes v) (sym (only _ q last)) d)

  module _ (m : Meaning) (IsText : List ℕ → Type 0) where
    one_promise : (from : ℕ) (p : PromiseValue) (old new : NodeValue) (out : OutboxValue)
        → ((v : Vote) → Contains p.votes v → G v) → Hears m IsText old from (kinds.Promise p) new out
        → AreAll old.learner.whole.roster.sets set
        → ((l : EnvelopeValue) → Contains out.envelopes l → Contains all l)
        → Offers b whose a F G old → Offers b whose a F G new × (new.learner ≡ old.learner)
    one_promise from p old new out good takes fixed more k =
        by_handled (handled m IsText old (content.Node from (kinds.Promise p)) new out takes)
      where
        by_handled : Handled m IsText old (content.Node from (kinds.Promise p)) new out
            → Offers b whose a F G new × (new.learner ≡ old.learner)
        by_handled h =
            let learner : h.mid.learner ≡ old.learner = elim h.handles.0 [
              | inl records ↦ ap (λ (n : NodeValue). n.learner) records.2
              | inr drops ↦ ap (λ (n : NodeValue). n.learner) drops.1
            ] in (
              proposed_offers h.proposes.0 h.mid new h.first out h.proposes.1
                  (subst (λ (l : LearnerValue). AreAll l.whole.roster.sets set) (sym learner) fixed) more
                  (recorded_offers old h.mid from p good h.handles.0 k),
              proposed_learner h.proposes.0 h.mid new h.first out h.proposes.1 ∙ learner,
            )

    pub promises_offer : (heard : List (ℕ × PromiseValue)) (old new : NodeValue) (envelopes : List EnvelopeValue)
        → ((h : ℕ × PromiseValue) → Contains heard h → (v : Vote) → Contains h.1.votes v → G v)
        → TakesEach m IsText (promises heard) old new envelopes → AreAll old.learner.whole.roster.sets set
        → ((l : EnvelopeValue) → Contains envelopes l → Contains all l)
        → Offers b whose a F G old → Offers b whose a F G new
    promises_offer [] old new envelopes good takes fixed more k = subst (Offers b whose a F G) (sym takes.0) k
    promises_offer (h ∷ heard) old new envelopes good takes fixed more k =
        let first : (l : EnvelopeValue) → Contains (takes.1.envelopes ++ takes.2) l → Contains all l =
        subst (λ (ls : List EnvelopeValue). (l : EnvelopeValue) → Contains ls l → Contains all l) takes.5 more in
        let one = one_promise h.0 h.1 old takes.0 takes.1 (good h (0, omega arith, refl)) takes.3 fixed
        (λ l c. first l (Contains-append_left takes.1.envelopes takes.2 l c)) k in
        promises_offer heard takes.0 new takes.2 (λ g c. good g (contains_more h heard g c)) takes.4
        (subst (λ (l : LearnerValue). AreAll l.whole.roster.sets set) (sym one.1) fixed)
        (λ l c. first l (Contains-append_right takes.1.envelopes takes.2 l c)) one.0

  -- ---- acceptances

  heard_offers : (from : ℕ) (x : Vote) (old : NodeValue) (k : IsForProposal old x) → Offers b whose a F G old
      → Offers b whose a F G (with_vote from x old k)
  heard_offers from x old k o = record {
    header = o.header;
    acceptor = o.acceptor;
    ballot = λ u is. ap (λ (t : TermValue). t.ballot) (sym (one u is)) ∙ o.ballot k.term k.current;
    offered = λ u is p c.
        let h = heard_was [] x.position k.set from k.term.proposals p
        (subst (λ (t : TermValue). Contains t.proposals p) (sym (one u is)) c) in
        subst F (λ i. record { position = (sym h.2) i; ballot = b; command = (sym h.3) i })
        (o.offered k.term k.current h.0 h.1);
    reported = λ u is q c. o.reported k.term k.current q
        (subst (λ (t : TermValue). Contains t.received q) (sym (one u is)) c);
  }
    where
      one : (u : TermValue) → (with_vote from x old k).leader.term ≡ Some u
          → with_proposals (heard_at k.set from x.position k.term.proposals) k.term ≡ u
      one u is =
          let e : Some (with_proposals (heard_at k.set from x.position k.term.proposals) k.term) ≡ Some u = is in
          cc e

  alike : (old new : NodeValue) → new.header ≡ old.header → new.acceptor ≡ old.acceptor
      → new.leader.term ≡ old.leader.term → Offers b whose a F G old → Offers b whose a F G new
  alike old new header acceptor term o = record {
    header = header ∙ o.header;
    acceptor = acceptor ∙ o.acceptor;
    ballot = λ u is. o.ballot u (sym term ∙ is);
    offered = λ u is. o.offered u (sym term ∙ is);
    reported = λ u is. o.reported u (sym term ∙ is);
  }

  learned_offers : (p : Pair) (old new : NodeValue) (before after : OutboxValue) → Learns p old before new after
      → Offers b whose a F G old → Offers b whose a F G new
  learned_offers p old new before after (inl kept) o =
      subst (Offers b whose a F G) (sym kept.1) (alike old _ refl refl refl o)
  learned_offers p old new before after (inr left) o = subst (Offers b whose a F G) (sym left.1) o

  waited_offers : (s : Option Session) (old new : NodeValue) (before after : OutboxValue)
      → EndsWaitIfAny s old before new after → Offers b whose a F G old → Offers b whose a F G new
  waited_offers None old new before after ends o = subst (Offers b whose a F G) (sym ends.0) o
  waited_offers (Some s) old new before after ends o =
      subst (Offers b whose a F G) (sym ends.becomes) (alike old _ refl refl refl o)

  inside_offers : (node : NodeValue) → Offers b whose a F G node
      → Offers b whose a F G (without_term_if_outside node)
  inside_offers node o = by_test (is_outside node)
    where
      by_test : (t : Bool) → Offers b whose a F G (cond t (without_term node) node)
      by_test true = record {
        header = o.header;
        acceptor = o.acceptor;
        ballot = λ u is. absurd (cc is);
        offered = λ u is p c. absurd (cc is);
        reported = λ u is q c v d. absurd (cc is);
      }
      by_test false = o

  runs_offer : (m : Meaning) (old : NodeValue) (before : OutboxValue) (new : NodeValue) (after : OutboxValue)
      → Runs m old before new after → Offers b whose a F G old → Offers b whose a F G new
  runs_offer m old before _ _ stays o = o
  runs_offer m old before new after (goes_on {mid = mid} so_far e) o =
      let earlier : Offers b whose a F G mid = runs_offer m old before mid _ so_far o in
      subst (Offers b whose a F G) (sym e.becomes) (inside_offers e.mid
      (waited_offers (session_by e.command (run_answer m e.command mid.learner.whole)) _ e.mid _ after e.ends_wait
      (alike mid (with_learner mid (advanced m e.command mid.learner)) refl refl refl earlier)))

  accepted_offers : (m : Meaning) (from : ℕ) (x : Vote) (old new : NodeValue) (out : OutboxValue)
      → HandlesAccepted m from x old new out → Offers b whose a F G old → Offers b whose a F G new
  accepted_offers m from x old new out (inl counted) o =
      let d = counted.2 in
      runs_offer m d.learned d.written new d.ran d.runs.0
      (learned_offers (x.position, x.command) (with_vote from x old counted.0) d.learned _ d.written d.learns
      (heard_offers from x old counted.0 o))
  accepted_offers m from x old new out (inr (inl heard, silent)) o =
      subst (Offers b whose a F G) (sym heard.2) (heard_offers from x old heard.0 o)
  accepted_offers m from x old new out (inr (inr other, silent)) o = subst (Offers b whose a F G) (sym other.1) o

-- ---- how far it gets

module _ (width last : ℕ) (some : 1 ≤ width) where
  pub learned_reaches : (p : Pair) (old new : NodeValue) (before after : OutboxValue) → Learns p old before new after
      → p.0 ≤ last → Reaches width last old → Reaches width last new
  learned_reaches p old new before after (inl kept) low r = subst (Reaches width last) (sym kept.1) (record {
    width_is = r.width_is;
    within = r.within;
    pairs = λ q c. elim (with_only p old.learner.pairs q c)
        [ inl is ↦ subst (λ (y : Pair). y.0 ≤ last) is low | inr there ↦ r.pairs q there ];
  })
  learned_reaches p old new before after (inr left) low r = subst (Reaches width last) (sym left.1) r

  pub same_reaches : (old new : NodeValue) → new.learner ≡ old.learner → Reaches width last old → Reaches width last new
  same_reaches old new e r = record {
    width_is = ap (λ (l : LearnerValue). alpha l) e ∙ r.width_is;
    within = subst (λ (l : LearnerValue). executed l ≤ last) (sym e) r.within;
    pairs = subst (λ (l : LearnerValue). (p : Pair) → Contains l.pairs p → p.0 ≤ last) (sym e) r.pairs;
  }

  waited_learner : (s : Option Session) (old new : NodeValue) (before after : OutboxValue)
      → EndsWaitIfAny s old before new after → new.learner ≡ old.learner
  waited_learner None old new before after ends = ap (λ (n : NodeValue). n.learner) ends.0
  waited_learner (Some s) old new before after ends = ap (λ (n : NodeValue). n.learner) ends.becomes

  inside_learner : (node : NodeValue) → (without_term_if_outside node).learner ≡ node.learner
  inside_learner node = by_test (is_outside node)
    where
      by_test : (t : Bool) → (cond t (without_term node) node).learner ≡ node.learner
      by_test true = refl
      by_test false = refl

  ran_reaches : (m : Meaning) (v : Command) (old : NodeValue) → Contains old.learner.pairs (executed old.learner + 1, v)
      → Reaches width last old → Reaches width last (with_learner old (advanced m v old.learner))
  ran_reaches m v old next r =
      let moves = ran_moves m v old.learner.whole (omega (arith, some, r.width_is)) in
      let low : executed old.learner + 1 ≤ last = r.pairs (executed old.learner + 1, v) next in
      record {
        width_is = moves.1 ∙ r.width_is;
        within = omega (arith, moves.0, low);
        pairs = λ p c. r.pairs p (without_from (executed old.learner + 1) old.learner.pairs p c);
      }

  pub runs_reach : (m : Meaning) (old : NodeValue) (before : OutboxValue) (new : NodeValue) (after : OutboxValue)
      → Runs m old before new after → Reaches width last old → Reaches width last new
  runs_reach m old before _ _ stays r = r
  runs_reach m old before new after (goes_on {mid = mid} so_far e) r =
      same_reaches (with_learner mid (advanced m e.command mid.learner)) new
      (ap (λ (n : NodeValue). n.learner) e.becomes ∙ inside_learner e.mid
      ∙ waited_learner (session_by e.command (run_answer m e.command mid.learner.whole)) _ e.mid _ after e.ends_wait)
      (ran_reaches m e.command mid e.next (runs_reach m old before mid _ so_far r))

  accepted_reaches : (m : Meaning) (from : ℕ) (x : Vote) (old new : NodeValue) (out : OutboxValue) → x.position ≤ last
      → HandlesAccepted m from x old new out → Reaches width last old → Reaches width last new
  accepted_reaches m from x old new out low (inl counted) r =
      let d = counted.2 in
      runs_reach m d.learned d.written new d.ran d.runs.0
      (learned_reaches (x.position, x.command) (with_vote from x old counted.0) d.learned _ d.written d.learns low
      (same_reaches old (with_vote from x old counted.0) refl r))
  accepted_reaches m from x old new out low (inr (inl heard, silent)) r =
      same_reaches old new (ap (λ (n : NodeValue). n.learner) heard.2) r
  accepted_reaches m from x old new out low (inr (inr other, silent)) r =
      same_reaches old new (ap (λ (n : NodeValue). n.learner) other.1) r

-- ---- all acceptances

module _ (b : BallotValue) (whose : HeaderValue) (a : AcceptorValue) (F G : Vote → Type 0) (set : List Member)
    (all : List EnvelopeValue)
    (told : (x : Vote) → ((n : ℕ) → Contains (nodes_of set) n → Tells whose all (kinds.Accept x) n) → F x)
    (width last : ℕ) (some : 1 ≤ width) (received : List ReceivedPromise) (m : Meaning)
    (IsText : List ℕ → Type 0) (x : Vote) (low : x.position ≤ last) (plain : KeepsMembers x.command) where
  pub record Fares (node : NodeValue) : Type 0 where
    pub offers : Offers b whose a F G node
    pub reaches : Reaches width last node
    pub keeps : Keeps set b received node × NothingToRun node

  one_fares : (from : ℕ) (old new : NodeValue) (out : OutboxValue)
      → Hears m IsText old from (kinds.Accepted x) new out
      → ((l : EnvelopeValue) → Contains out.envelopes l → Contains all l) → Fares old → Fares new
  one_fares from old new out takes more k =
      by_handled (handled m IsText old (content.Node from (kinds.Accepted x)) new out takes)
    where
      later : Keeps set b received new × NothingToRun new
      later = one_keeps set b received m IsText old new from x out takes plain k.keeps

      by_handled : Handled m IsText old (content.Node from (kinds.Accepted x)) new out → Fares new
      by_handled h =
          let learner : new.learner ≡ h.mid.learner =
          proposed_learner h.proposes.0 h.mid new h.first out h.proposes.1 in
          record {
            offers = proposed_offers b whose a F G set all told h.proposes.0 h.mid new h.first out h.proposes.1
                (subst (λ (l : LearnerValue). AreAll l.whole.roster.sets set) learner later.0.fixed) more
                (accepted_offers b whose a F G set all told m from x old h.mid h.first h.handles k.offers);
            reaches = same_reaches width last some h.mid new learner
                (accepted_reaches width last some m from x old h.mid h.first low h.handles k.reaches);
            keeps = later;
          }

  pub all_fare : (voters : List ℕ) (old new : NodeValue) (envelopes : List EnvelopeValue)
      → TakesEach m IsText (acceptances voters x) old new envelopes
      → ((l : EnvelopeValue) → Contains envelopes l → Contains all l) → Fares old → Fares new
  all_fare [] old new envelopes takes more k = subst Fares (sym takes.0) k
  all_fare (n ∷ voters) old new envelopes takes more k =
      let first : (l : EnvelopeValue) → Contains (takes.1.envelopes ++ takes.2) l → Contains all l =
      subst (λ (ls : List EnvelopeValue). (l : EnvelopeValue) → Contains ls l → Contains all l) takes.5 more in
      all_fare voters takes.0 new takes.2 takes.4
      (λ l c. first l (Contains-append_right takes.1.envelopes takes.2 l c))
      (one_fares n old takes.0 takes.1 takes.3 (λ l c. first l (Contains-append_left takes.1.envelopes takes.2 l c)) k)
