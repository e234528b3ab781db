-- A candidate asks, collects promises until they are a majority's, and after a rejection goes above what it heard of.
use Rattle.std.proofs.Common.{◌≡◌, ◌∙◌, ◌⊎◌, inl, inr, ℕ, ◌+◌, ◌<◌, ◌≤◌, ◌==◌, ◌&&◌, max, nat_le, nat_lt, Bool, true}
use Rattle.std.proofs.Common.{false}
use Rattle.std.proofs.Common.{cond, Option, Some, None, List, [], ◌∷◌, ◌++◌, map, Contains, refl, ap, sym, subst, arith}
use Rattle.std.proofs.lemmas.Bool.{cases_Bool, cases_order, eq-eqb, le-leb}
use Rattle.std.proofs.lemmas.Bool.Decides.{nat_tests}
use Rattle.std.proofs.lemmas.List.Elements.{Contains-append_right, Contains-append_cases}
use Rattle.std.specs.List.{list_any}
use Rattle.std.specs.Prelude.{slice_get}
use Rattle.lk_agreement_laws.proofs.Histories.{cons_cases, contains_more, only}
use Rattle.lk_leader.specs.Proposing.{Leads, promisers, proposed}
use Rattle.lk_leader.specs.Terms.{ReceivedPromise, TermValue, with_received, is_promiser, is_term_below}
use Rattle.lk_learner.specs.Learners.{LearnerValue, executed}
use Rattle.lk_members.proofs.Memberships.{majority_lies_within}
use Rattle.lk_members.specs.Ports.{is_named, AreAllAbove}
use Rattle.lk_members.specs.Rosters.{is_member}
use Rattle.lk_messages.specs.Values.{PromiseValue}
use Rattle.lk_messages.specs.declared.message.Content.TheVariants as content
use Rattle.lk_messages.specs.declared.message.NodeMessage.TheVariants as kinds
use Rattle.lk_node.proofs.Nodes.{map_has}
use Rattle.lk_node.specs.Beginning.{next_ballot, greatest_round, AsksPromises, BeginsBallot}
use Rattle.lk_node.specs.Leading.{having_proposed, received_from, RecordsPromise, DropsPromise, ProposesAll}
use Rattle.lk_node.specs.NodeValue.{NodeValue}
use Rattle.lk_node.specs.Telling.{envelope_to}
use Rattle.lk_node.specs.Waiting.{ticked, index_of, BeginsWhereDue}
use Rattle.lk_node.specs.Yielding.{without_term, yielded, with_round, seeing}
use Rattle.lk_node_interface.specs.Envelopes.{EnvelopeValue}
use Rattle.lk_node_interface.specs.Outboxes.{OutboxValue, nothing, with_entry}
use Rattle.lk_node_interface.specs.Rounds.{greater_round}
use Rattle.lk_node_interface.specs.Ticks.{is_enough}
use Rattle.lk_progress.proofs.Hearing.{Handled, handled, proposed_learner}
use Rattle.lk_progress.proofs.Majorities.{majority_more, passing_has, passing_named}
use Rattle.lk_progress.proofs.Proposing.{next_set}
use Rattle.lk_progress.specs.Electing.{AsksWindow, DueNodeAsks, promises, PromisedNodeLeads}
use Rattle.lk_progress.specs.Electing.{RejectedNodeGoesAbove}
use Rattle.lk_progress.specs.Hearing.{Hears, TakesEach}
use Rattle.lk_state.specs.Meanings.{Meaning}
use Rattle.lk_types.specs.BallotValue.{BallotValue}
use Rattle.lk_types.specs.Ballots.{is_below}
use Rattle.lk_types.specs.declared.entry.Entry.TheVariants.{Promise}
use Rattle.lk_types.specs.declared.member.Member.{Member}
use Rattle.lk_types.specs.declared.vote.Vote.{Vote}

-- ---- it asks

all_above : (is : ℕ → Bool) (low : ℕ) (ns : List ℕ) (k : ℕ) → AreAllAbove is low ns → low < k → is k ≡ true
    → Contains ns k
all_above is low [] k none above passes = absurd (cc (sym passes ∙ none k above))
all_above is low (n ∷ ns) k all above passes =
    elim (cases_order k n) [
      | inl same ↦ (0, omega arith, sym same)
      | inr (inl below) ↦ absurd (cc (sym passes ∙ all.0.least k above below))
      | inr (inr later) ↦ contains_more n ns k (all_above is n ns k all.1 later passes)
    ]

begun_asks : (old new : NodeValue) (out : OutboxValue) → executed old.learner < 281474976710656
    → BeginsBallot (next_ballot old) (ticked old) new out → AsksWindow old new out
begun_asks old new out room begins = record {
  becomes = begins.becomes;
  told = λ n some named. by_asks n
      (all_above (λ k. is_named k old.learner.whole.roster.sets) 0 begins.nodes n begins.all (omega (arith, some))
      named)
      begins.asks;
}
  where
    by_asks : (n : ℕ) → Contains begins.nodes n → AsksPromises (next_ballot old) begins.nodes (ticked old) out
        → Contains out.envelopes (envelope_to old (kinds.Prepare (next_ballot old) (executed old.learner + 1)) n)
    by_asks n c (inl asks) =
        subst (λ (o : OutboxValue). Contains o.envelopes
        (envelope_to old (kinds.Prepare (next_ballot old) (executed old.learner + 1)) n)) (sym asks.1)
        (Contains-append_right (with_entry (Promise (next_ballot old)) nothing).envelopes _ _
        (map_has (envelope_to old (kinds.Prepare (next_ballot old) (executed old.learner + 1))) begins.nodes n c))
    by_asks n c (inr none) = absurd (omega (arith, none.0, room))

pub due_asks : DueNodeAsks
due_asks old new out due (inl reminds) =
    absurd (let e : Some reminds.1.0 ≡ None = sym reminds.1.1 ∙ due.idle in cc e)
due_asks old new out due (inr waits) = by_due waits.1
  where
    by_due : BeginsWhereDue (ticked old) new out → AsksWindow old new out
    by_due (inl begins) = begun_asks old new out due.position begins.1
    by_due (inr rests) = absurd (early rests.0)
      where
        early : ((is_enough (ticked old).ticks (index_of (ticked old)) ≡ false)
            ⊎ (281474976710656 ≤ greatest_round (ticked old))) → ⊥
        early (inl soon) = cc (sym soon ∙ due.waited)
        early (inr late) = omega (arith, late, due.round)

-- ---- it is promised

-- what proposing leaves of a term
pub proposes_term : (xs : List Vote) (old new : NodeValue) (before out : OutboxValue) (t : TermValue)
    → ProposesAll xs old new before out → old.leader.term ≡ Some t
    → (u : TermValue) × (new.leader.term ≡ Some u) × (u.ballot ≡ t.ballot) × (u.received ≡ t.received)
proposes_term [] old new before out t all is =
    (t, ap (λ (node : NodeValue). node.leader.term) all.1 ∙ is, refl, refl)
proposes_term (x ∷ xs) old new before out t all is =
    let one : all.0.term ≡ t = (let e : Some all.0.term ≡ Some t = sym all.0.current ∙ is in cc e) in
    let rest = proposes_term xs (having_proposed old x all.0) new _ out
    (proposed old.learner.whole.roster x.position x.command all.0.term) all.1 refl in (
      rest.0,
      rest.1,
      rest.2 ∙ ap (λ (u : TermValue). u.ballot) one,
      rest.3 ∙ ap (λ (u : TermValue). u.received) one,
    )

-- The node's term, of this ballot, has a promise of each of these nodes, and each that it has is such a promise.
pub record HasPromises (P : ReceivedPromise → Type 0) (l : LearnerValue) (b : BallotValue) (nodes : List ℕ)
    (node : NodeValue) : Type 0 where
  pub learner : node.learner ≡ l
  pub term : TermValue
  pub current : node.leader.term ≡ Some term
  pub ballot : term.ballot ≡ b
  pub each : (q : ReceivedPromise) → Contains term.received q → P q
  pub has : (n : ℕ) → Contains nodes n → is_promiser n term.received ≡ true

any_more : (n : ℕ) (qs : List ReceivedPromise) (q : ReceivedPromise) → is_promiser n qs ≡ true
    → is_promiser n (qs ++ q ∷ []) ≡ true
any_more n [] q e = absurd (cc e)
any_more n (p ∷ qs) q e =
    elim (cases_Bool (p.node == n)) [
      | inl same ↦ rw same refl
      | inr other ↦ rw other (any_more n qs q (rw other at e))
    ]

any_last : (qs : List ReceivedPromise) (q : ReceivedPromise) → is_promiser q.node (qs ++ q ∷ []) ≡ true
any_last [] q = let same = eq-eqb q.node q.node refl in rw same refl
any_last (p ∷ qs) q =
    elim (cases_Bool (p.node == q.node)) [ inl same ↦ rw same refl | inr other ↦ rw other (any_last qs q) ]

pub with_one : (P : ReceivedPromise → Type 0) (l : LearnerValue) (b : BallotValue) (nodes : List ℕ)
    (old mid : NodeValue) (from : ℕ) (p : PromiseValue)
    → HasPromises P l b nodes old → is_named from l.whole.roster.sets ≡ true → p.ballot ≡ b
    → P (received_from from p)
    → RecordsPromise old from p mid ⊎ DropsPromise old from p mid → HasPromises P l b (from ∷ nodes) mid
with_one P l b nodes old mid from p k named ballot such (inl records) =
    subst (HasPromises P l b (from ∷ nodes)) (sym records.2) (record {
      learner = k.learner;
      term = with_received (received_from from p) t;
      current = refl;
      ballot = ap (λ (u : TermValue). u.ballot) one ∙ k.ballot;
      each = λ q c. elim (Contains-append_cases t.received (received_from from p ∷ []) q c) [
        | inl old' ↦ k.each q (subst (λ (u : TermValue). Contains u.received q) one old')
        | inr new' ↦ subst P (only _ q new') such
      ];
      has = λ n c. elim (cons_cases from nodes n c) [
        | inl is ↦ subst (λ (j : ℕ). is_promiser j (t.received ++ received_from from p ∷ []) ≡ true) is
            (any_last t.received (received_from from p))
        | inr later ↦ any_more n t.received (received_from from p)
            (subst (λ (u : TermValue). is_promiser n u.received ≡ true) (sym one) (k.has n later))
      ];
    })
  where
    t : TermValue
    t = records.0

    one : t ≡ k.term
    one = let e : Some t ≡ Some k.term = sym records.1.current ∙ k.current in cc e
with_one P l b nodes old mid from p k named ballot such (inr drops) =
    subst (HasPromises P l b (from ∷ nodes)) (sym drops.1) (record {
      learner = k.learner;
      term = k.term;
      current = k.current;
      ballot = k.ballot;
      each = k.each;
      has = λ n c. elim (cons_cases from nodes n c) [
        | inl is ↦ subst (λ (j : ℕ). is_promiser j k.term.received ≡ true) is there
        | inr later ↦ k.has n later
      ];
    })
  where
    there : is_promiser from k.term.received ≡ true
    there = elim (cases_Bool (is_promiser from k.term.received)) [
      | inl t ↦ t
      | inr f ↦ absurd (drops.0 k.term (record {
        current = k.current;
        ballot = k.ballot ∙ sym ballot;
        named = subst (λ (x : LearnerValue). is_named from x.whole.roster.sets ≡ true) (sym k.learner) named;
        first = f;
      }))
    ]

heard_one : (m : Meaning) (IsText : List ℕ → Type 0) (P : ReceivedPromise → Type 0) (l : LearnerValue)
    (b : BallotValue) (nodes : List ℕ)
    (old new : NodeValue) (from : ℕ) (p : PromiseValue) (out : OutboxValue) → HasPromises P l b nodes old
    → is_named from l.whole.roster.sets ≡ true → p.ballot ≡ b
    → P (received_from from p)
    → Hears m IsText old from (kinds.Promise p) new out → HasPromises P l b (from ∷ nodes) new
heard_one m IsText P l b nodes old new from p out k named ballot such takes =
    let h : Handled m IsText old (content.Node from (kinds.Promise p)) new out = handled m IsText old _ new out takes in
    let mid : HasPromises P l b (from ∷ nodes) h.mid = with_one P l b nodes old h.mid from p k named ballot such
    h.handles.0 in
    let rest = proposes_term h.proposes.0 h.mid new h.first out mid.term h.proposes.1 mid.current in
    record {
      learner = proposed_learner h.proposes.0 h.mid new h.first out h.proposes.1 ∙ mid.learner;
      term = rest.0;
      current = rest.1;
      ballot = rest.2 ∙ mid.ballot;
      each = λ q c. mid.each q (subst (λ (qs : List ReceivedPromise). Contains qs q) rest.3 c);
      has = λ n c. subst (λ (qs : List ReceivedPromise). is_promiser n qs ≡ true) (sym rest.3) (mid.has n c);
    }

heard_all : (m : Meaning) (IsText : List ℕ → Type 0) (P : ReceivedPromise → Type 0) (l : LearnerValue) (b : BallotValue)
    (heard : List (ℕ × PromiseValue)) (nodes : List ℕ) (old new : NodeValue) (envelopes : List EnvelopeValue)
    → HasPromises P l b nodes old
    → ((h : ℕ × PromiseValue) → Contains heard h → is_named h.0 l.whole.roster.sets ≡ true)
    → ((h : ℕ × PromiseValue) → Contains heard h → h.1.ballot ≡ b)
    → ((h : ℕ × PromiseValue) → Contains heard h → P (received_from h.0 h.1))
    → TakesEach m IsText (promises heard) old new envelopes
    → (all : List ℕ) × HasPromises P l b all new
    × ((n : ℕ) → Contains nodes n ⊎ Contains (map (λ (h : ℕ × PromiseValue). h.0) heard) n → Contains all n)
heard_all m IsText P l b [] nodes old new envelopes k named ballot such takes = (
  nodes,
  subst (HasPromises P l b nodes) (sym takes.0) k,
  λ n c. elim c [ inl there ↦ there | inr none ↦ absurd (omega (arith, none.1)) ],
)
heard_all m IsText P l b (h ∷ heard) nodes old new envelopes k named ballot such takes =
    let here : Contains (h ∷ heard) h = (0, omega arith, refl) in
    let one = heard_one m IsText P l b nodes old takes.0 h.0 h.1 takes.1 k (named h here) (ballot h here) (such h here)
    takes.3 in
    let rest = heard_all m IsText P l b heard (h.0 ∷ nodes) takes.0 new takes.2 one
    (λ g c. named g (contains_more h heard g c)) (λ g c. ballot g (contains_more h heard g c))
    (λ g c. such g (contains_more h heard g c)) takes.4 in
    (rest.0, rest.1, λ n c. rest.2 n (sorted n c))
  where
    others : List ℕ
    others = map (λ (g : ℕ × PromiseValue). g.0) heard

    sorted : (n : ℕ) → Contains nodes n ⊎ Contains (h.0 ∷ others) n → Contains (h.0 ∷ nodes) n ⊎ Contains others n
    sorted n (inl c) = inl (contains_more h.0 nodes n c)
    sorted n (inr c) =
        elim (cons_cases h.0 others n c) [ inl is ↦ inl (0, omega arith, is) | inr later ↦ inr later ]

-- ---- so it leads

pub named_by : (sets : List (List Member)) (set : List Member) (n : ℕ) → slice_get sets 0 ≡ Some set
    → is_member n set ≡ true → is_named n sets ≡ true
named_by [] set n at member = absurd (cc at)
named_by (s ∷ sets) set n at member =
    let is : s ≡ set = (let e : Some s ≡ Some set = at in cc e) in
    let t : is_member n s ≡ true = subst (λ (x : List Member). is_member n x ≡ true) (sym is) member in
    rw t refl

pub near_promiser : (n i : ℕ) (qs : List ReceivedPromise) → ((q : ReceivedPromise) → Contains qs q → q.first ≤ i)
    → is_promiser n qs ≡ true → list_any (λ r. r.node == n && nat_le r.first i) qs ≡ true
near_promiser n i [] first e = absurd (cc e)
near_promiser n i (q ∷ qs) first e =
    let near : nat_le q.first i ≡ true = le-leb q.first i (first q (0, omega arith, refl)) in
    elim (cases_Bool (q.node == n)) [
      | inl same ↦ rw (same, near) refl
      | inr other ↦ rw other (near_promiser n i qs (λ p c. first p (contains_more q qs p c)) (rw other at e))
    ]

-- the promise is from this position or an earlier one on
abbrev IsFrom : ℕ → ReceivedPromise → Type 0
IsFrom i q = q.first ≤ i

pub promised_leads : (m : Meaning) (IsText : List ℕ → Type 0) → PromisedNodeLeads m IsText
promised_leads m IsText old new t set heard envelopes current members room usable major takes =
    let rest = heard_all m IsText (IsFrom (executed old.learner + 1)) old.learner t.ballot heard [] old new envelopes
    begins named usable.ballot usable.first
    takes in
    leads rest.1 (λ n c. rest.1.has n (rest.2 n (inr c)))
  where
    i : ℕ
    i = executed old.learner + 1

    begins : HasPromises (IsFrom (executed old.learner + 1)) old.learner t.ballot [] old
    begins = record {
      learner = refl;
      term = t;
      current = current;
      ballot = refl;
      each = usable.before;
      has = λ n c. absurd (omega (arith, c.1));
    }

    named : (h : ℕ × PromiseValue) → Contains heard h → is_named h.0 old.learner.whole.roster.sets ≡ true
    named h c = named_by old.learner.whole.roster.sets set h.0 (next_set old.learner.whole.roster set members)
        (majority_lies_within set (map (λ (g : ℕ × PromiseValue). g.0) heard) h.0 major
        (map_has (λ (g : ℕ × PromiseValue). g.0) heard h c))

    leads : {all : List ℕ} (k : HasPromises (IsFrom (executed old.learner + 1)) old.learner t.ballot all new)
        → ((n : ℕ) → Contains (map (λ (g : ℕ × PromiseValue). g.0) heard) n → is_promiser n k.term.received ≡ true)
        → Leads new.leader new.learner.whole.roster
    leads k has =
        subst (λ (l : LearnerValue). Leads new.leader l.whole.roster) (sym k.learner) (
          k.term,
          k.current,
          (
            room,
            record {
              set = set;
              members = members;
              promised = majority_more set (map (λ (g : ℕ × PromiseValue). g.0) heard)
                  (promisers set i k.term.received) major (passing_named near set)
                  (λ n c. passing_has near set n (majority_lies_within set _ n major c)
                  (near_promiser n i k.term.received k.each (has n c)));
            },
          ),
        )
      where
        near : ℕ → Bool
        near j = list_any (λ r. r.node == j && nat_le r.first i) k.term.received

-- ---- it is rejected

yielded_rounds : (b : BallotValue) (node : NodeValue) → (yielded b node).rounds ≡ node.rounds
yielded_rounds b node = by_test (is_term_below b node.leader.term)
  where
    by_test : (t : Bool) → (cond t (without_term node) node).rounds ≡ node.rounds
    by_test true = refl
    by_test false = refl

proposed_rounds : (xs : List Vote) (old new : NodeValue) (before out : OutboxValue)
    → ProposesAll xs old new before out → new.rounds ≡ old.rounds
proposed_rounds [] old new before out p = ap (λ (node : NodeValue). node.rounds) p.1
proposed_rounds (x ∷ xs) old new before out p = proposed_rounds xs (having_proposed old x p.0) new _ out p.1

-- a term that has ended stays so, and one below the ballot ends
yielded_term : (b : BallotValue) (node : NodeValue)
    → (node.leader.term ≡ None)
    ⊎ ((t : TermValue) × (node.leader.term ≡ Some t) × (is_below t.ballot b ≡ true))
    → (yielded b node).leader.term ≡ None
yielded_term b node (inl none) = by_test (is_term_below b node.leader.term)
  where
    by_test : (t : Bool) → (cond t (without_term node) node).leader.term ≡ None
    by_test true = refl
    by_test false = none
yielded_term b node (inr below) =
    let t : is_term_below b node.leader.term ≡ true =
    subst (λ (o : Option TermValue). is_term_below b o ≡ true) (sym below.1) below.2 in
    rw t refl

-- a recorded ballot ends the term or leaves it
kept_or_ended : (b : BallotValue) (node : NodeValue)
    → ((yielded b node).leader.term ≡ None) ⊎ ((yielded b node).leader.term ≡ node.leader.term)
kept_or_ended b node = by_test (is_term_below b node.leader.term)
  where
    by_test : (t : Bool) → ((cond t (without_term node) node).leader.term ≡ None)
        ⊎ ((cond t (without_term node) node).leader.term ≡ node.leader.term)
    by_test true = inl refl
    by_test false = inr refl

idle_stays : (xs : List Vote) (old new : NodeValue) (before out : OutboxValue) → ProposesAll xs old new before out
    → old.leader.term ≡ None → new.leader.term ≡ None
idle_stays [] old new before out all none = ap (λ (node : NodeValue). node.leader.term) all.1 ∙ none
idle_stays (x ∷ xs) old new before out all none =
    absurd (let e : Some all.0.term ≡ None = sym all.0.current ∙ none in cc e)

seen_below : (promised : BallotValue) (seen : ℕ) → seen ≤ greater_round promised seen
seen_below promised seen =
    elim (cases_Bool (nat_lt promised.round seen)) [
      | inl t ↦ rw t (omega arith)
      | inr f ↦ rw f (grind (
        arith,
        nat_tests,
      ))
    ]

pub rejected_above : (m : Meaning) (IsText : List ℕ → Type 0) → RejectedNodeGoesAbove m IsText
rejected_above m IsText old new from nack out takes = record { next = inl next; ends = ends }
  where
    k : Handled m IsText old (content.Node from (kinds.Nack nack)) new out
    k = handled m IsText old _ new out takes

    told : NodeValue
    told = seeing nack.ballot old

    rounds : new.rounds ≡ max told.rounds nack.promised.round
    rounds = proposed_rounds k.proposes.0 k.mid new k.first out k.proposes.1
        ∙ ap (λ (node : NodeValue). node.rounds) k.handles.0
        ∙ yielded_rounds nack.promised (with_round nack.promised told)

    next : nack.promised.round < greatest_round new + 1
    next = let above = seen_below new.acceptor.state.promised new.rounds in omega (arith, above, rounds)

    ends : (t : TermValue) → old.leader.term ≡ Some t → is_below t.ballot nack.promised ≡ true
        → new.leader.term ≡ None
    ends t is below = idle_stays k.proposes.0 k.mid new k.first out k.proposes.1
        (ap (λ (node : NodeValue). node.leader.term) k.handles.0
        ∙ yielded_term nack.promised (with_round nack.promised told) (by_first (kept_or_ended nack.ballot
        (with_round nack.ballot old))))
      where
        by_first : (told.leader.term ≡ None) ⊎ (told.leader.term ≡ old.leader.term)
            → (told.leader.term ≡ None)
            ⊎ ((t : TermValue) × (told.leader.term ≡ Some t) × (is_below t.ballot nack.promised ≡ true))
        by_first (inl none) = inl none
        by_first (inr same) = inr (t, same ∙ is, below)
