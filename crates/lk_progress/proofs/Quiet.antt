-- A candidate to which only promises come that report no vote proposes nothing until it is asked.
use Rattle.std.proofs.Common.{◌≡◌, ◌∙◌, ◌⊎◌, inl, inr, ℕ, ◌+◌, ◌<◌, ◌≤◌, ◌==◌, ◌&&◌, nat_le, nat_lt, Bool, true, false}
use Rattle.std.proofs.Common.{List, [], ◌∷◌, ◌++◌, map, filter, length, Contains, Some, refl, ap, sym, subst, arith}
use Rattle.std.proofs.lemmas.Bool.{cases_Bool}
use Rattle.std.proofs.lemmas.Bool.Decides.{nat_tests}
use Rattle.std.specs.List.{list_any}
use Rattle.lk_acceptor.specs.AcceptorValue.{AcceptorValue}
use Rattle.lk_agreement_laws.proofs.Histories.{cons_cases, contains_more}
use Rattle.lk_leader.specs.Proposing.{AreMembersAt, promisers}
use Rattle.lk_leader.specs.Terms.{ReceivedPromise, TermValue, with_received}
use Rattle.lk_leader.specs.Values.{promised_by, promised_at, received_at, speaks_at, has_vote_from, is_changing_at}
use Rattle.lk_leader.specs.Values.{IsLeadersValue, highest, first_new, fills}
use Rattle.lk_learner.specs.Learners.{LearnerValue, IsNext, executed}
use Rattle.lk_members.proofs.Memberships.{majority_lies_within}
use Rattle.lk_members.specs.Effects.{Command, RequestValue}
use Rattle.lk_members.specs.Majorities.{IsMajority}
use Rattle.lk_members.specs.Ports.{is_named}
use Rattle.lk_members.specs.Windows.{RosterValue}
use Rattle.lk_messages.specs.Values.{PromiseValue}
use Rattle.lk_messages.specs.declared.message.Content.TheVariants as content
use Rattle.lk_messages.specs.declared.message.NodeMessage.TheVariants as kinds
use Rattle.lk_node.specs.Beginning.{next_ballot}
use Rattle.lk_node.specs.Leading.{received_from, ProposesAll, ProposesOpen, ProposesVote, RecordsPromise, DropsPromise}
use Rattle.lk_node.specs.NodeValue.{NodeValue}
use Rattle.lk_node_interface.specs.Envelopes.{EnvelopeValue}
use Rattle.lk_node_interface.specs.Outboxes.{OutboxValue}
use Rattle.lk_progress.proofs.Electing.{HasPromises, with_one, near_promiser, named_by}
use Rattle.lk_progress.proofs.Hearing.{Handled, handled}
use Rattle.lk_progress.proofs.Majorities.{majority_more, passing_has, passing_named}
use Rattle.lk_progress.proofs.Proposing.{gone, next_set}
use Rattle.lk_progress.specs.Deciding.{IsReady}
use Rattle.lk_progress.specs.Electing.{promises}
use Rattle.lk_progress.specs.Exchanges.{IsQuietCandidate, promise_to}
use Rattle.lk_progress.specs.Hearing.{Hears, TakesEach}
use Rattle.lk_state.specs.Meanings.{Meaning}
use Rattle.lk_types.specs.declared.member.Member.{Member}
use Rattle.lk_types.specs.declared.vote.Vote.{Vote}

-- ---- no vote is reported

-- a promise from this position or an earlier one on, without a vote
abbrev pub IsQuiet : ℕ → ReceivedPromise → Type 0
IsQuiet i q = (q.first ≤ i) × (q.votes ≡ [])

abbrev AreEmpty : List ReceivedPromise → Type 0
AreEmpty qs = (q : ReceivedPromise) → Contains qs q → q.votes ≡ []

pub promised_none : (i : ℕ) (set : List Member) (qs : List ReceivedPromise) → AreEmpty qs
    → promised_at i (received_at set i qs) ≡ []
promised_none i set [] empty = refl
promised_none i set (q ∷ qs) empty =
    let rest = promised_none i set qs (λ p c. empty p (contains_more q qs p c)) in
    elim (cases_Bool (speaks_at set i q)) [
      | inl t ↦ (let none : promised_by i q ≡ [] =
          ap (λ (votes : List Vote). map (λ x. record {
            node = q.node;
            vote =
                x;
          }) (filter (λ x. x.position == i) votes))
          (empty q (0, omega arith, refl)) in
          rw t (rw (none, rest) refl))
      | inr f ↦ rw f rest
    ]

vote_from_none : (i : ℕ) (qs : List ReceivedPromise) → AreEmpty qs → has_vote_from qs i ≡ false
vote_from_none i [] empty = refl
vote_from_none i (q ∷ qs) empty =
    let none : list_any (λ (x : Vote). nat_le i x.position) q.votes ≡ false =
    ap (list_any (λ (x : Vote). nat_le i x.position)) (empty q (0, omega arith, refl)) in
    rw none (vote_from_none i qs (λ p c. empty p (contains_more q qs p c)))

-- a change that is in effect at a position is in effect after it
later_unchanged : (roster : RosterValue) (i j : ℕ) → i ≤ j → is_changing_at roster i ≡ false
    → is_changing_at roster j ≡ false
later_unchanged roster i j le e =
    elim (cases_Bool (nat_lt 0 roster.changed)) [
      | inl t ↦ (let early : nat_le i (roster.changed + length roster.sets) ≡ false = rw t at e in
          let late : nat_le j (roster.changed + length roster.sets) ≡ false = grind (arith, nat_tests) in
          rw (t, late) refl)
      | inr f ↦ rw f refl
    ]

-- ---- nothing is proposed

no_parts : (before behind : List RequestValue) (q : RequestValue) → [] ≡ before ++ (q ∷ behind) → ⊥
no_parts [] behind q e = cc e
no_parts (b ∷ before) behind q e = cc e

no_value : (t : TermValue) (waiting : List RequestValue) (roster : RosterValue) (set : List Member) (i : ℕ)
    (v : Command) → waiting ≡ [] → AreEmpty t.received → is_changing_at roster i ≡ false
    → IsLeadersValue t waiting roster set i v → ⊥
no_value t waiting roster set i v none empty still (highest h is) =
    gone _ h (promised_none i set t.received empty) is.among
no_value t waiting roster set i v none empty still (first_new q unreported first) =
    no_parts first.before first.behind q (sym none ∙ first.parts)
no_value t waiting roster set i v none empty still (fills unreported old why) =
    let quiet = vote_from_none i t.received empty in absurd (cc (rw (quiet, still) at why))

-- so proposing changes nothing
pub proposes_nothing : (node new : NodeValue) (before out : OutboxValue) (t : TermValue)
    → ProposesOpen node new before out → node.leader.term ≡ Some t → node.leader.waiting ≡ []
    → AreEmpty t.received → is_changing_at node.learner.whole.roster (executed node.learner + 1) ≡ false
    → new ≡ node
proposes_nothing node new before out t all is none empty still = by_list all.0 all.1
  where
    by_list : (xs : List Vote) → ProposesAll xs node new before out → new ≡ node
    by_list [] rests = rests.1
    by_list (x ∷ xs) rests =
        let p : ProposesVote node x = rests.0 in
        let one : t ≡ p.term = (let e : Some t ≡ Some p.term = sym is ∙ p.current in cc e) in
        absurd (no_value p.term node.leader.waiting node.learner.whole.roster p.proposes.set x.position x.command none
        (subst (λ (u : TermValue). AreEmpty u.received) one empty)
        (later_unchanged node.learner.whole.roster (executed node.learner + 1) x.position
        (let above = p.proposes.next.above in omega (arith, above)) still) p.proposes.value)

-- ---- promises come

pub record IsCollecting (candidate : NodeValue) (a : AcceptorValue) (nodes : List ℕ) (node : NodeValue) : Type 0 where
  pub has : HasPromises (IsQuiet (executed candidate.learner + 1)) candidate.learner (next_ballot candidate) nodes node
  pub acceptor : node.acceptor ≡ a
  pub header : node.header ≡ candidate.header
  pub waiting : node.leader.waiting ≡ []
  pub empty : (u : TermValue) → node.leader.term ≡ Some u → u.proposals ≡ []

-- what a promise leaves
module _ (old mid : NodeValue) (from : ℕ) (p : PromiseValue) where
  pub kept_acceptor : RecordsPromise old from p mid ⊎ DropsPromise old from p mid → mid.acceptor ≡ old.acceptor
  kept_acceptor (inl records) = ap (λ (node : NodeValue). node.acceptor) records.2
  kept_acceptor (inr drops) = ap (λ (node : NodeValue). node.acceptor) drops.1

  pub kept_header : RecordsPromise old from p mid ⊎ DropsPromise old from p mid → mid.header ≡ old.header
  kept_header (inl records) = ap (λ (node : NodeValue). node.header) records.2
  kept_header (inr drops) = ap (λ (node : NodeValue). node.header) drops.1

  pub kept_waiting : RecordsPromise old from p mid ⊎ DropsPromise old from p mid
      → mid.leader.waiting ≡ old.leader.waiting
  kept_waiting (inl records) = ap (λ (node : NodeValue). node.leader.waiting) records.2
  kept_waiting (inr drops) = ap (λ (node : NodeValue). node.leader.waiting) drops.1

  kept_proposals : RecordsPromise old from p mid ⊎ DropsPromise old from p mid
      → ((u : TermValue) → old.leader.term ≡ Some u → u.proposals ≡ [])
      → (u : TermValue) → mid.leader.term ≡ Some u → u.proposals ≡ []
  kept_proposals (inl records) empty u is =
      let same : Some (with_received (received_from from p) records.0) ≡ Some u =
      sym (ap (λ (node : NodeValue). node.leader.term) records.2) ∙ is in
      let one : with_received (received_from from p) records.0 ≡ u = cc same in
      ap (λ (w : TermValue). w.proposals) (sym one) ∙ empty records.0 records.1.current
  kept_proposals (inr drops) empty u is =
      empty u (sym (ap (λ (node : NodeValue). node.leader.term) drops.1) ∙ is)

one_promise : (m : Meaning) (IsText : List ℕ → Type 0) (candidate : NodeValue) (a : AcceptorValue) (nodes : List ℕ)
    (old new : NodeValue) (n : ℕ) (out : OutboxValue) → IsCollecting candidate a nodes old
    → is_changing_at candidate.learner.whole.roster (executed candidate.learner + 1) ≡ false
    → is_named n candidate.learner.whole.roster.sets ≡ true
    → Hears m IsText old n (kinds.Promise (promise_to candidate)) new out
    → IsCollecting candidate a (n ∷ nodes) new
one_promise m IsText candidate a nodes old new n out k still named takes =
    subst (IsCollecting candidate a (n ∷ nodes)) (sym same) mid
  where
    p : PromiseValue
    p = promise_to candidate

    h : Handled m IsText old (content.Node n (kinds.Promise (promise_to candidate))) new out
    h = handled m IsText old _ new out takes

    mid : IsCollecting candidate a (n ∷ nodes) h.mid
    mid = record {
      has = with_one (IsQuiet (executed candidate.learner + 1)) candidate.learner (next_ballot candidate) nodes old
          h.mid
          n (promise_to candidate) k.has named refl (omega arith, refl) h.handles.0;
      acceptor = kept_acceptor old h.mid n (promise_to candidate) h.handles.0 ∙ k.acceptor;
      header = kept_header old h.mid n (promise_to candidate) h.handles.0 ∙ k.header;
      waiting = kept_waiting old h.mid n (promise_to candidate) h.handles.0 ∙ k.waiting;
      empty = kept_proposals old h.mid n (promise_to candidate) h.handles.0 k.empty;
    }

    same : new ≡ h.mid
    same = proposes_nothing h.mid new h.first out mid.has.term h.proposes mid.has.current mid.waiting
        (λ q c. (mid.has.each q c).1)
        (subst (λ (l : LearnerValue). is_changing_at l.whole.roster (executed l + 1) ≡ false) (sym mid.has.learner)
        still)

all_promises : (m : Meaning) (IsText : List ℕ → Type 0) (candidate : NodeValue) (a : AcceptorValue) (ns nodes : List ℕ)
    (old new : NodeValue) (envelopes : List EnvelopeValue) → IsCollecting candidate a nodes old
    → is_changing_at candidate.learner.whole.roster (executed candidate.learner + 1) ≡ false
    → ((n : ℕ) → Contains ns n → is_named n candidate.learner.whole.roster.sets ≡ true)
    → TakesEach m IsText (promises (map (λ n. (n, promise_to candidate)) ns)) old new envelopes
    → (all : List ℕ) × IsCollecting candidate a all new
    × ((n : ℕ) → Contains nodes n ⊎ Contains ns n → Contains all n)
all_promises m IsText candidate a [] nodes old new envelopes k still named takes = (
  nodes,
  subst (IsCollecting candidate a nodes) (sym takes.0) k,
  λ n c. elim c [ inl there ↦ there | inr none ↦ absurd (omega (arith, none.1)) ],
)
all_promises m IsText candidate a (n ∷ ns) nodes old new envelopes k still named takes =
    let one = one_promise m IsText candidate a nodes old takes.0 n takes.1 k still (named n (0, omega arith, refl))
    takes.3 in
    let rest = all_promises m IsText candidate a ns (n ∷ nodes) takes.0 new takes.2 one still
    (λ j c. named j (contains_more n ns j c)) takes.4 in
    (rest.0, rest.1, λ j c. rest.2 j (sorted j c))
  where
    sorted : (j : ℕ) → Contains nodes j ⊎ Contains (n ∷ ns) j → Contains (n ∷ nodes) j ⊎ Contains ns j
    sorted j (inl c) = inl (contains_more n nodes j c)
    sorted j (inr c) =
        elim (cons_cases n ns j c) [ inl is ↦ inl (0, omega arith, is) | inr later ↦ inr later ]

-- with those of a majority it is ready
pub now_ready : (candidate : NodeValue) (set : List Member) (a : AcceptorValue) (all voters : List ℕ)
    (node : NodeValue) → IsQuietCandidate candidate set → IsMajority voters set
    → (k : IsCollecting candidate a all node) → ((n : ℕ) → Contains voters n → Contains all n)
    → IsReady node k.has.term set
now_ready candidate set a all voters node quiet major k more = record {
  current = k.has.current;
  members = subst (λ (l : LearnerValue). AreMembersAt l.whole.roster (executed l + 1) set) (sym k.has.learner)
      quiet.members;
  promised = subst (λ (l : LearnerValue). IsMajority (promisers set (executed l + 1) k.has.term.received) set)
      (sym k.has.learner)
      (majority_more set voters (promisers set i k.has.term.received) major (passing_named near set)
      (λ n c. passing_has near set n (majority_lies_within set voters n major c)
      (near_promiser n i k.has.term.received (λ q d. (k.has.each q d).0) (k.has.has n (more n c)))));
  unreported = promised_none (executed node.learner + 1) set k.has.term.received (λ q c. (k.has.each q c).1);
  proposed = λ p c. absurd (gone k.has.term.proposals p (k.empty k.has.term k.has.current) c);
  waiting = k.waiting;
  known = subst (λ (l : LearnerValue). (v : Command) → IsNext l v → ⊥) (sym k.has.learner) quiet.known;
  room = subst (λ (l : LearnerValue). executed l < 281474976710656) (sym k.has.learner) quiet.due.position;
}
  where
    i : ℕ
    i = executed candidate.learner + 1

    near : ℕ → Bool
    near j = list_any (λ r. r.node == j && nat_le r.first (executed candidate.learner + 1)) k.has.term.received

-- the promises of a majority make it ready
pub collects : (m : Meaning) (IsText : List ℕ → Type 0) (candidate : NodeValue) (set : List Member) (a : AcceptorValue)
    (voters : List ℕ) (old new : NodeValue) (envelopes : List EnvelopeValue) → IsQuietCandidate candidate set
    → IsMajority voters set → IsCollecting candidate a [] old
    → TakesEach m IsText (promises (map (λ n. (n, promise_to candidate)) voters)) old new envelopes
    → (all : List ℕ) × (k : IsCollecting candidate a all new) × IsReady new k.has.term set
collects m IsText candidate set a voters old new envelopes quiet major k takes =
    let rest = all_promises m IsText candidate a voters [] old new envelopes k quiet.unchanged named takes in (
      rest.0,
      rest.1,
      now_ready candidate set a rest.0 voters new quiet major rest.1 (λ n c. rest.2 n (inr c)),
    )
  where
    named : (n : ℕ) → Contains voters n → is_named n candidate.learner.whole.roster.sets ≡ true
    named n c = named_by candidate.learner.whole.roster.sets set n
        (next_set candidate.learner.whole.roster set quiet.members) (majority_lies_within set voters n major c)
