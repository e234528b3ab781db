-- A term goes on in a history: what its node holds after a promise that was heard, a proposal, or the ballot's
-- beginning.
use Rattle.std.proofs.Common.{◌≡◌, ℕ, ◌⊎◌, inl, inr, true, false, List, length, Option, Some, None, Contains, refl, sym}
use Rattle.std.proofs.Common.{◌∙◌, ap, subst, subst₂}
use Rattle.std.proofs.lemmas.Bool.{cases_Bool, cases_eq}
use Rattle.lk_types.specs.BallotValue.{BallotValue}
use Rattle.lk_types.specs.Ballots.{IsAtMost}
use Rattle.lk_types.specs.declared.command.Command.{Command}
use Rattle.lk_types.specs.declared.entry.Entry.{Entry}
use Rattle.lk_types.specs.declared.entry.Entry.TheVariants as entry
use Rattle.lk_types.specs.declared.vote.Vote.{Vote}
use Rattle.lk_messages.specs.Values.{PromiseValue}
use Rattle.lk_messages.specs.declared.message.NodeMessage.TheVariants as kinds
use Rattle.lk_state.specs.Meanings.{Meaning}
use Rattle.lk_members.specs.Ports.{is_named}
use Rattle.lk_members.specs.Windows.{RosterValue}
use Rattle.lk_agreement_laws.specs.Changes as changes
use Rattle.lk_agreement_laws.specs.Changes.{Changes, hears}
use Rattle.lk_agreement_laws.specs.Datagrams.{HasSent}
use Rattle.lk_agreement_laws.specs.Nodes.{Pair, Term, PaxosState}
use Rattle.lk_agreement_laws.proofs.Histories.{change_fits}
use Rattle.lk_acceptor.specs.AcceptorValue.{AcceptorValue}
use Rattle.lk_leader.specs.LedTerms.{AgreesWithTerm}
use Rattle.lk_leader.specs.Terms.{ReceivedPromise, TermValue, LeaderValue, with_term, with_received, is_promiser}
use Rattle.lk_leader.specs.Terms.{IsFirstOf}
use Rattle.lk_leader.proofs.Leaderships.{heard_leads}
use Rattle.lk_node_interface.specs.Outboxes.{OutboxValue, nothing}
use Rattle.lk_node.specs.Histories.{History, IsLawful, WasAsked}
use Rattle.lk_node.specs.Holdings.{Holding, HoldingFits}
use Rattle.lk_node.specs.Keeping.{IsKnown, IsHeld}
use Rattle.lk_node.specs.Leading.{with_leader, received_from, RecordsPromise, DropsPromise, HandlesPromise}
use Rattle.lk_node.specs.NodeValue.{NodeValue}
use Rattle.lk_node.specs.Promised.{IsTermPromised}
use Rattle.lk_node.specs.SafeSteps.{ActsSafely}
use Rattle.lk_node.proofs.Changing.{IsFollowed, change_goes_on}
use Rattle.lk_node.proofs.SafeSteps.{rests_here}

-- ---- the term changes

knows_alike : (w : PaxosState) (t : Option Term) (e : Entry) → IsKnown w e → IsKnown (changes.with_paxos_term w t) e
knows_alike w t (entry.Promise b) k = k
knows_alike w t (entry.Vote x) k = k
knows_alike w t (entry.Decided i c) k = k

some_term : (a b : Term) → Some a ≡ Some b → a ≡ b
some_term a b e = cc e

pub some_value : (a b : TermValue) → Some a ≡ Some b → a ≡ b
some_value a b e = cc e

-- a term of the same ballot that has all proposals of the one before, and for which the leader stands
pub term_followed : (m : Meaning) (h : History) (n : ℕ) (old : NodeValue) (x : Holding) (t u : Term) (k : TermValue)
    → IsHeld m old h.genesis x → HoldingFits m h n x → IsLawful m h → x.paxos.term ≡ Some t
    → Changes h.genesis h.sent n x.paxos (changes.with_paxos_term x.paxos (Some u))
    → AgreesWithTerm old.learner.whole.roster.executed (length old.learner.whole.roster.sets) u k → u.ballot ≡ t.ballot
    → ((p : Pair) → Contains t.proposals p → Contains u.proposals p)
    → ((i : ℕ) (v : Command) → Contains u.proposals (i, v) → WasAsked h v)
    → IsFollowed m h n x.paxos (with_leader old (with_term k old.leader))
term_followed m h n old x t u k held fits lawful is change stands ballot grows asked = record {
  holding = record { paxos = changes.with_paxos_term x.paxos (Some u); waiting = x.waiting; gathered = x.gathered };
  held = record {
    acceptor = held.acceptor;
    follows = held.follows;
    leads = λ j at. (
      u,
      refl,
      subst (AgreesWithTerm old.learner.whole.roster.executed (length old.learner.whole.roster.sets) u)
          (some_value k j at) stands,
    );
    waiting = held.waiting;
    gathered = held.gathered;
  };
  fits = record {
    paxos = change_fits h.genesis h.sent lawful.sound n x.paxos (changes.with_paxos_term x.paxos
        (Some u)) fits.paxos change;
    waiting = fits.waiting;
    proposals = λ w at i v c. asked i v (subst (λ (y : Term). Contains y.proposals (i, v)) (sym (some_term u w at)) c);
    gathered = fits.gathered;
  };
  grows = record {
    acceptor = refl;
    term = λ w at. (
      u,
      refl,
      ballot ∙ ap (λ (y : Term). y.ballot) (some_term t w (sym is ∙ at)),
      λ p c. grows p (subst (λ (y : Term). Contains y.proposals p) (sym (some_term t w (sym is ∙ at))) c),
    );
  };
  knows = knows_alike x.paxos (Some u);
}

-- ---- a promise is heard

same_ballot : (a b : BallotValue) → ((a ≡ b) ⊎ (a ≡ b → ⊥))
same_ballot a b = elim (cases_eq a.round b.round) [
  | inl r ↦ elim (cases_eq a.node b.node) [
    | inl n ↦ inl (subst₂ (λ (x y : ℕ). a ≡ record { round = x; node = y }) r n refl)
    | inr ne ↦
        inr (λ e. ne (ap (λ (k : BallotValue). k.node) e))
  ]
  | inr ne ↦ inr (λ e. ne (ap (λ (k : BallotValue). k.round) e))
]

none_some : (t : TermValue) → None ≡ Some t → ⊥
none_some t e = cc e

false_true : false ≡ true → ⊥
false_true e = cc e

-- whether a promise is to be kept is settled
pub first_or_not : (l : LeaderValue) (roster : RosterValue) (node : ℕ) (b : BallotValue)
    → ((t : TermValue) × IsFirstOf l roster node b t) ⊎ ((t : TermValue) → IsFirstOf l roster node b t → ⊥)
first_or_not l roster node b = by_term l.term refl
  where
    by_term : (o : Option TermValue) → l.term ≡ o
        → ((t : TermValue) × IsFirstOf l roster node b t) ⊎ ((t : TermValue) → IsFirstOf l roster node b t → ⊥)
    by_term None is = inr (λ t f. none_some t (sym is ∙ f.current))
    by_term (Some t) is = elim (same_ballot t.ballot b) [
      | inl same ↦ elim (cases_Bool (is_named node roster.sets)) [
        | inl named ↦ elim (cases_Bool (is_promiser node t.received)) [
          | inl again ↦ inr (λ u f. false_true
              (sym f.first ∙ ap (λ (y : TermValue). is_promiser node y.received) (some_value u t (sym f.current ∙ is))
              ∙ again))
          | inr first ↦ inl (t, record { current = is; ballot = same; named = named; first = first })
        ]
        | inr not ↦ inr (λ u f. false_true (sym not ∙ f.named))
      ]
      | inr other ↦
          inr (λ u f. other (ap (λ (y : TermValue). y.ballot) (some_value t u (sym is ∙ f.current)) ∙ f.ballot))
    ]

-- the leader's answer is one or the other
pub kept_or_dropped : (old node : NodeValue) (new : LeaderValue) (roster : RosterValue) (from : ℕ) (p : PromiseValue)
    (b : BallotValue) (first : ℕ) (votes : List Vote) (Same : Type 0) → node ≡ old → roster ≡ node.learner.whole.roster
    → b ≡ p.ballot → first ≡ p.first
    → votes ≡ p.votes → ((t : TermValue) → IsFirstOf node.leader roster from b t
    → new ≡ with_term (with_received (record { node = from; first = first; votes = votes }) t) node.leader)
    → (((t : TermValue) → IsFirstOf node.leader roster from b t → ⊥) → (new ≡ node.leader) × Same)
    → RecordsPromise old from p (with_leader node new) ⊎ DropsPromise old from p (with_leader node new)
kept_or_dropped old node new roster from p b first votes Same e e1 e2 e3 e4 kept other =
    subst (λ (k : NodeValue). RecordsPromise k from p (with_leader node new)
    ⊎ DropsPromise k from p (with_leader node new)) e (elim (first_or_not node.leader roster from b) [
      | inl is ↦ inl (
        is.0,
        subst₂ (λ (r : RosterValue) (k : BallotValue). IsFirstOf node.leader r from k is.0) e1 e2 is.1,
        ap (with_leader node) (subst₂
            (λ (i : ℕ) (vs : List Vote). new
            ≡ with_term (with_received (record { node = from; first = i; votes = vs }) is.0) node.leader) e3 e4
            (kept is.0 is.1)),
      )
      | inr not ↦ inr (
        λ t is. not t
            (subst₂ (λ (r : RosterValue) (k : BallotValue). IsFirstOf node.leader r from k t) (sym e1) (sym e2) is),
        ap (with_leader node) (other not).0,
      )
    ])

pub report_promised : (a : AcceptorValue) (l new : LeaderValue) (roster : RosterValue) (from : ℕ) (b : BallotValue)
    (r : ReceivedPromise) (Same : Type 0) → IsTermPromised a l
    → ((t : TermValue) → IsFirstOf l roster from b t → new ≡ with_term (with_received r t) l)
    → (((t : TermValue) → IsFirstOf l roster from b t → ⊥) → (new ≡ l) × Same) → IsTermPromised a new
report_promised a l new roster from b r Same promised kept other k at = elim (first_or_not l roster from b) [
  | inl is ↦ subst (λ (y : BallotValue). IsAtMost y a.state.promised)
      (ap (λ (y : TermValue). y.ballot)
      (some_value (with_received r is.0) k (sym (ap (λ (y : LeaderValue). y.term) (kept is.0 is.1)) ∙ at)))
      (promised is.0 is.1.current)
  | inr not ↦ promised k (sym (ap (λ (y : LeaderValue). y.term) (other not).0) ∙ at)
]

pub promise_goes_on : (m : Meaning) (old new : NodeValue) (from : ℕ) (p : PromiseValue) (out : OutboxValue)
    → HandlesPromise old from p new out
    → ActsSafely m (λ h. HasSent h.genesis h.sent from (kinds.Promise p)) old new nothing out
promise_goes_on m old new from p out (inr drops, none) =
    subst₂ (λ (node : NodeValue) (o : OutboxValue). ActsSafely m
    (λ h. HasSent h.genesis h.sent from (kinds.Promise p)) old node nothing o) (sym drops.1) (sym none)
    (rests_here m (λ h. HasSent h.genesis h.sent from (kinds.Promise p)) old nothing)
promise_goes_on m old new from p out (inl keeps, none) =
    let k : TermValue = keeps.0 in
    subst₂ (λ (node : NodeValue) (o : OutboxValue). ActsSafely m
    (λ h. HasSent h.genesis h.sent from (kinds.Promise p)) old node nothing o) (sym keeps.2) (sym none)
    (change_goes_on m (λ h. HasSent h.genesis h.sent from (kinds.Promise p)) old
    (with_leader old (with_term (with_received (received_from from p) k) old.leader)) nothing refl refl
    (λ h n loose s heard.
    let lead = s.held.leads k keeps.1.current in
    let t : Term = lead.0 in
    term_followed m h n old s.holding t (changes.with_received t (received_from from p))
    (with_received (received_from from p) k) s.held s.fits s.lawful lead.1
    (hears t (received_from from p) lead.1
    (subst (λ (b : BallotValue). HasSent h.genesis h.sent from
    (kinds.Promise (record { ballot = b; first = p.first; votes = p.votes })))
    (sym (lead.2.ballot ∙ keeps.1.ballot)) heard))
    (heard_leads old.learner.whole.roster.executed (length old.learner.whole.roster.sets) t k
    (received_from from p) lead.2)
    refl
    (λ q c. c)
    (λ i v c. s.fits.proposals t lead.1 i v c)))
