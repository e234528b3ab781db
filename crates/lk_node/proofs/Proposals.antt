-- What a node proposes its term may propose, and it may tell it; and there is an end of it.
use Rattle.std.proofs.Common.{◌≡◌, ℕ, zero, suc, ◌+◌, ◌<◌, ◌≤◌, ◌⊎◌, inl, inr, Bool, true, false, cond, eqb, ◌==◌, ◌&&◌}
use Rattle.std.proofs.Common.{◌||◌, List, [], ◌∷◌, ◌++◌, length, Option, Some, None, Contains, refl, sym, ◌∙◌, ap}
use Rattle.std.proofs.Common.{subst, subst₂, arith, eqb-true, nat_le, nat_lt}
use Rattle.std.specs.List.{list_any}
use Rattle.std.specs.Option.{option_map}
use Rattle.std.proofs.lemmas.Bool.{cases_eq}
use Rattle.std.proofs.lemmas.List.Elements.{Contains-append_left, Contains-append_right, Contains-append_cases}
use Rattle.std.proofs.lemmas.List.Folds.{list_any-append}
use Rattle.std.proofs.lemmas.Map.Views.{any-filter_same}
use Rattle.lk_types.specs.BallotValue.{BallotValue}
use Rattle.lk_types.specs.Ballots.{IsAtMost}
use Rattle.lk_types.specs.declared.command.Command.{Command}
use Rattle.lk_types.specs.declared.command.Command.TheVariants.{Noop, Request}
use Rattle.lk_types.specs.declared.entry.Entry.{Entry}
use Rattle.lk_types.specs.declared.member.Member.{Member}
use Rattle.lk_types.specs.declared.vote.Vote.{Vote}
use Rattle.lk_messages.specs.Grammar.{IsMessage}
use Rattle.lk_messages.specs.declared.message.NodeMessage.TheVariants as kinds
use Rattle.lk_state.specs.Meanings.{Meaning}
use Rattle.lk_state.specs.States.{WholeValue, whole_after, SumsUp}
use Rattle.lk_members.specs.Windows.{RosterValue, RosterSumsUp}
use Rattle.lk_agreement_laws.specs.Changes as changes
use Rattle.lk_agreement_laws.specs.Changes.{proposes}
use Rattle.lk_agreement_laws.specs.Datagrams.{Genesis}
use Rattle.lk_agreement_laws.specs.Nodes.{Pair, Term, MaySend}
use Rattle.lk_agreement_laws.specs.Soundness.{IsPromisedVote}
use Rattle.lk_acceptor.specs.AcceptorValue.{AcceptorValue}
use Rattle.lk_leader.specs.Proposing.{AreMembersAt, LeaderProposes, proposed}
use Rattle.lk_leader.specs.Terms.{ProposalValue, TermValue, LeaderValue, RequestValue, with_term, proposal_at}
use Rattle.lk_leader.specs.Terms.{in_window}
use Rattle.lk_leader.proofs.Leaderships.{proposes_allowed, proposes_asked, proposed_leads}
use Rattle.lk_members.specs.Nodes.{nodes_of}
use Rattle.lk_node_interface.specs.Outboxes.{OutboxValue}
use Rattle.lk_node_interface.specs.Saying.{saying}
use Rattle.lk_node.specs.Histories.{History, IsLawful, WasAsked}
use Rattle.lk_node.specs.Holdings.{Holding, HoldingFits}
use Rattle.lk_node.specs.Keeping.{IsHeld}
use Rattle.lk_node.specs.Leading.{with_leader, ProposesVote, having_proposed, NothingToPropose, ProposesAll}
use Rattle.lk_node.specs.Leading.{ProposesOpen}
use Rattle.lk_node.specs.Leading.{ProposesNext}
use Rattle.lk_node.specs.NodeValue.{NodeValue}
use Rattle.lk_node.specs.Promised.{IsTermPromised}
use Rattle.lk_node.specs.BorneOut.{MessageIsBorneOut}
use Rattle.lk_node.specs.SafeSteps.{IsSafeStep, ActsSafely}
use Rattle.lk_node.specs.Telling.{telling}
use Rattle.lk_node.proofs.Changing.{change_goes_on}
use Rattle.lk_node.proofs.Lists.{only}
use Rattle.lk_node.proofs.ManyEnvelopes.{says_all}
use Rattle.lk_node.proofs.SafeSteps.{then_goes_on}
use Rattle.lk_node.proofs.TermLaws.{term_followed, some_value}

-- ---- there is an end of it

-- whether something is proposed at the position
abbrev has : ℕ → List ProposalValue → Bool
has k ps = list_any (λ p. p.position == k) ps

-- at how many of n positions from i on nothing is
abbrev free : ℕ → ℕ → List ProposalValue → ℕ
free i zero ps = 0
free i (suc n) ps = cond (has i ps) 0 1 + free (i + 1) n ps

one_less : (a b : Bool) → (a ≡ true → b ≡ true) → cond b 0 1 ≤ cond a 0 1
one_less true true f = omega arith
one_less true false f = absurd (cc (f refl))
one_less false true f = omega arith
one_less false false f = omega arith

free_most : (i n : ℕ) (ps qs : List ProposalValue) → ((k : ℕ) → i ≤ k → k < i + n → has k ps ≡ true → has k qs ≡ true)
    → free i n qs ≤ free i n ps
free_most i zero ps qs f = omega arith
free_most i (suc n) ps qs f =
    let first = one_less (has i ps) (has i qs) (f i (omega arith) (omega arith)) in
    let rest = free_most (i + 1) n ps qs (λ k a b. f k (omega (arith, a)) (omega (arith, b))) in
    omega (arith, first, rest)

free_less : (i n j : ℕ) (ps qs : List ProposalValue) → i ≤ j → j < i + n → has j ps ≡ false → has j qs ≡ true
    → ((k : ℕ) → i ≤ k → k < i + n → has k ps ≡ true → has k qs ≡ true) → free i n qs < free i n ps
free_less i zero j ps qs a b old new f = absurd (omega (arith, a, b))
free_less i (suc n) j ps qs a b old new f = elim (leb_cases i j a) [
  | inl same ↦
      let first : cond (has i qs) 0 1 < cond (has i ps) 0 1 = rw (same, old, new) (omega arith) in
      let rest = free_most (i + 1) n ps qs (λ k c d. f k (omega (arith, c)) (omega (arith, d))) in
      omega (arith, first, rest)
  | inr above ↦
      let first = one_less (has i ps) (has i qs) (f i (omega arith) (omega arith)) in
      let rest = free_less (i + 1) n j ps qs above (omega (arith, b)) old new
      (λ k c d. f k (omega (arith, c)) (omega (arith, d))) in
      omega (arith, first, rest)
]
  where
    leb_cases : (i j : ℕ) → i ≤ j → (i ≡ j) ⊎ (i + 1 ≤ j)
    leb_cases i j le = elim (cases_eq i j) [ inl e ↦ inl e | inr ne ↦ inr (omega (arith, le, ne)) ]

found_none : (k : ℕ) (ps : List ProposalValue) → proposal_at k ps ≡ None → has k ps ≡ false
found_none k [] e = refl
found_none k (p ∷ ps) e = by_test (λ f. found_none k ps f) (eqb p.position k) e
  where
    by_test : (proposal_at k ps ≡ None → has k ps ≡ false) → (t : Bool) → cond t (Some p) (proposal_at k ps) ≡ None
        → (t || has k ps) ≡ false
    by_test again true e = absurd (cc e)
    by_test again false e = again e

-- a proposal in the window is kept
kept_in : (executed alpha k i : ℕ) (v : Command) (ps : List ProposalValue) → executed < k
    → k ≤ executed + alpha → has k ps ≡ true
    → has k (in_window executed alpha ps ++ record { position = i; command = v; accepted = [] } ∷ []) ≡ true
kept_in executed alpha k i v ps above below h =
    list_any-append (λ (p : ProposalValue). p.position == k) (in_window executed alpha ps)
    (record { position = i; command = v; accepted = [] } ∷ [])
    ∙ ap (λ (t : Bool). t || has k (record { position = i; command = v; accepted = [] } ∷ []))
    (any-filter_same (λ (p : ProposalValue). p.position == k)
    (λ (p : ProposalValue). nat_lt executed p.position && nat_le p.position (executed + alpha)) true
    (λ p e. (let same : p.position ≡ k = eqb-true p.position k e in rw same (inside executed alpha k above below))) ps
    ∙ h)
  where
    inside : (executed alpha k : ℕ) → executed < k → k ≤ executed + alpha
        → (nat_lt executed k && nat_le k (executed + alpha)) ≡ true
    inside executed alpha k above below = grind (arith, above, below)

new_in : (executed alpha i : ℕ) (v : Command) (ps : List ProposalValue)
    → has i (in_window executed alpha ps ++ record { position = i; command = v; accepted = [] } ∷ []) ≡ true
new_in executed alpha i v ps =
    list_any-append (λ (p : ProposalValue). p.position == i) (in_window executed alpha ps)
    (record { position = i; command = v; accepted = [] } ∷ [])
    ∙ last (has i (in_window executed alpha ps)) (eqb i i) (grind arith)
  where
    last : (a b : Bool) → b ≡ true → (a || (b || false)) ≡ true
    last true b e = refl
    last false true e = refl
    last false false e = absurd (cc e)

abbrev free_of : RosterValue → Option TermValue → ℕ
free_of roster None = 0
free_of roster (Some t) = free (roster.executed + 1) (length roster.sets) t.proposals

-- how many positions of the window are left
abbrev pub left_open : NodeValue → ℕ
left_open node = free_of node.learner.whole.roster node.leader.term

pub fewer_left : (old new : NodeValue) (x : Vote) (p : ProposesVote old x) → new ≡ having_proposed old x p
    → left_open new < left_open old
fewer_left old new x p e =
    let roster : RosterValue = old.learner.whole.roster in
    subst₂ (λ (a b : ℕ). a < b) (ap left_open (sym e)) (ap (free_of roster) (sym p.current))
    (free_less (roster.executed + 1) (length roster.sets) x.position p.term.proposals
    (proposed roster x.position x.command p.term).proposals
    (omega (arith, p.proposes.next.above)) (omega (arith, p.proposes.next.reaches))
    (found_none x.position p.term.proposals p.proposes.next.new)
    (new_in roster.executed (length roster.sets) x.position x.command p.term.proposals)
    (λ k a b h. kept_in roster.executed (length roster.sets) k x.position x.command p.term.proposals
    (omega (arith, a)) (omega (arith, b)) h))

-- ---- it may be proposed

roster_sums : (m : Meaning) (genesis : Genesis) (done : List Command) (w : WholeValue) → SumsUp m genesis done w
    → RosterSumsUp genesis done w.roster
unfolding whole_after
roster_sums m genesis done w sums = ap (λ (k : WholeValue). k.roster) sums

module _ (m : Meaning) (h : History) (n : ℕ) (old : NodeValue) (x : Holding) (held : IsHeld m old h.genesis x)
    (fits : HoldingFits m h n x) (lawful : IsLawful m h) (t : Term) (is : x.paxos.term ≡ Some t) where
  -- what was reported in the term, or waits, was asked
  was_asked : (v : Command)
      → ((y : Vote) × IsPromisedVote t.received y × (y.command ≡ v))
      ⊎ (((q : RequestValue) × Contains old.leader.waiting q × (v ≡ Request q)) ⊎ (v ≡ Noop)) → WasAsked h v
  was_asked v (inl reported) =
      let r = reported.1.0 in
      subst (WasAsked h) reported.2
      (lawful.asked reported.0
      (lawful.sound.reported r.node (record { ballot = t.ballot; first = r.first; votes = r.votes })
      ((fits.paxos.term t is).received r reported.1.1) reported.0 reported.1.2).0)
  was_asked v (inr (inl waits)) =
      subst (WasAsked h) (sym waits.2)
      (fits.waiting waits.0 (subst (λ (qs : List RequestValue). Contains qs waits.0) (sym held.waiting) waits.1))
  was_asked v (inr (inr none)) = subst (WasAsked h) (sym none) tt

-- ---- it may be told

-- what the leader's term has proposed may be told
pub accept_may : (m : Meaning) (h : History) (n : ℕ) (loose : List Entry) (node : NodeValue) (o : OutboxValue)
    (s : IsSafeStep m h n loose node o) (k : TermValue) (q : ProposalValue) (x : Vote)
    → node.leader.term ≡ Some k → Contains k.proposals q
    → x ≡ record { position = q.position; ballot = k.ballot; command = q.command }
    → MaySend h.genesis h.sent s.holding.paxos (kinds.Accept x) × MessageIsBorneOut m h (kinds.Accept x)
accept_may m h n loose node o s k q x at among is =
    let lead = s.held.leads k at in (
      (
        lead.0,
        lead.1,
        lead.2.ballot ∙ ap (λ (y : Vote). y.ballot) (sym is),
        subst (λ (y : Vote). Contains lead.0.proposals (y.position, y.command)) (sym is) (lead.2.proposals q among),
      ),
      record { under = s.holding.paxos.done; chosen = s.fits.paxos.stems.done; bears = tt },
    )

pub proposal_goes_on : (m : Meaning) (old : NodeValue) (x : Vote) (p : ProposesVote old x) (out : OutboxValue)
    → IsTermPromised old.acceptor old.leader → IsMessage (saying old.header (kinds.Accept x))
    → ActsSafely m (λ h. Unit {0}) old (having_proposed old x p) out
    (telling old (nodes_of p.proposes.set) (kinds.Accept x) out)
proposal_goes_on m old x p out promised fits =
    let k : TermValue = p.term in
    let roster : RosterValue = old.learner.whole.roster in
    let q : ProposalValue = record { position = x.position; command = x.command; accepted = [] } in
    then_goes_on m (λ h. Unit {0}) old (having_proposed old x p) (having_proposed old x p) out out
    (telling old (nodes_of p.proposes.set) (kinds.Accept x) out)
    (change_goes_on m (λ h. Unit {0}) old (having_proposed old x p) out refl refl (λ h n loose s heard.
    let lead = s.held.leads k p.current in
    let t : Term = lead.0 in
    term_followed m h n old s.holding t (changes.with_proposal t (x.position, x.command))
    (proposed roster x.position x.command k) s.held s.fits s.lawful lead.1
    (proposes t x.position x.command lead.1
    (proposes_allowed h.genesis s.holding.paxos.done t k old.leader.waiting roster x.position x.command
    (roster_sums m h.genesis s.holding.paxos.done old.learner.whole s.held.follows.sums) lead.2 p.proposes))
    (proposed_leads t k roster x.position x.command p.proposes.next lead.2)
    refl
    (λ y c. Contains-append_left t.proposals ((x.position, x.command) ∷ []) y c)
    (λ i v c. elim (Contains-append_cases t.proposals ((x.position, x.command) ∷ []) (i, v) c) [
      | inl before ↦ s.fits.proposals t lead.1 i v before
      | inr now ↦ subst (λ (y : Pair). WasAsked h y.1) (only (x.position, x.command) (i, v) now)
          (was_asked m h n old s.holding s.held s.fits s.lawful t lead.1 x.command
          (proposes_asked roster.executed
          (length roster.sets) t k old.leader.waiting roster p.proposes.set x.position x.command
          lead.2 p.proposes.value))
    ])))
    (says_all m (λ h. Unit {0}) (having_proposed old x p) out (nodes_of p.proposes.set) (kinds.Accept x) fits
    (subst (λ (b : BallotValue). IsAtMost b old.acceptor.state.promised) (sym p.ballot) (promised k p.current))
    (λ e. tt)
    (λ o h n loose s heard. accept_may m h n loose (having_proposed old x p) o s
    (proposed roster x.position x.command k) q x refl
    (Contains-append_right (in_window roster.executed (length roster.sets) k.proposals)
    (q ∷ []) q (0, omega arith, refl))
    (ap (λ (b : BallotValue). record { position = x.position; ballot = b; command = x.command }) p.ballot)))

-- the node goes on leading in what it promised
pub proposal_promised : (old : NodeValue) (x : Vote) (p : ProposesVote old x) → IsTermPromised old.acceptor old.leader
    → IsTermPromised old.acceptor (having_proposed old x p).leader
proposal_promised old x p promised j at =
    subst (λ (y : TermValue). IsAtMost y.ballot old.acceptor.state.promised)
    (some_value (proposed old.learner.whole.roster x.position x.command p.term) j at) (promised p.term p.current)

-- ---- one after another

-- what is proposed from here on completes what was
abbrev pub Continues : NodeValue → NodeValue → OutboxValue → OutboxValue → Type 0
Continues first now before so_far =
    (new : NodeValue) (out : OutboxValue) → ProposesOpen now new so_far out → ProposesOpen first new before out

pub continues_more : (first old new : NodeValue) (before so_far more : OutboxValue) → Continues first old before so_far
    → ProposesNext true old new so_far more → Continues first new before more
continues_more first old new before so_far more f next = λ end out rest.
    f end out (
      next.0 ∷ rest.0,
      (next.1, subst₂ (λ (node : NodeValue) (o : OutboxValue). ProposesAll rest.0 node end o out) next.2 next.3 rest.1),
    )

pub continues_all : (first old new : NodeValue) (before so_far out : OutboxValue) → Continues first old before so_far
    → ProposesNext false old new so_far out → ProposesOpen first new before out
continues_all first old new before so_far out f next = f new out ([], next)

-- ---- what the leader answers

some_ballot : (a b : BallotValue) → Some a ≡ Some b → a ≡ b
some_ballot a b e = cc e

pub vote_is_next : (old node : NodeValue) (new : LeaderValue) (roster : RosterValue) (ballot : BallotValue) (i : ℕ)
    (v : Command) → node ≡ old → roster ≡ node.learner.whole.roster
    → option_map (λ (t : TermValue). t.ballot) node.leader.term ≡ Some ballot
    → LeaderProposes node.leader roster i v
    → ((t : TermValue) → node.leader.term ≡ Some t → new ≡ with_term (proposed roster i v t) node.leader)
    → (p : ProposesVote old (record { position = i; ballot = ballot; command = v }))
    × (with_leader node new ≡ having_proposed old (record { position = i; ballot = ballot; command = v }) p)
vote_is_next old node new roster ballot i v e e1 own may term =
    let there : LeaderProposes node.leader node.learner.whole.roster i v =
    subst (λ (r : RosterValue). LeaderProposes node.leader r i v) e1 may in
    let t : TermValue = there.0 in
    subst (λ (k : NodeValue). (p : ProposesVote k (record { position = i; ballot = ballot; command = v }))
    × (with_leader node new ≡ having_proposed k (record { position = i; ballot = ballot; command = v }) p)) e (
      record {
        term = t;
        current = there.1;
        ballot = some_ballot ballot t.ballot (sym own ∙ ap (option_map (λ (y : TermValue). y.ballot)) there.1);
        proposes = there.2;
      },
      ap (with_leader node) (subst
          (λ (r : RosterValue). new ≡ with_term (proposed r i v t) node.leader) e1 (term t there.1)),
    )

pub none_is_next : (old node : NodeValue) (new : LeaderValue) (roster : RosterValue) → node ≡ old
    → roster ≡ node.learner.whole.roster
    → (new ≡ node.leader) × ((i : ℕ) (v : Command) → LeaderProposes node.leader roster i v → ⊥)
    → NothingToPropose old × (with_leader node new ≡ old)
none_is_next old node new roster e e1 none =
    subst (λ (k : NodeValue). NothingToPropose k × (with_leader node new ≡ k)) e (
      subst (λ (r : RosterValue). (i : ℕ) (v : Command) → LeaderProposes node.leader r i v → ⊥) e1 none.1,
      ap (with_leader node) none.0,
    )

pub next_promised : (a : AcceptorValue) (l new : LeaderValue) (roster : RosterValue) (i : ℕ) (v : Command)
    → IsTermPromised a l → LeaderProposes l roster i v
    → ((t : TermValue) → l.term ≡ Some t → new ≡ with_term (proposed roster i v t) l) → IsTermPromised a new
next_promised a l new roster i v promised may term j at =
    subst (λ (b : BallotValue). IsAtMost b a.state.promised)
    (ap (λ (y : TermValue). y.ballot)
    (some_value (proposed roster i v may.0) j (sym (ap (λ (y : LeaderValue). y.term) (term may.0 may.1)) ∙ at)))
    (promised may.0 may.1)

module _ (old mid : NodeValue) (x : Vote) (p : ProposesVote old x) (is : mid ≡ having_proposed old x p) where
  pub next_told : (before more : OutboxValue)
      → ((set : List Member) → AreMembersAt mid.learner.whole.roster x.position set
      → more ≡ telling mid (nodes_of set) (kinds.Accept x) before)
      → more ≡ telling old (nodes_of p.proposes.set) (kinds.Accept x) before
  next_told before more told =
      subst (λ (k : NodeValue). (set : List Member) → AreMembersAt k.learner.whole.roster x.position set
      → more ≡ telling k (nodes_of set) (kinds.Accept x) before) is told p.proposes.set p.proposes.members

  pub next_fits : ((set : List Member) → AreMembersAt mid.learner.whole.roster x.position set
      → IsMessage (saying mid.header (kinds.Accept x))) → IsMessage (saying old.header (kinds.Accept x))
  next_fits fits =
      subst (λ (k : NodeValue). (set : List Member) → AreMembersAt k.learner.whole.roster x.position set
      → IsMessage (saying k.header (kinds.Accept x))) is fits p.proposes.set p.proposes.members

  pub next_goes_on : (m : Meaning) (before more : OutboxValue) → IsTermPromised old.acceptor old.leader
      → IsMessage (saying old.header (kinds.Accept x))
      → more ≡ telling old (nodes_of p.proposes.set) (kinds.Accept x) before
      → ActsSafely m (λ h. Unit {0}) old mid before more
  next_goes_on m before more promised fits told =
      subst₂ (λ (k : NodeValue) (o : OutboxValue). ActsSafely m (λ h. Unit {0}) old k before o) (sym is) (sym told)
      (proposal_goes_on m old x p before promised fits)

-- ---- by whether there was anything

next_so : (b c : Bool) (old new : NodeValue) (before more : OutboxValue) → b ≡ c → ProposesNext b old new before more
    → ProposesNext c old new before more
next_so b c old new before more is next = subst (λ (t : Bool). ProposesNext t old new before more) is next

pub next_fewer : (b : Bool) (old new : NodeValue) (before more : OutboxValue) → b ≡ true
    → ProposesNext b old new before more → left_open new < left_open old
next_fewer b old new before more is next = let x = next_so b true old new before more is next in
    fewer_left old new x.0 x.1 x.2

pub next_continues : (b : Bool) (first old new : NodeValue) (before so_far more : OutboxValue) → b ≡ true
    → Continues first old before so_far → ProposesNext b old new so_far more → Continues first new before more
next_continues b first old new before so_far more is f next =
    continues_more first old new before so_far more f (next_so b true old new so_far more is next)

pub next_done : (b : Bool) (old new : NodeValue) (before more : OutboxValue) → b ≡ false
    → ProposesNext b old new before more → NothingToPropose new
next_done b old new before more is next = let x = next_so b false old new before more is next in
    subst NothingToPropose (sym x.1) x.0
