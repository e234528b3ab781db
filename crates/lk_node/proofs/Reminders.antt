-- What a node with a term tells again it may tell.
use Rattle.std.proofs.Common.{◌≡◌, ℕ, ◌+◌, ◌-◌, ◌<◌, ◌≤◌, length, inl, inr, Bool, true, false, cond, eqb, eqb-true}
use Rattle.std.proofs.Common.{List, [], ◌∷◌, Some, Contains, refl, sym, ◌∙◌, ap, subst, subst₂, arith}
use Rattle.std.specs.Prelude.{slice_get}
use Rattle.lk_types.specs.BallotValue.{BallotValue}
use Rattle.lk_types.specs.Ballots.{IsAtMost}
use Rattle.lk_types.specs.declared.member.Member.{Member}
use Rattle.lk_messages.specs.declared.message.NodeMessage.TheVariants as kinds
use Rattle.lk_state.specs.Meanings.{Meaning}
use Rattle.lk_agreement_laws.specs.Acceptors.{AcceptorState}
use Rattle.std.proofs.lemmas.Option.{slice_get_within}
use Rattle.lk_members.specs.Effects.{Command}
use Rattle.lk_members.specs.Windows.{RosterValue}
use Rattle.lk_leader.specs.Acceptances.{IsOpen, yet_to_accept}
use Rattle.lk_leader.specs.Terms.{ProposalValue, TermValue, LeaderValue, proposal_at}
use Rattle.lk_learner.specs.Learners.{executed}
use Rattle.lk_node_interface.specs.Outboxes.{OutboxValue}
use Rattle.lk_node.specs.Histories.{History}
use Rattle.lk_node.specs.NodeValue.{NodeValue}
use Rattle.lk_node.specs.Promised.{IsTermPromised}
use Rattle.lk_node.specs.Reminding.{IsTermOf, TellsThese, AsksAgain, vote_for, OffersAgain, TellsLead}
use Rattle.lk_node.specs.SafeSteps.{ActsSafely}
use Rattle.lk_node.proofs.Lists.{contains_more}
use Rattle.lk_node.proofs.ManyEnvelopes.{says_all}
use Rattle.lk_node.proofs.Proposals.{accept_may}
use Rattle.lk_node.proofs.SafeSteps.{rests_here}

-- the term's ballot is promised
term_promised : (node : NodeValue) (b : BallotValue) → IsTermPromised node.acceptor node.leader → IsTermOf b node.leader
    → IsAtMost b node.acceptor.state.promised
term_promised node b promised k =
    subst (λ (x : BallotValue). IsAtMost x node.acceptor.state.promised) k.2 (promised k.0 k.1)

pub asks_go_on : (m : Meaning) (Heard : History → Type 0) (node : NodeValue) (b : BallotValue)
    (before out : OutboxValue) → IsTermPromised node.acceptor node.leader → IsTermOf b node.leader
    → AsksAgain node b before out
    → ActsSafely m Heard node node before out
asks_go_on m Heard node b before out promised is (inl asks) =
    subst (ActsSafely m Heard node node before) (sym asks.2.1)
    (says_all m Heard node before asks.0 (kinds.Prepare b (executed node.learner + 1)) asks.2.0
    (term_promised node b promised is) (λ e. tt)
    (λ o h n loose s heard. (
      subst (λ (a : AcceptorState). IsAtMost b a.promised) (sym s.held.acceptor)
          (term_promised node b promised is),
      record { under = s.holding.paxos.done; chosen = s.fits.paxos.stems.done; bears = tt },
    )))
asks_go_on m Heard node b before out promised is (inr last) =
    subst (ActsSafely m Heard node node before) (sym last.1) (rests_here m Heard node before)

pub lead_goes_on : (m : Meaning) (Heard : History → Type 0) (node : NodeValue) (b : BallotValue)
    (before out : OutboxValue) → TellsLead node b before out → ActsSafely m Heard node node before out
lead_goes_on m Heard node b before out tells =
    subst (ActsSafely m Heard node node before) (sym tells.2.1)
    (says_all m Heard node before tells.0 (kinds.Lead b (executed node.learner)) tells.2.0 tt (λ e. tt)
    (λ o h n loose s heard.
    (tt, record { under = s.holding.paxos.done; chosen = s.fits.paxos.stems.done; bears = tt })))

-- ---- the proposals

some_value : (a b : TermValue) → Some a ≡ Some b → a ≡ b
some_value a b e = cc e

-- what stands at a position is a proposal of that position
found_at : (i : ℕ) (p : ProposalValue) (ps : List ProposalValue) → proposal_at i ps ≡ Some p
    → Contains ps p × (p.position ≡ i)
found_at i p [] e = absurd (cc e)
found_at i p (q ∷ ps) e = by_test (λ k. found_at i p ps k) (eqb q.position i) refl e
  where
    some_proposal : (a b : ProposalValue) → Some a ≡ Some b → a ≡ b
    some_proposal a b e = cc e

    by_test : (proposal_at i ps ≡ Some p → Contains ps p × (p.position ≡ i)) → (t : Bool) → eqb q.position i ≡ t
        → cond t (Some q) (proposal_at i ps) ≡ Some p → Contains (q ∷ ps) p × (p.position ≡ i)
    by_test again true same e = let is = some_proposal q p e in
        ((0, omega arith, is), ap (λ (k : ProposalValue). k.position) (sym is) ∙ eqb-true q.position i same)
    by_test again false same e = let r = again e in (contains_more q ps p r.0, r.1)

pub offer_goes_on : (m : Meaning) (Heard : History → Type 0) (node : NodeValue) (b : BallotValue) (i : ℕ)
    (before out : OutboxValue) → IsTermPromised node.acceptor node.leader → IsTermOf b node.leader
    → OffersAgain node b i before out
    → ActsSafely m Heard node node before out
offer_goes_on m Heard node b i before out promised is (inl offers) =
    let o = offers.1 in
    let at = found_at i offers.0 o.term.proposals o.proposal in
    let same : o.term.ballot ≡ b = ap (λ (k : TermValue). k.ballot) (some_value o.term is.0 (sym o.current ∙ is.1))
    ∙ is.2 in
    subst (ActsSafely m Heard node node before) (sym offers.2.1)
    (says_all m Heard node before (yet_to_accept o.set offers.0.accepted)
    (kinds.Accept (vote_for b i offers.0)) offers.2.0
    (term_promised node b promised is) (λ e. tt)
    (λ out h n loose s heard. accept_may m h n loose node out s o.term offers.0 (vote_for b i offers.0) o.current at.0
    (λ j. record { position = sym at.1 j; ballot = sym same j; command = offers.0.command })))
offer_goes_on m Heard node b i before out promised is (inr none) =
    subst (ActsSafely m Heard node node before) (sym none.1) (rests_here m Heard node before)

-- what is told to those members of the position that were not heard is told again
pub offered : (node : NodeValue) (b : BallotValue) (i : ℕ) (p : ProposalValue) (set : List Member)
    (accepted nodes : List ℕ) (v : Command) (before out : OutboxValue)
    → IsOpen node.leader node.learner.whole.roster i p
    → slice_get node.learner.whole.roster.sets (i - (node.learner.whole.roster.executed + 1)) ≡ Some set
    → p.command ≡ v → p.accepted ≡ accepted → nodes ≡ yet_to_accept set accepted
    → TellsThese node nodes (kinds.Accept (record { position = i; ballot = b; command = v })) before out
    → OffersAgain node b i before out
offered node b i p set accepted nodes v before out open_there at command heard is tells =
    let found : Some set ≡ Some open_there.set = sym at ∙ open_there.members.1 in
    let one : set ≡ open_there.set = cc found in
    inl (
      p,
      open_there,
      subst₂ (λ (ns : List ℕ) (w : Command). TellsThese node ns
          (kinds.Accept (record { position = i; ballot = b; command = w })) before out)
          (is ∙ (λ j. yet_to_accept (one j) (sym heard j))) (sym command) tells,
    )

-- what is open stands in the window
pub members_there : (l : LeaderValue) (roster : RosterValue) (i : ℕ) (p : ProposalValue) → IsOpen l roster i p
    → (roster.executed < i) × (i ≤ roster.executed + length roster.sets)
members_there l roster i p o =
    let within = slice_get_within roster.sets (i - (roster.executed + 1)) o.set o.members.1 in
    (o.members.0, omega (arith, o.members.0, within))
