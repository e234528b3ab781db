-- The proposal at the position is the one at the index that was found.
use Rattle.std.proofs.Common.{◌≡◌, ◌∙◌, ◌↔◌, ℕ, eqb, nat_eq, Some, List, length, get_or, ap, sym, subst, IsTrue}
use Rattle.std.specs.Prelude.{position, slice_set}
use Rattle.std.specs.List.{IsDistinct, refill}
use Rattle.std.proofs.lemmas.List.Quantifiers.{position-Some}
use Rattle.lk_leader.specs.Terms.{TermValue, ProposalValue, with_proposals}
use Rattle.lk_leader.specs.Acceptances.{heard, heard_at, GainsMajority}
use Rattle.lk_leader.proofs.TermLaws.{positions, refilled, found-at, positions-set, set-own, not-found}
use Rattle.lk_leader.proofs.term.Term.record_accepted.Goals as goal

pub returns-in_default-clause-proposed : goal.returns-in_default-clause-proposed
returns-in_default-clause-proposed c =
    λ p found is. absurd (not-found c.args.position c.args.self.now.proposals p
    (sym c.index_of.ensures ∙ c.in_default.is) found)

pub invariant_of-self : goal.invariant_of-self
invariant_of-self c =
    let xs : List ProposalValue = c.self.inside.proposals.items in
    let k : ℕ = c.in-Some.index in
    let d : ProposalValue = c.index-deref_mut-index.result in
    let same : xs ≡ c.args.self.now.proposals = ap (λ (t : TermValue). t.proposals) c.self.view_is in
    let place : position (λ (q : ProposalValue). eqb q.position c.args.position) xs ≡ Some k =
    ap (position (λ (q : ProposalValue). eqb q.position c.args.position)) same
    ∙ sym c.index_of.ensures ∙ c.in-Some.is in
    let found = position-Some (λ (q : ProposalValue). eqb q.position c.args.position) xs k d place in
    let item : get_or c.deref_mut.result.now k d ≡ get_or xs k d =
    ap (λ (l : List ProposalValue). get_or l k d) c.deref_mut.ensures.value in
    subst (IsDistinct nat_eq)
    (sym (ap positions (refilled xs c.deref_mut.result.now k c.record_accepted.new.self c.deref_mut.ensures.value)
    ∙ positions-set xs k d c.record_accepted.new.self found.0
    (c.record_accepted.ensures.position ∙ ap (λ (q : ProposalValue). q.position) item)))
    c.self.invariant

pub returns-clause-proposed : goal.returns-clause-proposed
returns-clause-proposed c = λ p at is.
    let set = c.args.set.now in
    let xs : List ProposalValue = c.self.inside.proposals.items in
    let ps : List ProposalValue = c.args.self.now.proposals in
    let k : ℕ = c.in-Some.index in
    let d : ProposalValue = c.index-deref_mut-index.result in
    let same : xs ≡ ps = ap (λ (t : TermValue). t.proposals) c.self.view_is in
    let place : position (λ (q : ProposalValue). eqb q.position c.args.position) ps ≡ Some k = sym c.index_of.ensures
    ∙ c.in-Some.is in
    let found = position-Some (λ (q : ProposalValue). eqb q.position c.args.position) ps k d place in
    let item : get_or c.deref_mut.result.now k d ≡ get_or ps k d =
    ap (λ (l : List ProposalValue). get_or l k d) (c.deref_mut.ensures.value ∙ same) in
    let first = found-at set c.args.node c.args.position ps k d found.0 found.1 found.2 in
    let this : p ≡ get_or c.deref_mut.result.now k d = cc (at, first.0, item) in
    let told = c.record_accepted.ensures.same (ap (λ (q : ProposalValue). q.command) (sym this) ∙ is) in
    let list : refill (length xs) xs (slice_set c.deref_mut.result.now k c.record_accepted.new.self)
    ≡ heard_at set c.args.node c.args.position ps =
    refilled xs c.deref_mut.result.now k c.record_accepted.new.self c.deref_mut.ensures.value
    ∙ ap (λ (l : List ProposalValue). slice_set l k c.record_accepted.new.self) same
    ∙ ap (λ (q : ProposalValue). slice_set ps k q) (told.0 ∙ ap (heard set c.args.node) item)
    ∙ first.1 in (
      ap (λ (l : List ProposalValue). record {
        ballot = c.self.inside.ballot;
        received = c.self.inside.received.items;
        proposals = l;
      }) list
          ∙ ap (with_proposals (heard_at set c.args.node c.args.position ps)) c.self.view_is,
      subst (λ (q : ProposalValue). IsTrue c.record_accepted.result ↔ GainsMajority set c.args.node q)
          (sym this) told.1,
    )

pub returns-clause-other : goal.returns-clause-other
returns-clause-other c = λ no.
    let set = c.args.set.now in
    let xs : List ProposalValue = c.self.inside.proposals.items in
    let ps : List ProposalValue = c.args.self.now.proposals in
    let k : ℕ = c.in-Some.index in
    let d : ProposalValue = c.index-deref_mut-index.result in
    let same : xs ≡ ps = ap (λ (t : TermValue). t.proposals) c.self.view_is in
    let place : position (λ (q : ProposalValue). eqb q.position c.args.position) ps ≡ Some k = sym c.index_of.ensures
    ∙ c.in-Some.is in
    let found = position-Some (λ (q : ProposalValue). eqb q.position c.args.position) ps k d place in
    let item : get_or c.deref_mut.result.now k d ≡ get_or ps k d =
    ap (λ (l : List ProposalValue). get_or l k d) (c.deref_mut.ensures.value ∙ same) in
    let first = found-at set c.args.node c.args.position ps k d found.0 found.1 found.2 in
    let told = c.record_accepted.ensures.other
    (λ e. no (get_or ps k d) first.0 (ap (λ (q : ProposalValue). q.command) (sym item) ∙ e)) in
    let list : refill (length xs) xs (slice_set c.deref_mut.result.now k c.record_accepted.new.self) ≡ ps =
    refilled xs c.deref_mut.result.now k c.record_accepted.new.self c.deref_mut.ensures.value
    ∙ ap (λ (l : List ProposalValue). slice_set l k c.record_accepted.new.self) same
    ∙ ap (λ (q : ProposalValue). slice_set ps k q) (told.0 ∙ item)
    ∙ set-own ps k d in (
      ap (λ (l : List ProposalValue). record {
        ballot = c.self.inside.ballot;
        received = c.self.inside.received.items;
        proposals = l;
      }) (list ∙ sym same) ∙ c.self.view_is,
      told.1,
    )
