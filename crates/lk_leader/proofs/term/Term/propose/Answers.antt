-- What stays is in the window, so there is room for one position of it at which nothing is proposed.
use Rattle.std.proofs.Common.{◌≡◌, ◌∙◌, ℕ, ◌<◌, ◌≤◌, nat_eq, None, List, [], ◌∷◌, ◌++◌, length, ap, sym, subst, rules}
use Rattle.std.proofs.Common.{arith, lit<}
use Rattle.std.specs.List.{IsDistinct}
use Rattle.arrayvec.proofs.ArrayVecLemmas.{filter-from_retain}
use Rattle.lk_leader.specs.Terms.{TermValue, ProposalValue, proposal_at, in_window}
use Rattle.lk_leader.specs.Proposing.{proposed}
use Rattle.lk_leader.proofs.TermLaws.{positions, room, distinct-proposed}
use Rattle.lk_leader.proofs.term.Term.propose.Goals as goal

pub push-requires : goal.push-requires
push-requires c =
    let e : ℕ = c.args.roster.now.executed in
    let a : ℕ = length c.args.roster.now.sets in
    let xs : List ProposalValue = c.self.inside.proposals.items in
    let x : ProposalValue = record { position = c.args.position; command = c.args.command; accepted = [] } in
    let same : xs ≡ c.args.self.now.proposals = ap (λ (t : TermValue). t.proposals) c.self.view_is in
    let kept : c.retain.new.self.items ≡ in_window e a xs =
    filter-from_retain _ _ _ (λ y b f' z called. search rules) _ _ c.retain.ensures.filtered in
    let none : proposal_at c.args.position xs ≡ None = ap (proposal_at c.args.position) same ∙ c.requires.new in
    let few : length (in_window e a xs) < a = room e a x xs c.self.invariant none c.requires.above c.requires.reaches in
    let most : a ≤ 64 = c.facts.ensures.sets.0 in
    (lit< tt, omega (arith, few, most, ap length kept))

pub invariant_of-self : goal.invariant_of-self
invariant_of-self c =
    let e : ℕ = c.args.roster.now.executed in
    let a : ℕ = length c.args.roster.now.sets in
    let xs : List ProposalValue = c.self.inside.proposals.items in
    let x : ProposalValue = record { position = c.args.position; command = c.args.command; accepted = [] } in
    let same : xs ≡ c.args.self.now.proposals = ap (λ (t : TermValue). t.proposals) c.self.view_is in
    let kept : c.retain.new.self.items ≡ in_window e a xs =
    filter-from_retain _ _ _ (λ y b f' z called. search rules) _ _ c.retain.ensures.filtered in
    let none : proposal_at c.args.position xs ≡ None = ap (proposal_at c.args.position) same ∙ c.requires.new in
    let items : c.push.new.self.items ≡ in_window e a xs ++ x ∷ [] = c.push.ensures.items
    ∙ ap (λ (q : ProposalValue). c.retain.new.self.items ++ q ∷ []) c.new.ensures
    ∙ ap (λ (l : List ProposalValue). l ++ x ∷ []) kept in
    subst (λ (l : List ProposalValue). IsDistinct nat_eq (positions l)) (sym items)
    (distinct-proposed _ x xs c.self.invariant none)

pub returns : goal.returns
returns c =
    let e : ℕ = c.args.roster.now.executed in
    let a : ℕ = length c.args.roster.now.sets in
    let xs : List ProposalValue = c.self.inside.proposals.items in
    let x : ProposalValue = record { position = c.args.position; command = c.args.command; accepted = [] } in
    let kept : c.retain.new.self.items ≡ in_window e a xs =
    filter-from_retain _ _ _ (λ y b f' z called. search rules) _ _ c.retain.ensures.filtered in
    let items : c.push.new.self.items ≡ in_window e a xs ++ x ∷ [] = c.push.ensures.items
    ∙ ap (λ (q : ProposalValue). c.retain.new.self.items ++ q ∷ []) c.new.ensures
    ∙ ap (λ (l : List ProposalValue). l ++ x ∷ []) kept in
    ap (λ (l : List ProposalValue). record {
      ballot = c.self.inside.ballot;
      received = c.self.inside.received.items;
      proposals = l;
    }) items
    ∙ ap (proposed c.args.roster.now c.args.position c.args.command) c.self.view_is
