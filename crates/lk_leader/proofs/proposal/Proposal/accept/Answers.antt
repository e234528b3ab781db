-- No majority had accepted it before, and one has with the members that accepted it now.
use Rattle.std.proofs.Common.{◌≡◌, ◌∙◌, [], ◌∷◌, ◌++◌, sym, rules, true≢false}
use Rattle.lk_leader.specs.Acceptances.{members_among}
use Rattle.lk_leader.proofs.proposal.Proposal.accept.Goals as goal

pub returns-then-not-had_majority-clause-gains : goal.returns-then-not-had_majority-clause-gains
returns-then-not-had_majority-clause-gains c =
    let nodes : c.members_of-self-inside.result.items
    ≡ members_among c.args.set.now (c.args.self.now.accepted ++ c.args.node ∷ []) = search rules in
    let now = rw nodes at c.has_majority.ensures in (
      λ t. (λ was. true≢false (sym (c.has_majority-had_majority.ensures.1 was) ∙ c.if-not-had_majority.true), now.0 t),
      λ becomes. now.1 becomes.1,
    )
