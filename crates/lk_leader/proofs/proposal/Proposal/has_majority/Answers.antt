-- The nodes whose votes count are the members that accepted.
use Rattle.std.proofs.Common.{◌≡◌, ◌∙◌, ap}
use Rattle.lk_leader.specs.Terms.{ProposalValue}
use Rattle.lk_leader.specs.Acceptances.{members_among}
use Rattle.lk_leader.proofs.proposal.Proposal.has_majority.Goals as goal

pub returns : goal.returns
returns c =
    let nodes : c.as_slice-2.result.now ≡ members_among c.args.set.now c.args.self.now.accepted =
    c.as_slice-2.ensures.value ∙ c.members_of.ensures
    ∙ ap (members_among c.args.set.now)
    (c.as_slice.ensures.value ∙ ap (λ (p : ProposalValue). p.accepted) c.self.view_is) in
    rw nodes at c.is_majority.ensures
