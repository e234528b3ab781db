-- The nodes that are counted are the members that promised.
use Rattle.std.proofs.Common.{◌≡◌, ◌∙◌, ap}
use Rattle.lk_leader.specs.Terms.{TermValue}
use Rattle.lk_leader.specs.Proposing.{promisers}
use Rattle.lk_leader.proofs.term.Term.is_promised_by_majority.Goals as goal

pub returns : goal.returns
returns c =
    let nodes : c.as_slice.result.now ≡ promisers c.args.set.now c.args.position c.args.self.now.received =
    c.as_slice.ensures.value ∙ c.promisers.ensures
    ∙ ap (promisers c.args.set.now c.args.position)
    (c.deref.ensures.value ∙ ap (λ (t : TermValue). t.received) c.self.view_is) in
    rw nodes at c.is_majority.ensures
