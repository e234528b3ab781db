use Rattle.std.proofs.Common.{◌∙◌, ◌==◌, ℕ, Bool, not, filter, ap, rules}
use Rattle.std.proofs.lemmas.Fn.{filter_same}
use Rattle.std.specs.List.{list_any}
use Rattle.lk_leader.proofs.proposal.yet_to_accept.Goals as goal

pub returns : goal.returns
returns c =
    let is_left : ℕ → Bool = λ k. not (list_any (λ n. n == k) c.args.accepted.now) in
    filter_same _ is_left _ (λ x b f' k. search rules) c.in_ok-nodes.nodes.items _ c.retain.ensures.filtered
    ∙ ap (filter is_left) c.in_ok-nodes.ensures
