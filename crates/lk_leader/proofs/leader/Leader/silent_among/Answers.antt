use Rattle.std.proofs.Common.{ℕ, Bool, not, rules}
use Rattle.std.proofs.lemmas.Fn.{filter_same}
use Rattle.lk_leader.specs.Terms.{has_promise_of}
use Rattle.lk_leader.proofs.leader.Leader.silent_among.Goals as goal

pub returns : goal.returns
returns c =
    let is_silent : ℕ → Bool = λ k. not (has_promise_of c.args.self.now.term k) in
    filter_same _ is_silent _ (λ x b f' k. search rules) c.args.nodes.items _ c.retain.ensures.filtered
