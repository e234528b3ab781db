use Rattle.std.proofs.Common.{◌∙◌, ap, nat_lt, sym, ℕ}
use Rattle.lk_acceptor.proofs.Searching.{last_tells}
use Rattle.lk_acceptor.proofs.votes.lie_below.Goals as goal

pub returns-in-Some : goal.returns-in-Some
returns-in-Some c =
    ap (λ (i : ℕ). nat_lt i c.args.end) c.get.ensures.value
    ∙ last_tells c.args.end c.args.votes.now c.in-Some.vote.now c.requires (sym c.in-Some.ensures.value)
