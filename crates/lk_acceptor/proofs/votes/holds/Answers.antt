use Rattle.std.proofs.Common.{refl}
use Rattle.std.proofs.lemmas.Bool.{false≢true}
use Rattle.lk_acceptor.proofs.Searching.{held_by}
use Rattle.lk_acceptor.proofs.votes.holds.Goals as goal

pub returns-in-Some : goal.returns-in-Some
returns-in-Some c = held_by c.args.votes.now c.args.vote.now c.in-Some.kept.now c.in-Some.ensures.0 c.in-Some.ensures.1
    c.is_same.result c.is_same.ensures

pub returns-in-None : goal.returns-in-None
returns-in-None c = (λ e. absurd (false≢true e), λ h. absurd (c.in-None.ensures c.args.vote.now (h, refl)))
