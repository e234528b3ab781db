use Rattle.std.proofs.Common.{refl}
use Rattle.lk_acceptor.proofs.Searching.{agree_by}
use Rattle.lk_acceptor.proofs.votes.agree.Goals as goal

pub returns-in-Some : goal.returns-in-Some
returns-in-Some c = agree_by c.args.votes.now c.args.vote.now c.in-Some.kept.now c.in-Some.ensures.0
    c.in-Some.ensures.1 c.agrees.result c.agrees.ensures

pub returns-in-None : goal.returns-in-None
returns-in-None c = (λ e v h same. absurd (c.in-None.ensures v (h, same)), λ all. refl)
