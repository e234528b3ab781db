use Rattle.std.proofs.Common.{take}
use Rattle.lk_replica.specs.Posts.{CarriesAll}
use Rattle.lk_replica.proofs.Thinning.{Delivers}
use Rattle.lk_replica.proofs.delivering.deliver.Given as goal

abbrev pub invariant-loop-envelope : goal.invariant-loop-envelope
invariant-loop-envelope g l =
    Delivers g.P.Post.is_observable (take l.envelope-index l.envelopes) (g.P.Post.sent l.fn.post) (g.P.Post.sent l.post)
    (g.P.Post.failures l.fn.post) (g.P.Post.failures l.post) l.all
    × CarriesAll g.P.Post.Carries l.fn.post (take l.envelope-index l.envelopes) l.post
