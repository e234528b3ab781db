use Rattle.lk_healing.proofs.Feeds.{FeedsOn}
use Rattle.lk_healing.specs.Feeds.{MayFeed}
use Rattle.lk_healing.proofs.feeding.feed.Given as goal

abbrev pub invariant-exchanges : goal.invariant-exchanges
invariant-exchanges g l =
    (k : MayFeed g.M.Machine.meaning g.M.Machine.IsText l.fn.world l.fn.behind l.fn.ahead l.fn.told)
    → FeedsOn g.M.Machine.meaning g.M.Machine.IsText l.fn.behind l.fn.ahead l.fn.told l.fn.world k l.counter l.world
