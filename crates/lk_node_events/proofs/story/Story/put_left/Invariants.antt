-- With what the members that are left bring, all that they bring waits.
use Rattle.std.specs.Prelude.{List, drop}
use Rattle.lk_node_events.specs.News.{leaves}
use Rattle.lk_node_events.specs.Watches.{PutsNews}
use Rattle.lk_node_events.specs.declared.rate_limit.RateLimit.{RateLimit}
use Rattle.lk_node_events.proofs.story.Story.put_left.Given as goal

abbrev pub invariant-members : goal.invariant-members
invariant-members l =
    (new : List RateLimit) → PutsNews l.now l.self l.seen (leaves (drop l.member-index l.members)) l.rate_limits.all new
    → PutsNews l.now l.self l.seen (leaves l.members) l.initial.rate_limits.all new
