use Rattle.std.proofs.Common.{rules}
use Rattle.lk_node_events.specs.News.{joins, leaves}
use Rattle.lk_node_events.specs.Watches.{PutsNews}
use Rattle.lk_node_events.proofs.Putting.{puts_both}
use Rattle.lk_node_events.proofs.story.Story.put_members.Goals as goal

pub returns : goal.returns
returns c =
    let story = c.args.self.now in
    let seen = c.args.seen.now in
    let mid = c.put_joined.new.rate_limits.all in
    let joined : PutsNews c.args.now story seen (joins seen.members) c.args.rate_limits.now.all mid = search rules in
    let left : PutsNews c.args.now story seen (leaves story.members) mid c.put_left.new.rate_limits.all =
    search rules in
    puts_both joined left
