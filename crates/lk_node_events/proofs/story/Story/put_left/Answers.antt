use Rattle.std.proofs.Common.{◌≡◌, ◌∷◌, ◌+◌, List, drop, sym, subst}
use Rattle.lk_node_events.specs.News.{leaves}
use Rattle.lk_node_events.specs.Watches.{PutsNews, nothing, news}
use Rattle.lk_types.specs.declared.member.Member.{Member}
use Rattle.lk_node_events.proofs.Putting.{next_member, none_left}
use Rattle.lk_node_events.proofs.story.Story.put_left.Goals as goal

pub members-preserved : goal.members-preserved
members-preserved c = λ new rest.
    let ms = c.args.members.now in
    let i = c.members.member-index in
    let m = c.member-item.result in
    let next : drop i ms ≡ m ∷ drop (i + 1) ms = next_member ms i m c.members-test.true c.member-item.is in
    c.members.invariant new
    (subst (λ (l : List Member). PutsNews c.args.now c.args.self.now c.args.seen.now
    (leaves l) c.members.rate_limits.all new) (sym next)
    (news c.left.result c.left.ensures c.put_some.ensures rest))

pub returns : goal.returns
returns c =
    c.members.invariant c.members.rate_limits.all
    (subst (λ (l : List Member). PutsNews c.args.now c.args.self.now c.args.seen.now
    (leaves l) c.members.rate_limits.all c.members.rate_limits.all)
    (sym (none_left c.args.members.now c.members.member-index c.members-test.false)) nothing)
