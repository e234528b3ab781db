use Rattle.std.proofs.Common.{rules, ◌<◌}
use Rattle.lk_healing.proofs.Gaps.{begins_closing, comes_on, has_closed, may_feed, other_may_tell, own_may_tell}
use Rattle.lk_healing.proofs.closing.gain.Goals as goal

pub tell-requires : goal.tell-requires
tell-requires g c =
    other_may_tell g.M.Machine.meaning g.M.Machine.IsText c.args.behind c.args.ahead c.args.world.now c.requires
    c.nodes_know_their_members.ensures

pub tell_anew-requires : goal.tell_anew-requires
tell_anew-requires g c =
    own_may_tell g.M.Machine.meaning g.M.Machine.IsText c.args.behind c.args.ahead c.args.world.now c.requires
    c.nodes_know_their_members.ensures c.tell.new.world c.in_ok-told.told c.in_ok-told.ensures.ok

pub feed-requires : goal.feed-requires
feed-requires g c =
    may_feed g.M.Machine.meaning g.M.Machine.IsText c.args.behind c.args.ahead c.args.world.now c.requires
    c.in_ok-told.told c.in_ok-own.own c.tell_anew.new.world
    (begins_closing g.M.Machine.meaning g.M.Machine.IsText c.args.behind c.args.ahead c.args.world.now c.requires
    c.nodes_know_their_members.ensures c.tell.new.world c.in_ok-told.told c.in_ok-told.ensures.ok c.tell_anew.new.world
    c.in_ok-own.own c.in_ok-own.ensures.ok) (search rules)

pub returns-then-own-executed-clause-ok : goal.returns-then-own-executed-clause-ok
returns-then-own-executed-clause-ok g c k =
    let i = begins_closing g.M.Machine.meaning g.M.Machine.IsText c.args.behind c.args.ahead c.args.world.now k
    c.nodes_know_their_members.ensures c.tell.new.world c.in_ok-told.told c.in_ok-told.ensures.ok c.tell_anew.new.world
    c.in_ok-own.own c.in_ok-own.ensures.ok in
    let less : c.in_ok-own.own < c.in_ok-told.told.nack.executed = search rules in
    comes_on g.M.Machine.meaning g.M.Machine.IsText c.args.behind c.args.ahead c.args.world.now k c.in_ok-told.told
    c.in_ok-own.own c.tell_anew.new.world i less c.feed.new.world
    (c.in_ok-feed.ensures.ok
    (may_feed g.M.Machine.meaning g.M.Machine.IsText c.args.behind c.args.ahead c.args.world.now k
    c.in_ok-told.told c.in_ok-own.own c.tell_anew.new.world i less).0)

pub returns-clause-ok : goal.returns-clause-ok
returns-clause-ok g c k =
    has_closed g.M.Machine.meaning g.M.Machine.IsText c.args.behind c.args.ahead c.args.world.now k c.in_ok-told.told
    c.in_ok-own.own c.tell_anew.new.world
    (begins_closing g.M.Machine.meaning g.M.Machine.IsText c.args.behind c.args.ahead c.args.world.now k
    c.nodes_know_their_members.ensures c.tell.new.world c.in_ok-told.told c.in_ok-told.ensures.ok c.tell_anew.new.world
    c.in_ok-own.own c.in_ok-own.ensures.ok) (search rules)
