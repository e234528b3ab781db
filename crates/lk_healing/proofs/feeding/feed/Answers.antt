use Rattle.std.proofs.Common.{rules, ◌<◌, ◌≤◌, arith}
use Rattle.lk_learner.specs.Learners.{executed}
use Rattle.lk_healing.proofs.Feeds.{begins_feeding, feeding_ends, feeds_on, has_gained, may_tell_then}
use Rattle.lk_healing.proofs.Feeds.{one_behind}
use Rattle.lk_healing.proofs.feeding.feed.Goals as goal

pub exchanges-init : goal.exchanges-init
exchanges-init g c k =
    begins_feeding g.M.Machine.meaning g.M.Machine.IsText c.args.behind c.args.ahead c.args.told c.args.world.now k

pub exchange-requires : goal.exchange-requires
exchange-requires g c = (c.exchanges.invariant c.requires.0).may

pub tell-requires : goal.tell-requires
tell-requires g c =
    let f = c.exchanges.invariant c.requires.0 in
    may_tell_then g.M.Machine.meaning g.M.Machine.IsText c.args.behind c.args.ahead c.args.told c.args.world.now
    c.requires.0 c.exchanges.counter c.exchanges.world c.exchange.new.world f (c.in_ok-exchange.ensures.ok f.may)
    c.nodes_know_their_members.ensures

pub returns-then-get-clause-ok : goal.returns-then-get-clause-ok
returns-then-get-clause-ok g c k =
    let f = c.exchanges.invariant k in
    let own_more : c.args.own < c.in_ok-tell.field-0.nack.executed = search rules in
    let more : executed k.behind.node.learner < c.in_ok-tell.field-0.nack.executed =
    omega (
      arith,
      one_behind g.M.Machine.meaning g.M.Machine.IsText c.args.behind c.args.ahead c.args.told
          c.args.world.now k c.requires.0,
      c.requires.1,
      own_more,
    ) in
    has_gained g.M.Machine.meaning g.M.Machine.IsText c.args.behind c.args.ahead c.args.told c.args.world.now k
    c.exchanges.counter c.exchanges.world c.exchange.new.world f (c.in_ok-exchange.ensures.ok f.may) c.tell.new.world
    c.in_ok-tell.field-0 c.in_ok-tell.ensures.ok more

pub exchanges-preserved : goal.exchanges-preserved
exchanges-preserved g c k =
    let f = c.exchanges.invariant k in
    let own_same : c.in_ok-tell.field-0.nack.executed ≤ c.args.own = search rules in
    let same : c.in_ok-tell.field-0.nack.executed ≤ executed k.behind.node.learner =
    omega (
      arith,
      one_behind g.M.Machine.meaning g.M.Machine.IsText c.args.behind c.args.ahead c.args.told
          c.args.world.now k c.requires.0,
      c.requires.1,
      own_same,
    ) in
    feeds_on g.M.Machine.meaning g.M.Machine.IsText c.args.behind c.args.ahead c.args.told c.args.world.now k
    c.exchanges.counter c.exchanges.world c.exchange.new.world f (c.in_ok-exchange.ensures.ok f.may) c.tell.new.world
    c.in_ok-tell.field-0 c.in_ok-tell.ensures.ok same

pub unreachable-requires : goal.unreachable-requires
unreachable-requires g c =
    feeding_ends g.M.Machine.meaning g.M.Machine.IsText c.args.behind c.args.ahead c.args.told c.args.world.now
    c.requires.0 c.exchanges.counter c.exchanges.world (c.exchanges.invariant c.requires.0) c.exchanges-test.false
