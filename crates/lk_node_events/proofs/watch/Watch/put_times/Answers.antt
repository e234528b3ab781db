use Rattle.std.proofs.Common.{subst, Bool}
use Rattle.lk_node_events.specs.Timers.{TurnsQuiet}
use Rattle.lk_node_events.proofs.watch.Watch.put_times.Goals as goal

pub returns : goal.returns
returns c = record {
  leaderless = c.observe-leaderless.result;
  quiet = subst (λ (b : Bool). TurnsQuiet c.args.self.now.quiet c.args.now b c.args.seen.now.is_member
      c.observe-leaderless.result c.observe-leaderless.new.self) c.has_leader.ensures
      (record {
        some = c.observe-leaderless.ensures.some;
        none = c.observe-leaderless.ensures.none;
        leader = c.observe-leaderless.ensures.leader;
        since = c.observe-leaderless.ensures.since;
        logged = c.observe-leaderless.ensures.logged;
        kept = c.observe-leaderless.ensures.kept;
      });
  behind = c.observe-lag.result;
  lag = record {
    some = c.observe-lag.ensures.some;
    none = c.observe-lag.ensures.none;
    becomes = c.observe-lag.ensures.becomes;
  };
  unheard = c.observe-deaf.result;
  deaf = record {
    some = c.observe-deaf.ensures.some;
    none = c.observe-deaf.ensures.none;
    becomes = c.observe-deaf.ensures.becomes;
  };
  one = c.put_some.new.self.all;
  two = c.put_some-2.new.self.all;
  first = c.put_some.ensures;
  second = c.put_some-2.ensures;
  third = c.put_some-3.ensures;
  story = c.forget.ensures;
}
