use Rattle.std.proofs.Common.{ap}
use Rattle.lk_node_events.specs.declared.story.Story.{Story}
use Rattle.lk_node_events.specs.declared.watch.Watch.{Watch}
use Rattle.lk_node_events.proofs.watch.Watch.observe.Goals as goal

pub returns : goal.returns
returns c = record {
  timed = c.put_times.new.self;
  times = c.put_times.ensures;
  news = c.observe.ensures.news;
  becomes = ap (λ (story : Story). let w : Watch =
      record {
        story = story;
        quiet = c.put_times.new.self.quiet;
        lag = c.put_times.new.self.lag;
        deaf = c.put_times.new.self.deaf;
        rate_limits = c.observe.new.rate_limits;
      } in w) c.observe.ensures.observed;
}
