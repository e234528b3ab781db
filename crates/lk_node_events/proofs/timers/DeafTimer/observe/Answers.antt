-- What is news is told: it hears no majority there, and that was not reported.
use Rattle.lk_node_events.proofs.timers.DeafTimer.observe.Goals as goal

pub returns-clause-none : goal.returns-clause-none
returns-clause-none c = λ none e is. c.deaf_event.ensures.none none e (record {
  told = is.told;
  hears_none = is.hears_none;
  unlogged = c.if-self.false;
  since = is.since;
  is_since = is.is_since;
  long = is.long;
})
