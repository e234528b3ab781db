use Rattle.std.proofs.Common.{rules, ap, inl}
use Rattle.lk_watch.specs.Queues.{listed_envelope}
use Rattle.lk_waiting.proofs.waiting.Waiting.hear.Goals as goal

pub returns-clause-hears : goal.returns-clause-hears
returns-clause-hears c = inl (record {
  waiters = search rules;
  left = search rules;
  answer = ap listed_envelope (search rules);
})
