-- Reading goes on where it stopped.
use Rattle.std.proofs.Common.{ap, ◌∙◌, length-append, ◌+◌}
use Rattle.lk_codec.specs.Parser.{many}
use Rattle.lk_state.specs.Reading.{read_session}
use Rattle.lk_codec.proofs.Spellings.{goes_on}
use Rattle.lk_state.proofs.unpacking.many_sessions.Goals as goal

pub loop-preserved : goal.loop-preserved
loop-preserved c = record {
  read = rw c.push.ensures.items
      (goes_on read_session c.loop.sessions.items c.args.count c.loop.counter c.loop.rest.now c.in-Some.session
      c.in-Some.after.now (many read_session c.args.count c.args.bytes.now) c.loop-test.true
      c.in-Some.ensures c.loop.invariant.read);
  count = rw c.push.ensures.items (length-append c.loop.sessions.items _ ∙ ap (λ n. n + 1) c.loop.invariant.count);
}
