-- Reading goes on where it stopped.
use Rattle.std.proofs.Common.{ap, ◌∙◌, length-append, ◌+◌}
use Rattle.lk_codec.specs.Parser.{many}
use Rattle.lk_codec.specs.FieldReading.{read_members}
use Rattle.lk_codec.proofs.Spellings.{goes_on}
use Rattle.lk_state.proofs.unpacking.many_sets.Goals as goal

pub loop-preserved : goal.loop-preserved
loop-preserved c = record {
  read = rw c.push.ensures
      (goes_on read_members c.loop.window c.args.count c.loop.counter c.loop.rest.now c.in-Some.set c.in-Some.after.now
      (many read_members c.args.count c.args.bytes.now) c.loop-test.true
      c.in-Some.ensures.parsed c.loop.invariant.read);
  count = rw c.push.ensures (length-append c.loop.window _ ∙ ap (λ n. n + 1) c.loop.invariant.count);
}
