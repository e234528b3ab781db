-- Reading goes on where it stopped.
use Rattle.std.proofs.Common.{ap, ◌∙◌, length-append, ◌+◌}
use Rattle.lk_codec.specs.Parser.{many}
use Rattle.lk_codec.specs.FieldReading.{read_member}
use Rattle.lk_codec.proofs.Loop.{goes_on}
use Rattle.lk_codec.proofs.read.many_members.Goals as goal

pub loop-preserved : goal.loop-preserved
loop-preserved c = record {
  read = rw c.push.ensures.items
      (goes_on read_member c.loop.list.items c.args.count c.loop.counter c.loop.rest.now c.in-Some.member
      c.in-Some.after.now (many read_member c.args.count c.args.bytes.now) c.loop-test.true
      c.in-Some.ensures.parsed c.loop.invariant.read);
  count = rw c.push.ensures.items (length-append c.loop.list.items _ ∙ ap (λ n. n + 1) c.loop.invariant.count);
}
