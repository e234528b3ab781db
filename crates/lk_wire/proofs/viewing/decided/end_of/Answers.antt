use Rattle.std.proofs.Common.{[], ◌∷◌, ◌++◌}
use Rattle.lk_codec.specs.FieldReading.{read_command}
use Rattle.lk_codec.specs.Parser.{many}
use Rattle.lk_codec.proofs.Spellings.{goes_on}
use Rattle.lk_messages.proofs.Spellings.{stepped}
use Rattle.lk_wire.proofs.viewing.decided.end_of.Goals as goal

pub loop-preserved : goal.loop-preserved
loop-preserved c =
    let a = stepped read_command c.loop.rest.now c.in_ok-rest.rest.now c.in_ok-rest.ensures in (
      c.loop.invariant.0 ++ a.0 ∷ [],
      goes_on read_command c.loop.invariant.0 c.args.count c.loop.counter c.loop.rest.now a.0 c.in_ok-rest.rest.now
          (many read_command c.args.count c.args.bytes.now) c.loop-test.true a.1 c.loop.invariant.1,
    )
