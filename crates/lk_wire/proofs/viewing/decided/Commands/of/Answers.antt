use Rattle.std.proofs.Common.{[], arith}
use Rattle.lk_codec.specs.FieldReading.{read_command}
use Rattle.lk_codec.specs.Parser.{many}
use Rattle.lk_messages.proofs.Spellings.{cut, stepped, commands_read}
use Rattle.lk_wire.proofs.viewing.decided.Commands.of.Goals as goal

pub invariant_of-result : goal.invariant_of-result
invariant_of-result c =
    let a = stepped (many read_command c.args.count) c.args.bytes.now c.in_ok-rest.rest.now c.in_ok-rest.ensures in
    (cut _ _ _ (commands_read c.args.count) [] a.0 c.args.bytes.now c.in_ok-rest.rest.now c.front_of-bytes.result.now
    (λ i. omega (arith, c.type_inv.bytes i)) a.1 c.front_of-bytes.ensures).0

pub returns : goal.returns
returns c =
    let a = stepped (many read_command c.args.count) c.args.bytes.now c.in_ok-rest.rest.now c.in_ok-rest.ensures in
    (cut _ _ _ (commands_read c.args.count) [] a.0 c.args.bytes.now c.in_ok-rest.rest.now c.front_of-bytes.result.now
    (λ i. omega (arith, c.type_inv.bytes i)) a.1 c.front_of-bytes.ensures).1
