use Rattle.std.proofs.Common.{arith}
use Rattle.lk_codec.specs.FieldReading.{read_request}
use Rattle.lk_codec.proofs.Spellings.{request_reads}
use Rattle.lk_messages.proofs.Spellings.{cut, stepped}
use Rattle.lk_wire.proofs.viewing.command.RequestRef.of.Goals as goal

pub invariant_of-result : goal.invariant_of-result
invariant_of-result c =
    let a = stepped read_request c.args.bytes.now c.in_ok-rest.rest.now c.in_ok-rest.ensures in
    (cut read_request _ _ request_reads _ a.0 c.args.bytes.now c.in_ok-rest.rest.now c.front_of-bytes.result.now
    (λ i. omega (arith, c.type_inv.bytes i)) a.1 c.front_of-bytes.ensures).0

pub returns : goal.returns
returns c =
    let a = stepped read_request c.args.bytes.now c.in_ok-rest.rest.now c.in_ok-rest.ensures in
    (cut read_request _ _ request_reads _ a.0 c.args.bytes.now c.in_ok-rest.rest.now c.front_of-bytes.result.now
    (λ i. omega (arith, c.type_inv.bytes i)) a.1 c.front_of-bytes.ensures).1
