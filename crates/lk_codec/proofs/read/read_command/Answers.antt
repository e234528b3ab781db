use Rattle.std.proofs.Common.{rules, arith}
use Rattle.lk_codec.specs.FieldReading.{command_of}
use Rattle.lk_codec.proofs.FrontLaws.{command_front}
use Rattle.lk_codec.proofs.read.read_command.Goals as goal

pub returns-in_default-read_request-clause-front : goal.returns-in_default-read_request-clause-front
unfolding command_of
returns-in_default-read_request-clause-front c =
    command_front _ _ _ (λ i. omega (arith, c.type_inv.bytes i)) (search rules)

pub returns-in-Some-clause-front : goal.returns-in-Some-clause-front
unfolding command_of
returns-in-Some-clause-front c = command_front _ _ _ (λ i. omega (arith, c.type_inv.bytes i)) (search rules)
