use Rattle.std.proofs.Common.{rules, arith}
use Rattle.lk_codec.specs.FieldReading.{op_of, read_version}
use Rattle.lk_codec.proofs.FrontLaws.{op_front}
use Rattle.lk_codec.proofs.read.read_op.Goals as goal

pub returns-in_default-read_payload-clause-front : goal.returns-in_default-read_payload-clause-front
unfolding op_of read_version
returns-in_default-read_payload-clause-front c = op_front _ _ _ (λ i. omega (arith, c.type_inv.bytes i)) (search rules)

pub returns-in_default-read_member-clause-front : goal.returns-in_default-read_member-clause-front
unfolding op_of read_version
returns-in_default-read_member-clause-front c = op_front _ _ _ (λ i. omega (arith, c.type_inv.bytes i)) (search rules)

pub returns-in-Some-clause-front : goal.returns-in-Some-clause-front
unfolding op_of read_version
returns-in-Some-clause-front c = op_front _ _ _ (λ i. omega (arith, c.type_inv.bytes i)) (search rules)

pub returns-in-Some-read_member-clause-front : goal.returns-in-Some-read_member-clause-front
unfolding op_of read_version
returns-in-Some-read_member-clause-front c = op_front _ _ _ (λ i. omega (arith, c.type_inv.bytes i)) (search rules)
