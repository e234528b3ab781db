use Rattle.std.proofs.Common.{rules, arith}
use Rattle.lk_codec.specs.FieldReading.{read_two}
use Rattle.lk_codec.proofs.FrontLaws.{two_front}
use Rattle.lk_codec.proofs.read.read_u16.Goals as goal

pub returns-in_err-number-clause-front : goal.returns-in_err-number-clause-front
unfolding read_two
returns-in_err-number-clause-front c = two_front _ _ _ (λ i. omega (arith, c.type_inv.bytes i)) (search rules)

pub returns-clause-front : goal.returns-clause-front
unfolding read_two
returns-clause-front c = two_front _ _ _ (λ i. omega (arith, c.type_inv.bytes i)) (search rules)
