use Rattle.std.proofs.Common.{rules, arith}
use Rattle.lk_codec.specs.FieldReading.{read_members}
use Rattle.lk_codec.proofs.FrontLaws.{members_front}
use Rattle.lk_codec.proofs.read.read_members.Goals as goal

pub returns-in_default-clause-front : goal.returns-in_default-clause-front
unfolding read_members
returns-in_default-clause-front c = members_front _ _ _ (λ i. omega (arith, c.type_inv.bytes i)) (search rules)

pub returns-in_default-of-clause-front : goal.returns-in_default-of-clause-front
unfolding read_members
returns-in_default-of-clause-front c = members_front _ _ _ (λ i. omega (arith, c.type_inv.bytes i)) (search rules)

pub returns-clause-front : goal.returns-clause-front
unfolding read_members
returns-clause-front c = members_front _ _ _ (λ i. omega (arith, c.type_inv.bytes i)) (search rules)
