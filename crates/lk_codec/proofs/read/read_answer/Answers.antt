use Rattle.std.proofs.Common.{rules, arith}
use Rattle.lk_codec.specs.FieldReading.{answer_of}
use Rattle.lk_codec.proofs.FrontLaws.{answer_front}
use Rattle.lk_codec.proofs.read.read_answer.Goals as goal

pub returns-in_default-read_held-clause-front : goal.returns-in_default-read_held-clause-front
unfolding answer_of
returns-in_default-read_held-clause-front c = answer_front _ _ _ (λ i. omega (arith, c.type_inv.bytes i)) (search rules)

pub returns-then-tag-eq2-clause-front : goal.returns-then-tag-eq2-clause-front
unfolding answer_of
returns-then-tag-eq2-clause-front c = answer_front _ _ _ (λ i. omega (arith, c.type_inv.bytes i)) (search rules)

pub returns-else-tag-eq2-clause-front : goal.returns-else-tag-eq2-clause-front
unfolding answer_of
returns-else-tag-eq2-clause-front c = answer_front _ _ _ (λ i. omega (arith, c.type_inv.bytes i)) (search rules)

pub returns-in_default-read_sharing-clause-front : goal.returns-in_default-read_sharing-clause-front
unfolding answer_of
returns-in_default-read_sharing-clause-front c =
    answer_front _ _ _ (λ i. omega (arith, c.type_inv.bytes i)) (search rules)

pub returns-in-Some-read_sharing-clause-front : goal.returns-in-Some-read_sharing-clause-front
unfolding answer_of
returns-in-Some-read_sharing-clause-front c = answer_front _ _ _ (λ i. omega (arith, c.type_inv.bytes i)) (search rules)

pub returns-in_default-clause-front : goal.returns-in_default-clause-front
unfolding answer_of
returns-in_default-clause-front c = answer_front _ _ _ (λ i. omega (arith, c.type_inv.bytes i)) (search rules)
