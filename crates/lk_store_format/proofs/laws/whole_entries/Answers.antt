use Rattle.std.proofs.Common.{arith, refl}
use Rattle.lk_store_format.proofs.Whole.{every_whole, whole_unique}
use Rattle.lk_store_format.proofs.laws.whole_entries.Goals as goal

pub returns-clause-some : goal.returns-clause-some
returns-clause-some c = every_whole c.args.bytes.now (λ i. omega (arith, c.type_inv.bytes i))

pub returns-clause-one : goal.returns-clause-one
returns-clause-one c es fs a b = whole_unique es fs c.args.bytes.now c.args.bytes.now refl a b
