use Rattle.std.proofs.Common.{arith}
use Rattle.lk_summed_disk.proofs.laws.lengths_apart.Goals as goal

pub returns-clause-first : goal.returns-clause-first
returns-clause-first c n m d some few same = omega (arith, some, few, same)

pub returns-clause-second : goal.returns-clause-second
returns-clause-second c n m d some few same = omega (arith, some, few, same)

pub returns-clause-third : goal.returns-clause-third
returns-clause-third c n m d some few same = omega (arith, some, few, same)

pub returns-clause-fourth : goal.returns-clause-fourth
returns-clause-fourth c n m d some few same = omega (arith, some, few, same)
