use Rattle.std.proofs.Common.{List}
use Rattle.lk_store_format.specs.Values.{HeaderValue}
use Rattle.lk_seed.specs.Histories.{IsMember, IsWanted}
use Rattle.lk_seed.specs.declared.wanted.Wanted.{Wanted}
use Rattle.lk_seed.proofs.seeding.raise.Given as goal

-- it is the member still
abbrev pub invariant-grants : goal.invariant-grants
invariant-grants l = (header : HeaderValue) (wanted : List Wanted) → IsWanted wanted l.name
    → IsMember header wanted l.fn.member → IsMember header wanted l.member
