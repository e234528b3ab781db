use Rattle.std.proofs.Common.{List}
use Rattle.lk_store_format.specs.Values.{HeaderValue}
use Rattle.lk_seed.specs.Histories.{IsMember}
use Rattle.lk_seed.specs.declared.wanted.Wanted.{Wanted}
use Rattle.lk_seed.proofs.sole_member.SoleMember.settle.Given as goal

-- it is the member still
abbrev pub invariant-envelopes : goal.invariant-envelopes
invariant-envelopes l = (header : HeaderValue) (wanted : List Wanted) → IsMember header wanted l.fn.self
    → IsMember header wanted l.self
