use Rattle.lk_store_format.specs.Values.{HeaderValue}
use Rattle.lk_seed.specs.Histories.{IsMember}
use Rattle.lk_seed.proofs.seeding.raise_all.Given as goal

-- it is the member still
abbrev pub invariant-loop-one : goal.invariant-loop-one
invariant-loop-one g l = (header : HeaderValue) → IsMember header l.wanted l.fn.member
    → IsMember header l.wanted l.member
