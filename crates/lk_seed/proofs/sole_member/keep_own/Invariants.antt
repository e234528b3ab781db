use Rattle.std.proofs.Common.{◌≡◌, ◌++◌}
use Rattle.lk_seed.specs.Histories.{own_of}
use Rattle.lk_seed.proofs.sole_member.keep_own.Given as goal

-- those so far that go to the node were appended
abbrev pub invariant-sent : goal.invariant-sent
invariant-sent l = l.envelopes.items ≡ l.fn.envelopes.items ++ own_of l.node l.yielded
