-- The invariant between a node's acceptor and its leader: it leads only in ballots that it has promised.
use Rattle.std.specs.Prelude.{◌≡◌, Some}
use Rattle.lk_types.specs.Ballots.{IsAtMost}
use Rattle.lk_acceptor.specs.AcceptorValue.{AcceptorValue}
use Rattle.lk_leader.specs.Terms.{TermValue, LeaderValue}

-- if there is a term, its ballot is at most the promised one
abbrev pub IsTermPromised : AcceptorValue → LeaderValue → Type 0
IsTermPromised acceptor leader = (k : TermValue) → leader.term ≡ Some k → IsAtMost k.ballot acceptor.state.promised
