-- Something is proposed at each position so far.
use Rattle.std.proofs.Common.{ℕ, ◌<◌, ◌≤◌, ◌+◌, IsSome}
use Rattle.lk_leader.specs.Terms.{proposal_at}
use Rattle.lk_leader.proofs.term.Term.next_position.Given as goal

abbrev pub invariant-loop-ahead : goal.invariant-loop-ahead
invariant-loop-ahead l = (j : ℕ) → l.executed < j → j ≤ l.executed + l.ahead → IsSome (proposal_at j l.self.proposals)
