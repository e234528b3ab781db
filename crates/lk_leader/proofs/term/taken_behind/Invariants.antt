-- Something is proposed at each of those that were counted.
use Rattle.std.proofs.Common.{ℕ, ◌<◌, ◌≤◌, ◌+◌, IsSome}
use Rattle.lk_leader.specs.Terms.{proposal_at}
use Rattle.lk_leader.proofs.term.taken_behind.Given as goal

abbrev pub invariant-loop-proposal : goal.invariant-loop-proposal
invariant-loop-proposal l = record {
  few : l.taken ≤ l.proposal-index;
  all : (j : ℕ) → l.executed < j → j ≤ l.executed + l.taken → IsSome (proposal_at j l.proposals);
}
