-- One tactic for each goal that a wrong body breaks.
use Rattle.std.proofs.Common.{rules}
use Rattle.lk_leader.proofs.promised_vote.PromisedVote.is_below.Goals as goal

pub returns-then-not-is_below-clause-below : goal.returns-then-not-is_below-clause-below
returns-then-not-is_below-clause-below c = search rules

pub returns-then-not-is_below-clause-above : goal.returns-then-not-is_below-clause-above
returns-then-not-is_below-clause-above c = search rules
