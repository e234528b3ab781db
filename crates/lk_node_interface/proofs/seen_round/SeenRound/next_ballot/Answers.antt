-- One tactic for each goal that a wrong body breaks.
use Rattle.std.proofs.Common.{rules}
use Rattle.lk_node_interface.proofs.seen_round.SeenRound.next_ballot.Goals as goal

pub returns-in_err-round : goal.returns-in_err-round
returns-in_err-round c = search rules

pub returns : goal.returns
returns c = search rules
