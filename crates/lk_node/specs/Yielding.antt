-- When a node ends its term.
use Rattle.std.specs.Prelude.{if◌then◌else◌, max}
use Rattle.lk_types.specs.BallotValue.{BallotValue}
use Rattle.lk_leader.specs.Terms.{new_leader, is_term_below}
use Rattle.lk_node.specs.NodeValue.{NodeValue}

-- no term, nothing waits, and ticks count from the start
abbrev pub without_term : NodeValue → NodeValue
without_term node = record node { leader = new_leader; ticks = 0 }

-- the node after it has recorded the ballot: if its term is of a smaller one, the term has ended
abbrev pub yielded : BallotValue → NodeValue → NodeValue
yielded b node = if is_term_below b node.leader.term then without_term node else node

-- its ballot's round counts among those recorded
abbrev pub with_round : BallotValue → NodeValue → NodeValue
with_round b node = record node { rounds = max node.rounds b.round }

-- the node after it has recorded the ballot of a rejection or of a leader's notice
abbrev pub seeing : BallotValue → NodeValue → NodeValue
seeing b node = yielded b (with_round b node)
