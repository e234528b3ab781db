use Rattle.lk_acceptor.proofs.Keeping.{takes_vote, takes_snapshot}
use Rattle.lk_acceptor.proofs.laws.vote_changes_are_permitted.Goals as goal

pub returns-clause-vote : goal.returns-clause-vote
returns-clause-vote c a e x k g = takes_vote a.state x k g.ballot g.agree

pub returns-clause-snapshot : goal.returns-clause-snapshot
returns-clause-snapshot c = takes_snapshot
