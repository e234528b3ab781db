use Rattle.lk_agreement_laws.proofs.VoteLists.{pushed_takes_vote, filtered_takes_snapshot, filtered_may_promise}
use Rattle.lk_agreement_laws.proofs.laws.votes_may_be_kept_in_a_list.Goals as goal

pub returns-clause-vote : goal.returns-clause-vote
returns-clause-vote c = pushed_takes_vote

pub returns-clause-snapshot : goal.returns-clause-snapshot
returns-clause-snapshot c = filtered_takes_snapshot

pub returns-clause-promise : goal.returns-clause-promise
returns-clause-promise c = filtered_may_promise
