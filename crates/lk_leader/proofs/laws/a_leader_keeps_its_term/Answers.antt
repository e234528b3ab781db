-- By the lemmas of LedTermLaws.
use Rattle.lk_leader.proofs.LedTermLaws.{begun_leads, later_leads, heard_leads, proposed_leads, majority_leads}
use Rattle.lk_leader.proofs.laws.a_leader_keeps_its_term.Goals as goal

pub returns-clause-begins : goal.returns-clause-begins
returns-clause-begins c = begun_leads

pub returns-clause-later : goal.returns-clause-later
returns-clause-later c = later_leads

pub returns-clause-hears : goal.returns-clause-hears
returns-clause-hears c = heard_leads

pub returns-clause-proposes : goal.returns-clause-proposes
returns-clause-proposes c = proposed_leads

pub returns-clause-gains : goal.returns-clause-gains
returns-clause-gains c = majority_leads
