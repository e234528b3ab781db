use Rattle.lk_agreement_laws.proofs.Agree.{chosen_agree}
use Rattle.lk_agreement_laws.proofs.Runs.{reaches_fits, kept_in_world}
use Rattle.lk_agreement_laws.proofs.laws.every_world_agrees.Goals as goal

pub returns-clause-fits : goal.returns-clause-fits
returns-clause-fits c = reaches_fits

pub returns-clause-agree : goal.returns-clause-agree
returns-clause-agree c genesis w L K r l k = chosen_agree genesis w.sent (reaches_fits genesis w r).sound L K l k

pub returns-clause-kept : goal.returns-clause-kept
returns-clause-kept c genesis w L i v r l at = kept_in_world genesis w (reaches_fits genesis w r) L l i v at
