use Rattle.lk_agreement_laws.proofs.Grow.{still_stems}
use Rattle.lk_agreement_laws.proofs.Runs.{covers_both, covers_elsewhere}
use Rattle.lk_agreement_laws.proofs.laws.images_go_on_covering.Goals as goal

pub returns-clause-sender : goal.returns-clause-sender
returns-clause-sender c genesis sent batch n image = covers_both genesis sent batch n image.acceptor

pub returns-clause-others : goal.returns-clause-others
returns-clause-others c genesis w n k batch image may other =
    covers_elsewhere genesis w n batch may k image.acceptor other

pub returns-clause-stems : goal.returns-clause-stems
returns-clause-stems c = still_stems
