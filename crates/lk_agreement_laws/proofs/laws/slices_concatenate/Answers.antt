use Rattle.lk_agreement_laws.proofs.Slices.{slices_concatenate, whole_slice, still_slice, prefix_slice}
use Rattle.lk_agreement_laws.proofs.laws.slices_concatenate.Goals as goal

pub returns-clause-concatenate : goal.returns-clause-concatenate
returns-clause-concatenate c genesis sent text position total gathered bytes sound =
    slices_concatenate genesis sent sound text position total gathered bytes

pub returns-clause-whole : goal.returns-clause-whole
returns-clause-whole c = whole_slice

pub returns-clause-later : goal.returns-clause-later
returns-clause-later c = still_slice

pub returns-clause-prefix : goal.returns-clause-prefix
returns-clause-prefix c = prefix_slice
