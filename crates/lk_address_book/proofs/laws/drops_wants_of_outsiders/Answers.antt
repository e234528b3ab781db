use Rattle.lk_address_book.proofs.OutsiderLaws.{drops_want, drops_no_other, drops_no_request}
use Rattle.lk_address_book.proofs.laws.drops_wants_of_outsiders.Goals as goal

pub returns-clause-want : goal.returns-clause-want
returns-clause-want c = drops_want

pub returns-clause-others : goal.returns-clause-others
returns-clause-others c = drops_no_other

pub returns-clause-request : goal.returns-clause-request
returns-clause-request c = drops_no_request
