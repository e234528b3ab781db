use Rattle.lk_address_book.proofs.AdminLaws.{bars_request, bars_no_node, everyone_may}
use Rattle.lk_address_book.proofs.laws.bars_requests_of_others.Goals as goal

pub returns-clause-request : goal.returns-clause-request
returns-clause-request c = bars_request

pub returns-clause-node : goal.returns-clause-node
returns-clause-node c = bars_no_node

pub returns-clause-nothing : goal.returns-clause-nothing
returns-clause-nothing c = everyone_may
