-- One tactic for each goal that a wrong body breaks.
use Rattle.std.proofs.Common.{rules}
use Rattle.lk_address_book.proofs.addresses.Addresses.record_client.Goals as goal

pub returns-clause-entry : goal.returns-clause-entry
returns-clause-entry c = search rules
