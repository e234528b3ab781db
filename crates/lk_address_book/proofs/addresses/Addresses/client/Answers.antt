-- One tactic for each goal that a wrong body breaks.
use Rattle.std.proofs.Common.{rules}
use Rattle.lk_address_book.proofs.addresses.Addresses.client.Goals as goal

pub returns : goal.returns
returns c = search rules
