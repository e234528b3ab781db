use Rattle.std.proofs.Common.{◌-◌, None, arith}
use Rattle.std.proofs.lemmas.List.{get_or-replicate}
use Rattle.lk_address_book.proofs.addresses.Addresses.new.Goals as goal

pub returns-clause-clients : goal.returns-clause-clients
returns-clause-clients c = λ client is. get_or-replicate 256 (client - 1) None None (omega (arith, is.0, is.1))
