-- One tactic for each goal that a wrong body breaks.
use Rattle.std.proofs.Common.{arith}
use Rattle.std.proofs.lemmas.Grind.{common_steps}
use Rattle.lk_address_book.proofs.addresses.Addresses.record_node.Goals as goal

pub returns-clause-moves : goal.returns-clause-moves
returns-clause-moves c = grind (arith, common_steps)
