use Rattle.std.proofs.Common.{rules}
use Rattle.lk_node.proofs.Nudges.{asks_others_goes_on}
use Rattle.lk_node.proofs.node.Node.ask_others.Goals as goal

pub returns-clause-safe : goal.returns-clause-safe
returns-clause-safe g c = asks_others_goes_on _ _ c.args.self.now c.send_to_all.new.out (search rules)
