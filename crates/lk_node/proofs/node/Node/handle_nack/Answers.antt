use Rattle.std.proofs.Common.{rules}
use Rattle.lk_node.proofs.GapLaws.{nack_goes_on}
use Rattle.lk_node.proofs.node.Node.handle_nack.Goals as goal

pub returns-clause-safe : goal.returns-clause-safe
returns-clause-safe g c = nack_goes_on _ c.args.self.now _ c.args.from c.args.nack.now _ (search rules)
