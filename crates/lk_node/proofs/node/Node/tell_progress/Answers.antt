use Rattle.std.proofs.Common.{rules}
use Rattle.lk_node.proofs.Nudges.{tells_goes_on}
use Rattle.lk_node.proofs.node.Node.tell_progress.Goals as goal

pub returns-clause-safe : goal.returns-clause-safe
returns-clause-safe g c = tells_goes_on _ _ c.args.self.now c.send_to_all.new.out (search rules)
