use Rattle.std.proofs.Common.{rules}
use Rattle.lk_node.proofs.Reminders.{lead_goes_on}
use Rattle.lk_node.proofs.node.Node.send_lead.Goals as goal

pub returns-clause-safe : goal.returns-clause-safe
returns-clause-safe g c =
    lead_goes_on _ _ c.args.self.now c.args.ballot c.args.out.now c.send_to_all.new.out (search rules)
