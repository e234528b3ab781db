use Rattle.std.proofs.Common.{rules}
use Rattle.lk_node.specs.Reminding.{AsksAgain}
use Rattle.lk_node.proofs.Reminders.{asks_go_on}
use Rattle.lk_node.proofs.node.Node.resend_prepares.Goals as goal

pub returns-clause-safe : goal.returns-clause-safe
returns-clause-safe g c =
    let asks : AsksAgain c.args.self.now c.args.ballot c.args.out.now c.send_to_all.new.out = search rules in
    asks_go_on _ _ c.args.self.now c.args.ballot c.args.out.now c.send_to_all.new.out c.facts.ensures c.requires asks
