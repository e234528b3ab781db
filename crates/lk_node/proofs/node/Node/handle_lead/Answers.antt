use Rattle.std.proofs.Common.{rules}
use Rattle.lk_node.specs.CatchingUp.{HandlesLead}
use Rattle.lk_node.proofs.GapLaws.{lead_goes_on}
use Rattle.lk_node.proofs.node.Node.handle_lead.Goals as goal

pub returns-then-is_below-clause-safe : goal.returns-then-is_below-clause-safe
returns-then-is_below-clause-safe g c =
    let heard : HandlesLead c.args.self.now c.args.from c.args.ballot c.args.executed c.note_ballot.new.self
    c.in_ok-out.out = search rules in
    lead_goes_on _ c.args.self.now c.note_ballot.new.self c.args.from c.args.ballot c.args.executed
    c.in_ok-out.out heard

pub returns-clause-safe : goal.returns-clause-safe
returns-clause-safe g c =
    let heard : HandlesLead c.args.self.now c.args.from c.args.ballot c.args.executed c.follow.new.self
    c.in_ok-out-2.out = search rules in
    lead_goes_on _ c.args.self.now c.follow.new.self c.args.from c.args.ballot c.args.executed c.in_ok-out-2.out heard
