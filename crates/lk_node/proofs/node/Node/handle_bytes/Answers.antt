use Rattle.std.proofs.Common.{rules, ◌≡◌, inl}
use Rattle.lk_wire.specs.Shown.{shown}
use Rattle.lk_node.proofs.SafeSteps.{bytes_go_on}
use Rattle.lk_node.proofs.node.Node.handle_bytes.Goals as goal

pub returns-clause-safe : goal.returns-clause-safe
returns-clause-safe g c =
    let same : c.in-Ok.message.now.cluster ≡ c.args.self.now.header.cluster = search rules in
    bytes_go_on _ c.args.self.now c.handle_message.new.self c.in_ok-out.out
    (shown c.in-Ok.message.now) c.args.datagram.now c.in-Ok.ensures.found same c.in_ok-out.ensures.safe

pub returns-clause-exact : goal.returns-clause-exact
returns-clause-exact g c =
    let same : c.in-Ok.message.now.cluster ≡ c.args.self.now.header.cluster = search rules in
    inl (shown c.in-Ok.message.now, c.in-Ok.ensures.found, same, c.in_ok-out.ensures.exact)
