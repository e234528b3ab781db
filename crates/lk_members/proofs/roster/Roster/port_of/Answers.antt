-- A window gives a port to exactly the nodes that it names.
use Rattle.std.proofs.Common.{◌≡◌, ◌∙◌, ap}
use Rattle.lk_members.specs.Ports.{port_of}
use Rattle.lk_members.specs.Windows.{RosterValue}
use Rattle.lk_members.proofs.PortLaws.{ports_are_named}
use Rattle.lk_members.proofs.roster.Roster.port_of.Goals as goal

pub returns-clause-some : goal.returns-clause-some
returns-clause-some c =
    let told : c.port_of.result ≡ port_of c.args.node c.args.self.now.sets = c.port_of.ensures
    ∙ ap (λ (v : RosterValue). port_of c.args.node v.sets) c.self.view_is in
    rw told (ports_are_named c.args.node c.args.self.now.sets)
