use Rattle.std.proofs.Common.{rules, ◌≡◌}
use Rattle.lk_server.specs.Servers.{one_more_tick}
use Rattle.lk_server.proofs.PeriodEnds.{takes_end, gathers_end, silent_end}
use Rattle.lk_server.proofs.Noting.{noted_counted}
use Rattle.lk_server.proofs.server.Server.add_tick.Goals as goal

pub returns-clause-takes : goal.returns-clause-takes
returns-clause-takes g c =
    let replica : c.self.inside.replica ≡ c.args.self.now.replica = search rules in
    let ticks : c.saturating_add-self-inside.result ≡ one_more_tick c.args.self.now.ticks = search rules in
    takes_end c.add_input.result c.period_end-input.result c.args.group.now c.add_input.new.group
    g.R.ServerReplica.Takes c.args.self.now _ c.add_input.new.self c.self.inside.replica
    (λ i. record (c.self.view_is i) { ticks = ticks i }) replica
    c.period_end-input.ensures.ends c.add_input.ensures.takes

pub returns-clause-gathers : goal.returns-clause-gathers
returns-clause-gathers g c =
    let replica : c.self.inside.replica ≡ c.args.self.now.replica = search rules in
    gathers_end c.add_input.result c.period_end-input.result c.args.group.now c.add_input.new.group
    g.R.ServerReplica.Gathers c.args.self.now.replica c.self.inside.replica c.add_input.new.self.replica
    c.period_end-input.ensures.timed replica c.add_input.ensures.gathers

pub returns-clause-silent : goal.returns-clause-silent
returns-clause-silent g c =
    let replica : c.self.inside.replica ≡ c.args.self.now.replica = search rules in
    silent_end c.add_input.result c.period_end-input.result c.args.group.now c.add_input.new.group
    g.R.ServerReplica.Says g.R.ServerReplica.Gathers c.args.self.now.replica c.self.inside.replica
    c.add_input.new.self.replica c.period_end-input.ensures.timed replica c.add_input.ensures.silent

pub returns-clause-notes : goal.returns-clause-notes
returns-clause-notes g c =
    let r = g.R.ServerReplica in
    let ticks : c.saturating_add-self-inside.result ≡ one_more_tick c.args.self.now.ticks = search rules in
    noted_counted r.KeepsDigest r.HasStatus c.args.self.now _ c.add_input.new.self
    (λ i. record (c.self.view_is i) { ticks = ticks i }) c.add_input.ensures.notes
