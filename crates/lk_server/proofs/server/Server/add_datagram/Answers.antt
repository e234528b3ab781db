use Rattle.std.proofs.Common.{rules, ◌≡◌}
use Rattle.lk_address_book.specs.Arrivals.{sender}
use Rattle.lk_server.specs.StepNotes.{nothing}
use Rattle.lk_server.proofs.Carrying.{on_err}
use Rattle.lk_server.proofs.Noting.{notes_datagram, notes_period}
use Rattle.lk_server.proofs.Gatherings.{gathers_from, silent_from, takes_one, takes_tick, ends_one, ends_tick}
use Rattle.lk_server.proofs.server.Server.add_datagram.Goals as goal

pub returns-else-ticks_after-clause-adds : goal.returns-else-ticks_after-clause-adds
returns-else-ticks_after-clause-adds g c =
    let gathers = g.R.ServerReplica.Gathers in
    let replica : c.self.inside.replica ≡ c.args.self.now.replica = search rules in
    takes_one gathers c.args.datagram c.args.group.now c.add_input.new.group c.args.self.now c.add_input.new.self
    (gathers_from gathers _ _ _ _ _ _ replica c.in_ok-add_input.ensures.gathers) (search rules) (search rules)
    (search rules) (search rules)

pub returns-in_ok-add_tick-clause-adds : goal.returns-in_ok-add_tick-clause-adds
returns-in_ok-add_tick-clause-adds g c =
    let gathers = g.R.ServerReplica.Gathers in
    let replica : c.self.inside.replica ≡ c.args.self.now.replica = search rules in
    takes_tick gathers c.args.datagram c.args.group.now c.add_input.new.group c.add_tick.new.group c.args.self.now
    c.add_tick.new.self c.add_input.new.self.replica
    (gathers_from gathers _ _ _ _ _ _ replica c.in_ok-add_input.ensures.gathers) c.in_ok-add_tick.ensures.gathers
    (search rules) (search rules) (search rules) c.add_input.new.self.ticks (search rules) c.add_tick.ensures.ticks

pub returns-in_err-add_input-clause-ends : goal.returns-in_err-add_input-clause-ends
returns-in_err-add_input-clause-ends g c =
    let r = g.R.ServerReplica in
    let replica : c.self.inside.replica ≡ c.args.self.now.replica = search rules in
    on_err c.from_residual.result
    (ends_one r.Says r.Gathers c.args.datagram c.args.group.now c.args.self.now c.add_input.new.self
    (silent_from r.Says r.Gathers _ _ _ _ _ replica c.in_err-add_input.ensures.silent) (search rules))

pub returns-in_err-add_tick-clause-ends : goal.returns-in_err-add_tick-clause-ends
returns-in_err-add_tick-clause-ends g c =
    let r = g.R.ServerReplica in
    let replica : c.self.inside.replica ≡ c.args.self.now.replica = search rules in
    on_err c.from_residual-in_err-add_tick.result
    (ends_tick r.Says r.Gathers c.args.datagram c.args.group.now c.add_input.new.group c.args.self.now
    c.add_tick.new.self c.add_input.new.self.replica c.add_input.new.self.received c.add_input.new.self.pace
    (gathers_from r.Gathers _ _ _ _ _ _ replica c.in_ok-add_input.ensures.gathers) c.in_err-add_tick.ensures.silent
    (search rules) (search rules) (search rules) c.add_input.new.self.ticks (search rules) c.add_tick.ensures.ticks)

pub returns-else-ticks_after-clause-notes : goal.returns-else-ticks_after-clause-notes
returns-else-ticks_after-clause-notes g c =
    let r = g.R.ServerReplica in
    notes_datagram r.Takes r.KeepsDigest r.HasStatus c.args.datagram (sender c.args.arrival.now) c.args.group.now
    c.args.group.now c.add_input.new.group c.args.self.now c.args.self.now c.add_input.new.self _ _ c.requires nothing
    (search rules) (search rules) c.in_ok-add_input.ensures.takes c.add_input.ensures.notes

pub returns-in_ok-add_tick-clause-notes : goal.returns-in_ok-add_tick-clause-notes
returns-in_ok-add_tick-clause-notes g c =
    let r = g.R.ServerReplica in
    notes_period r.Takes r.KeepsDigest r.HasStatus c.args.group.now c.add_input.new.group c.add_tick.new.group
    c.args.self.now c.add_input.new.self c.add_tick.new.self
    (notes_datagram r.Takes r.KeepsDigest r.HasStatus c.args.datagram (sender c.args.arrival.now) c.args.group.now
    c.args.group.now c.add_input.new.group c.args.self.now c.args.self.now c.add_input.new.self _ _ c.requires nothing
    (search rules) (search rules) c.in_ok-add_input.ensures.takes c.add_input.ensures.notes)
    c.in_ok-add_tick.ensures.takes c.add_tick.ensures.notes
