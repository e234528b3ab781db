use Rattle.std.proofs.Common.{rules, ◌≡◌, ◌∙◌, ℕ, true, false, List, inl, inr, ap, sym, subst}
use Rattle.std.specs.declared.net.socket_addr.SocketAddr.{SocketAddr}
use Rattle.lk_server.specs.Gatherings.{AddsGroup, EndsGroup}
use Rattle.lk_server.specs.Servers.{ServerValue, HasReceived, IsIdle}
use Rattle.lk_server.proofs.Carrying.{on_err, apart_by}
use Rattle.lk_server.proofs.Turning.{untimely_takes, untimely_rests, withheld_takes, withheld_rests}
use Rattle.lk_server.proofs.Turning.{tick_turn, tick_turn_ends}
use Rattle.lk_server.proofs.server.Server.fill_group.Goals as goal
use Rattle.lk_server.specs.StepNotes.{NotesAll, noted}
use Rattle.lk_server.proofs.Noting.{none_noted, noted_withheld, notes_period, notes_withheld, withheld_found}
use Rattle.lk_transport.specs.Kept.{KeepsOf}

pub returns-then-not-is_due-clause-adds : goal.returns-then-not-is_due-clause-adds
returns-then-not-is_due-clause-adds g c = λ is.
    let r = g.R.ServerReplica in
    let observable = g.S.DatagramSocket.is_observable in
    subst (λ (s : ServerValue _). (frames : List (SocketAddr × List ℕ))
    × AddsGroup r.Gathers observable frames c.args.group.now c.add_pending.new.group s c.add_pending.new.self
    × KeepsOf s.addresses.seals frames c.args.buffer.now c.add_pending.new.buffer) c.set_timeout.ensures
    (untimely_takes r.Says r.Gathers observable
    (λ frames. KeepsOf c.set_timeout.new.self.addresses.seals frames c.args.buffer.now
    c.add_pending.new.buffer) c.args.group.now c.add_pending.new.group c.set_timeout.new.self c.add_pending.new.self
    (ap (λ (s : ServerValue _). s.withheld) c.add_pending.ensures.others)
    (c.in_ok-found.ensures.adds (c.is_something.ensures.0 is)))

pub returns-then-not-is_due-clause-idle : goal.returns-then-not-is_due-clause-idle
returns-then-not-is_due-clause-idle g c = λ isnt.
    let r = g.R.ServerReplica in
    let observable = g.S.DatagramSocket.is_observable in
    let pace : c.self.inside.pace ≡ c.add_pending.new.self.pace = search rules in
    let apart = apart_by isnt c.is_something.ensures.1 in
    subst (λ (s : ServerValue _). (frames : List (SocketAddr × List ℕ))
    × HasReceived observable frames s c.add_pending.new.self × IsIdle observable frames s c.add_pending.new.self
    × KeepsOf s.addresses.seals frames c.args.buffer.now c.add_pending.new.buffer) c.set_timeout.ensures
    (untimely_rests r.Says r.Gathers observable
    (λ frames. KeepsOf c.set_timeout.new.self.addresses.seals frames c.args.buffer.now
    c.add_pending.new.buffer) c.in_ok-found.found c.is_due.result c.args.group.now c.add_pending.new.group
    c.set_timeout.new.self c.add_pending.new.self
    (ap (λ (s : ServerValue _). s.pace) c.add_pending.ensures.others) (cc c.if-not-is_due.true)
    (λ is. c.is_due.ensures.none (pace ∙ is)) (c.in_ok-found.ensures.none apart))

pub returns-then-withholds-clause-adds : goal.returns-then-withholds-clause-adds
returns-then-withholds-clause-adds g c = λ is.
    let r = g.R.ServerReplica in
    let observable = g.S.DatagramSocket.is_observable in
    subst (λ (s : ServerValue _). (frames : List (SocketAddr × List ℕ))
    × AddsGroup r.Gathers observable frames c.args.group.now c.add_pending.new.group s c.withhold_tick.new.self
    × KeepsOf s.addresses.seals frames c.args.buffer.now c.add_pending.new.buffer) c.set_timeout.ensures
    (withheld_takes r.Says r.Gathers observable
    (λ frames. KeepsOf c.set_timeout.new.self.addresses.seals frames c.args.buffer.now
    c.add_pending.new.buffer) c.args.group.now c.add_pending.new.group c.set_timeout.new.self c.add_pending.new.self
    c.withhold_tick.new.self (ap (λ (s : ServerValue _). s.withheld) c.add_pending.ensures.others)
    c.withhold_tick.ensures.counts (c.withholds.ensures.0 (cc c.if-withholds.true))
    (c.in_ok-found.ensures.adds (c.is_something-then-withholds.ensures.0 is)))

pub returns-then-withholds-clause-idle : goal.returns-then-withholds-clause-idle
returns-then-withholds-clause-idle g c = λ isnt.
    let r = g.R.ServerReplica in
    let observable = g.S.DatagramSocket.is_observable in
    let apart = apart_by isnt c.is_something-then-withholds.ensures.1 in
    subst (λ (s : ServerValue _). (frames : List (SocketAddr × List ℕ))
    × HasReceived observable frames s c.withhold_tick.new.self × IsIdle observable frames s c.withhold_tick.new.self
    × KeepsOf s.addresses.seals frames c.args.buffer.now c.add_pending.new.buffer) c.set_timeout.ensures
    (withheld_rests r.Says r.Gathers observable
    (λ frames. KeepsOf c.set_timeout.new.self.addresses.seals frames c.args.buffer.now
    c.add_pending.new.buffer) c.in_ok-found.found c.args.group.now c.add_pending.new.group
    c.set_timeout.new.self c.add_pending.new.self c.withhold_tick.new.self c.withhold_tick.ensures.counts
    (c.withholds.ensures.0 (cc c.if-withholds.true)) (c.in_ok-found.ensures.none apart))

pub returns-clause-adds : goal.returns-clause-adds
returns-clause-adds g c = λ is.
    let r = g.R.ServerReplica in
    let observable = g.S.DatagramSocket.is_observable in
    let a = c.in_ok-found.ensures in
    let pace : c.self.inside.pace ≡ c.add_pending.new.self.pace = search rules in
    subst (λ (s : ServerValue _). (frames : List (SocketAddr × List ℕ))
    × AddsGroup r.Gathers observable frames c.args.group.now c.add_tick.new.group s c.add_tick.new.self
    × KeepsOf s.addresses.seals frames c.args.buffer.now c.add_pending.new.buffer) c.set_timeout.ensures
    (tick_turn r.Says r.Gathers observable
    (λ frames. KeepsOf c.set_timeout.new.self.addresses.seals frames c.args.buffer.now
    c.add_pending.new.buffer) c.is_due.result c.args.group.now c.add_pending.new.group c.set_timeout.new.self
    c.add_pending.new.self c.add_tick.new.self (ap (λ (s : ServerValue _). s.pace) c.add_pending.ensures.others)
    (cc c.if-not-is_due.false) (ap (λ (s : ServerValue _). s.withheld) c.add_pending.ensures.others)
    (λ m. let both : false ≡ true = sym (cc c.if-withholds.false) ∙ c.withholds.ensures.1 m in cc both)
    c.add_tick.ensures.others c.add_tick.ensures.ticks c.in_ok-found.found
    c.add_tick.new.group a.adds a.none (λ same. c.is_due.ensures.given (pace ∙ same)) c.in_ok-add_tick.ensures.gathers)

pub returns-in_err-found-clause-ends : goal.returns-in_err-found-clause-ends
returns-in_err-found-clause-ends g c =
    let r = g.R.ServerReplica in
    let observable = g.S.DatagramSocket.is_observable in
    on_err c.from_residual.result
    (subst (λ (s : ServerValue _). (frames : List (SocketAddr × List ℕ))
    × EndsGroup r.Says r.Gathers observable frames c.args.group.now s c.add_pending.new.self) c.set_timeout.ensures
    c.in_err-found.ensures.ends)

pub returns-in_err-add_tick-clause-ends : goal.returns-in_err-add_tick-clause-ends
returns-in_err-add_tick-clause-ends g c =
    let r = g.R.ServerReplica in
    let observable = g.S.DatagramSocket.is_observable in
    let a = c.in_ok-found.ensures in
    let pace : c.self.inside.pace ≡ c.add_pending.new.self.pace = search rules in
    on_err c.from_residual-in_err-add_tick.result
    (subst (λ (s : ServerValue _). (frames : List (SocketAddr × List ℕ))
    × EndsGroup r.Says r.Gathers observable frames c.args.group.now s c.add_tick.new.self) c.set_timeout.ensures
    (tick_turn_ends r.Says r.Gathers observable
    (λ frames. KeepsOf c.set_timeout.new.self.addresses.seals frames c.args.buffer.now
    c.add_pending.new.buffer) c.is_due.result c.args.group.now c.add_pending.new.group c.set_timeout.new.self
    c.add_pending.new.self c.add_tick.new.self (ap (λ (s : ServerValue _). s.pace) c.add_pending.ensures.others)
    (cc c.if-not-is_due.false) (ap (λ (s : ServerValue _). s.withheld) c.add_pending.ensures.others)
    (λ m. let both : false ≡ true = sym (cc c.if-withholds.false) ∙ c.withholds.ensures.1 m in cc both)
    c.add_tick.ensures.others c.add_tick.ensures.ticks c.in_ok-found.found a.adds a.none
    (λ same. c.is_due.ensures.given (pace ∙ same)) c.in_err-add_tick.ensures.silent))

pub returns-then-not-is_due-clause-notes : goal.returns-then-not-is_due-clause-notes
returns-then-not-is_due-clause-notes g c =
    let r = g.R.ServerReplica in
    subst (λ (s : ServerValue _). NotesAll r.Takes r.KeepsDigest r.HasStatus c.args.group.now c.add_pending.new.group s
    c.add_pending.new.self) c.set_timeout.ensures c.in_ok-found.ensures.notes

pub returns-then-withholds-clause-notes : goal.returns-then-withholds-clause-notes
returns-then-withholds-clause-notes g c =
    let r = g.R.ServerReplica in
    let w = c.withhold_tick.ensures in
    notes_withheld r.Takes r.KeepsDigest r.HasStatus c.args.group.now c.add_pending.new.group c.args.self.now
    c.add_pending.new.self c.withhold_tick.new.self
    (subst (λ (s : ServerValue _). NotesAll r.Takes r.KeepsDigest r.HasStatus c.args.group.now c.add_pending.new.group s
    c.add_pending.new.self) c.set_timeout.ensures c.in_ok-found.ensures.notes)
    (ap (λ (s : ServerValue _). s.replica) w.counts)
    (noted_withheld r.HasStatus c.add_pending.new.self c.withhold_tick.new.self
    (c.withholds.ensures.0 (cc c.if-withholds.true)) w.quiet w.counts)

pub returns-clause-notes : goal.returns-clause-notes
returns-clause-notes g c =
    let r = g.R.ServerReplica in
    notes_period r.Takes r.KeepsDigest r.HasStatus c.args.group.now c.add_pending.new.group c.add_tick.new.group
    c.args.self.now c.add_pending.new.self c.add_tick.new.self
    (subst (λ (s : ServerValue _). NotesAll r.Takes r.KeepsDigest r.HasStatus c.args.group.now c.add_pending.new.group s
    c.add_pending.new.self) c.set_timeout.ensures c.in_ok-found.ensures.notes) c.in_ok-add_tick.ensures.takes
    c.add_tick.ensures.notes

pub returns-then-not-is_due-clause-rests : goal.returns-then-not-is_due-clause-rests
returns-then-not-is_due-clause-rests g c = λ isnt.
    let n = c.in_ok-found.ensures.none (apart_by isnt c.is_something.ensures.1) in
    none_noted g.R.ServerReplica.HasStatus c.args.self.now c.set_timeout.new.self c.add_pending.new.self
    c.set_timeout.ensures (inl (ap (λ (s : ServerValue _). noted s) n.2.same))

pub returns-then-withholds-clause-rests : goal.returns-then-withholds-clause-rests
returns-then-withholds-clause-rests g c = λ isnt.
    let n = c.in_ok-found.ensures.none (apart_by isnt c.is_something-then-withholds.ensures.1) in
    let w = c.withhold_tick.ensures in
    none_noted g.R.ServerReplica.HasStatus c.args.self.now c.set_timeout.new.self c.withhold_tick.new.self
    c.set_timeout.ensures (inr (withheld_found g.R.ServerReplica.HasStatus c.set_timeout.new.self
    c.add_pending.new.self c.withhold_tick.new.self (ap (λ (s : ServerValue _). s.replica) n.2.same)
    (ap (λ (s : ServerValue _). noted s) n.2.same)
    (noted_withheld g.R.ServerReplica.HasStatus c.add_pending.new.self c.withhold_tick.new.self
    (c.withholds.ensures.0 (cc c.if-withholds.true)) w.quiet w.counts)))
