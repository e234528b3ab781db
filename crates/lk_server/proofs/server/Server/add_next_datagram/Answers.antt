use Rattle.std.proofs.Common.{rules, refl, ap, ◌∙◌}
use Rattle.lk_address_book.specs.Addresses.{filter_of}
use Rattle.lk_server.specs.Servers.{ServerValue}
use Rattle.lk_server.specs.StepNotes.{nothing}
use Rattle.lk_server.proofs.FilteredOut.{not_beside}
use Rattle.lk_server.proofs.Asking.{keeps_given, keeps_beside}
use Rattle.lk_server.proofs.Carrying.{on_err}
use Rattle.lk_server.proofs.Gatherings.{socket_one, socket_beside, ends_socket, none_came, still_not_out}
use Rattle.lk_server.proofs.server.Server.add_next_datagram.Goals as goal
use Rattle.lk_server.specs.StepNotes.{noted}
use Rattle.lk_server.proofs.Noting.{notes_as}
use Rattle.lk_transport.specs.ReceiveBuffers.{BufferValue}

pub returns-in-Something-clause-adds : goal.returns-in-Something-clause-adds
returns-in-Something-clause-adds g c = λ came.
    let l = c.receive_or_pause.ensures in
    let t = c.in_ok-add_received.ensures.adds (search rules) in
    let same = c.in_ok-add_received.ensures.rest (λ is. cc is) in (
      t.0,
      socket_one g.R.ServerReplica.Gathers g.S.DatagramSocket.is_observable 2 c.receive_or_pause.new.buffer.last t.0
          c.args.group.now c.add_received.new.group c.args.self.now c.receive_or_pause.new.self
          c.add_received.new.self t.1 l.comes l.others
          (ap (λ (s : ServerValue _). s.incoming) c.add_received.ensures.others) t.3,
      keeps_given c.args.self.now.addresses.seals t.0 c.args.buffer.now c.add_received.new.buffer
          (not_beside (filter_of c.args.self.now.addresses) t.0
          (still_not_out c.args.self.now c.receive_or_pause.new.self t.0 l.others t.2))
          (ap (λ (b : BufferValue). b.asked) same ∙ l.asked) (ap (λ (b : BufferValue). b.reported) same ∙ l.reported)
          (ap (λ (b : BufferValue). b.watched) same ∙ l.watched),
    )

pub returns-in-Filtered-clause-adds : goal.returns-in-Filtered-clause-adds
returns-in-Filtered-clause-adds g c = λ came.
    let l = c.receive_or_pause.ensures in
    let b = c.in_ok-add_received.ensures.beside (search rules) in (
      b.0,
      socket_beside g.R.ServerReplica.Gathers g.S.DatagramSocket.is_observable 2 c.receive_or_pause.new.buffer.last b.0
          c.args.group.now c.add_received.new.group c.args.self.now c.receive_or_pause.new.self c.add_received.new.self
          b.1 l.comes l.others b.2 b.3 b.4,
      keeps_beside c.args.self.now.addresses.seals
          c.receive_or_pause.new.self.addresses.seals b.0 c.args.buffer.now c.receive_or_pause.new.buffer
          c.add_received.new.buffer
          (ap (λ (s : ServerValue _). s.addresses.seals) l.others) l.asked l.reported l.watched b.1
          (c.in_ok-add_received.ensures.kept (search rules)),
    )

pub returns-in-Nothing-clause-none : goal.returns-in-Nothing-clause-none
returns-in-Nothing-clause-none g c = λ came.
    let l = c.receive_or_pause.ensures in
    let n = c.in_ok-add_received.ensures.none (search rules) in
    let so = none_came g.S.DatagramSocket.is_observable c.receive_or_pause.new.buffer.last c.args.self.now
    c.receive_or_pause.new.self c.add_received.new.self n.0 l.comes l.others n.1 in
    let same = c.in_ok-add_received.ensures.rest (λ is. cc is) in (
      so.0,
      so.1,
      n.2,
      ap (λ (b : BufferValue). b.asked) same ∙ l.asked,
      ap (λ (b : BufferValue). b.reported) same ∙ l.reported,
      ap (λ (b : BufferValue). b.watched) same ∙ l.watched,
    )

pub returns-in_err-add_received-clause-ends : goal.returns-in_err-add_received-clause-ends
returns-in_err-add_received-clause-ends g c =
    let l = c.receive_or_pause.ensures in
    let e = c.in_err-add_received.ensures.ends in
    on_err c.from_residual.result (
      e.0,
      ends_socket g.R.ServerReplica.Says g.R.ServerReplica.Gathers g.S.DatagramSocket.is_observable 2
          c.receive_or_pause.new.buffer.last e.0 c.args.group.now c.args.self.now c.receive_or_pause.new.self
          c.add_received.new.self e.1 l.comes l.others
          (ap (λ (s : ServerValue _). s.incoming) c.add_received.ensures.others) e.3,
    )

pub returns-in-Something-clause-notes : goal.returns-in-Something-clause-notes
returns-in-Something-clause-notes g c =
    let r = g.R.ServerReplica in
    let l = c.receive_or_pause.ensures.others in
    notes_as r.Takes r.KeepsDigest r.HasStatus c.args.group.now c.add_received.new.group c.args.self.now
    c.receive_or_pause.new.self c.add_received.new.self c.add_received.new.self
    (ap (λ (s : ServerValue _). s.replica) l) (ap (λ (s : ServerValue _). noted s) l) refl refl
    c.in_ok-add_received.ensures.notes

pub returns-in-Filtered-clause-notes : goal.returns-in-Filtered-clause-notes
returns-in-Filtered-clause-notes g c =
    let r = g.R.ServerReplica in
    let l = c.receive_or_pause.ensures.others in
    notes_as r.Takes r.KeepsDigest r.HasStatus c.args.group.now c.add_received.new.group c.args.self.now
    c.receive_or_pause.new.self c.add_received.new.self c.add_received.new.self
    (ap (λ (s : ServerValue _). s.replica) l) (ap (λ (s : ServerValue _). noted s) l) refl refl
    c.in_ok-add_received.ensures.notes

pub returns-in-Nothing-clause-notes : goal.returns-in-Nothing-clause-notes
returns-in-Nothing-clause-notes g c =
    let r = g.R.ServerReplica in
    let l = c.receive_or_pause.ensures.others in
    notes_as r.Takes r.KeepsDigest r.HasStatus c.args.group.now c.add_received.new.group c.args.self.now
    c.receive_or_pause.new.self c.add_received.new.self c.add_received.new.self
    (ap (λ (s : ServerValue _). s.replica) l) (ap (λ (s : ServerValue _). noted s) l) refl refl
    c.in_ok-add_received.ensures.notes

pub returns-then-is_empty-clause-notes : goal.returns-then-is_empty-clause-notes
returns-then-is_empty-clause-notes g c = nothing
