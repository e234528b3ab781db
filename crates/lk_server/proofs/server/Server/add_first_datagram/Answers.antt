use Rattle.std.proofs.Common.{◌≡◌, ◌∙◌, refl, sym, ap}
use Rattle.lk_pacing.specs.declared.turn_input.TurnInput.TheVariants.{Filtered, Something}
use Rattle.lk_address_book.specs.Addresses.{filter_of}
use Rattle.lk_server.specs.Servers.{ServerValue}
use Rattle.lk_server.proofs.FilteredOut.{not_beside}
use Rattle.lk_server.proofs.Asking.{keeps_given, keeps_found}
use Rattle.lk_server.proofs.Carrying.{if_ok_on, if_ok_both, if_ok_four, if_err_on}
use Rattle.lk_server.proofs.Gatherings.{socket_one, ends_socket, finds, still_not_out}
use Rattle.lk_server.proofs.server.Server.add_first_datagram.Goals as goal
use Rattle.lk_transport.specs.ReceiveBuffers.{BufferValue}
use Rattle.lk_transport.specs.Streams.{listed}
use Rattle.lk_server.specs.StepNotes.{noted}
use Rattle.lk_server.proofs.Noting.{notes_as}
use Rattle.lk_transport.proofs.Streaming.{come_one}

pub returns-clause-adds : goal.returns-clause-adds
returns-clause-adds g c =
    let h = c.add_received.ensures in
    let l = c.receive.ensures in
    if_ok_both c.add_received.result (λ found adds rest yes.
    let t = adds yes in
    let apart = still_not_out c.args.self.now c.receive.new.self t.0 l.others t.2 in
    let same = rest (λ is. let both : Something ≡ Filtered = sym yes ∙ is in cc both) in (
      t.0,
      apart,
      socket_one g.R.ServerReplica.Gathers g.S.DatagramSocket.is_observable 1 c.receive.new.buffer.last t.0
          c.args.group.now
          c.add_received.new.group c.args.self.now c.receive.new.self c.add_received.new.self t.1
          (λ telling. come_one c.receive.new.buffer.last c.args.self.now.incoming c.receive.new.self.incoming
          (l.comes telling)) l.others
          (ap (λ (s : ServerValue _). s.incoming) h.others) t.3,
      keeps_given c.args.self.now.addresses.seals t.0 c.args.buffer.now c.add_received.new.buffer
          (not_beside (filter_of c.args.self.now.addresses) t.0 apart)
          (ap (λ (b : BufferValue). b.asked) same ∙ l.asked) (ap (λ (b : BufferValue). b.reported) same ∙ l.reported)
          (ap (λ (b : BufferValue). b.watched) same ∙ l.watched),
      ap (λ (b : BufferValue). b.asked) same ∙ l.asked,
      ap (λ (b : BufferValue). b.reported) same ∙ l.reported,
      ap (λ (b : BufferValue). b.watched) same ∙ l.watched,
    )) h.adds h.rest

pub returns-clause-none : goal.returns-clause-none
returns-clause-none g c =
    let h = c.add_received.ensures in
    let l = c.receive.ensures in
    if_ok_four c.add_received.result (λ found none beside kept rest apart.
    let f = finds g.S.DatagramSocket.is_observable found c.receive.new.buffer.last c.args.group.now
    c.add_received.new.group c.args.self.now c.receive.new.self c.add_received.new.self l.comes
    l.others none beside apart in (
      listed c.receive.new.buffer.last,
      f.0,
      f.1,
      keeps_found c.args.self.now.addresses.seals
          c.receive.new.self.addresses.seals found c.args.buffer.now c.receive.new.buffer c.add_received.new.buffer
          (ap (λ (s : ServerValue _). s.addresses.seals) l.others) l.asked l.reported l.watched
          (λ is. (none is).0) (λ is. let b = beside is in (b.0, b.1)) kept rest apart,
    )) h.none h.beside h.kept h.rest

pub returns-clause-ends : goal.returns-clause-ends
returns-clause-ends g c =
    let h = c.add_received.ensures in
    let l = c.receive.ensures in
    if_err_on c.add_received.result (λ e. (
      e.0,
      still_not_out c.args.self.now c.receive.new.self e.0 l.others e.2,
      ends_socket g.R.ServerReplica.Says g.R.ServerReplica.Gathers g.S.DatagramSocket.is_observable 1
          c.receive.new.buffer.last e.0 c.args.group.now c.args.self.now c.receive.new.self
          c.add_received.new.self e.1
          (λ telling. come_one c.receive.new.buffer.last c.args.self.now.incoming c.receive.new.self.incoming
          (l.comes telling)) l.others
          (ap (λ (s : ServerValue _). s.incoming) h.others) e.3,
    )) h.ends

pub returns-clause-notes : goal.returns-clause-notes
returns-clause-notes g c =
    let r = g.R.ServerReplica in
    let l = c.receive.ensures.others in
    if_ok_on c.add_received.result (notes_as r.Takes r.KeepsDigest r.HasStatus c.args.group.now c.add_received.new.group
    c.args.self.now c.receive.new.self c.add_received.new.self c.add_received.new.self
    (ap (λ (s : ServerValue _). s.replica) l) (ap (λ (s : ServerValue _). noted s) l) refl refl)
    c.add_received.ensures.notes
