use Rattle.std.proofs.Common.{◌≡◌, ◌∙◌, ◌+◌, ◌*◌, true, false, [], ◌∷◌, length, refl, ap, sym, arith}
use Rattle.lk_transport.proofs.Streaming.{receives_one, come_none}
use Rattle.lk_address_book.specs.Addresses.{Filter}
use Rattle.lk_server.specs.Servers.{ServerValue}
use Rattle.lk_server.proofs.Asking.{keeps_more}
use Rattle.lk_server.proofs.Carrying.{on_err}
use Rattle.lk_server.proofs.Gatherings.{socket_more, ends_further}
use Rattle.lk_server.proofs.Turning.{socket_group, socket_ends}
use Rattle.lk_server.proofs.Noting.{notes_both}
use Rattle.lk_server.proofs.server.Server.add_from_socket.Goals as goal

pub returns-then-not-is_something-clause-adds : goal.returns-then-not-is_something-clause-adds
returns-then-not-is_something-clause-adds g c =
    λ is. absurd (let both : false ≡ true = sym (cc c.if-not-is_something.true) ∙ c.is_something.ensures.1 is in
    cc both)

pub returns-then-not-is_something-clause-none : goal.returns-then-not-is_something-clause-none
returns-then-not-is_something-clause-none g c = λ apart. let n = c.in_ok-found.ensures.none apart in
    (c.requires, n.0, n.1, n.2, n.3)

pub returns-clause-adds : goal.returns-clause-adds
returns-clause-adds g c = λ yes.
    let r = g.R.ServerReplica in
    let observable = g.S.DatagramSocket.is_observable in
    let first = c.in_ok-found.ensures.adds (c.is_something.ensures.0 (cc c.if-not-is_something.false)) in
    let more = c.in_ok-add_further_datagrams.ensures.adds in
    let one = c.add_first_datagram.ensures.others in
    let two = c.add_further_datagrams.ensures.others in (
      first.0 ∷ more.0,
      socket_group r.Says r.Gathers observable first.0 more.0 c.args.group.now c.add_further_datagrams.new.group
          c.args.self.now c.add_further_datagrams.new.self c.requires
          (ap (λ (s : ServerValue _). s.loopback) two ∙ ap (λ (s : ServerValue _). s.loopback) one) more.1 first.1
          (λ telling. (_, receives_one (first.2.comes telling), more.2.comes telling))
          (socket_more r.Gathers observable 1 (2 * length more.0 + 2)
          (first.0 ∷ []) more.0 c.args.group.now c.add_first_datagram.new.group c.add_further_datagrams.new.group
          c.args.self.now c.add_first_datagram.new.self c.add_further_datagrams.new.self
          (ap (λ (s : ServerValue _). s.cluster) one) first.2 more.2).adds,
      keeps_more c.args.self.now.addresses.seals
          c.add_first_datagram.new.self.addresses.seals
          (first.0 ∷ []) more.0 c.args.buffer.now c.add_first_datagram.new.buffer c.add_further_datagrams.new.buffer
          (ap (λ (c : Filter). c.seals) first.2.adds.network.1) first.3 more.3
          (λ unasked untold unwatched. (first.4 ∙ unasked, first.5 ∙ untold, first.6 ∙ unwatched)),
    )

pub returns-in_err-found-clause-ends : goal.returns-in_err-found-clause-ends
returns-in_err-found-clause-ends g c =
    let r = g.R.ServerReplica in
    let e = c.in_err-found.ensures.ends in
    on_err c.from_residual.result (
      e.0 ∷ [],
      socket_ends r.Says r.Gathers g.S.DatagramSocket.is_observable e.0 [] c.args.group.now c.args.self.now
          c.add_first_datagram.new.self c.requires
          (ap (λ (s : ServerValue _). s.loopback) c.add_first_datagram.ensures.others) (omega arith) e.1
          (λ telling. (_, receives_one (e.2.comes telling), come_none 2 _ _ refl)) e.2.ends,
    )

pub returns-in_err-add_further_datagrams-clause-ends : goal.returns-in_err-add_further_datagrams-clause-ends
returns-in_err-add_further_datagrams-clause-ends g c =
    let r = g.R.ServerReplica in
    let observable = g.S.DatagramSocket.is_observable in
    let first = c.in_ok-found.ensures.adds (c.is_something.ensures.0 (cc c.if-not-is_something.false)) in
    let e = c.in_err-add_further_datagrams.ensures.ends in
    let one = c.add_first_datagram.ensures.others in
    let two = c.add_further_datagrams.ensures.others in
    on_err c.from_residual-in_err-add_further_datagrams.result (
      first.0 ∷ e.0,
      socket_ends r.Says r.Gathers observable first.0 e.0 c.args.group.now c.args.self.now
          c.add_further_datagrams.new.self c.requires
          (ap (λ (s : ServerValue _). s.loopback) two ∙ ap (λ (s : ServerValue _). s.loopback) one) e.1 first.1
          (λ telling. (_, receives_one (first.2.comes telling), e.2.comes telling))
          (ends_further r.Says r.Gathers observable 1 (2 * length e.0 + 2) (2 * length e.0 + 3)
          (first.0 ∷ []) e.0 c.args.group.now c.add_first_datagram.new.group c.args.self.now
          c.add_first_datagram.new.self c.add_further_datagrams.new.self
          (ap (λ (s : ServerValue _). s.cluster) one) (omega arith) first.2 e.2).ends,
    )

pub returns-clause-notes : goal.returns-clause-notes
returns-clause-notes g c =
    let r = g.R.ServerReplica in
    notes_both r.Takes r.KeepsDigest r.HasStatus c.args.group.now c.add_first_datagram.new.group
    c.add_further_datagrams.new.group
    c.args.self.now c.add_first_datagram.new.self c.add_further_datagrams.new.self c.in_ok-found.ensures.notes
    c.in_ok-add_further_datagrams.ensures.notes
