use Rattle.std.proofs.Common.{◌≡◌, ◌+◌, ◌*◌, [], ◌∷◌, ◌++◌, length, refl, ap, ◌∙◌, length-append, arith}
use Rattle.lk_address_book.specs.Addresses.{Filter}
use Rattle.lk_server.specs.Servers.{ServerValue}
use Rattle.lk_server.specs.StepNotes.{nothing}
use Rattle.lk_server.proofs.Asking.{keeps_more, keeps_still, keeps_on}
use Rattle.lk_server.proofs.Carrying.{on_err}
use Rattle.lk_server.proofs.Noting.{notes_both}
use Rattle.lk_server.proofs.Gatherings.{socket_nothing, socket_more, socket_wider, socket_still, ends_further}
use Rattle.lk_server.proofs.server.Server.add_further_datagrams.Goals as goal

pub datagrams-init : goal.datagrams-init
datagrams-init g c = (
  [],
  refl,
  socket_nothing g.R.ServerReplica.Gathers g.S.DatagramSocket.is_observable c.args.group.now c.args.group.now
      c.args.self.now c.args.self.now refl refl,
  refl,
  keeps_still c.args.self.now.addresses.seals c.args.buffer.now c.args.buffer.now refl refl refl,
  nothing,
)

pub datagrams-preserved : goal.datagrams-preserved
datagrams-preserved g c =
    let i = c.datagrams.invariant in
    let t = c.in_ok-add_next_datagram.ensures.adds (cc c.if-not-branch.false) in
    let new = c.add_next_datagram.new.self in (
      i.0 ++ t.0 ∷ [],
      omega (arith, i.1, length-append i.0 (t.0 ∷ [])),
      socket_wider g.R.ServerReplica.Gathers g.S.DatagramSocket.is_observable (2 * c.datagrams.counter + 2)
          (2 * (c.datagrams.counter + 1)) (i.0 ++ t.0 ∷ []) c.args.group.now c.add_next_datagram.new.group
          c.args.self.now new (omega arith)
          (socket_more g.R.ServerReplica.Gathers g.S.DatagramSocket.is_observable (2 * c.datagrams.counter) 2 i.0
          (t.0 ∷ []) c.args.group.now c.datagrams.group c.add_next_datagram.new.group c.args.self.now c.datagrams.self
          new (ap (λ (s : ServerValue _). s.cluster) i.3) i.2 t.1),
      c.add_next_datagram.ensures.others
          ∙ ap (λ (s : ServerValue _). record s {
            replica = new.replica;
            failed = new.failed;
            digest = new.digest;
            quiet = new.quiet;
            fed = new.fed;
            received = new.received;
            ticks = new.ticks;
            addresses = new.addresses;
            incoming = new.incoming;
          }) i.3,
      keeps_more c.args.self.now.addresses.seals
          c.datagrams.self.addresses.seals i.0
          (t.0 ∷ []) c.args.buffer.now c.datagrams.buffer c.add_next_datagram.new.buffer
          (ap (λ (c : Filter). c.seals) i.2.adds.network.1) i.4 t.2
          (λ unasked untold unwatched. c.has_kept.ensures.none (cc c.if-has_kept.false)),
      notes_both g.R.ServerReplica.Takes g.R.ServerReplica.KeepsDigest g.R.ServerReplica.HasStatus c.args.group.now
          c.datagrams.group
          c.add_next_datagram.new.group c.args.self.now c.datagrams.self new i.5
          c.in_ok-add_next_datagram.ensures.notes,
    )

pub returns-then-not-branch-clause-adds : goal.returns-then-not-branch-clause-adds
returns-then-not-branch-clause-adds g c =
    let i = c.datagrams.invariant in
    let n = c.in_ok-add_next_datagram.ensures.none (cc c.if-not-branch.true) in (
      i.0,
      omega (arith, i.1, c.datagrams-test.true),
      socket_wider g.R.ServerReplica.Gathers g.S.DatagramSocket.is_observable (2 * c.datagrams.counter + 2)
          (2 * length i.0 + 2) i.0 c.args.group.now c.add_next_datagram.new.group c.args.self.now
          c.add_next_datagram.new.self (omega (arith, i.1))
          (socket_still g.R.ServerReplica.Gathers g.S.DatagramSocket.is_observable (2 * c.datagrams.counter) i.0
          c.args.group.now c.datagrams.group c.add_next_datagram.new.group c.args.self.now c.datagrams.self
          c.add_next_datagram.new.self i.2 n.2 n.1 n.0),
      keeps_on c.args.self.now.addresses.seals i.0 c.args.buffer.now c.datagrams.buffer
          c.add_next_datagram.new.buffer i.4 n.3 n.4 n.5,
    )

pub returns-then-has_kept-clause-adds : goal.returns-then-has_kept-clause-adds
returns-then-has_kept-clause-adds g c =
    let i = c.datagrams.invariant in (
      i.0,
      omega (arith, i.1, c.datagrams-test.true),
      socket_wider g.R.ServerReplica.Gathers g.S.DatagramSocket.is_observable (2 * c.datagrams.counter)
          (2 * length i.0 + 2) i.0 c.args.group.now c.datagrams.group c.args.self.now c.datagrams.self
          (omega (arith, i.1)) i.2,
      i.4,
    )

pub returns-clause-adds : goal.returns-clause-adds
returns-clause-adds g c =
    let i = c.datagrams.invariant in
    let all : c.datagrams.counter ≡ 63 = omega arith in (
      i.0,
      omega (arith, i.1, all),
      socket_wider g.R.ServerReplica.Gathers g.S.DatagramSocket.is_observable (2 * c.datagrams.counter)
          (2 * length i.0 + 2) i.0 c.args.group.now c.datagrams.group c.args.self.now c.datagrams.self
          (omega (arith, i.1)) i.2,
      i.4,
    )

pub returns-in_err-add_next_datagram-clause-ends : goal.returns-in_err-add_next_datagram-clause-ends
returns-in_err-add_next_datagram-clause-ends g c =
    let i = c.datagrams.invariant in
    let e = c.in_err-add_next_datagram.ensures.ends in
    on_err c.from_residual.result (
      i.0 ++ e.0 ∷ [],
      omega (arith, i.1, c.datagrams-test.true, length-append i.0 (e.0 ∷ [])),
      ends_further g.R.ServerReplica.Says g.R.ServerReplica.Gathers g.S.DatagramSocket.is_observable
          (2 * c.datagrams.counter) 2 (2 * length (i.0 ++ e.0 ∷ []) + 2) i.0
          (e.0 ∷ []) c.args.group.now c.datagrams.group c.args.self.now c.datagrams.self c.add_next_datagram.new.self
          (ap (λ (s : ServerValue _). s.cluster) i.3) (omega (arith, i.1, length-append i.0 (e.0 ∷ []))) i.2 e.1,
    )

pub returns-then-not-branch-clause-notes : goal.returns-then-not-branch-clause-notes
returns-then-not-branch-clause-notes g c =
    let r = g.R.ServerReplica in
    notes_both r.Takes r.KeepsDigest r.HasStatus c.args.group.now c.datagrams.group c.add_next_datagram.new.group
    c.args.self.now
    c.datagrams.self c.add_next_datagram.new.self c.datagrams.invariant.5 c.in_ok-add_next_datagram.ensures.notes

pub returns-then-has_kept-clause-notes : goal.returns-then-has_kept-clause-notes
returns-then-has_kept-clause-notes g c = c.datagrams.invariant.5

pub returns-clause-notes : goal.returns-clause-notes
returns-clause-notes g c = c.datagrams.invariant.5
