use Rattle.std.proofs.Common.{◌≡◌, ◌∙◌, ℕ, List, [], refl, ap, subst₂}
use Rattle.std.specs.Prelude.{IfOk, OnOk, OnErr}
use Rattle.std.specs.declared.net.socket_addr.SocketAddr.{SocketAddr}
use Rattle.lk_replica.specs.Groups.{GroupValue}
use Rattle.lk_server.specs.Gatherings.{Finds, AddsWaiting, EndsGroup}
use Rattle.lk_pacing.specs.declared.turn_input.TurnInput.TheVariants.{Something}
use Rattle.lk_server.specs.Servers.{ServerValue}
use Rattle.lk_server.proofs.Asking.{keeps_still}
use Rattle.lk_server.proofs.Carrying.{on_err}
use Rattle.lk_server.proofs.Turning.{own_group, own_ends_first, own_ends}
use Rattle.lk_server.proofs.server.Server.add_pending.Goals as goal
use Rattle.lk_server.specs.StepNotes.{NotesAll}
use Rattle.lk_server.proofs.Noting.{notes_both}
use Rattle.lk_transport.specs.Kept.{KeepsOf}

pub returns-then-not-branch-clause-adds : goal.returns-then-not-branch-clause-adds
returns-then-not-branch-clause-adds g c =
    let n = c.in_ok-add_loopback.ensures.none (cc c.if-not-branch.true) in
    subst₂ (λ (x : GroupValue) (s : ServerValue _). IfOk c.add_from_socket.result
    (λ found. found ≡ Something
    → (frames : List (SocketAddr × List ℕ))
    × AddsWaiting g.R.ServerReplica.Gathers g.S.DatagramSocket.is_observable frames x c.add_from_socket.new.group s
    c.add_from_socket.new.self
    × KeepsOf s.addresses.seals frames c.args.buffer.now c.add_from_socket.new.buffer))
    n.2 n.1 c.add_from_socket.ensures.adds

pub returns-then-not-branch-clause-none : goal.returns-then-not-branch-clause-none
returns-then-not-branch-clause-none g c =
    let n = c.in_ok-add_loopback.ensures.none (cc c.if-not-branch.true) in
    subst₂ (λ (x : GroupValue) (s : ServerValue _). IfOk c.add_from_socket.result
    (λ found. (found ≡ Something → ⊥)
    → (s.loopback ≡ []) × (frames : List (SocketAddr × List ℕ))
    × Finds g.S.DatagramSocket.is_observable found frames s c.add_from_socket.new.self
    × (c.add_from_socket.new.group ≡ x)
    × KeepsOf s.addresses.seals frames c.args.buffer.now c.add_from_socket.new.buffer))
    n.2 n.1 c.add_from_socket.ensures.none

pub returns-then-not-branch-clause-ends : goal.returns-then-not-branch-clause-ends
returns-then-not-branch-clause-ends g c =
    let n = c.in_ok-add_loopback.ensures.none (cc c.if-not-branch.true) in
    subst₂ (λ (x : GroupValue) (s : ServerValue _). OnErr c.add_from_socket.result
    ((frames : List (SocketAddr × List ℕ))
    × EndsGroup g.R.ServerReplica.Says g.R.ServerReplica.Gathers g.S.DatagramSocket.is_observable frames x s
    c.add_from_socket.new.self))
    n.2 n.1 c.add_from_socket.ensures.ends

pub returns-clause-adds : goal.returns-clause-adds
returns-clause-adds g c = λ yes.
    let r = g.R.ServerReplica in
    let first = c.in_ok-add_loopback.ensures.adds (cc c.if-not-branch.false) in (
      [],
      own_group r.Says r.Gathers g.S.DatagramSocket.is_observable first.0 c.args.group.now c.add_loopback.new.group
          c.add_loopbacks.new.group c.args.self.now c.add_loopback.new.self c.add_loopbacks.new.self first.1
          (ap (λ (s : ServerValue _). s.addresses) c.add_loopbacks.ensures.others
          ∙ ap (λ (s : ServerValue _). s.addresses) c.add_loopback.ensures.others)
          (ap (λ (s : ServerValue _). s.incoming) c.add_loopbacks.ensures.others
          ∙ ap (λ (s : ServerValue _). s.incoming) c.add_loopback.ensures.others) first.2
          c.in_ok-add_loopbacks.ensures.adds,
      keeps_still c.args.self.now.addresses.seals c.args.buffer.now c.args.buffer.now refl refl refl,
    )

pub returns-in_err-add_loopback-clause-ends : goal.returns-in_err-add_loopback-clause-ends
returns-in_err-add_loopback-clause-ends g c =
    let r = g.R.ServerReplica in
    let e = c.in_err-add_loopback.ensures.ends in
    on_err c.from_residual.result (
      [],
      own_ends_first r.Says r.Gathers g.S.DatagramSocket.is_observable e.0 c.args.group.now c.args.self.now
          c.add_loopback.new.self e.1 (ap (λ (s : ServerValue _). s.addresses) c.add_loopback.ensures.others)
          (ap (λ (s : ServerValue _). s.incoming) c.add_loopback.ensures.others) e.2,
    )

pub returns-in_err-add_loopbacks-clause-ends : goal.returns-in_err-add_loopbacks-clause-ends
returns-in_err-add_loopbacks-clause-ends g c =
    let r = g.R.ServerReplica in
    let first = c.in_ok-add_loopback.ensures.adds (cc c.if-not-branch.false) in
    on_err c.from_residual-in_err-add_loopbacks.result (
      [],
      own_ends r.Says r.Gathers g.S.DatagramSocket.is_observable first.0 c.args.group.now c.add_loopback.new.group
          c.args.self.now c.add_loopback.new.self c.add_loopbacks.new.self first.1
          (ap (λ (s : ServerValue _). s.addresses) c.add_loopbacks.ensures.others
          ∙ ap (λ (s : ServerValue _). s.addresses) c.add_loopback.ensures.others)
          (ap (λ (s : ServerValue _). s.incoming) c.add_loopbacks.ensures.others
          ∙ ap (λ (s : ServerValue _). s.incoming) c.add_loopback.ensures.others) first.2
          c.in_err-add_loopbacks.ensures.ends,
    )

pub returns-then-not-branch-clause-notes : goal.returns-then-not-branch-clause-notes
returns-then-not-branch-clause-notes g c =
    let r = g.R.ServerReplica in
    let n = c.in_ok-add_loopback.ensures.none (cc c.if-not-branch.true) in
    subst₂ (λ (x : GroupValue) (s : ServerValue _). OnOk c.add_from_socket.result
    (NotesAll r.Takes r.KeepsDigest r.HasStatus x c.add_from_socket.new.group s c.add_from_socket.new.self))
    n.2 n.1 c.add_from_socket.ensures.notes

pub returns-clause-notes : goal.returns-clause-notes
returns-clause-notes g c =
    let r = g.R.ServerReplica in
    notes_both r.Takes r.KeepsDigest r.HasStatus c.args.group.now c.add_loopback.new.group c.add_loopbacks.new.group
    c.args.self.now c.add_loopback.new.self c.add_loopbacks.new.self c.in_ok-add_loopback.ensures.notes
    c.in_ok-add_loopbacks.ensures.notes
