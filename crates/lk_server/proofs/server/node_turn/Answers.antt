use Rattle.std.proofs.Common.{ℕ, List, inl, inr, ap, sym, subst, ◌∙◌}
use Rattle.std.specs.declared.net.socket_addr.SocketAddr.{SocketAddr}
use Rattle.lk_transport.specs.Kept.{KeepsOf}
use Rattle.lk_server.specs.Servers.{ServerValue, HasReceived, TurnOrIdle}
use Rattle.lk_server.proofs.Carrying.{on_err}
use Rattle.lk_server.proofs.Turning.{same_by, received_on, turn_of, last_of, last_at_nudge, last_within}
use Rattle.lk_server.specs.StepNotes.{TurnsNotesOrKeeps}
use Rattle.lk_server.proofs.Noting.{noted_ended}
use Rattle.lk_server.proofs.server.node_turn.Goals as goal

pub returns-then-not-branch-clause-turn : goal.returns-then-not-branch-clause-turn
returns-then-not-branch-clause-turn g c =
    let idle = c.in_ok-fill_group.ensures.idle (cc c.if-not-branch.true) in
    (idle.0, idle.1, inr idle.2, idle.3)

pub returns-clause-turn : goal.returns-clause-turn
returns-clause-turn g c =
    let r = g.R.ServerReplica in
    let observable = g.S.DatagramSocket.is_observable in
    let o = c.fill_group.ensures.others in
    let t = c.in_ok-fill_group.ensures.adds (cc c.if-not-branch.false) in
    let n = c.nudge_if_fed.ensures.others in
    let e = c.end_group.ensures in
    subst (λ (s : ServerValue _). (frames : List (SocketAddr × List ℕ))
    × HasReceived observable frames c.args.server.now s
    × TurnOrIdle r.Says observable frames c.args.server.now s
    × KeepsOf c.args.server.now.addresses.seals frames c.args.buffer.now
    c.fill_group.new.buffer) (sym c.note_sync.ensures) (
      t.0,
      received_on observable t.0 c.args.server.now c.fill_group.new.self c.end_group.new.self
          (λ seen. e.still seen ∙ ap (λ (s : ServerValue _). s.incoming) n) t.1.received,
      inl (turn_of r.Says r.Gathers observable t.0 c.new_group-group.result c.fill_group.new.group
          c.nudge_if_fed.new.group c.args.server.now c.fill_group.new.self c.nudge_if_fed.new.self c.end_group.new.self
          c.new_group-group.ensures t.1 c.in_ok-nudge_if_fed.ensures.gathers n c.in_ok-end_group.ensures.gives
          (ap (λ (s : ServerValue _). s.sent) o) (ap (λ (s : ServerValue _). s.socket_failures) o)
          (same_by c.args.server.now c.fill_group.new.self o) e.addresses e.counts.received e.counts.ticks
          e.counts.withheld e.same c.in_ok-end_group.ensures.alive),
      t.2,
    )

pub returns-in_err-end_group-clause-ends : goal.returns-in_err-end_group-clause-ends
returns-in_err-end_group-clause-ends g c =
    let r = g.R.ServerReplica in
    let observable = g.S.DatagramSocket.is_observable in
    let o = c.fill_group.ensures.others in
    let t = c.in_ok-fill_group.ensures.adds (cc c.if-not-branch.false) in
    let n = c.nudge_if_fed.ensures.others in
    let e = c.end_group.ensures in
    on_err c.from_residual-in_err-end_group.result (
      t.0,
      received_on observable t.0 c.args.server.now c.fill_group.new.self c.end_group.new.self
          (λ seen. e.still seen ∙ ap (λ (s : ServerValue _). s.incoming) n) t.1.received,
      last_of r.Says r.Gathers observable t.0 c.new_group-group.result c.fill_group.new.group c.nudge_if_fed.new.group
          c.args.server.now c.fill_group.new.self c.nudge_if_fed.new.self c.end_group.new.self
          c.new_group-group.ensures t.1 c.in_ok-nudge_if_fed.ensures.gathers n c.in_err-end_group.ensures.silent
          (ap (λ (s : ServerValue _). s.sent) o) (ap (λ (s : ServerValue _). s.socket_failures) o)
          (same_by c.args.server.now c.fill_group.new.self o) e.addresses e.counts.ticks e.same
          c.in_err-end_group.ensures.broken,
    )

pub returns-in_err-nudge_if_fed-clause-ends : goal.returns-in_err-nudge_if_fed-clause-ends
returns-in_err-nudge_if_fed-clause-ends g c =
    let r = g.R.ServerReplica in
    let observable = g.S.DatagramSocket.is_observable in
    let o = c.fill_group.ensures.others in
    let t = c.in_ok-fill_group.ensures.adds (cc c.if-not-branch.false) in
    let n = c.nudge_if_fed.ensures.others in
    on_err c.from_residual-in_err-nudge_if_fed.result (
      t.0,
      received_on observable t.0 c.args.server.now c.fill_group.new.self c.nudge_if_fed.new.self
          (λ seen. ap (λ (s : ServerValue _). s.incoming) n) t.1.received,
      last_at_nudge r.Says r.Gathers observable t.0 c.new_group-group.result c.fill_group.new.group c.args.server.now
          c.fill_group.new.self c.nudge_if_fed.new.self c.new_group-group.ensures t.1
          c.in_err-nudge_if_fed.ensures.silent n
          (ap (λ (s : ServerValue _). s.sent) o) (ap (λ (s : ServerValue _). s.socket_failures) o)
          (same_by c.args.server.now c.fill_group.new.self o) c.in_err-nudge_if_fed.ensures.broken,
    )

pub returns-in_err-fill_group-clause-ends : goal.returns-in_err-fill_group-clause-ends
returns-in_err-fill_group-clause-ends g c =
    let r = g.R.ServerReplica in
    let o = c.fill_group.ensures.others in
    let e = c.in_err-fill_group.ensures.ends in
    on_err c.from_residual.result (
      e.0,
      e.1.received,
      last_within r.Says r.Gathers g.S.DatagramSocket.is_observable e.0 c.new_group-group.result c.args.server.now
          c.fill_group.new.self c.new_group-group.ensures e.1
          (ap (λ (s : ServerValue _). s.sent) o) (ap (λ (s : ServerValue _). s.socket_failures) o)
          (same_by c.args.server.now c.fill_group.new.self o) c.in_err-fill_group.ensures.broken,
    )

pub returns-then-not-branch-clause-notes : goal.returns-then-not-branch-clause-notes
returns-then-not-branch-clause-notes g c =
    let same = (c.in_ok-fill_group.ensures.idle (cc c.if-not-branch.true)).2.same in
    inr (ap (λ (s : ServerValue _). s.replica) same, c.in_ok-fill_group.ensures.rests (cc c.if-not-branch.true))

pub returns-clause-notes : goal.returns-clause-notes
returns-clause-notes g c =
    let r = g.R.ServerReplica in
    subst (λ (s : ServerValue _). TurnsNotesOrKeeps r.Says r.Gathers r.Takes r.KeepsDigest r.HasStatus
    g.S.DatagramSocket.is_observable c.args.server.now s) (sym c.note_sync.ensures) (inl (record {
      group = c.new_group-group.result;
      begins = c.new_group-group.ensures;
      one = c.fill_group.new.group;
      mid = c.fill_group.new.self;
      notes = c.in_ok-fill_group.ensures.notes;
      now = c.nudge_if_fed.new.group;
      nudged = c.nudge_if_fed.new.self;
      nudges = c.in_ok-nudge_if_fed.ensures.nudges;
      sends_all = c.in_ok-end_group.ensures.gives;
      kept = noted_ended c.nudge_if_fed.new.self c.end_group.new.self c.end_group.ensures.counts
          c.end_group.ensures.same c.end_group.ensures.addresses;
      rests = c.end_group.ensures.counts.fed ∙ c.nudge_if_fed.ensures.rests;
    }))
