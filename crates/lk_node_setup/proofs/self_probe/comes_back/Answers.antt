use Rattle.std.proofs.Common.{◌≡◌, ◌∙◌, ℕ, Bool, arith, subst}
use Rattle.lk_node_setup.specs.SelfProbes.{ComesNext, StaysAway}
use Rattle.lk_node_setup.proofs.SelfProbing.{away_first, away_more, back_now}
use Rattle.lk_node_setup.proofs.self_probe.comes_back.Goals as goal

pub receives-init : goal.receives-init
receives-init g c = (
  λ unreached_is. away_first c.args.frame.now (g.S.DatagramSocket.incoming c.args.socket.now)
      (g.S.DatagramSocket.incoming c.set_timeout.new.self) c.set_timeout.ensures.still,
  c.set_timeout.ensures.unchanged,
  c.set_timeout.ensures.spares,
)

pub receives-preserved : goal.receives-preserved
receives-preserved g c =
    let socket = g.S.DatagramSocket in
    let i = c.receives.invariant in
    let e = c.comes_next.ensures in (
      λ unreached_is.
          away_more (i.0 unreached_is)
          (subst (λ (is : Bool). ComesNext c.args.frame.now is (socket.incoming c.receives.socket)
          (socket.incoming c.comes_next.new.socket)) c.if-comes_next.false (e.comes unreached_is)),
      e.unchanged ∙ i.1,
      e.spares ∙ i.2,
    )

pub returns-then-comes_next-clause-heard : goal.returns-then-comes_next-clause-heard
returns-then-comes_next-clause-heard g c unreached_is =
    let socket = g.S.DatagramSocket in
    back_now c.receives-test.true (c.receives.invariant.0 unreached_is)
    (subst (λ (is : Bool). ComesNext c.args.frame.now is (socket.incoming c.receives.socket)
    (socket.incoming c.comes_next.new.socket)) c.if-comes_next.true (c.comes_next.ensures.comes unreached_is))

pub returns-clause-heard : goal.returns-clause-heard
returns-clause-heard g c unreached_is =
    let socket = g.S.DatagramSocket in
    let all : c.receives.counter ≡ 30 = omega arith in
    subst (λ (n : ℕ). StaysAway c.args.frame.now n (socket.incoming c.args.socket.now)
    (socket.incoming c.receives.socket))
    all (c.receives.invariant.0 unreached_is)
