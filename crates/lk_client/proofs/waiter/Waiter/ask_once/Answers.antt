use Rattle.std.proofs.Common.{◌∙◌, refl, subst, sym}
use Rattle.lk_watch.specs.declared.watch.Watch.{Watch}
use Rattle.lk_client.specs.Waits.{WatchesFor}
use Rattle.lk_client.proofs.Asking.{asks_as, asks_both, asks_more, asks_sent}
use Rattle.lk_client.proofs.waiter.Waiter.ask_once.Goals as goal

pub receives-init : goal.receives-init
receives-init g c = (
  (c.requires.watches, refl),
  λ tells.
      asks_sent g.S.DatagramSocket.sent g.S.DatagramSocket.failures g.S.DatagramSocket.incoming
      c.args.self.now.is_watching c.args.question.now (c.args.self.now.asked.address, c.args.self.now.asked.port)
      c.args.bytes.now c.args.socket.now c.send.new.socket c.requires.asked (c.send.ensures.once tells)
      (c.send.ensures.still tells),
)

pub receives-preserved : goal.receives-preserved
receives-preserved g c = (
  (
    subst (λ (w : Watch). WatchesFor c.args.question.now w) (sym c.leaves.ensures.keeps.0)
        c.hear_until-reply.ensures.stays.0,
    c.leaves.ensures.keeps.1 ∙ c.hear_until-reply.ensures.stays.1 ∙ c.receives.invariant.0.1,
  ),
  λ tells.
      asks_more g.S.DatagramSocket.sent g.S.DatagramSocket.failures g.S.DatagramSocket.incoming
      c.args.self.now.is_watching c.args.question.now c.hear_until-reply.result c.args.socket.now c.receives.socket
      c.hear_until-reply.new.socket (sym c.is_some.ensures ∙ c.if-is_some.false) (c.receives.invariant.1 tells)
      (asks_as g.S.DatagramSocket.sent g.S.DatagramSocket.failures g.S.DatagramSocket.incoming
      c.args.self.now.is_watching c.args.question.now c.receives.self.is_watching c.hear_until-reply.result
      c.receives.socket c.hear_until-reply.new.socket c.receives.invariant.0.1 (c.hear_until-reply.ensures.asks tells)),
)

pub returns-then-is_some-clause-asks : goal.returns-then-is_some-clause-asks
returns-then-is_some-clause-asks g c tells =
    asks_both g.S.DatagramSocket.sent g.S.DatagramSocket.failures g.S.DatagramSocket.incoming
    c.args.self.now.is_watching c.args.question.now c.hear_until-reply.result c.args.socket.now c.receives.socket
    c.hear_until-reply.new.socket (c.receives.invariant.1 tells)
    (asks_as g.S.DatagramSocket.sent g.S.DatagramSocket.failures g.S.DatagramSocket.incoming
    c.args.self.now.is_watching c.args.question.now c.receives.self.is_watching c.hear_until-reply.result
    c.receives.socket c.hear_until-reply.new.socket c.receives.invariant.0.1 (c.hear_until-reply.ensures.asks tells))

pub returns-then-leaves-clause-asks : goal.returns-then-leaves-clause-asks
returns-then-leaves-clause-asks g c tells =
    asks_more g.S.DatagramSocket.sent g.S.DatagramSocket.failures g.S.DatagramSocket.incoming
    c.args.self.now.is_watching c.args.question.now c.hear_until-reply.result c.args.socket.now c.receives.socket
    c.hear_until-reply.new.socket (sym c.is_some.ensures ∙ c.if-is_some.false) (c.receives.invariant.1 tells)
    (asks_as g.S.DatagramSocket.sent g.S.DatagramSocket.failures g.S.DatagramSocket.incoming
    c.args.self.now.is_watching c.args.question.now c.receives.self.is_watching c.hear_until-reply.result
    c.receives.socket c.hear_until-reply.new.socket c.receives.invariant.0.1 (c.hear_until-reply.ensures.asks tells))
