use Rattle.std.proofs.Common.{◌∙◌, refl, sym}
use Rattle.lk_client.proofs.Asking.{asks_as, asks_both, asks_more, asks_nothing}
use Rattle.lk_client.proofs.waiter.Waiter.ask.Goals as goal

pub places-init : goal.places-init
places-init g c = (
  (c.requires.watches, refl),
  λ tells.
      asks_nothing g.S.DatagramSocket.sent g.S.DatagramSocket.failures g.S.DatagramSocket.incoming
      c.args.self.now.is_watching c.args.question.now c.args.socket.now,
)

pub places-preserved : goal.places-preserved
places-preserved g c = (
  (c.ask_once-reply.ensures.stays.0, c.ask_once-reply.ensures.stays.1 ∙ c.places.invariant.0.1),
  λ tells.
      asks_more g.S.DatagramSocket.sent g.S.DatagramSocket.failures g.S.DatagramSocket.incoming
      c.args.self.now.is_watching c.args.question.now c.ask_once-reply.result c.args.socket.now c.places.socket
      c.ask_once-reply.new.socket (sym c.is_some.ensures ∙ c.if-is_some.false) (c.places.invariant.1 tells)
      (asks_as g.S.DatagramSocket.sent g.S.DatagramSocket.failures g.S.DatagramSocket.incoming
      c.args.self.now.is_watching c.args.question.now c.places.self.is_watching c.ask_once-reply.result
      c.places.socket c.ask_once-reply.new.socket c.places.invariant.0.1 (c.ask_once-reply.ensures.asks tells)),
)

pub returns-then-is_some-clause-asks : goal.returns-then-is_some-clause-asks
returns-then-is_some-clause-asks g c tells =
    asks_both g.S.DatagramSocket.sent g.S.DatagramSocket.failures g.S.DatagramSocket.incoming
    c.args.self.now.is_watching c.args.question.now c.ask_once-reply.result c.args.socket.now c.places.socket
    c.ask_once-reply.new.socket (c.places.invariant.1 tells)
    (asks_as g.S.DatagramSocket.sent g.S.DatagramSocket.failures g.S.DatagramSocket.incoming
    c.args.self.now.is_watching c.args.question.now c.places.self.is_watching c.ask_once-reply.result
    c.places.socket c.ask_once-reply.new.socket c.places.invariant.0.1 (c.ask_once-reply.ensures.asks tells))

pub returns-then-now-self-clause-asks : goal.returns-then-now-self-clause-asks
returns-then-now-self-clause-asks g c tells =
    asks_more g.S.DatagramSocket.sent g.S.DatagramSocket.failures g.S.DatagramSocket.incoming
    c.args.self.now.is_watching c.args.question.now c.ask_once-reply.result c.args.socket.now c.places.socket
    c.ask_once-reply.new.socket (sym c.is_some.ensures ∙ c.if-is_some.false) (c.places.invariant.1 tells)
    (asks_as g.S.DatagramSocket.sent g.S.DatagramSocket.failures g.S.DatagramSocket.incoming
    c.args.self.now.is_watching c.args.question.now c.places.self.is_watching c.ask_once-reply.result
    c.places.socket c.ask_once-reply.new.socket c.places.invariant.0.1 (c.ask_once-reply.ensures.asks tells))
