use Rattle.lk_client.proofs.Asking.{asks_heard}
use Rattle.lk_client.proofs.waiter.Waiter.hear_until.Goals as goal

pub returns-clause-asks : goal.returns-clause-asks
returns-clause-asks g c tells =
    asks_heard g.S.DatagramSocket.sent g.S.DatagramSocket.failures g.S.DatagramSocket.incoming
    c.args.self.now.is_watching c.args.question.now c.args.bytes.now c.hear.result c.args.socket.now
    c.renew.new.socket _ _ c.requires.asked (c.renew.ensures.sends tells) (c.renew.ensures.still tells)
    c.set_timeout.ensures.unchanged c.set_timeout.ensures.still (c.hear.ensures.heard tells)
    (c.hear.ensures.comes tells)
