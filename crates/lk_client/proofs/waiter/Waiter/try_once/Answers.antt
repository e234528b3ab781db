use Rattle.lk_client.proofs.Lasting.{asks_in_vain, concludes}
use Rattle.lk_client.proofs.waiter.Waiter.try_once.Goals as goal

pub returns-in-Some-clause-tries : goal.returns-in-Some-clause-tries
returns-in-Some-clause-tries g c tells =
    asks_in_vain g.S.DatagramSocket.sent g.S.DatagramSocket.incoming c.args.self.now.is_watching c.args.question.now
    c.in_ok-reply.reply c.args.socket.now c.ask.new.socket c.number_after.new.socket
    (c.in_ok-reply.ensures.asks tells) c.in-Some.ensures.busy (c.number_after.ensures.sends tells)

pub returns-in-None-clause-tries : goal.returns-in-None-clause-tries
returns-in-None-clause-tries g c tells =
    concludes g.S.DatagramSocket.sent g.S.DatagramSocket.incoming c.args.self.now.is_watching c.args.question.now
    c.in_ok-reply.reply c.args.socket.now c.ask.new.socket c.number_after.new.socket c.withdraw.new.socket
    (c.in_ok-reply.ensures.asks tells) (c.number_after.ensures.sends tells) (c.withdraw.ensures.sends tells)
    c.number_after.ensures.granted c.withdraw.ensures.granted
