use Rattle.lk_client.proofs.Lasting.{next_for, watches_send}
use Rattle.lk_client.proofs.waiter.Waiter.send_watch.Goals as goal

pub returns-clause-sends : goal.returns-clause-sends
returns-clause-sends g c tells =
    watches_send g.S.DatagramSocket.sent g.S.DatagramSocket.failures c.args.question.now c.send.new.self.watch
    c.args.self.now.watcher.places.items c.args.socket.now c.send.new.socket c.send.result
    (next_for c.args.question.now c.args.periods c.args.self.now.watcher.watch c.send.new.self.watch
    c.send.ensures.watch c.requires)
    (c.send.ensures.sends tells) c.send.ensures.unchanged
