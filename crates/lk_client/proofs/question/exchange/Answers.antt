use Rattle.lk_transport.specs.Streams.{next_of}
use Rattle.lk_client.proofs.Keeping.{all_same, asks_alone, asks_several}
use Rattle.lk_client.proofs.question.exchange.Goals as goal

pub returns-in-empty-clause-same : goal.returns-in-empty-clause-same
returns-in-empty-clause-same g c tells =
    all_same g.S.DatagramSocket.sent g.S.DatagramSocket.failures
    (next_of g.S.DatagramSocket.incoming) c.args.question.now 50 _ c.args.socket.now c.exchange_in_turn.new.socket
    c.exchange_in_turn.result c.exchange_in_turn.ensures.unchanged (c.exchange_in_turn.ensures.tries tells)

pub returns-in-empty-clause-rule : goal.returns-in-empty-clause-rule
returns-in-empty-clause-rule g c tells =
    asks_alone g.S.DatagramSocket.sent g.S.DatagramSocket.failures
    (next_of g.S.DatagramSocket.incoming) c.args.question.now c.args.places.now c.place.result c.args.socket.now _
    c.exchange_in_turn.result c.place.ensures c.in-empty.len_below (c.exchange_in_turn.ensures.tries tells)

pub returns-in_default-clause-same : goal.returns-in_default-clause-same
returns-in_default-clause-same g c tells =
    all_same g.S.DatagramSocket.sent g.S.DatagramSocket.failures
    (next_of g.S.DatagramSocket.incoming) c.args.question.now 5 _ c.args.socket.now
    c.exchange_in_turn-in_default.new.socket
    c.exchange_in_turn-in_default.result c.exchange_in_turn-in_default.ensures.unchanged
    (c.exchange_in_turn-in_default.ensures.tries tells)

pub returns-in_default-clause-rule : goal.returns-in_default-clause-rule
returns-in_default-clause-rule g c tells =
    asks_several g.S.DatagramSocket.sent g.S.DatagramSocket.failures
    (next_of g.S.DatagramSocket.incoming) c.args.question.now c.args.places.now c.args.socket.now _
    c.exchange_in_turn-in_default.result c.in_default.len_at_least (c.exchange_in_turn-in_default.ensures.tries tells)
