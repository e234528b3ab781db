use Rattle.lk_status_command.proofs.status.ask_once.Goals as goal

pub returns-clause-heard : goal.returns-clause-heard
returns-clause-heard g c = record {
  of_round = c.in_ok-probe_all.ensures.of_round;
  heard = λ tells. (c.args.socket.now, c.in_ok-probe_all.ensures.round tells);
}
