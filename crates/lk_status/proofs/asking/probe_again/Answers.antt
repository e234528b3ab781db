use Rattle.lk_status.proofs.asking.probe_again.Goals as goal

pub returns : goal.returns
returns g c = λ observable.
    (c.send_probes.new.socket, c.in_ok-send_probes.ensures observable, c.in_ok-send_probes-2.ensures observable)
