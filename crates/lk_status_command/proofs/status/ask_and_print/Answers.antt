use Rattle.std.proofs.Common.{Bool, List, sym, subst}
use Rattle.std.specs.Prelude.{◌↔◌, IsTrue}
use Rattle.lk_probe.specs.declared.probe.Report.{Report}
use Rattle.lk_status.specs.Verdicts.{IsServed}
use Rattle.lk_status_command.specs.Outcomes.{Shows}
use Rattle.lk_status_command.proofs.Showing.{shows}
use Rattle.lk_status_command.proofs.status.ask_and_print.Goals as goal

pub returns-in-Ok : goal.returns-in-Ok
returns-in-Ok g c =
    let sent = g.S.DatagramSocket.sent in
    let incoming = g.S.DatagramSocket.incoming in
    let failures = g.S.DatagramSocket.failures in
    let tells = g.S.DatagramSocket.is_observable in
    let round = c.in_ok-round.round in
    let served = subst (λ (rs : List Report). IsTrue c.in-Ok.is_served ↔ IsServed rs) c.deref.ensures.value
    c.in-Ok.ensures.served in
    subst (λ (is : Bool). Shows sent incoming failures tells c.args.plan.now is c.round_of.new.socket)
    (sym c.are_both.ensures)
    (shows sent incoming failures tells c.args.plan.now c.round_of.new.socket round.first round.reports.items
    c.in-Ok.is_served round.is_ready c.in_ok-round.ensures.heard served c.in_ok-round.ensures.ready
    c.in_ok-round.ensures.waited)
