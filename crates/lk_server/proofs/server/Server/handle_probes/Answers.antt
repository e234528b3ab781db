use Rattle.std.proofs.Common.{◌≡◌, ◌∙◌, Option, ap, subst}
use Rattle.lk_probe.specs.declared.reported.Reported.{Reported}
use Rattle.lk_transport.specs.ReceiveBuffers.{BufferValue}
use Rattle.lk_address_book.specs.Inquiries.{LearnsKept}
use Rattle.lk_transport.specs.declared.received_probe.ReceivedProbe.{ReceivedProbe}
use Rattle.lk_server.proofs.Acting.{acted}
use Rattle.lk_server.specs.ProbeHandling.{ListensIf, Welcomes}
use Rattle.lk_server.specs.Probes.{RepliesToKept}
use Rattle.lk_server.proofs.server.Server.handle_probes.Goals as goal

pub returns-clause-acts : goal.returns-clause-acts
returns-clause-acts g c =
    let shows = g.R.ServerReplica.Shows in
    let members = g.R.ServerReplica.members in
    let observable = g.S.DatagramSocket.is_observable in
    let t = c.pop_probe-asked.ensures in
    let a = c.report_to.ensures in
    let r = c.readmit.ensures in
    let l = c.learn.ensures in
    let q = c.probe_next.ensures in
    let h = c.listen.ensures in
    let replies = subst (λ
    (o : Option ReceivedProbe). RepliesToKept shows observable o c.args.self.now c.report_to.new.self)
    t.value a.replies in
    let readmits = subst (λ (o : Option ReceivedProbe). Welcomes shows o c.report_to.new.self.replica
    c.report_to.new.self.node c.report_to.new.self.addresses c.readmit.new.self.addresses) t.value r.readmits in
    let told : c.pop_reported-reported.result ≡ c.args.buffer.now.reported =
    c.pop_reported-reported.ensures.value ∙ ap (λ (b : BufferValue). b.reported) t.others in
    let learns = subst (λ (o : Option Reported). LearnsKept c.readmit.new.self.node o c.readmit.new.self.addresses
    c.learn.new.self.addresses) told l.learns in
    let listens = subst (λ (o : Option Reported). ListensIf members observable o c.probe_next.new.self
    c.listen.new.self) told h.listens in
    acted shows members observable c.args.buffer.now.asked c.args.buffer.now.reported _ c.args.self.now
    c.report_to.new.self c.readmit.new.self c.learn.new.self c.probe_next.new.self c.listen.new.self
    replies a.others readmits r.network r.others learns l.network l.others c.now-now.ensures q.asks
    q.network q.still q.others listens h.network h.still h.others
