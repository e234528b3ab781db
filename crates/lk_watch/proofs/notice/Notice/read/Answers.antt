use Rattle.std.proofs.Common.{arith}
use Rattle.lk_watch.proofs.DatagramLaws.{notice_is, notice_only}
use Rattle.lk_watch.proofs.notice.Notice.read.Goals as goal

pub returns-clause-found : goal.returns-clause-found
returns-clause-found c =
    notice_is c.args.bytes.now c.notice_of.result (λ i. omega (arith, c.type_inv.bytes i)) c.notice_of.ensures

pub returns-clause-only : goal.returns-clause-only
returns-clause-only c = notice_only c.args.bytes.now c.notice_of.result c.notice_of.ensures
