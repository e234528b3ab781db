use Rattle.std.proofs.Common.{arith}
use Rattle.lk_watch.proofs.DatagramLaws.{watch_is, watch_only}
use Rattle.lk_watch.proofs.watch.Watch.read.Goals as goal

pub returns-clause-found : goal.returns-clause-found
returns-clause-found c =
    watch_is c.args.bytes.now c.watch_of.result (λ i. omega (arith, c.type_inv.bytes i)) c.watch_of.ensures

pub returns-clause-only : goal.returns-clause-only
returns-clause-only c = watch_only c.args.bytes.now c.watch_of.result c.watch_of.ensures
