use Rattle.std.proofs.lemmas.Result.{IfOk-weaker}
use Rattle.lk_node.proofs.GapLaws.{want_goes_on}
use Rattle.lk_node.proofs.node.Node.handle_want.Goals as goal

pub returns-clause-safe : goal.returns-clause-safe
returns-clause-safe g c =
    IfOk-weaker c.send_missing.result _ _
    (λ o feeds. want_goes_on _ c.args.self.now c.args.from c.first.result c.offset.result o feeds)
    c.send_missing.ensures
