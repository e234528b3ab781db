use Rattle.std.proofs.lemmas.Result.{IfOk-weaker}
use Rattle.lk_node.proofs.GapLaws.{asks_goes_on}
use Rattle.lk_node.proofs.node.Node.ask_leader.Goals as goal

pub returns-clause-safe : goal.returns-clause-safe
returns-clause-safe g c =
    IfOk-weaker c.send_want.result _ _ (λ o asks. asks_goes_on _ _ c.args.self.now _ o asks) c.send_want.ensures
