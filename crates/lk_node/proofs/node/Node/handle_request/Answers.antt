-- One tactic for each goal that a wrong body breaks.
use Rattle.std.proofs.Common.{rules}
use Rattle.std.proofs.lemmas.Result.{IfOk-weaker}
use Rattle.lk_node.specs.Asking.{HandlesRequest}
use Rattle.lk_node.proofs.AskingLaws.{request_goes_on}
use Rattle.lk_node.proofs.node.Node.handle_request.Goals as goal

pub returns-in_default-clause-exact : goal.returns-in_default-clause-exact
returns-in_default-clause-exact g c = search rules

pub returns-in_default-clause-safe : goal.returns-in_default-clause-safe
returns-in_default-clause-safe g c =
    IfOk-weaker c.queue_or_redirect.result _ _
    (λ o heard. request_goes_on _ c.args.self.now c.queue_or_redirect.new.self c.args.request.now o heard)
    (returns-in_default-clause-exact g c)

pub returns-clause-safe : goal.returns-clause-safe
returns-clause-safe g c =
    let heard : HandlesRequest c.args.self.now c.args.request.now c.args.self.now c.in_ok-out.out = search rules in
    request_goes_on _ c.args.self.now c.args.self.now c.args.request.now c.in_ok-out.out heard
