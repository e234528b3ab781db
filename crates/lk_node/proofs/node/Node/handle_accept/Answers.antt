use Rattle.std.proofs.Common.{ap, sym, subst}
use Rattle.lk_acceptor.specs.States.{IsOrdered}
use Rattle.lk_acceptor.specs.AcceptorValue.{AcceptorValue}
use Rattle.lk_node.specs.NodeValue.{NodeValue}
use Rattle.lk_node.proofs.AcceptorLaws.{accept_goes_on}
use Rattle.lk_node.proofs.GapLaws.{seen_goes_on}
use Rattle.lk_node.proofs.node.Node.handle_accept.Goals as goal

pub returns-clause-safe : goal.returns-clause-safe
returns-clause-safe g c =
    let acceptor = ap (λ (k : NodeValue). k.acceptor) c.see_round.ensures in
    let ordered = subst (λ (k : NodeValue). IsOrdered k.acceptor.state) c.self.view_is c.facts.ensures.kept in
    seen_goes_on _ _ c.get.result c.args.self.now c.see_round.new.self c.respond_to_accept.new.self
    c.in_ok-out.out c.see_round.ensures
    (accept_goes_on _ c.see_round.new.self c.respond_to_accept.new.self c.args.from _ c.args.vote c.in_ok-out.out
    (subst (λ (a : AcceptorValue). IsOrdered a.state) (sym acceptor) ordered) c.in_ok-out.ensures)
