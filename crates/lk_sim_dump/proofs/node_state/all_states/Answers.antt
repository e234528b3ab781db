use Rattle.std.proofs.Common.{◌≡◌, ◌++◌, ◌∷◌, ◌∙◌, [], List, sym, ap, subst, append_assoc, append-nil, rules}
use Rattle.std.proofs.lemmas.List.{nil_from_length}
use Rattle.lk_sim_nodes.specs.declared.left.LeftNode.{LeftNode}
use Rattle.lk_sim_dump.specs.NodeStates.{AreStatesOf}
use Rattle.lk_sim_dump.specs.declared.node_state.NodeState.{NodeState}
use Rattle.lk_sim_dump.proofs.node_state.all_states.Goals as goal

pub each-preserved : goal.each-preserved
each-preserved c more tells =
    let state : NodeState = c.state_of.result in
    let pushed : c.push.new.self.items ≡ c.each.states.items ++ state ∷ [] = search rules in
    let those : AreStatesOf (c.in-Some.node ∷ c.next.new.self.rest.items) (state ∷ more) =
    (c.state_of.ensures, tells) in
    let all = c.each.invariant (state ∷ more)
    (subst (λ (l : List LeftNode). AreStatesOf l (state ∷ more)) (sym c.in-Some.ensures.steps.0) those) in
    subst (λ (l : List NodeState). AreStatesOf c.args.nodes.items l)
    (sym (append_assoc c.each.states.items (state ∷ []) more) ∙ ap (λ (l : List NodeState). l ++ more) (sym pushed)) all

pub returns : goal.returns
returns c =
    let none : c.each.node-iterator.rest.items ≡ [] =
    nil_from_length c.each.node-iterator.rest.items (sym c.each.node-iterator.rest.ok.0 ∙ c.in-None.ensures.steps.0) in
    subst (λ (l : List NodeState). AreStatesOf c.args.nodes.items l) (append-nil c.each.states.items)
    (c.each.invariant [] (subst (λ (l : List LeftNode). AreStatesOf l []) (sym none) tt))
