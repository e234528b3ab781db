use Rattle.std.proofs.Common.{◌≡◌, ◌++◌, ◌∷◌, ◌∙◌, [], List, map, sym, ap, append_assoc, append-nil, rules}
use Rattle.std.proofs.lemmas.List.{nil_from_length}
use Rattle.lk_sim_nodes.specs.Left.{left_of}
use Rattle.lk_sim_nodes.specs.declared.left.LeftNode.{LeftNode}
use Rattle.lk_sim_nodes.specs.declared.sim_node.SimNode.{SimNode}
use Rattle.lk_sim_nodes.proofs.left.all_left.Goals as goal

pub sim_nodes-preserved : goal.sim_nodes-preserved
sim_nodes-preserved g c =
    let all = λ (l : List (SimNode g.row.R.Denot)). map (left_of g.R.MemoryReplica.behaves) l in
    let pushed : c.push.new.self.items ≡ c.sim_nodes.nodes.items ++ c.left.result ∷ [] = search rules in
    ap (λ (l : List LeftNode). l ++ all c.next.new.self.rest.items) pushed
    ∙ append_assoc c.sim_nodes.nodes.items (c.left.result ∷ []) (all c.next.new.self.rest.items)
    ∙ ap (λ (n : LeftNode). c.sim_nodes.nodes.items ++ n ∷ all c.next.new.self.rest.items) c.left.ensures
    ∙ ap (λ (l : List (SimNode g.row.R.Denot)). c.sim_nodes.nodes.items ++ all l) (sym c.in-Some.ensures.steps.0)
    ∙ c.sim_nodes.invariant

pub returns : goal.returns
returns g c =
    let all = λ (l : List (SimNode g.row.R.Denot)). map (left_of g.R.MemoryReplica.behaves) l in
    let none : c.sim_nodes.sim_node-iterator.rest.items ≡ [] =
    nil_from_length c.sim_nodes.sim_node-iterator.rest.items
    (sym c.sim_nodes.sim_node-iterator.rest.ok.0 ∙ c.in-None.ensures.steps.0) in
    sym (append-nil c.sim_nodes.nodes.items)
    ∙ ap (λ (l : List (SimNode g.row.R.Denot)). c.sim_nodes.nodes.items ++ all l) (sym none) ∙ c.sim_nodes.invariant
