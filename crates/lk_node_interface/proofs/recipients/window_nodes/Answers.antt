-- One node more, and all of them.
use Rattle.std.proofs.Common.{ℕ, ◌≤◌, Some, subst, ap, ◌∙◌, ◌++◌, ◌∷◌, [], sym}
use Rattle.lk_members.specs.Ports.{is_named, IsNextAbove}
use Rattle.lk_node_interface.proofs.Walks.{walked_more, walked_all}
use Rattle.lk_node_interface.proofs.recipients.window_nodes.Goals as goal

pub walk-preserved : goal.walk-preserved
walk-preserved c = (
  subst (λ (k : ℕ). k ≤ 2147483648) (sym c.get-low.ensures.value) c.get-low.ensures.in_range.1,
  walked_more (λ k. is_named k c.args.roster.now.sets) c.walk.low c.get-low.result c.walk.nodes.items _
      (subst (λ (k : ℕ). IsNextAbove (λ j. is_named j c.args.roster.now.sets) c.walk.low (Some k))
      (sym c.get-low.ensures.value) c.in-Some.ensures)
      c.walk.invariant.1
      (c.in_ok-push.ensures.items ∙ ap (λ (k : ℕ). c.walk.nodes.items ++ k ∷ []) (sym c.get-low.ensures.value)),
)

pub returns : goal.returns
returns c = walked_all (λ k. is_named k c.args.roster.now.sets) c.walk.low c.walk.nodes.items
    c.in_default.ensures c.walk.invariant.1
