use Rattle.lk_node.specs.Executing.{stays}
use Rattle.lk_node.proofs.ExecutionLaws.{went_on, went_all, went_fewer}
use Rattle.lk_node.proofs.SafeSteps.{rests_here, then_goes_on}
use Rattle.lk_node.proofs.node.Node.execute.Goals as goal

pub positions-init : goal.positions-init
positions-init g c = (stays, rests_here _ _ _ _)

pub returns-then-not-branch-clause-exact : goal.returns-then-not-branch-clause-exact
returns-then-not-branch-clause-exact g c =
    went_all _ c.in_ok-execute_one.field-0 _ _ c.positions.self c.positions.out _ _ (cc c.if-not-branch.true)
    c.positions.invariant.0 c.in_ok-execute_one.ensures.exact

pub positions-smaller : goal.positions-smaller
positions-smaller g c = went_fewer _ c.in_ok-execute_one.field-0 c.positions.self c.positions.out
    _ c.execute_one.new.out (cc c.if-not-branch.false) c.in_ok-execute_one.ensures.exact

pub positions-preserved : goal.positions-preserved
positions-preserved g c = (
  went_on _ c.in_ok-execute_one.field-0 _ _ c.positions.self c.positions.out _ _ (cc c.if-not-branch.false)
      c.positions.invariant.0 c.in_ok-execute_one.ensures.exact,
  then_goes_on _ _ _ c.positions.self _ _ c.positions.out _ c.positions.invariant.1 c.in_ok-execute_one.ensures.safe,
)
