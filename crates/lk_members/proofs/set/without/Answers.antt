-- What the loop left is a set where it is not empty.
use Rattle.std.proofs.Common.{◌≡◌, arith}
use Rattle.std.proofs.lemmas.Grind.{common_steps}
use Rattle.lk_members.specs.Rosters.{others}
use Rattle.lk_members.proofs.SetLaws.{AreMembers-others, others-AreMembers}
use Rattle.lk_members.proofs.set.without.Goals as goal

pub returns-clause-some : goal.returns-clause-some
returns-clause-some c =
    let left : c.as_slice.result.now ≡ others c.args.node c.args.set.now = grind (arith, common_steps) in
    let some = rw left at c.of.ensures.some in (
      λ is. others-AreMembers c.args.node c.args.set.now (some.0 is),
      λ left. some.1 (AreMembers-others c.args.node c.args.set.now c.as_slice-members.ensures.fits left),
    )
