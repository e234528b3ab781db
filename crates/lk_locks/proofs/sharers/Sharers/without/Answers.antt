-- What the loop left is a set where it is not empty.
use Rattle.std.proofs.Common.{◌≡◌, ◌≤◌, ℕ, true, List, length, ap, sym, subst, arith}
use Rattle.std.proofs.lemmas.Grind.{common_steps}
use Rattle.lk_locks.specs.Sharers.{are_clients_above, without}
use Rattle.lk_locks.specs.SharerLaws.{without-fits}
use Rattle.lk_locks.proofs.sharers.Sharers.without.Goals as goal

pub returns-clause-some : goal.returns-clause-some
returns-clause-some c =
    let left : c.loop-other.left.items ≡ without c.args.client c.args.self.now = grind (arith, common_steps) in
    let some : 1 ≤ length c.loop-other.left.items = grind (arith, common_steps) in (
      λ is e. omega (arith, some, ap length left, ap length e),
      λ h. c.of.ensures.some.1
          (subst (λ (cs : List ℕ). are_clients_above 0 cs ≡ true) (sym left)
          (without-fits c.args.client c.args.self.now c.as_slice-other-items.ensures.fits h).3),
    )

pub loop-other-preserved : goal.loop-other-preserved
loop-other-preserved c = grind (arith, common_steps)
