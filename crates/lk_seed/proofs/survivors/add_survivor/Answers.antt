use Rattle.std.proofs.Common.{◌≡◌, ◌++◌, List, ℕ, subst}
use Rattle.lk_locks.specs.declared.lock_entry.LockEntry.{LockEntry}
use Rattle.lk_log.specs.Images.{seen}
use Rattle.lk_seed.specs.Fences.{all_wanted_past}
use Rattle.lk_seed.proofs.SurvivorLaws.{takes_over}
use Rattle.lk_seed.proofs.survivors.add_survivor.Goals as goal

pub returns-then-branch-clause-takes : goal.returns-then-branch-clause-takes
returns-then-branch-clause-takes g c honest =
    takes_over c.args.past (seen (g.D.LogDisk.disk c.args.device.now)) c.inspected.new.lost c.in-Ok.found
    c.args.wanted.now.items c.add_wanted.new.wanted.items (c.in-Ok.ensures.found honest)
    (subst (λ (names : List (List ℕ × LockEntry)). c.add_wanted.new.wanted.items
    ≡ c.args.wanted.now.items ++ all_wanted_past c.args.past names) c.deref.ensures.value
    (c.in_ok-add_wanted.ensures c.if-branch.true))
