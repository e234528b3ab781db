use Rattle.std.proofs.Common.{ℕ, ◌≤◌, ap, sym, subst, ◌∙◌}
use Rattle.std.specs.Cmp.Lexicographic.{nat_list_cmp_total}
use Rattle.std.specs.FinMap as map
use Rattle.lk_locks.specs.Packed.{AreNames}
use Rattle.lk_locks.specs.Plain.{Table}
use Rattle.lk_locks.proofs.Maps.{len_is}
use Rattle.lk_locks.proofs.table.LockTable.len.Goals as goal

pub returns-clause-len : goal.returns-clause-len
returns-clause-len c = c.len.ensures.len
    ∙ sym (len_is nat_list_cmp_total c.self.inside.lock_entries.entries c.len.ensures.ordered)
    ∙ ap (λ (t : Table). map.len t.names) c.self.view_is

pub returns-clause-short : goal.returns-clause-short
unfolding AreNames
returns-clause-short c =
    subst (λ (n : ℕ). n ≤ 512)
    (len_is nat_list_cmp_total c.self.inside.lock_entries.entries c.len.ensures.ordered ∙ sym c.len.ensures.len)
    c.self.invariant.1.0
