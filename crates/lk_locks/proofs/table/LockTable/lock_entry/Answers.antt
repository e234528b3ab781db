use Rattle.std.proofs.Common.{Some, ap, sym, ◌∙◌}
use Rattle.std.specs.Cmp.Lexicographic.{nat_list_cmp_total}
use Rattle.std.specs.FinMap as map
use Rattle.lk_locks.specs.Plain.{Table}
use Rattle.lk_locks.specs.declared.lock_entry.LockEntry.{LockEntry}
use Rattle.lk_locks.proofs.Maps.{get_is}
use Rattle.lk_locks.proofs.table.LockTable.lock_entry.Goals as goal

pub returns-in-Some : goal.returns-in-Some
returns-in-Some c =
    ap (λ (s : LockEntry). Some s) c.copy.ensures ∙ c.in-Some.ensures.value
    ∙ sym (get_is nat_list_cmp_total c.self.inside.lock_entries.entries c.args.name.now)
    ∙ ap (λ (t : Table). map.get t.names c.args.name.now) c.self.view_is

pub returns-in-None : goal.returns-in-None
returns-in-None c =
    c.in-None.ensures.value ∙ sym (get_is nat_list_cmp_total c.self.inside.lock_entries.entries c.args.name.now)
    ∙ ap (λ (t : Table). map.get t.names c.args.name.now) c.self.view_is
