use Rattle.std.proofs.Common.{◌≡◌, ap, sym, ◌∙◌, List, [], ◌++◌, rules}
use Rattle.std.specs.Cmp.Lexicographic.{nat_list_cmp_total}
use Rattle.std.specs.FinMap as map
use Rattle.lk_locks.specs.Packed.{Entry}
use Rattle.lk_locks.specs.Plain.{Table}
use Rattle.lk_locks.proofs.Maps.{entries_are}
use Rattle.lk_locks.proofs.table.LockTable.names.Goals as goal

pub loop-name-init : goal.loop-name-init
loop-name-init c =
    let listed : c.into_iter-name-iterator.result ≡ map.entries c.args.self.now.names =
    c.into_iter-name-iterator.ensures.into_iter_gives ∙ c.iter-name-items.ensures.rest
    ∙ sym (entries_are nat_list_cmp_total c.self.inside.lock_entries.entries c.self.invariant.0)
    ∙ ap (λ (t : Table). map.entries t.names) c.self.view_is in
    let none : c.new-names.result.items ≡ [] = search rules in
    ap (λ (found : List Entry). found ++ c.into_iter-name-iterator.result) none ∙ listed
