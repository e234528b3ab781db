use Rattle.std.proofs.Common.{◌≡◌, [], ◌∷◌, ◌++◌, ap, sym, refl, ◌∙◌}
use Rattle.std.specs.Ordering.{is_lt}
use Rattle.std.specs.Cmp.Lexicographic.{nat_list_cmp_total}
use Rattle.std.specs.FinMap as map
use Rattle.lk_locks.specs.Plain.{Table}
use Rattle.lk_locks.proofs.Maps.{entries_are}
use Rattle.lk_locks.proofs.TableLaws.{below_is}
use Rattle.lk_locks.proofs.table.LockTable.is_below.Goals as goal

pub returns-in-Some : goal.returns-in-Some
returns-in-Some c = λ s.
    let listed : map.entries c.args.self.now.names ≡ c.next_back.new.self
    ++ (c.in-Some.last.now, c.in-Some.field-0-1.now) ∷ [] =
    ap (λ (t : Table). map.entries t.names) (sym c.self.view_is)
    ∙ entries_are nat_list_cmp_total c.self.inside.lock_entries.entries c.self.invariant.0 ∙ sym c.iter.ensures.rest
    ∙ c.in-Some.ensures.steps in
    c.is_lt.ensures ∙ ap is_lt c.cmp.ensures
    ∙ below_is c.args.self.now.names c.next_back.new.self
    (c.in-Some.last.now, c.in-Some.field-0-1.now) c.args.name.now s listed

pub returns-in-None : goal.returns-in-None
returns-in-None c = λ s.
    let listed : map.entries c.args.self.now.names ≡ [] =
    ap (λ (t : Table). map.entries t.names) (sym c.self.view_is)
    ∙ entries_are nat_list_cmp_total c.self.inside.lock_entries.entries c.self.invariant.0 ∙ sym c.iter.ensures.rest
    ∙ c.in-None.ensures.steps.0 in
    rw listed refl
