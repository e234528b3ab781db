use Rattle.std.proofs.Common.{◌≡◌, ◌<◌, true, None, ap, sym, subst, ◌∙◌, Result, Ok, Err}
use Rattle.std.specs.Prelude.{OnErr}
use Rattle.std.specs.Cmp.Lexicographic.{nat_list_cmp_total}
use Rattle.std.specs.FinMap as map
use Rattle.lk_locks.specs.Holders.{is_kept}
use Rattle.lk_locks.specs.Plain.{Table, Names}
use Rattle.lk_locks.specs.Packed.{AreNames}
use Rattle.lk_locks.proofs.Maps.{get_is, one_set}
use Rattle.lk_locks.specs.PackedLaws.{insert_are_names}
use Rattle.lk_locks.proofs.table.LockTable.set.Goals as goal

pub invariant_of-self-2 : goal.invariant_of-self-2
invariant_of-self-2 c = (
  c.insert.ensures.ordered,
  subst (AreNames c.self.inside.raised)
      (sym (one_set nat_list_cmp_total
      (map.slice_cmp-IsAntisymmetric map.nat_cmp-IsAntisymmetric) c.self.inside.lock_entries.entries
      c.insert.new.self.entries
      c.args.name c.args.lock_entry c.in_ok-insert.ensures.updates.0))
      (insert_are_names c.self.inside.raised
      (map.from_entries c.self.inside.lock_entries.entries) c.args.name c.args.lock_entry c.self.invariant.1 (
        c.facts.ensures,
        (
          c.facts-2.ensures.0,
          (
            c.facts-2.ensures.1,
            subst (λ (t : Table). is_kept t.raised c.args.lock_entry.holders ≡ true)
                (sym c.self.view_is) c.requires.kept,
          ),
        ),
      )
      (subst (λ (t : Table). map.get t.names c.args.name ≡ None → map.len t.names < 512)
      (sym c.self.view_is) c.requires.room)),
)

pub returns-clause-ok : goal.returns-clause-ok
returns-clause-ok c =
    ap (λ (m : Names). let t : Table = record { raised = c.self.inside.raised; names = m } in t)
    (one_set nat_list_cmp_total
    (map.slice_cmp-IsAntisymmetric map.nat_cmp-IsAntisymmetric) c.self.inside.lock_entries.entries
    c.insert.new.self.entries
    c.args.name c.args.lock_entry c.in_ok-insert.ensures.updates.0)
    ∙ ap (λ (t : Table). let u : Table =
    record { raised = t.raised; names = map.insert t.names c.args.name c.args.lock_entry } in u) c.self.view_is

on_err : {T E P : Type 0} (r : Result T E) → P → OnErr r P
on_err (Ok x) p = tt
on_err (Err e) p = p

pub returns-in_err-insert-clause-absent : goal.returns-in_err-insert-clause-absent
returns-in_err-insert-clause-absent c =
    on_err c.from_residual.result
    (ap (λ (t : Table). map.get t.names c.args.name) (sym c.self.view_is)
    ∙ get_is nat_list_cmp_total c.self.inside.lock_entries.entries c.args.name ∙ c.in_err-insert.ensures.absent)
