use Rattle.std.proofs.Common.{◌≡◌, ◌++◌, ap, sym, refl, List, ℕ, ◌∙◌}
use Rattle.std.specs.List.{flat_map}
use Rattle.std.specs.Cmp.Lexicographic.{nat_list_cmp_total}
use Rattle.std.specs.FinMap as map
use Rattle.lk_codec.specs.Fields.{two}
use Rattle.lk_codec.proofs.Spellings.{keeps_same, keeps_behind}
use Rattle.lk_locks.specs.Packed.{entry}
use Rattle.lk_locks.specs.Plain.{Table}
use Rattle.lk_locks.proofs.Maps.{entries_are}
use Rattle.lk_locks.proofs.TableLaws.{begun}
use Rattle.lk_locks.proofs.table.LockTable.put_names.Goals as goal

pub loop-name-init : goal.loop-name-init
loop-name-init c =
    let listed : c.into_iter-name-iterator.result ≡ map.entries c.args.self.now.names =
    c.into_iter-name-iterator.ensures.into_iter_gives ∙ c.iter-name-items.ensures.rest
    ∙ sym (entries_are nat_list_cmp_total c.self.inside.lock_entries.entries c.self.invariant.0)
    ∙ ap (λ (t : Table). map.entries t.names) c.self.view_is in
    let wrote = c.in_ok-put_u16.ensures.ok in
    record {
      so_far = ap (λ (t : List ℕ). t ++ flat_map (entry c.args.self.now.raised) c.into_iter-name-iterator.result) wrote
          ∙ begun c.args.self.now.raised c.args.self.now.names c.args.out.now.items c.len.result
          c.into_iter-name-iterator.result c.len.ensures.len listed;
      keeps = keeps_behind c.args.out.now.items c.put_u16.new.out.items c.put_u16.new.out.items
          (two c.len.result) wrote (keeps_same _ _ refl);
    }
