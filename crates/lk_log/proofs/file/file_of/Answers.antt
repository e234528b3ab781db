use Rattle.std.proofs.Common.{◌++◌, not, ◌||◌, List, ℕ, length, sym, subst, ap, ◌∙◌, arith, length-append}
use Rattle.std.specs.List.{AllByRecursion}
use Rattle.lk_store_format.specs.Entries.{spelling, spelling_of_all, IsStored}
use Rattle.lk_store_format.specs.Files.{is_torn}
use Rattle.lk_store_format.specs.Formats.{is_mixed}
use Rattle.lk_store_format.specs.declared.stored.Stored.{Stored}
use Rattle.lk_store_format.proofs.Spelling.{spelled_long, spelled-push, all-append}
use Rattle.lk_log.proofs.file.file_of.Goals as goal

pub read-smaller : goal.read-smaller
read-smaller c = omega (
  arith,
  ap length c.in-Ok.ensures.found.1,
  length-append (spelling c.in-Ok.entry) c.in-Ok.more.now,
  spelled_long c.in-Ok.entry,
)

pub read-preserved : goal.read-preserved
read-preserved c = record {
  so_far =
      c.read.invariant.so_far ∙ ap (λ (l : List ℕ). spelling_of_all c.read.entries.items ++ l) c.in-Ok.ensures.found.1
      ∙ sym (spelled-push c.read.entries.items c.in-Ok.entry c.in-Ok.more.now)
      ∙ ap (λ (es : List Stored). spelling_of_all es ++ c.in-Ok.more.now) (sym c.in_ok-push-in-Ok.ensures.items);
  fit = subst (AllByRecursion IsStored) (sym c.in_ok-push-in-Ok.ensures.items)
      (all-append IsStored c.read.entries.items _ c.read.invariant.fit (c.in-Ok.ensures.found.0, tt));
}

pub returns-clause-file : goal.returns-clause-file
returns-clause-file c =
    let none = c.in-Err-NoEntry.ensures.none in
    record {
      whole =
          record { fit = c.read.invariant.fit; rest = c.read.rest.now; is = c.read.invariant.so_far; ends = none (cc) };
      damage = sym (c.is_damaged-is_damaged.ensures
          ∙ ap (λ (es : List Stored). not (is_torn c.read.rest.now) || is_mixed es) c.deref.ensures.value);
    }
