use Rattle.std.proofs.Common.{◌≡◌, ◌<◌, ◌++◌, ◌∷◌, [], List, ℕ, length, refl, sym, ap, ◌∙◌, arith, length-append}
use Rattle.std.specs.List.{AllByRecursion}
use Rattle.lk_store_format.specs.Entries.{spelling, spelling_of_all, IsStored}
use Rattle.lk_store_format.specs.declared.stored.Stored.{Stored}
use Rattle.lk_store_format.proofs.Spelling.{spelled_long, spelled-push, all-append}
use Rattle.lk_node_files.proofs.refusals.end_of.Goals as goal

shorter : (e : Stored) (rest more : List ℕ) → rest ≡ spelling e ++ more → length more < length rest
shorter e rest more is = omega (arith, ap length is, length-append (spelling e) more, spelled_long e)

reads_on : (bytes : List ℕ) (e : Stored) (rest more : List ℕ)
    → (es : List Stored) × (bytes ≡ spelling_of_all es ++ rest) × AllByRecursion IsStored es → IsStored e
    → rest ≡ spelling e ++ more
    → (es : List Stored) × (bytes ≡ spelling_of_all es ++ more) × AllByRecursion IsStored es
reads_on bytes e rest more so_far fits is = (
  so_far.0 ++ e ∷ [],
  so_far.1 ∙ ap (λ (l : List ℕ). spelling_of_all so_far.0 ++ l) is ∙ sym (spelled-push so_far.0 e more),
  all-append IsStored so_far.0 (e ∷ []) so_far.2 (fits, tt),
)

pub entries-init : goal.entries-init
entries-init c = ([], refl, tt)

-- the entry is let go, some parts of it after others
pub entries-smaller : goal.entries-smaller
entries-smaller c = shorter c.in-Ok._entry c.entries.rest.now c.in-Ok.more.now c.in-Ok.ensures.found.1

pub entries-smaller-in-Ok : goal.entries-smaller-in-Ok
entries-smaller-in-Ok c = shorter c.in-Ok._entry c.entries.rest.now c.in-Ok.more.now c.in-Ok.ensures.found.1

pub entries-preserved : goal.entries-preserved
entries-preserved c = reads_on c.args.bytes.now c.in-Ok._entry c.entries.rest.now c.in-Ok.more.now c.entries.invariant
    c.in-Ok.ensures.found.0 c.in-Ok.ensures.found.1

pub entries-preserved-in-Ok : goal.entries-preserved-in-Ok
entries-preserved-in-Ok c =
    reads_on c.args.bytes.now c.in-Ok._entry c.entries.rest.now c.in-Ok.more.now c.entries.invariant
    c.in-Ok.ensures.found.0 c.in-Ok.ensures.found.1

pub returns-in-Err-NoEntry : goal.returns-in-Err-NoEntry
returns-in-Err-NoEntry c =
    let so_far = c.entries.invariant in
    record {
      entries = so_far.0;
      whole = record {
        fit = so_far.2;
        rest = c.entries.rest.now;
        is = so_far.1;
        ends = c.in-Err-NoEntry.ensures.none (cc);
      };
      behind = omega (arith, ap length so_far.1, length-append (spelling_of_all so_far.0) c.entries.rest.now);
    }
