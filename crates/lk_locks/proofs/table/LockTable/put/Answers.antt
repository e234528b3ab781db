-- The mark stands in front where the table was raised.
use Rattle.std.proofs.Common.{◌≡◌, ◌∙◌, ◌++◌, ℕ, true, false, List, ap, sym}
use Rattle.std.specs.FinMap as map
use Rattle.std.proofs.lemmas.Result.{on_ok_weaker}
use Rattle.lk_locks.specs.Packed.{entries}
use Rattle.lk_locks.specs.Plain.{Table}
use Rattle.lk_locks.proofs.TableLaws.{marked, unmarked}
use Rattle.lk_locks.proofs.table.LockTable.put.Goals as goal

pub returns-then-self-clause-ok : goal.returns-then-self-clause-ok
returns-then-self-clause-ok c =
    let raised : c.args.self.now.raised ≡ true = ap (λ (t : Table). t.raised) (sym c.self.view_is) ∙ c.if-self.true in
    marked c.args.self.now c.args.out.now.items c.put_names.new.out.items raised
    (c.in_ok-put_names.ensures.ok
    ∙ ap (λ (l : List ℕ). l ++ entries c.args.self.now.raised (map.entries c.args.self.now.names))
    c.in_ok-put_u16.ensures.ok)

pub returns-clause-ok : goal.returns-clause-ok
returns-clause-ok c =
    let plain : c.args.self.now.raised ≡ false = ap (λ (t : Table). t.raised) (sym c.self.view_is) ∙ c.if-self.false in
    on_ok_weaker c.put_names-2.result
    (λ e. unmarked c.args.self.now c.args.out.now.items c.put_names-2.new.out.items plain e) c.put_names-2.ensures.ok
