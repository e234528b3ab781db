use Rattle.std.proofs.Common.{sym, arith}
use Rattle.std.proofs.lemmas.Result.{IfOk-weaker}
use Rattle.lk_locks.specs.PackedLaws.{unpacked, text_is}
use Rattle.lk_locks.proofs.machine.LockTableMachine.unpack.Goals as goal

pub returns-clause-ok : goal.returns-clause-ok
returns-clause-ok c = IfOk-weaker c.read_table.result
    _ _ (λ m e. (unpacked c.args.bytes.now m (λ i. omega (arith, c.type_inv.bytes i)) e).1) c.read_table.ensures.ok

pub returns-clause-packed : goal.returns-clause-packed
returns-clause-packed c =
    IfOk-weaker c.read_table.result
    _ _ (λ m e. let u = unpacked c.args.bytes.now m (λ i. omega (arith, c.type_inv.bytes i)) e in (m, u.0, sym u.1))
    c.read_table.ensures.ok

pub returns-clause-not_packed : goal.returns-clause-not_packed
returns-clause-not_packed c = λ e t. let none = c.read_table.ensures.not_packed e in
    let some = (text_is c.args.bytes.now t).2 in cc
