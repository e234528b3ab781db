use Rattle.std.proofs.Common.{ap, sym, ◌∙◌}
use Rattle.std.proofs.lemmas.Result.{IfOk-weaker, on_ok_weaker}
use Rattle.lk_locks.specs.Packed.{table_text}
use Rattle.lk_locks.specs.Plain.{answer, next}
use Rattle.lk_locks.specs.PackedLaws.{again}
use Rattle.lk_locks.proofs.machine.LockTableMachine.apply.Goals as goal

pub returns-clause-ok : goal.returns-clause-ok
returns-clause-ok c = on_ok_weaker c.run.result
    (λ e. ap table_text e ∙ ap (λ t. table_text (next c.args.client c.args.body.now t))
    (sym (again c.args.self.now c.facts.ensures))) c.run.ensures.ok

pub returns-clause-answer : goal.returns-clause-answer
returns-clause-answer c =
    IfOk-weaker c.run.result
    _ _ (λ a e. e ∙ ap (answer c.args.client c.args.body.now) (sym (again c.args.self.now c.facts.ensures)))
    c.run.ensures.answer
