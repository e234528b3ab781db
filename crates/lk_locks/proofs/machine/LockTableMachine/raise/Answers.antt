use Rattle.std.proofs.Common.{ap, sym, ◌∙◌}
use Rattle.lk_locks.specs.Packed.{table_text}
use Rattle.lk_locks.specs.Plain.{raised, raise_answer}
use Rattle.lk_locks.specs.PackedLaws.{again}
use Rattle.lk_locks.proofs.machine.LockTableMachine.raise.Goals as goal

pub returns-clause-next : goal.returns-clause-next
returns-clause-next c = λ client. ap table_text c.raise_version.ensures.next
    ∙ ap (λ t. table_text (raised t)) (sym (again c.args.self.now c.facts.ensures))

pub returns-clause-answer : goal.returns-clause-answer
returns-clause-answer c =
    λ client. c.raise_version.ensures.answer ∙ ap raise_answer (sym (again c.args.self.now c.facts.ensures))
