-- The lock table as a machine: its meaning in terms of packed texts.
use Rattle.std.specs.Prelude.{ℕ}
use Rattle.lk_types.specs.declared.answer.Answer.{Answer}
use Rattle.lk_state.specs.Meanings.{Meaning, Task, Running, Raising}
use Rattle.lk_locks.specs.Packed.{table_text, table_in}
use Rattle.lk_locks.specs.Plain.{Table, empty, answer, next, raise_answer, raised}

-- the table after a task of a client
abbrev pub next_by_task : ℕ → Task → Table → Table
next_by_task client (Running bytes) t = next client bytes t
next_by_task client Raising t = raised t

-- the client's answer
abbrev pub task_answer : ℕ → Task → Table → Answer
task_answer client (Running bytes) t = answer client bytes t
task_answer client Raising t = raise_answer t

abbrev pub table_meaning : Meaning
table_meaning = record {
  first = table_text empty;
  next = λ client task before. table_text (next_by_task client task (table_in before));
  answer = λ client task before. task_answer client task (table_in before);
}
