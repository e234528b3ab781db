-- The behaviour of a machine, in terms of its packed texts.
use Rattle.std.specs.Prelude.{ℕ, List}
use Rattle.lk_types.specs.Ranges.{IsClient}
use Rattle.lk_types.specs.Answers.{IsAnswer}
use Rattle.lk_types.specs.declared.answer.Answer.{Answer}

-- a machine's tasks: to execute the body, or to be raised
pub data Task : Type 0 where
  Running : List ℕ → Task
  Raising : Task

-- the text of a machine that has executed nothing, the text after a task of a client, and the answer to the client
pub record Meaning : Type 0 where
  pub first : List ℕ
  pub next : ℕ → Task → List ℕ → List ℕ
  pub answer : ℕ → Task → List ℕ → Answer

-- the first text and each text after a task are packed texts, and each answer is in its range
pub record KeepsTexts (IsText : List ℕ → Type 0) (m : Meaning) : Type 0 where
  pub first : IsText m.first
  pub next : (client : ℕ) (task : Task) (before : List ℕ) → IsClient client → IsText before
      → IsText (m.next client task before)
  pub answer : (client : ℕ) (task : Task) (before : List ℕ) → IsClient client → IsText before
      → IsAnswer (m.answer client task before)
