-- The plain table after a list of commands.
use Rattle.std.specs.Prelude.{ℕ, Option, Some, None, List, fold}
use Rattle.lk_types.specs.declared.answer.Answer.{Answer}
use Rattle.lk_types.specs.declared.command.Op.{Op}
use Rattle.lk_types.specs.declared.command.Op.TheVariants.{Table, Join, Leave, Raise}
use Rattle.lk_members.specs.Effects.{Command, effects}
use Rattle.lk_locks.specs.Plain as plain

-- the lock table after an op of a client
abbrev pub table_after : ℕ → Op → plain.Table → plain.Table
table_after client (Table body) t = plain.next client body t
table_after client (Join node port) t = t
table_after client (Leave node) t = t
table_after client Raise t = plain.raised t

-- the lock table's answer to an op of a client
abbrev pub table_answer : ℕ → Op → plain.Table → Option Answer
table_answer client (Table body) t = Some (plain.answer client body t)
table_answer client (Join node port) t = None
table_answer client (Leave node) t = None
table_answer client Raise t = Some (plain.raise_answer t)

-- the lock table after a list: the requests that take effect, in order
unfoldable pub table_of : List Command → plain.Table
table_of L = fold (λ t r. table_after r.client r.op t) plain.empty (effects L)
