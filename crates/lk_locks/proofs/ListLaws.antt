-- A list of commands: the lock table after it, as a text and plain.
use Rattle.std.proofs.Common.{◌≡◌, ℕ, true, false, cond, List, [], ◌∷◌, ◌++◌, Option, Some, None, fold, refl, ap, subst}
use Rattle.std.proofs.Common.{sym, ◌∙◌}
use Rattle.std.specs.List.{list_all, AllByRecursion}
use Rattle.std.proofs.lemmas.List.Sums.{fold-append}
use Rattle.lk_types.specs.Ranges.{IsClient}
use Rattle.lk_types.specs.Commands.{IsCommand}
use Rattle.lk_types.specs.declared.command.Op.{Op}
use Rattle.lk_types.specs.declared.command.Op.TheVariants.{Table as TableOp, Join, Leave, Raise}
use Rattle.lk_members.specs.Effects.{Command, RequestValue, Noop, Request, is_older, in_effect, positioned, effects}
use Rattle.lk_members.proofs.Memberships.{added, effects-push}
use Rattle.lk_state.specs.Meanings.{KeepsTexts}
use Rattle.lk_state.specs.States.{next_text, text_of}
use Rattle.lk_state.proofs.Wholes.{by_pushes, text_behind, text_of-push}
use Rattle.lk_locks.specs.Plain.{Table, empty, next, raised}
use Rattle.lk_locks.specs.Packed.{IsTable, IsTableText, table_text, table_in}
use Rattle.lk_locks.specs.PackedLaws.{again, empty_are_names, empty_is_text}
use Rattle.lk_locks.specs.NextLaws.{next_is_table, raised_is_table, next_is_text, answer_is_answer}
use Rattle.lk_locks.specs.Meaning.{table_meaning, task_answer}
use Rattle.lk_state.specs.Meanings.{Task}
use Rattle.lk_locks.specs.Lists.{table_after, table_of}

-- ---- one command more

-- the table after a request that takes effect, or none
abbrev pub table_behind : Table → Option RequestValue → Table
table_behind m None = m
table_behind m (Some r) = table_after r.client r.op m

table_added : (m : Table) (o : Option RequestValue)
    → fold (λ (m : Table) (r : RequestValue). table_after r.client r.op m) m (added o) ≡ table_behind m o
table_added m None = refl
table_added m (Some r) = refl

pub table_of-push : (L : List Command) (c : Command)
    → table_of (L ++ c ∷ []) ≡ table_behind (table_of L) (in_effect L c)
unfolding table_of
table_of-push L c =
    ap (fold (λ (m : Table) (r : RequestValue). table_after r.client r.op m) empty) (effects-push L c)
    ∙ fold-append (λ (m : Table) (r : RequestValue). table_after r.client r.op m) empty
    (effects L) (added (in_effect L c))
    ∙ table_added (table_of L) (in_effect L c)

all-front : {X : Type 0} (P : X → Type 0) (xs : List X) (y : X) → AllByRecursion P (xs ++ y ∷ [])
    → AllByRecursion P xs × P y
all-front P [] y all = (tt, all.0)
all-front P (x ∷ xs) y all = let rest = all-front P xs y all.1 in ((all.0, rest.0), rest.1)

-- ---- what takes effect is of a client

abbrev IsOfClient : Option RequestValue → Type 0
IsOfClient None = Unit {0}
IsOfClient (Some r) = IsClient r.client

in_effect_is_of_client : (L : List Command) (c : Command) → IsCommand c → IsOfClient (in_effect L c)
in_effect_is_of_client L Noop fits = tt
in_effect_is_of_client L (Request r) fits =
    elim (list_all (is_older r) L) as (λ b. IsOfClient (cond b (Some r) None)) [ true ↦ fits.0 | false ↦ tt ]

-- ---- the text keeps step with the table

-- the bytes are the text of this table
abbrev IsTextOf : Table → List ℕ → Type 0
IsTextOf m bytes = IsTable m × (bytes ≡ table_text m)

op_keeps : (client : ℕ) (op : Op) (m : Table) → IsClient client → IsTable m
    → IsTextOf (table_after client op m) (next_text table_meaning (table_text m) client op)
op_keeps client (TableOp body) m is_client fits =
    (next_is_table client body m is_client fits, ap (λ (t : Table). table_text (next client body t)) (again m fits))
op_keeps client (Join node port) m is_client fits = (fits, refl)
op_keeps client (Leave node) m is_client fits = (fits, refl)
op_keeps client Raise m is_client fits =
    (raised_is_table m fits, ap (λ (t : Table). table_text (raised t)) (again m fits))

in_effect_keeps : (o : Option RequestValue) (m : Table) → IsOfClient o → IsTable m
    → IsTextOf (table_behind m o) (text_behind table_meaning (table_text m) o)
in_effect_keeps None m is_client fits = (fits, refl)
in_effect_keeps (Some r) m is_client fits = op_keeps r.client r.op m is_client fits

-- the text after the list is that of the plain table
abbrev TextIsPlain : List Command → Type 0
TextIsPlain L = AllByRecursion IsCommand L → IsTextOf (table_of L) (text_of table_meaning L)

none_is_plain : TextIsPlain []
unfolding table_of text_of effects positioned
none_is_plain all = (empty_are_names false, refl)

more_is_plain : (L : List Command) (c : Command) → TextIsPlain L → TextIsPlain (L ++ c ∷ [])
more_is_plain L c so_far all =
    let parts = all-front IsCommand L c all in
    let before = so_far parts.0 in
    let o : Option RequestValue = in_effect L c in
    let behind = in_effect_keeps o (table_of L) (in_effect_is_of_client L c parts.1) before.0 in (
      subst IsTable (sym (table_of-push L c)) behind.0,
      text_of-push table_meaning L c ∙ ap (λ (t : List ℕ). text_behind table_meaning t o) before.1 ∙ behind.1
          ∙ ap table_text (sym (table_of-push L c)),
    )

is_plain : (L : List Command) → TextIsPlain L
is_plain = by_pushes TextIsPlain none_is_plain more_is_plain

-- ---- the laws

-- a list makes a table
pub table_of-is_table : (L : List Command) → AllByRecursion IsCommand L → IsTable (table_of L)
table_of-is_table L all = (is_plain L all).0

-- the text that the machine has after a list is that of its table
pub text_of-text : (L : List Command) → AllByRecursion IsCommand L → text_of table_meaning L ≡ table_text (table_of L)
text_of-text L all = (is_plain L all).1

-- what the machine answers after a list is what its table answers
pub answer-text_of : (L : List Command) → AllByRecursion IsCommand L → (client : ℕ) (task : Task)
    → table_meaning.answer client task (text_of table_meaning L) ≡ task_answer client task (table_of L)
answer-text_of L all client task =
    ap (task_answer client task) (ap table_in (text_of-text L all) ∙ again (table_of L) (table_of-is_table L all))

-- the table keeps to its texts, and its answers are in their ranges
pub table_keeps_texts : KeepsTexts IsTableText table_meaning
table_keeps_texts = record { first = empty_is_text; next = next_is_text; answer = answer_is_answer }
