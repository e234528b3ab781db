-- The format of a file, and what a file of format 1 does not hold.
use Rattle.std.specs.Prelude.{ℕ, ◌≤◌, ◌==◌, Bool, true, false, ◌&&◌, ◌||◌, List, [], ◌∷◌}
use Rattle.std.specs.List.{list_any}
use Rattle.lk_types.specs.declared.command.Command.{Command}
use Rattle.lk_types.specs.declared.command.Command.TheVariants.{Noop, Request}
use Rattle.lk_types.specs.declared.command.Op.{Op}
use Rattle.lk_types.specs.declared.command.Op.TheVariants.{Table, Join, Leave, Raise}
use Rattle.lk_types.specs.declared.entry.Entry.TheVariants.{Promise, Vote, Decided}
use Rattle.lk_store_format.specs.declared.stored.Stored.{Stored}
use Rattle.lk_store_format.specs.declared.stored.Stored.TheVariants.{Base, Plain}

-- 1, or 2, which is written today
abbrev pub IsFormat : ℕ → Type 0
IsFormat n = (1 ≤ n) × (n ≤ 2)

-- the format of the Base at the start; 0 if there is none
abbrev pub format : List Stored → ℕ
format [] = 0
format (Base b ∷ es) = b.format
format (Plain e ∷ es) = 0

abbrev pub asks_raise : Op → Bool
asks_raise (Table bytes) = false
asks_raise (Join node port) = false
asks_raise (Leave node) = false
asks_raise Raise = true

-- the command raises the machine
abbrev pub is_raise : Command → Bool
is_raise Noop = false
is_raise (Request r) = asks_raise r.op

-- the entry has a Raise, in a vote or as a decided command
abbrev pub has_raise : Stored → Bool
has_raise (Base b) =
    list_any (λ v. is_raise v.command) b.standing.votes || list_any (λ p. is_raise p.1) b.standing.pairs
has_raise (Plain (Promise b)) = false
has_raise (Plain (Vote v)) = is_raise v.command
has_raise (Plain (Decided position c)) = is_raise c

-- The Base at the start has format 1, and some entry has a command that raises the machine, which no file of format 1
-- holds.
abbrev pub is_mixed : List Stored → Bool
is_mixed es = format es == 1 && list_any has_raise es
