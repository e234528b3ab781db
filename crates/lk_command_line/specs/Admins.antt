-- The admins that the word of an argument names.
use Rattle.std.specs.Prelude.{◌≡◌, ℕ, List, ◌∷◌, ◌++◌, Option, None, Some}
use Rattle.lk_types.specs.Ranges.{IsClient}
use Rattle.lk_address_book.specs.Admins.{nobody, admitting}
use Rattle.lk_address_book.specs.declared.admins.Admins.{Admins}
use Rattle.lk_address_book.specs.declared.admins.Admins.TheVariants.{Everyone}
use Rattle.lk_command_line.specs.Arguments.{Names}
use Rattle.lk_command_line.specs.Spellings.{Spells}
use Rattle.lk_command_line.specs.declared.argument_error.ArgumentError.{ArgumentError}

-- the words spell clients, one or more, separated by commas, and adding them to the first list, in order, gives the
-- second
pub data AddsClients : List ℕ → Admins → Admins → Type 0 where
  one : (client : ℕ) (word : List ℕ) (list : Admins) → Spells IsClient word client
      → AddsClients word list (admitting client list)
  more : (client : ℕ) (word rest : List ℕ) (list all : Admins) → Spells IsClient word client
      → AddsClients rest (admitting client list) all → AddsClients (word ++ 44 ∷ rest) list all

-- the admins are the clients that the word spells; without a word each client is one
abbrev pub AreAdmins : Option (List ℕ) → Admins → Type 0
AreAdmins None admins = admins ≡ Everyone
AreAdmins (Some word) admins = AddsClients word nobody admins

-- the error of an argument whose word spells no clients
abbrev pub IsNoList : List ℕ → List ℕ → ArgumentError → Type 0
IsNoList name word e = ((admins : Admins) → AddsClients word nobody admins → ⊥) × Names name word e
