-- Which entries of a list of commands take effect.
pub use Rattle.lk_types.specs.declared.command.Request.{Request as RequestValue}
pub use Rattle.lk_types.specs.declared.command.Command.{Command}
pub use Rattle.lk_types.specs.declared.command.Command.TheVariants.{Noop, Request}
use Rattle.std.specs.Prelude.{◌≡◌, ℕ, Bool, true, not, ◌||◌, ◌==◌, nat_lt, nat_le, if◌then◌else◌, Option, Some, None}
use Rattle.std.specs.Prelude.{List, [], ◌∷◌, ◌++◌, Contains}
use Rattle.std.specs.List.{list_all, filter_map}

-- the entry is no request of this client with the same number or a greater one
abbrev pub is_older : RequestValue → Command → Bool
is_older r Noop = true
is_older r (Request s) = not (s.client == r.client) || nat_lt s.number r.number

-- the request of the entry, if it takes effect after these entries: its number is above all of its client's before it
abbrev pub in_effect : List Command → Command → Option RequestValue
in_effect before Noop = None
in_effect before (Request r) = if list_all (is_older r) before then Some r else None

-- an entry, and the entries before it
pub record PositionedEntry : Type 0 where
  pub before : List Command
  pub entry : Command

-- each entry of `rest`, which follows `before`, with the entries before it
abbrev pub positioned_after : List Command → List Command → List PositionedEntry
positioned_after before [] = []
positioned_after before (c ∷ rest) = record { before = before; entry = c } ∷ positioned_after (before ++ c ∷ []) rest

-- each entry of the list with the entries before it
unfoldable pub positioned : List Command → List PositionedEntry
positioned L = positioned_after [] L

-- the requests that take effect, in order
unfoldable pub effects : List Command → List RequestValue
effects L = filter_map (λ p. in_effect p.before p.entry) (positioned L)

-- ---- the last request of a client

-- the entry is no request of this client
abbrev pub is_of_another : ℕ → Command → Bool
is_of_another client Noop = true
is_of_another client (Request r) = not (r.client == client)

-- the entry is no request of this client with a greater number
abbrev pub is_at_most : ℕ → ℕ → Command → Bool
is_at_most client number Noop = true
is_at_most client number (Request r) = not (r.client == client) || nat_le r.number number

-- the greatest number that the client used in the list
pub record IsLast (L : List Command) (client number : ℕ) : Type 0 where
  pub request : RequestValue
  pub used : Contains L (Request request)
  pub of_client : request.client ≡ client
  pub of_number : request.number ≡ number
  pub greatest : list_all (is_at_most client number) L ≡ true
