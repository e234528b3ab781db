-- Sets of clients that share a name, as lists that rise.
use Rattle.std.specs.Prelude.{ℕ, ◌≤◌, Bool, true, not, nat_lt, ◌==◌, ◌&&◌, List, [], ◌∷◌, length, filter, IsTrue}
use Rattle.std.specs.Prelude.{if◌then◌else◌}
use Rattle.std.specs.List.{list_any, AllByRecursion}
use Rattle.lk_types.specs.Limits.{max_sharers}
use Rattle.lk_types.specs.Ranges.{IsClient}

-- each client is above the one before, the first above low
abbrev pub are_clients_above : ℕ → List ℕ → Bool
are_clients_above low [] = true
are_clients_above low (c ∷ cs) = nat_lt low c && are_clients_above c cs

-- 1 to 8 clients, strictly rising
abbrev pub AreSharers : List ℕ → Type 0
AreSharers cs =
    (1 ≤ length cs) × (length cs ≤ max_sharers) × AllByRecursion IsClient cs × IsTrue (are_clients_above 0 cs)

abbrev pub is_among : ℕ → List ℕ → Bool
is_among client cs = list_any (λ c. c == client) cs

-- the clients with one more, in order
abbrev pub with_client : ℕ → List ℕ → List ℕ
with_client client [] = client ∷ []
with_client client (c ∷ cs) =
    if nat_lt client c then client ∷ c ∷ cs
    else if c == client then c ∷ cs
    else c ∷ with_client client cs

-- the clients without this one
abbrev pub without : ℕ → List ℕ → List ℕ
without client cs = filter (λ c. not (c == client)) cs

-- the first of them, and so the least
abbrev pub least : List ℕ → ℕ
least [] = 0
least (c ∷ cs) = c
