-- Requests that wait to be proposed: in order of arrival, one a client.
pub use Rattle.lk_types.specs.declared.command.Request.{Request as RequestValue}
use Rattle.std.specs.List.{AllByRecursion}
use Rattle.std.specs.Prelude.{◌≡◌, ℕ, false, nat_lt, nat_le, ◌==◌, if◌then◌else◌, Option, Some, None, List, [], ◌∷◌}
use Rattle.std.specs.Prelude.{find}

-- which of two requests of a client waits: the later one, if its number is greater
abbrev pub newer : RequestValue → RequestValue → RequestValue
newer r q = if nat_lt q.number r.number then r else q

-- what waits after this request was asked: a client's first waits after the others, a later one can replace the first
abbrev pub asked : RequestValue → List RequestValue → List RequestValue
asked r [] = r ∷ []
asked r (q ∷ qs) = if r.client == q.client then newer r q ∷ qs else q ∷ asked r qs

-- the request of the client that waits
abbrev pub waiting_of : ℕ → List RequestValue → Option RequestValue
waiting_of client qs = find (λ q. client == q.client) qs

-- its number, if it is at most this one
abbrev pub number_up_to : ℕ → Option RequestValue → Option ℕ
number_up_to number None = None
number_up_to number (Some q) = if nat_le q.number number then Some q.number else None

-- what waits after the client's requests up to the number are complete
abbrev pub left_by : ℕ → ℕ → List RequestValue → List RequestValue
left_by client number [] = []
left_by client number (q ∷ qs) =
    if client == q.client then (if nat_le q.number number then qs else q ∷ qs) else q ∷ left_by client number qs

-- no two of the requests are of one client
abbrev pub AreOneEach : List RequestValue → Type 0
AreOneEach [] = Unit {0}
AreOneEach (q ∷ qs) = AllByRecursion (λ r. (q.client == r.client) ≡ false) qs × AreOneEach qs
