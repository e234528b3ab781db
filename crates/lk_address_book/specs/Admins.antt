-- Which clients are admins, and which requests of others a node drops.
use Rattle.std.specs.Prelude.{ℕ, Bool, true, false, ◌==◌, ◌||◌, ◌&&◌, not, if◌then◌else◌, List, [], ◌∷◌, get_or}
use Rattle.std.specs.Prelude.{slice_set, replicate}
use Rattle.lk_auth.specs.Clients.{client_in}
use Rattle.lk_types.specs.declared.command.Op.{Op}
use Rattle.lk_types.specs.declared.command.Op.TheVariants.{Table, Join, Leave, Raise}
use Rattle.lk_address_book.specs.declared.admins.Admins.{Admins}
use Rattle.lk_address_book.specs.declared.admins.Admins.TheVariants.{Everyone, Listed}

-- it begins as a client's request does, with the letters LK, and has its kind
abbrev pub is_request : List ℕ → Bool
is_request (l ∷ k ∷ v ∷ kind ∷ rest) = if l == 76 then (if k == 75 then kind == 9 else false) else false
is_request _ = false

-- an administrative op: a Join (1), a Leave (2), a Raise (3), or one of the table (0) whose body is a Break (6)
abbrev pub is_administrative_op : ℕ → ℕ → Bool
is_administrative_op op body = if op == 0 then body == 6 else (op == 1 || (op == 2 || op == 3))

-- it is a request with such an op, which is at offset 26; the body of one of the table begins at offset 28. A byte that
-- is not there counts as 0
abbrev pub is_administrative : List ℕ → Bool
is_administrative d = is_request d && is_administrative_op (get_or d 26 0) (get_or d 28 0)

-- whether a client is an admin
abbrev pub is_admin : Admins → ℕ → Bool
is_admin Everyone client = true
is_admin (Listed flags) client = get_or flags client false

-- it is an administrative request of a client that is no admin
abbrev pub bars : Admins → List ℕ → Bool
bars a d = is_administrative d && not (is_admin a (client_in d))

-- a list of no client: no number from 0 to 256 is on it
abbrev pub nobody : Admins
nobody = Listed (replicate 257 false)

-- the same list with that client; everyone stays everyone
abbrev pub admitting : ℕ → Admins → Admins
admitting client Everyone = Everyone
admitting client (Listed flags) = Listed (slice_set flags client true)

-- an op is administrative: a Join, a Leave, a Raise, or one of the table whose body begins as that of a Break
abbrev pub changes_cluster : Op → Bool
changes_cluster (Table body) = get_or body 0 0 == 6
changes_cluster (Join node port) = true
changes_cluster (Leave node) = true
changes_cluster Raise = true
