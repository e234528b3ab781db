-- A table of the clients' keys.
use Rattle.std.specs.Prelude.{◌≡◌, ℕ, List, Some, slice_get}
use Rattle.lk_auth.specs.Clients.{client_keys}
use Rattle.lk_auth.specs.KeyLists.{key_list}
use Rattle.lk_auth.specs.declared.keys.Keys.{Keys}

-- each entry has the keys that the masters yield for the client of its number
pub record IsTable (masters : Keys) (table : List Keys) : Type 0 where
  pub at : (client : ℕ) (keys : Keys) → slice_get table client ≡ Some keys
      → key_list keys ≡ client_keys client (key_list masters)
