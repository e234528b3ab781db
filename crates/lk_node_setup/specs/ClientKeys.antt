-- The key file that `locks client-key` prints for a client.
use Rattle.std.specs.Prelude.{ℕ, List, Option}
use Rattle.std.specs.Io.KnownBytes.{Appends}
use Rattle.lk_auth.specs.Clients.{client_keys}
use Rattle.lk_auth.specs.KeyFiles.{key_lines}
use Rattle.lk_node_setup.specs.Named.{IsKeyFileAt}

-- the file of this path is a key file of masters, and a key file with the keys that these make for the client is what
-- the output grows by. `is_text` says which bytes a file had
pub record PrintsOf (is_text : List ℕ → List ℕ → Type 0) (path : List ℕ) (client : ℕ)
    (old new : Option (List ℕ)) : Type 0 where
  pub masters : List (List ℕ)
  pub read : IsKeyFileAt is_text path masters
  pub printed : Appends old new (key_lines (client_keys client masters))
