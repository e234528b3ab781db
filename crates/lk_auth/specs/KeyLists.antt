-- Keys as a list.
use Rattle.std.specs.Prelude.{ℕ, List, [], ◌∷◌}
use Rattle.lk_auth.specs.declared.keys.Keys.{Keys}
use Rattle.lk_auth.specs.declared.keys.Keys.TheVariants as keys

-- the keys: the first one seals, each of them opens
abbrev pub key_list : Keys → List (List ℕ)
key_list keys.NoKey = []
key_list (keys.One key) = key ∷ []
key_list (keys.Two first second) = first ∷ second ∷ []
