-- The key of each client.
use Rattle.std.specs.Prelude.{ℕ, List, [], ◌∷◌, ◌++◌, get_or}
use Rattle.std.specs.Int.{w16, to_be_bytes, from_be_bytes}
use Rattle.lk_auth.specs.Hmac.{hmac}

-- 15 letters: "locks v1 client"
abbrev pub client_label : List ℕ
client_label = 108 ∷ 111 ∷ 99 ∷ 107 ∷ 115 ∷ 32 ∷ 118 ∷ 49 ∷ 32 ∷ 99 ∷ 108 ∷ 105 ∷ 101 ∷ 110 ∷ 116 ∷ []

-- the key of a client, derived from a master
unfoldable pub client_key : ℕ → List ℕ → List ℕ
client_key client master = hmac master (client_label ++ to_be_bytes w16 client)

-- the keys of a client, derived from the masters
abbrev pub client_keys : ℕ → List (List ℕ) → List (List ℕ)
client_keys client [] = []
client_keys client (master ∷ masters) = client_key client master ∷ client_keys client masters

-- the client that a request names: two bytes of the datagram, or zeros if they are not there
abbrev pub client_in : List ℕ → ℕ
client_in datagram = from_be_bytes w16 (get_or datagram 16 0 ∷ get_or datagram 17 0 ∷ [])
