-- A bundle: several datagrams to one address in one UDP payload, byte by byte.
use Rattle.std.specs.Prelude.{◌≡◌, ℕ, ◌<◌, ◌≤◌, ◌^◌, Bool, nat_le, List, [], ◌∷◌, ◌++◌, length, take, drop, Option}
use Rattle.std.specs.List.{flat_map, AllByRecursion}
use Rattle.lk_codec.specs.Fields.{two}
use Rattle.lk_codec.specs.FieldReading.{read_two}
use Rattle.lk_codec.specs.Parser.{many, sized, tested}
use Rattle.lk_messages.specs.Views.{IsAll, value_or}

-- the first bytes: the letters LB, the version, and a zero
abbrev pub head : List ℕ
head = 76 ∷ 66 ∷ 1 ∷ 0 ∷ []

-- a datagram in a bundle: its length in two bytes, and then its bytes, unchanged
abbrev pub piece : List ℕ → List ℕ
piece datagram = two (length datagram) ++ datagram

-- a datagram that can be bundled: no datagram of the protocol is shorter than its header of 16 bytes
abbrev pub IsPiece : List ℕ → Type 0
IsPiece datagram = (16 ≤ length datagram) × (length datagram < 2 ^ 16)

abbrev pub bundle : List (List ℕ) → List ℕ
bundle datagrams = head ++ flat_map piece datagrams

-- what is sent for these datagrams to one address: a single one goes bare
abbrev pub payload : List (List ℕ) → List ℕ
payload [] = bundle []
payload (one ∷ []) = one
payload (one ∷ (other ∷ more)) = bundle (one ∷ (other ∷ more))

-- the grammar: the bytes are the bundle of these datagrams, which are two or more
pub record Bundles (datagrams : List (List ℕ)) (bytes : List ℕ) : Type 0 where
  pub fit : AllByRecursion IsPiece datagrams
  pub several : 2 ≤ length datagrams
  pub is : bytes ≡ bundle datagrams

-- ---- reading

abbrev pub is_long : List ℕ → Bool
is_long datagram = nat_le 16 (length datagram)

-- the datagram of the first piece, and the bytes behind it
abbrev pub read_piece : List ℕ → Option (List ℕ × List ℕ)
read_piece = tested is_long (sized read_two)

-- the datagrams of these pieces, this many
abbrev pub datagrams_in : ℕ → List ℕ → List (List ℕ)
datagrams_in count bytes = value_or [] (many read_piece count bytes)

-- the bytes are this many pieces, and nothing else
abbrev pub ArePieces : ℕ → List ℕ → Type 0
ArePieces count bytes = IsAll (many read_piece count) (datagrams_in count bytes) bytes

-- the bytes are a bundle of this many datagrams
pub record IsBundleOf (count : ℕ) (bytes : List ℕ) : Type 0 where
  pub count_is : length (datagrams_in count (drop 4 bytes)) ≡ count
  pub fit : AllByRecursion IsPiece (datagrams_in count (drop 4 bytes))
  pub is : bytes ≡ bundle (datagrams_in count (drop 4 bytes))

-- the first datagram is taken; of a longer one only that many bytes
pub record TakesFirst (limit : ℕ) (old : List (List ℕ)) (taken : List ℕ) (new : List (List ℕ)) : Type 0 where
  pub first : List ℕ
  pub is : old ≡ first ∷ new
  pub bytes : taken ≡ take limit first
