-- A sealed datagram: its frame, byte by byte.
use Rattle.std.specs.Prelude.{ℕ, List, [], ◌∷◌, ◌++◌, drop, Option, Some, None, if◌then◌else◌, nat_eq}
use Rattle.std.specs.Cmp.Lexicographic.{pointwise}
use Rattle.std.specs.Int.{w32, w64, to_be_bytes}
use Rattle.lk_auth.specs.Hmac.{hmac}
use Rattle.lk_auth.specs.declared.frame.Purpose.{Purpose}
use Rattle.lk_auth.specs.declared.frame.Purpose.TheVariants.{ToNode, Asking, Replying}
use Rattle.lk_auth.specs.declared.frame.Scope.{Scope}

-- 16 letters: "locks v1 to node", "locks v1 request", "locks v1 replies"
abbrev pub label : Purpose → List ℕ
label ToNode = 108 ∷ 111 ∷ 99 ∷ 107 ∷ 115 ∷ 32 ∷ 118 ∷ 49 ∷ 32 ∷ 116 ∷ 111 ∷ 32 ∷ 110 ∷ 111 ∷ 100 ∷ 101 ∷ []
label Asking = 108 ∷ 111 ∷ 99 ∷ 107 ∷ 115 ∷ 32 ∷ 118 ∷ 49 ∷ 32 ∷ 114 ∷ 101 ∷ 113 ∷ 117 ∷ 101 ∷ 115 ∷ 116 ∷ []
label Replying = 108 ∷ 111 ∷ 99 ∷ 107 ∷ 115 ∷ 32 ∷ 118 ∷ 49 ∷ 32 ∷ 114 ∷ 101 ∷ 112 ∷ 108 ∷ 105 ∷ 101 ∷ 115 ∷ []

abbrev pub purpose_byte : Purpose → ℕ
purpose_byte ToNode = 1
purpose_byte Asking = 2
purpose_byte Replying = 3

-- the first bytes of a frame: the letters LS, the version, and the purpose
abbrev pub head : Purpose → List ℕ
head p = 76 ∷ 83 ∷ 1 ∷ purpose_byte p ∷ []

-- the tagged bytes in front of the datagram, which are not sent: the purpose, the cluster, the digest of its genesis,
-- and the receiving node or the client
unfoldable pub front : Scope → List ℕ
front s = label s.purpose ++ (to_be_bytes w64 s.cluster ++ (s.genesis ++ to_be_bytes w32 s.bound))

-- the tag of a datagram
unfoldable pub seal_tag : List ℕ → Scope → List ℕ → List ℕ
seal_tag key s datagram = hmac key (front s ++ datagram)

-- the frame of a datagram: 36 bytes, and the datagram unchanged
unfoldable pub sealed : List ℕ → Scope → List ℕ → List ℕ
sealed key s datagram = head s.purpose ++ (seal_tag key s datagram ++ datagram)

-- what a frame opens to: the datagram of which it is the frame
unfoldable pub opened : List ℕ → Scope → List ℕ → Option (List ℕ)
opened key s frame = if pointwise nat_eq frame (sealed key s (drop 36 frame)) then Some (drop 36 frame) else None
