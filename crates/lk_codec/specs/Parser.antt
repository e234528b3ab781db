-- Parser combinators: a parser returns the value at the start of a list and the bytes after it.
use Rattle.std.specs.Prelude.{◌≡◌, ℕ, zero, suc, Bool, List, [], ◌∷◌, length, take, drop, Option, Some, None, nat_lt}
use Rattle.std.specs.Prelude.{◌==◌, if◌then◌else◌}
use Rattle.std.specs.Int.{Width, byte_len, from_be_bytes}

infixl 10 ◌>>=◌
abbrev pub ◌>>=◌ : {A B : Type 0} → Option A → (A → Option B) → Option B
(Some x) >>= f = f x
None >>= f = None

-- a function returned, in the form that `shown` gives it, what the parser returns
abbrev pub Finds : {X Y : Type 0} → (X → Y) → Option X → Option Y → Type 0
Finds shown (Some x) read = read ≡ Some (shown x)
Finds shown None read = read ≡ None

abbrev pub read_byte : List ℕ → Option (ℕ × List ℕ)
read_byte [] = None
read_byte (b ∷ rest) = Some (b, rest)

-- a number of this many bytes
abbrev pub read_number : Width → List ℕ → Option (ℕ × List ℕ)
read_number w bytes = if nat_lt (length bytes) (byte_len w) then None else Some
    (from_be_bytes w (take (byte_len w) bytes), drop (byte_len w) bytes)

-- a length, which c reads, and so many bytes
abbrev pub sized : (List ℕ → Option (ℕ × List ℕ)) → List ℕ → Option (List ℕ × List ℕ)
sized c bytes = c bytes >>= λ n. if nat_lt (length n.1) n.0 then None else Some (take n.0 n.1, drop n.0 n.1)

module _ {X Y : Type 0} where
  -- runs p and then q, and pairs their values
  abbrev pub both : (List ℕ → Option (X × List ℕ)) → (List ℕ → Option (Y × List ℕ)) → List ℕ → Option ((X × Y) × List ℕ)
  both p q bytes = p bytes >>= λ a. q a.1 >>= λ b. Some ((a.0, b.0), b.1)

  -- applies f to the value that p reads
  abbrev pub made : (X → Y) → (List ℕ → Option (X × List ℕ)) → List ℕ → Option (Y × List ℕ)
  made f p bytes = p bytes >>= λ a. Some (f a.0, a.1)

module _ {X : Type 0} where
  -- fails if the value that p reads does not pass the test
  abbrev pub tested : (X → Bool) → (List ℕ → Option (X × List ℕ)) → List ℕ → Option (X × List ℕ)
  tested t p bytes = p bytes >>= λ a. if t a.0 then Some a else None

  -- runs p this many times
  abbrev pub many : (List ℕ → Option (X × List ℕ)) → ℕ → List ℕ → Option (List X × List ℕ)
  many p zero bytes = Some ([], bytes)
  many p (suc n) bytes = p bytes >>= λ a. many p n a.1 >>= λ b. Some (a.0 ∷ b.0, b.1)

  -- reads a count by c, and then so many values by p
  abbrev pub counted : (List ℕ → Option (ℕ × List ℕ)) → (List ℕ → Option (X × List ℕ)) → List ℕ
      → Option (List X × List ℕ)
  counted c p bytes = c bytes >>= λ n. many p n.0 n.1

  -- reads a tag in one byte, and then by the parser that q gives for the tag
  abbrev pub tagged : (ℕ → List ℕ → Option (X × List ℕ)) → List ℕ → Option (X × List ℕ)
  tagged q bytes = read_byte bytes >>= λ t. q t.0 t.1

  -- runs p after the tag k, and the parser of `others` after any other tag
  abbrev pub kind : ℕ → (List ℕ → Option (X × List ℕ)) → (ℕ → List ℕ → Option (X × List ℕ)) → ℕ
      → List ℕ → Option (X × List ℕ)
  kind k p others tag bytes = if tag == k then p bytes else others tag bytes

  -- returns x and reads nothing: a tag without fields
  abbrev pub bare : X → List ℕ → Option (X × List ℕ)
  bare x bytes = Some (x, bytes)

  -- fails: the tag is unknown
  abbrev pub no_kind : ℕ → List ℕ → Option (X × List ℕ)
  no_kind tag bytes = None

  -- fails if p leaves bytes unread
  abbrev pub whole : (List ℕ → Option (X × List ℕ)) → List ℕ → Option X
  whole p bytes = p bytes >>= λ a. if nat_lt 0 (length a.1) then None else Some a.0

-- the bytes after the value that p reads
abbrev pub past : {X : Type 0} → (List ℕ → Option (X × List ℕ)) → List ℕ → Option (List ℕ)
past p bytes = p bytes >>= λ a. Some a.1
