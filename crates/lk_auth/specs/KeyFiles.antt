-- Key files: a key in each line, in hex digits.
use Rattle.std.specs.Prelude.{◌≡◌, ◌==◌, ℕ, Bool, true, false, List, [], ◌∷◌, ◌++◌, Option, Some, None, if◌then◌else◌}
use Rattle.std.specs.List.{flat_map, list_any}
use Rattle.std.specs.Result.{result_ok}
use Rattle.hex.specs.Hex.{decode_sized, encode_lower}

-- these lines, with a byte put in front of the first one
abbrev pub in_first : ℕ → List (List ℕ) → List (List ℕ)
in_first byte [] = (byte ∷ []) ∷ []
in_first byte (line ∷ lines) = (byte ∷ line) ∷ lines

-- the lines of a text, separated by line feeds
abbrev pub lines : List ℕ → List (List ℕ)
lines [] = [] ∷ []
lines (byte ∷ text) = if byte == 10 then [] ∷ lines text else in_first byte (lines text)

-- it has no line feed
abbrev pub IsLine : List ℕ → Type 0
IsLine text = list_any (λ b. b == 10) text ≡ false

-- it is empty, or a comment, which begins with #
abbrev pub is_blank_or_comment : List ℕ → Bool
is_blank_or_comment [] = true
is_blank_or_comment (byte ∷ line) = byte == 35

-- the key that a line spells in 64 hex digits
abbrev pub key_in : List ℕ → Option (List ℕ)
key_in line = result_ok (decode_sized line 32)

-- a key and those after it, if all are there
abbrev pub both : Option (List ℕ) → Option (List (List ℕ)) → Option (List (List ℕ))
both None keys = None
both (Some key) None = None
both (Some key) (Some keys) = Some (key ∷ keys)

-- the keys that lines spell. None if a line is no key, not empty and no comment
abbrev pub keys_in : List (List ℕ) → Option (List (List ℕ))
keys_in [] = Some []
keys_in (line ∷ lines) = if is_blank_or_comment line then keys_in lines else both (key_in line) (keys_in lines)

-- one key or two
abbrev pub one_or_two : Option (List (List ℕ)) → Option (List (List ℕ))
one_or_two None = None
one_or_two (Some []) = None
one_or_two (Some (key ∷ [])) = Some (key ∷ [])
one_or_two (Some (first ∷ second ∷ [])) = Some (first ∷ second ∷ [])
one_or_two (Some (first ∷ second ∷ third ∷ keys)) = None

-- the keys of a key file, which are one or two
abbrev pub key_file : List ℕ → Option (List (List ℕ))
key_file text = one_or_two (keys_in (lines text))

-- the text of a key file with these keys
abbrev pub key_lines : List (List ℕ) → List ℕ
key_lines keys = flat_map (λ key. encode_lower key ++ 10 ∷ []) keys

-- keys, and then others if they are there
abbrev pub with_others : List (List ℕ) → Option (List (List ℕ)) → Option (List (List ℕ))
with_others keys None = None
with_others keys (Some others) = Some (keys ++ others)
