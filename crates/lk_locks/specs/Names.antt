-- What may be the name of a lock.
use Rattle.std.specs.Prelude.{ℕ, Bool, nat_le, ◌&&◌, ◌||◌, ◌==◌, List, length, IsTrue}
use Rattle.std.specs.List.{list_all}

-- a to z, 0 to 9, and the three signs - . /
abbrev pub is_name_byte : ℕ → Bool
is_name_byte b = (nat_le 97 b && nat_le b 122) || (nat_le 48 b && nat_le b 57) || b == 45 || b == 46 || b == 47

-- 1 to 32 of these bytes
abbrev pub is_name : List ℕ → Bool
is_name bytes = nat_le 1 (length bytes) && nat_le (length bytes) 32 && list_all is_name_byte bytes

abbrev pub IsName : List ℕ → Type 0
IsName bytes = IsTrue (is_name bytes)
