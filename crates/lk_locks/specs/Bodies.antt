-- The bodies of requests to the lock table, as bytes.
use Rattle.std.specs.Prelude.{◌≡◌, ℕ, Bool, true, List, ◌∷◌, ◌++◌, length, Option, Some, None, if◌then◌else◌}
use Rattle.lk_types.specs.Ranges.{IsCount}
use Rattle.lk_codec.specs.Fields.{eight}
use Rattle.lk_codec.specs.FieldReading.{read_count}
use Rattle.lk_codec.specs.Parser.{read_byte, sized, both, made, tested, tagged, kind, no_kind, whole}
use Rattle.lk_locks.specs.Names.{IsName, is_name}
use Rattle.lk_locks.specs.declared.body.Body.{Body}
use Rattle.lk_locks.specs.declared.body.Body.TheVariants.{Acquire, Release, Ask, Check, Share, Break}

-- a name after its length
abbrev pub lock_name : List ℕ → List ℕ
lock_name name = length name ∷ name

-- a name and a fence
abbrev pub name_and_fence : List ℕ × ℕ → List ℕ
name_and_fence p = lock_name p.0 ++ eight p.1

abbrev pub body_tag : Body → ℕ
body_tag (Acquire name) = 1
body_tag (Release name fence) = 2
body_tag (Ask name) = 3
body_tag (Check name fence) = 4
body_tag (Share name) = 5
body_tag (Break name fence) = 6

abbrev pub body_fields : Body → List ℕ
body_fields (Acquire name) = lock_name name
body_fields (Release name fence) = name_and_fence (name, fence)
body_fields (Ask name) = lock_name name
body_fields (Check name fence) = name_and_fence (name, fence)
body_fields (Share name) = lock_name name
body_fields (Break name fence) = name_and_fence (name, fence)

-- the bytes of a body
abbrev pub spelling : Body → List ℕ
spelling body = body_tag body ∷ body_fields body

-- its parts are in their ranges
abbrev pub IsBody : Body → Type 0
IsBody (Acquire name) = IsName name
IsBody (Release name fence) = IsName name × IsCount fence
IsBody (Ask name) = IsName name
IsBody (Check name fence) = IsName name × IsCount fence
IsBody (Share name) = IsName name
IsBody (Break name fence) = IsName name × IsCount fence

-- the grammar: the bytes are those of the body
abbrev pub SpellsBody : Body → List ℕ → Type 0
SpellsBody body bytes = IsBody body × (bytes ≡ spelling body)

-- ---- the same, from the bytes to the body

unfoldable pub read_name : List ℕ → Option (List ℕ × List ℕ)
read_name = tested is_name (sized read_byte)

unfoldable pub read_name_and_fence : List ℕ → Option ((List ℕ × ℕ) × List ℕ)
read_name_and_fence = both read_name read_count

-- reads what follows the first byte of a body
unfoldable pub fields_of : ℕ → List ℕ → Option (Body × List ℕ)
fields_of =
    kind 1 (made Acquire read_name)
    (kind 2 (made (λ p. Release p.0 p.1) read_name_and_fence)
    (kind 3 (made Ask read_name)
    (kind 4 (made (λ p. Check p.0 p.1) read_name_and_fence)
    (kind 5 (made Share read_name)
    (kind 6 (made (λ p. Break p.0 p.1) read_name_and_fence)
    no_kind)))))

-- the body of which these are all the bytes, if they are one
unfoldable pub body_of : List ℕ → Option Body
body_of = whole (tagged fields_of)

-- ---- the name of a body, and which table knows it

abbrev pub name_of : Body → List ℕ
name_of (Acquire name) = name
name_of (Release name fence) = name
name_of (Ask name) = name
name_of (Check name fence) = name
name_of (Share name) = name
name_of (Break name fence) = name

-- only a raised table knows shared names and Break
abbrev pub is_known : Bool → Body → Bool
is_known raised (Share name) = raised
is_known raised (Break name fence) = raised
is_known raised (Acquire name) = true
is_known raised (Release name fence) = true
is_known raised (Ask name) = true
is_known raised (Check name fence) = true

-- the body, if the table knows it
abbrev pub known : Bool → Option Body → Option Body
known raised None = None
known raised (Some body) = if is_known raised body then Some body else None
