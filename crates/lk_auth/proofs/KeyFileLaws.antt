-- The lines of a key file, one after another.
use Rattle.std.proofs.Common.{◌≡◌, ◌≢◌, ℕ, ◌==◌, ◌||◌, true, false, List, [], ◌∷◌, ◌++◌, Option, Some, None, refl, sym}
use Rattle.std.proofs.Common.{ap, ◌∙◌, append_assoc}
use Rattle.std.proofs.lemmas.List.{append-nil}
use Rattle.std.specs.Io.KnownBytes.{Appends, Keeps}
use Rattle.std.specs.List.{list_any}
use Rattle.lk_auth.specs.KeyFiles.{IsLine, in_first, lines, keys_in, with_others, one_or_two, key_file}
use Rattle.lk_auth.specs.Seals.{key_list}
use Rattle.lk_auth.specs.declared.keys.Keys.{Keys}
use Rattle.lk_auth.specs.declared.keys.Keys.TheVariants.{NoKey, One, Two}

-- a byte of a line is no line feed
no_feed : (b : ℕ) (line : List ℕ) → IsLine (b ∷ line) → (b == 10) ≡ false
no_feed b line free = elim (b == 10) as (λ x. (x || list_any (λ c. c == 10) line) ≡ false → x ≡ false) [
  | true ↦ λ e. cc e
  | false ↦ λ e. refl
] free

rest_free : (b : ℕ) (line : List ℕ) → IsLine (b ∷ line) → IsLine line
rest_free b line free = elim (b == 10) as (λ x. (x || list_any (λ c. c == 10) line) ≡ false → IsLine line) [
  | true ↦ λ e. cc e
  | false ↦ λ e. e
] free

-- a text with a line feed begins with a line
pub lines_more : (line rest : List ℕ) → IsLine line → lines (line ++ 10 ∷ rest) ≡ line ∷ lines rest
lines_more [] rest free = refl
lines_more (b ∷ line) rest free =
    rw (no_feed b line free) (ap (in_first b) (lines_more line rest (rest_free b line free)))

-- and one without is a line
pub lines_end : (line : List ℕ) → IsLine line → lines line ≡ line ∷ []
lines_end [] free = refl
lines_end (b ∷ line) free = rw (no_feed b line free) (ap (in_first b) (lines_end line (rest_free b line free)))

-- ---- what is read of a file, line by line

-- the keys so far, and those of the lines that are left, are those of the file
abbrev pub ReadSoFar : List ℕ → List (List ℕ) → List ℕ → Type 0
ReadSoFar text keys rest = key_file text ≡ one_or_two (with_others keys (keys_in (lines rest)))

-- a further line, and what stands after it
one_line : (text : List ℕ) (keys : List (List ℕ)) (rest line behind : List ℕ) → IsLine line
    → rest ≡ line ++ 10 ∷ behind → ReadSoFar text keys rest
    → key_file text ≡ one_or_two (with_others keys (keys_in (line ∷ lines behind)))
one_line text keys rest line behind free e so_far =
    so_far ∙ ap (λ (ls : List (List ℕ)). one_or_two (with_others keys (keys_in ls)))
    (ap lines e ∙ lines_more line behind free)

pub line_read : (text : List ℕ) (keys more : List (List ℕ)) (rest line behind : List ℕ) → IsLine line
    → rest ≡ line ++ 10 ∷ behind
    → ((after : List (List ℕ)) → with_others keys (keys_in (line ∷ after)) ≡ with_others more (keys_in after))
    → ReadSoFar text keys rest → ReadSoFar text more behind
line_read text keys more rest line behind free e read so_far =
    one_line text keys rest line behind free e so_far ∙ ap one_or_two (read (lines behind))

pub line_refused : (text : List ℕ) (keys : List (List ℕ)) (rest line behind : List ℕ) → IsLine line
    → rest ≡ line ++ 10 ∷ behind
    → ((after : List (List ℕ)) → one_or_two (with_others keys (keys_in (line ∷ after))) ≡ None)
    → ReadSoFar text keys rest → key_file text ≡ None
line_refused text keys rest line behind free e refused so_far =
    one_line text keys rest line behind free e so_far ∙ refused (lines behind)

-- the last line
last_line : (text : List ℕ) (keys : List (List ℕ)) (rest : List ℕ) → IsLine rest → ReadSoFar text keys rest
    → key_file text ≡ one_or_two (with_others keys (keys_in (rest ∷ [])))
last_line text keys rest free so_far =
    so_far ∙ ap (λ (ls : List (List ℕ)). one_or_two (with_others keys (keys_in ls))) (lines_end rest free)

pub last_read : (text : List ℕ) (keys more : List (List ℕ)) (rest : List ℕ) → IsLine rest
    → ((after : List (List ℕ)) → with_others keys (keys_in (rest ∷ after)) ≡ with_others more (keys_in after))
    → ReadSoFar text keys rest → key_file text ≡ one_or_two (Some (more ++ []))
last_read text keys more rest free read so_far = last_line text keys rest free so_far ∙ ap one_or_two (read [])

pub last_refused : (text : List ℕ) (keys : List (List ℕ)) (rest : List ℕ) → IsLine rest
    → ((after : List (List ℕ)) → one_or_two (with_others keys (keys_in (rest ∷ after))) ≡ None)
    → ReadSoFar text keys rest → key_file text ≡ None
last_refused text keys rest free refused so_far = last_line text keys rest free so_far ∙ refused []

-- keys are one or two, or none
pub some_keys : (keys : Keys) → key_list keys ≢ [] → one_or_two (Some (key_list keys ++ [])) ≡ Some (key_list keys)
some_keys NoKey some = absurd (some refl)
some_keys (One key) some = refl
some_keys (Two first second) some = refl

pub no_keys : (keys : Keys) → key_list keys ≡ [] → one_or_two (Some (key_list keys ++ [])) ≡ None
no_keys NoKey none = refl
no_keys (One key) none = absurd cc
no_keys (Two first second) none = absurd cc

-- ---- what is written

pub appends_more : (a b c : Option (List ℕ)) (x y : List ℕ) → Appends a b x → Appends b c y → Appends a c (x ++ y)
appends_more None b c x y f g = tt
appends_more (Some xs) None c x y f g = absurd f
appends_more (Some xs) (Some ys) None x y f g = absurd g
appends_more (Some xs) (Some ys) (Some zs) x y f g = g ∙ ap (λ (t : List ℕ). t ++ y) f ∙ append_assoc xs x y

pub appends_nothing : (a : Option (List ℕ)) → Appends a a []
appends_nothing None = tt
appends_nothing (Some xs) = sym (append-nil xs)

pub appends_kept : (a b c : Option (List ℕ)) (x : List ℕ) → Appends a b x → Keeps b c → Appends a c x
appends_kept None b c x f g = tt
appends_kept (Some xs) None c x f g = absurd f
appends_kept (Some xs) (Some ys) None x f g = absurd g
appends_kept (Some xs) (Some ys) (Some zs) x f g = g ∙ f
