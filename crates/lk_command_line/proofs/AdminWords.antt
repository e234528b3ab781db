-- Words of clients, read in one way.
use Rattle.std.proofs.Common.{◌≡◌, ℕ, List, ◌∷◌, ◌++◌, sym, subst, ◌∙◌, arith}
use Rattle.std.specs.Fmt.{decimal}
use Rattle.std.proofs.lemmas.Fmt.{decimal_injective}
use Rattle.lk_types.specs.Ranges.{IsClient}
use Rattle.lk_word_parsers.specs.Words.{HasNo}
use Rattle.lk_word_parsers.proofs.Splits.{one_parting, has_sign, number_has_no}
use Rattle.lk_address_book.specs.Admins.{nobody, admitting}
use Rattle.lk_address_book.specs.declared.admins.Admins.{Admins}
use Rattle.lk_command_line.specs.Spellings.{Spells, SpellsNone}
use Rattle.lk_command_line.specs.Admins.{AddsClients}
use Rattle.lk_command_line.specs.Admins.AddsClients.{one, more}

-- a client's word has no comma
has_no_comma : (client : ℕ) (word : List ℕ) → Spells IsClient word client → HasNo 44 word
has_no_comma client word is =
    subst (HasNo 44) (sym is.1) (number_has_no 44 (omega arith) client (omega (arith, is.0.1)))

-- a word spells one client
client_once : (m n : ℕ) (word : List ℕ) → Spells IsClient word m → Spells IsClient word n → m ≡ n
client_once m n word a b =
    decimal_injective m n (omega (arith, a.0.1)) (omega (arith, b.0.1)) (sym a.1 ∙ b.1)

-- the first of several
first_client : (words word behind : List ℕ) (list all : Admins) → HasNo 44 word → words ≡ word ++ 44 ∷ behind
    → AddsClients words list all
    → (client : ℕ) × Spells IsClient word client × AddsClients behind (admitting client list) all
first_client words word behind list _ free e (one client _ _ is) =
    absurd (has_sign 44 word behind (subst (HasNo 44) e (has_no_comma client words is)))
first_client _ word behind list all free e (more client w rest _ _ is spelled) =
    let parts = one_parting 44 w word rest behind (has_no_comma client w is) free e in (
      client,
      subst (λ (t : List ℕ). Spells IsClient t client) parts.0 is,
      subst (λ (t : List ℕ). AddsClients t (admitting client list) all) parts.1 spelled,
    )

-- the last one
last_client : (words : List ℕ) (list all : Admins) → HasNo 44 words → AddsClients words list all
    → (client : ℕ) × Spells IsClient words client
last_client words list _ free (one client _ _ is) = (client, is)
last_client _ list all free (more client w rest _ _ is spelled) = absurd (has_sign 44 w rest free)

-- the clients read so far, and the words left
abbrev pub ReadSoFar : List ℕ → Admins → List ℕ → Type 0
ReadSoFar words admins rest =
    ((all : Admins) → AddsClients rest admins all → AddsClients words nobody all)
    × ((all : Admins) → AddsClients words nobody all → AddsClients rest admins all)

pub nothing_read : (words : List ℕ) → ReadSoFar words nobody words
nothing_read words = (λ all is. is, λ all is. is)

pub one_read : (words rest word behind : List ℕ) (admins : Admins) (client : ℕ) → HasNo 44 word
    → rest ≡ word ++ 44 ∷ behind → Spells IsClient word client → ReadSoFar words admins rest
    → ReadSoFar words (admitting client admins) behind
one_read words rest word behind admins client free e is so_far = (
  λ all left. so_far.0 all (subst (λ (t : List ℕ). AddsClients t admins all) (sym e)
      (more client word behind admins all is left)),
  λ all spelled.
      let first = first_client rest word behind admins all free e (so_far.1 all spelled) in
      subst (λ (n : ℕ). AddsClients behind (admitting n admins) all) (client_once first.0 client word first.1 is)
      first.2,
)

pub last_read : (words rest : List ℕ) (admins : Admins) (client : ℕ) → Spells IsClient rest client
    → ReadSoFar words admins rest → AddsClients words nobody (admitting client admins)
last_read words rest admins client is so_far = so_far.0 (admitting client admins) (one client rest admins is)

-- a word that spells no client
pub no_client : (words rest word behind : List ℕ) (admins : Admins) → HasNo 44 word → rest ≡ word ++ 44 ∷ behind
    → SpellsNone IsClient word → ReadSoFar words admins rest → (all : Admins) → AddsClients words nobody all → ⊥
no_client words rest word behind admins free e none so_far all spelled =
    let first = first_client rest word behind admins all free e (so_far.1 all spelled) in
    none first.0 first.1.0 first.1.1

pub no_last : (words rest : List ℕ) (admins : Admins) → HasNo 44 rest → SpellsNone IsClient rest
    → ReadSoFar words admins rest → (all : Admins) → AddsClients words nobody all → ⊥
no_last words rest admins free none so_far all spelled =
    let last = last_client rest admins all free (so_far.1 all spelled) in
    none last.0 last.1.0 last.1.1
