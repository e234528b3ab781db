-- The front of an entry, and of what is torn, is torn.
use Rattle.std.proofs.Common.{◌≡◌, ℕ, ◌+◌, ◌-◌, ◌^◌, ◌<◌, ◌≤◌, true, ltb, leb, ◌&&◌, ◌||◌, inl, inr, List, [], ◌++◌}
use Rattle.std.proofs.Common.{length, take, refl, ap, ◌∙◌, arith, length-append}
use Rattle.std.specs.Int.{w32, to_be_bytes, from_be_bytes}
use Rattle.std.proofs.Math.Seq.{take-append-add}
use Rattle.std.proofs.lemmas.Bool.{cases_lt}
use Rattle.std.proofs.lemmas.Bool.Decides.{nat_tests}
use Rattle.std.proofs.lemmas.List.{take-take, take_at, length-take}
use Rattle.std.proofs.lemmas.Nat.{from_be_bytes-to_be_bytes_4}
use Rattle.lk_codec.specs.Fields.{four}
use Rattle.lk_codec.proofs.Spellings.{length-four}
use Rattle.lk_store_format.specs.Entries.{body, spelling, IsStored}
use Rattle.lk_store_format.specs.Files.{stated_length, is_torn}
use Rattle.lk_store_format.specs.declared.stored.Stored.{Stored}
use Rattle.lk_store_format.proofs.EntryLaws.{body_short}

short_torn : (len told : ℕ) → len < 4 → (ltb len 4 || (leb 1 told && leb told 65536 && ltb len (4 + told))) ≡ true
short_torn len told h = grind (arith, nat_tests)

told_torn : (len told : ℕ) → 1 ≤ told → told ≤ 65536 → len < 4 + told
    → (ltb len 4 || (leb 1 told && leb told 65536 && ltb len (4 + told))) ≡ true
told_torn len told a b c = grind (arith, nat_tests)

torn_told : (len told : ℕ) → 4 ≤ len → (ltb len 4 || (leb 1 told && leb told 65536 && ltb len (4 + told))) ≡ true
    → (1 ≤ told) × (told ≤ 65536) × (len < 4 + told)
torn_told len told a e = grind (arith, nat_tests)

pub nil_torn : is_torn [] ≡ true
nil_torn = refl

-- a rest of these first four bytes tells this length
told_four : (rest behind : List ℕ) (n : ℕ) → n < 2 ^ 32 → rest ≡ four n ++ behind → stated_length rest ≡ n
unfolding stated_length four
told_four rest behind n fits is =
    ap (λ (l : List ℕ). from_be_bytes w32 (take 4 l)) is
    ∙ ap (from_be_bytes w32) (take_at (to_be_bytes w32 n) behind 4 refl) ∙ from_be_bytes-to_be_bytes_4 n fits

front_of_four : (e : Stored) (n : ℕ) → 4 ≤ n → take n (spelling e) ≡ four (length (body e)) ++ take (n - 4) (body e)
unfolding spelling
front_of_four e n h =
    let at : n ≡ length (four (length (body e))) + (n - 4) = omega (arith, length-four (length (body e))) in
    ap (λ (k : ℕ). take k (four (length (body e)) ++ body e)) at
    ∙ take-append-add (four (length (body e))) (body e) (n - 4)

spelled_len : (e : Stored) → length (spelling e) ≡ 4 + length (body e)
unfolding spelling
spelled_len e = length-append (four (length (body e))) (body e)
    ∙ ap (λ (k : ℕ). k + length (body e)) (length-four (length (body e)))

pub entry_front_torn : (e : Stored) (n : ℕ) → IsStored e → n < length (spelling e)
    → is_torn (take n (spelling e)) ≡ true
entry_front_torn e n fits short = elim (cases_lt n 4) [
  | inl few ↦ short_torn (length (take n (spelling e))) (stated_length (take n (spelling e)))
      (omega (arith, length-take n (spelling e)))
  | inr four_more ↦
      let told : stated_length (take n (spelling e)) ≡ length (body e) =
      told_four (take n (spelling e)) (take (n - 4) (body e)) (length (body e)) (omega (arith, body_short e fits))
      (front_of_four e n four_more) in
      told_torn (length (take n (spelling e))) (stated_length (take n (spelling e)))
      (omega (arith, told))
      (omega (arith, told, body_short e fits))
      (omega (arith, told, length-take n (spelling e), spelled_len e))
]

same_told : (rest : List ℕ) (n : ℕ) → 4 ≤ n → stated_length (take n rest) ≡ stated_length rest
unfolding stated_length
same_told rest n h = ap (from_be_bytes w32) (take-take 4 n rest h)

pub torn_front : (rest : List ℕ) (n : ℕ) → is_torn rest ≡ true → is_torn (take n rest) ≡ true
torn_front rest n torn = elim (cases_lt (length (take n rest)) 4) [
  | inl few ↦ short_torn (length (take n rest)) (stated_length (take n rest)) few
  | inr long ↦
      let fits : 4 ≤ n = omega (arith, length-take n rest) in
      let was = torn_told (length rest) (stated_length rest) (omega (arith, length-take n rest)) torn in
      let told : stated_length (take n rest) ≡ stated_length rest = same_told rest n fits in
      told_torn (length (take n rest)) (stated_length (take n rest)) (omega (arith, told, was.0))
      (omega (arith, told, was.1)) (omega (arith, told, was.2, length-take n rest))
]
