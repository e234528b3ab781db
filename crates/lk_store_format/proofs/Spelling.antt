-- No spelling begins another, and none is empty.
use Rattle.std.proofs.Common.{◌≡◌, ℕ, zero, suc, ◌+◌, ◌<◌, List, [], ◌∷◌, ◌++◌, length, take, drop, refl, sym, ◌∙◌, ap}
use Rattle.std.proofs.Common.{arith, append_assoc, length-append, take-append-drop}
use Rattle.std.specs.List.{AllByRecursion}
use Rattle.std.proofs.lemmas.List.{append-nil, length-take}
use Rattle.lk_codec.specs.Fields.{four}
use Rattle.lk_codec.proofs.Spellings.{one_front}
use Rattle.lk_store_format.specs.Entries.{body, spelling, spelling_of_all, IsStored, SpellsEntry}
use Rattle.lk_store_format.specs.Files.{NoEntryNext}
use Rattle.lk_store_format.specs.Parsing.{read_entry}
use Rattle.lk_store_format.specs.declared.stored.Stored.{Stored}
use Rattle.lk_store_format.proofs.EntryLaws.{entry_reads}

pub same_front : (e f : Stored) (x y : List ℕ) → IsStored e → IsStored f
    → spelling e ++ x ≡ spelling f ++ y → (e ≡ f) × (x ≡ y)
same_front e f x y = one_front read_entry spelling IsStored entry_reads e f x y

-- bytes spell one entry at most
pub one_entry : (e f : Stored) (bytes : List ℕ) → SpellsEntry e bytes → SpellsEntry f bytes → e ≡ f
one_entry e f bytes a b =
    (same_front e f [] [] a.0 b.0 (append-nil (spelling e) ∙ sym a.1 ∙ b.1 ∙ sym (append-nil (spelling f)))).0

pub spelled_long : (e : Stored) → 0 < length (spelling e)
unfolding spelling
spelled_long e = omega (arith, length-append (four (length (body e))) (body e))

-- no entry begins the front of another
pub front_begins_none : (e : Stored) (n : ℕ) → IsStored e → n < length (spelling e) → NoEntryNext (take n (spelling e))
front_begins_none e n fits short f more fits' is =
    let whole : spelling e ++ [] ≡ spelling f ++ (more ++ drop n (spelling e)) =
    append-nil (spelling e) ∙ sym (take-append-drop n (spelling e)) ∙ ap (λ (l : List ℕ). l ++ drop n (spelling e)) is
    ∙ append_assoc (spelling f) more (drop n (spelling e)) in
    let same : e ≡ f = (same_front e f [] (more ++ drop n (spelling e)) fits fits' whole).0 in
    let len : length (take n (spelling e)) ≡ length (spelling e) + length more = ap length is
    ∙ length-append (spelling f) more ∙ ap (λ (g : Stored). length (spelling g) + length more) (sym same) in
    omega (arith, len, length-take n (spelling e))

pub none_begins_nil : NoEntryNext []
none_begins_nil e more fits is = omega (arith, ap length is ∙ length-append (spelling e) more, spelled_long e)

pub spelled-append : (xs ys : List Stored) → spelling_of_all (xs ++ ys) ≡ spelling_of_all xs ++ spelling_of_all ys
spelled-append [] ys = refl
spelled-append (e ∷ xs) ys =
    ap (λ (l : List ℕ). spelling e ++ l) (spelled-append xs ys)
    ∙ sym (append_assoc (spelling e) (spelling_of_all xs) (spelling_of_all ys))

pub spelled-push : (xs : List Stored) (e : Stored) (more : List ℕ)
    → spelling_of_all (xs ++ e ∷ []) ++ more ≡ spelling_of_all xs ++ (spelling e ++ more)
spelled-push xs e more =
    ap (λ (l : List ℕ). l ++ more)
    (spelled-append xs (e ∷ []) ∙ ap (λ (l : List ℕ). spelling_of_all xs ++ l) (append-nil (spelling e)))
    ∙ append_assoc (spelling_of_all xs) (spelling e) more

-- ---- facts of each element

module _ {X : Type 0} where
  pub all-append : (P : X → Type 0) (xs ys : List X) → AllByRecursion P xs → AllByRecursion P ys
      → AllByRecursion P (xs ++ ys)
  all-append P [] ys a b = b
  all-append P (x ∷ xs) ys a b = (a.0, all-append P xs ys a.1 b)

  pub all-left : (P : X → Type 0) (xs ys : List X) → AllByRecursion P (xs ++ ys) → AllByRecursion P xs
  all-left P [] ys a = tt
  all-left P (x ∷ xs) ys a = (a.0, all-left P xs ys a.1)

  pub all-right : (P : X → Type 0) (xs ys : List X) → AllByRecursion P (xs ++ ys) → AllByRecursion P ys
  all-right P [] ys a = a
  all-right P (x ∷ xs) ys a = all-right P xs ys a.1

  pub all-take : (P : X → Type 0) (n : ℕ) (xs : List X) → AllByRecursion P xs → AllByRecursion P (take n xs)
  all-take P zero xs a = tt
  all-take P (suc n) [] a = tt
  all-take P (suc n) (x ∷ xs) a = (a.0, all-take P n xs a.1)
