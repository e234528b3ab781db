-- Laws: after any body the table is still valid, and the answer is in its range.
use Rattle.std.proofs.Common.{◌≡◌, ℕ, ◌+◌, ◌<◌, ◌⊎◌, Bool, true, false, cond, ltb, eqb, ◌&&◌, List, [], ◌∷◌, length}
use Rattle.std.proofs.Common.{Option, Some, None, Result, Ok, Err, refl, sym, ap, subst, ◌∙◌, arith, inl, inr}
use Rattle.std.specs.List.{AllByRecursion}
use Rattle.std.specs.Ordering.{nat_cmp, eq_by_cmp}
use Rattle.std.specs.Cmp.Lexicographic.{slice_cmp}
use Rattle.std.specs.FinMap as map
use Rattle.std.proofs.lemmas.Bool.{eqb-true, ltb-true}
use Rattle.std.specs.Prelude.{IfOk}
use Rattle.lk_types.specs.Ranges.{IsClient, IsCount}
use Rattle.lk_types.specs.Answers.{IsAnswer}
use Rattle.lk_codec.specs.Parser.{◌>>=◌, read_byte, sized, both, made}
use Rattle.lk_codec.specs.FieldReading.{read_count}
use Rattle.lk_codec.proofs.Spellings.{bind_ok, chosen, some_is}
use Rattle.lk_locks.specs.Names.{IsName, is_name}
use Rattle.lk_locks.specs.Bodies.{read_name, read_name_and_fence, fields_of, body_of, name_of, is_known, known}
use Rattle.lk_locks.specs.Holders.{is_held, held_by, left_by, is_kept, IsHolders}
use Rattle.lk_locks.specs.Sharers.{AreSharers, is_among, without}
use Rattle.lk_locks.specs.SharerLaws.{with_client-fits, held_by-fits, one_sharer, least-fits}
use Rattle.lk_locks.specs.Plain.{Names, Table, transition, transition_in, changed, next_by, next, answer_to, raised}
use Rattle.lk_locks.specs.Plain.{given}
use Rattle.lk_locks.specs.Plain.{fence_after, first_fence, acquired_at, acquired, shared_with, shared_at, shared}
use Rattle.lk_locks.specs.Plain.{left_at}
use Rattle.lk_locks.specs.Plain.{released, is_held_at, broken, asked_at, asked, checked}
use Rattle.lk_locks.specs.Packed.{Entry, IsLockEntryIn, IsTableEntry, AreNames, IsTable, IsTableText, table_in}
use Rattle.lk_locks.specs.declared.body.Body.{Body}
use Rattle.lk_locks.specs.declared.body.Body.TheVariants.{Acquire, Release, Ask, Check, Share, Break}
use Rattle.lk_locks.specs.declared.lock_entry.Holders.{Holders}
use Rattle.lk_locks.specs.declared.lock_entry.Holders.TheVariants.{Nobody, ExclusiveHold, SharedHold}
use Rattle.lk_locks.specs.declared.lock_entry.LockEntry.{LockEntry}
use Rattle.lk_locks.specs.PackedLaws.{decided, text_is, insert_are_names, raised_are_names}
use Rattle.lk_types.specs.declared.answer.Answer.TheVariants.{Granted, Shared, NoRoom, Spent, Raised, AlreadyRaised}
use Rattle.lk_types.specs.declared.answer.Answer.{Answer}
use Rattle.lk_state.specs.Meanings.{Task, Running, Raising}
use Rattle.lk_locks.specs.Meaning.{table_meaning}

-- ---- the name of whatever is read as a body is one

name_at_fits : (bytes name rest : List ℕ) → read_name bytes ≡ Some (name, rest) → IsName name
unfolding read_name
name_at_fits bytes name rest e =
    let a = bind_ok (sized read_byte bytes) (λ a. cond (is_name a.0) (Some a) None) (name, rest) e in
    elim (chosen (is_name a.0.0) (Some a.0) None (Some (name, rest)) a.2) [
      | inl g ↦ subst (λ (z : List ℕ × List ℕ). IsName z.0) (some_is a.0 (name, rest) g.1) g.0
      | inr g ↦ let bad = g.1 in absurd cc
    ]

named : (f : List ℕ → Body) → ((name : List ℕ) → name_of (f name) ≡ name) → (bytes rest : List ℕ) (body : Body)
    → made f read_name bytes ≡ Some (body, rest) → IsName (name_of body)
named f is bytes rest body e =
    let a = bind_ok (read_name bytes) (λ a. Some (f a.0, a.1)) (body, rest) e in
    let m : Body × List ℕ = (f a.0.0, a.0.1) in
    subst (λ (z : Body × List ℕ). IsName (name_of z.0)) (some_is m (body, rest) a.2)
    (subst IsName (sym (is a.0.0)) (name_at_fits bytes a.0.0 a.0.1 a.1))

fenced : (f : List ℕ × ℕ → Body) → ((p : List ℕ × ℕ) → name_of (f p) ≡ p.0) → (bytes rest : List ℕ) (body : Body)
    → made f read_name_and_fence bytes ≡ Some (body, rest) → IsName (name_of body)
unfolding read_name_and_fence
fenced f is bytes rest body e =
    let a = bind_ok (both read_name read_count bytes) (λ a. Some (f a.0, a.1)) (body, rest) e in
    let n = bind_ok (read_name bytes) (λ x. read_count x.1 >>= λ y. Some ((x.0, y.0), y.1)) a.0 a.1 in
    let c = bind_ok (read_count n.0.1) (λ y. Some ((n.0.0, y.0), y.1)) a.0 n.2 in
    let pair : (List ℕ × ℕ) × List ℕ = ((n.0.0, c.0.0), c.0.1) in
    let m : Body × List ℕ = (f a.0.0, a.0.1) in
    let named_is : n.0.0 ≡ a.0.0.0 =
    ap (λ (z : (List ℕ × ℕ) × List ℕ). z.0.0) {x = pair} {y = a.0} (some_is pair a.0 c.2) in
    subst (λ (z : Body × List ℕ). IsName (name_of z.0)) (some_is m (body, rest) a.2)
    (subst IsName (named_is ∙ sym (is a.0.0)) (name_at_fits bytes n.0.0 n.0.1 n.1))

fields_fit : (kind : ℕ) (bytes rest : List ℕ) (body : Body)
    → fields_of kind bytes ≡ Some (body, rest) → IsName (name_of body)
unfolding fields_of
fields_fit kind bytes rest body e =
    elim (chosen (eqb kind 1) _ _ (Some (body, rest)) e) [
      | inl k ↦ named Acquire (λ name. refl) bytes rest body k.1
      | inr n ↦ elim (chosen (eqb kind 2) _ _ (Some (body, rest)) n.1) [
        | inl k ↦ fenced (λ p. Release p.0 p.1) (λ p. refl) bytes rest body k.1
        | inr n ↦ elim (chosen (eqb kind 3) _ _ (Some (body, rest)) n.1) [
          | inl k ↦ named Ask (λ name. refl) bytes rest body k.1
          | inr n ↦ elim (chosen (eqb kind 4) _ _ (Some (body, rest)) n.1) [
            | inl k ↦ fenced (λ p. Check p.0 p.1) (λ p. refl) bytes rest body k.1
            | inr n ↦ elim (chosen (eqb kind 5) _ _ (Some (body, rest)) n.1) [
              | inl k ↦ named Share (λ name. refl) bytes rest body k.1
              | inr n ↦ elim (chosen (eqb kind 6) _ _ (Some (body, rest)) n.1) [
                | inl k ↦ fenced (λ p. Break p.0 p.1) (λ p. refl) bytes rest body k.1
                | inr n ↦ let bad = n.1 in absurd cc
              ]
            ]
          ]
        ]
      ]
    ]

body_fits : (bytes : List ℕ) (body : Body) → body_of bytes ≡ Some body → IsName (name_of body)
unfolding body_of
body_fits [] body e = absurd cc
body_fits (kind ∷ bytes) body e =
    let a = bind_ok (fields_of kind bytes) (λ a. cond (ltb 0 (length a.1)) None (Some a.0)) body e in
    elim (chosen (ltb 0 (length a.0.1)) None (Some a.0.0) (Some body) a.2) [
      | inl more ↦ let bad = more.1 in absurd cc
      | inr g ↦
          subst (λ (b : Body). IsName (name_of b)) (some_is a.0.0 body g.1) (fields_fit kind bytes a.0.1 a.0.0 a.1)
    ]

-- ---- what is written is in its range, and a new name has room

pub tested : (b : Bool) (x y : ℕ) → (((b && eqb x y) ≡ true) × (x ≡ y)) ⊎ ((b && eqb x y) ≡ false)
tested false x y = inr refl
tested true x y = elim (decided (eqb x y)) [ inl e ↦ inl (e, eqb-true x y e) | inr e ↦ inr e ]

abbrev err_of : Answer → Result ℕ Answer
err_of a = Err a

abbrev ok_of : ℕ → Result ℕ Answer
ok_of n = Ok n

err_is : (a b : Answer) → err_of a ≡ Err b → a ≡ b
err_is a b e = cc

module _ (raised_now : Bool) where
  abbrev pub IsKept : Option LockEntry → Type 0
  IsKept None = Unit {0}
  IsKept (Some s) = IsLockEntryIn raised_now s

  abbrev pub IsNextLockEntry : Option LockEntry → ℕ → Option LockEntry → Type 0
  IsNextLockEntry old names None = Unit {0}
  IsNextLockEntry old names (Some s) = IsLockEntryIn raised_now s × (old ≡ None → names < 512)

  -- what is given: a fence in its range, and for a new name there is room
  abbrev MayGive : Option LockEntry → ℕ → Result ℕ Answer → Type 0
  MayGive old names r = IfOk r (λ fence. IsCount fence × (old ≡ None → names < 512))

  after_may : (s : LockEntry) (names : ℕ) → IsCount s.fence → MayGive (Some s) names (fence_after s.fence)
  after_may s names fits =
      elim (decided (ltb s.fence 281474976710656)) [
        | inl e ↦ let below : s.fence < 281474976710656 = ltb-true _ _ e in
            rw e ((omega arith, omega arith), λ none. absurd cc)
        | inr e ↦ rw e tt
      ]

  first_may : (names : ℕ) → MayGive None names (first_fence names)
  first_may names =
      elim (decided (ltb names 512)) [
        | inl e ↦ let below : names < 512 = ltb-true _ _ e in rw e ((omega arith, omega arith), λ none. below)
        | inr e ↦ rw e tt
      ]

  given_may : (told : ℕ → Answer) (h : Holders) (old : Option LockEntry) (names : ℕ) (r : Result ℕ Answer) → IsHolders h
      → is_kept raised_now h ≡ true → MayGive old names r → IsNextLockEntry old names (given told h r).change
  given_may told h old names (Ok fence) is_holders is_known may = ((may.0, (is_holders, is_known)), may.1)
  given_may told h old names (Err refusal) is_holders is_known may = tt

  acquired_may : (client : ℕ) (old : Option LockEntry) (names : ℕ) → IsClient client → IsKept old
      → IsNextLockEntry old names (acquired client old names).change
  acquired_may client None names is_client fits =
      given_may Granted (ExclusiveHold client) None names (first_fence names) is_client refl (first_may names)
  acquired_may client (Some s) names is_client fits = by s.holders
    where
      by : (h : Holders) → IsNextLockEntry (Some s) names (acquired_at client s.fence h).change
      by Nobody = given_may Granted (ExclusiveHold client) (Some s) names (fence_after s.fence) is_client refl
          (after_may s names fits.0)
      by (ExclusiveHold holder) = tt
      by (SharedHold clients) = tt

  shared_may : (client : ℕ) (old : Option LockEntry) (names : ℕ) → raised_now ≡ true → IsClient client → IsKept old
      → IsNextLockEntry old names (shared client old names).change
  shared_may client None names is_raised is_client fits =
      given_may Shared (SharedHold (client ∷ [])) None names (first_fence names)
      (one_sharer client is_client) is_raised (first_may names)
  shared_may client (Some s) names is_raised is_client fits = by s.holders fits.1.0
    where
      shared_with_may : (clients : List ℕ) → AreSharers clients
          → IsNextLockEntry (Some s) names (shared_with client s.fence clients).change
      shared_with_may clients are = elim (decided (is_among client clients)) [
        | inl e ↦ rw e tt
        | inr new ↦ elim (decided (ltb (length clients) 8)) [
          | inl e ↦ rw (new, e) (
            (fits.0, (with_client-fits client clients is_client (ltb-true _ _ e) are, is_raised)),
            λ none. absurd cc,
          )
          | inr e ↦ rw (new, e) tt
        ]
      ]

      by : (h : Holders) → IsHolders h → IsNextLockEntry (Some s) names (shared_at client s.fence h).change
      by Nobody is = given_may Shared (SharedHold (client ∷ [])) (Some s) names (fence_after s.fence)
          (one_sharer client is_client) is_raised (after_may s names fits.0)
      by (ExclusiveHold holder) is = tt
      by (SharedHold clients) is = shared_with_may clients is

  left_may : (client fence : ℕ) (old : Option LockEntry) (names : ℕ) (s : LockEntry) → old ≡ Some s → IsCount fence
      → (o : Option Holders) → ((h : Holders) → o ≡ Some h → IsHolders h × (is_kept raised_now h ≡ true))
      → IsNextLockEntry old names (left_at fence o).change
  left_may client fence old names s is fits None h = tt
  left_may client fence old names s is fits (Some holders) h =
      ((fits, h holders refl), λ none. let no : Some s ≡ None = sym is ∙ none in absurd cc)

  kept_less : (cs ds : List ℕ) → is_kept raised_now (SharedHold cs) ≡ true → is_kept raised_now (held_by ds) ≡ true
  kept_less cs [] e = refl
  kept_less cs (d ∷ ds) e = e

  left_fits : (client : ℕ) (h left : Holders) → IsHolders h → is_kept raised_now h ≡ true
      → left_by client h ≡ Some left → IsHolders left × (is_kept raised_now left ≡ true)
  left_fits client Nobody left fits kept e = absurd cc
  left_fits client (ExclusiveHold holder) left fits kept e =
      elim (chosen (eqb holder client) (Some Nobody) None (Some left) e) [
        | inl yes_ ↦
            subst (λ (h : Holders). IsHolders h × (is_kept raised_now h ≡ true)) (some_is Nobody left yes_.1) (tt, refl)
        | inr no_ ↦ let bad = no_.1 in absurd cc
      ]
  left_fits client (SharedHold cs) left fits kept e =
      elim (chosen (is_among client cs) (Some (held_by (without client cs))) None (Some left) e) [
        | inl yes_ ↦ subst (λ (h : Holders). IsHolders h × (is_kept raised_now h ≡ true))
            (some_is (held_by (without client cs)) left yes_.1)
            (held_by-fits client cs fits, kept_less cs (without client cs) kept)
        | inr no_ ↦ let bad = no_.1 in absurd cc
      ]

  released_may : (client fence : ℕ) (old : Option LockEntry) (names : ℕ) → IsKept old
      → IsNextLockEntry old names (released client fence old).change
  released_may client fence None names fits = tt
  released_may client fence (Some s) names fits = elim (decided (eqb s.fence fence)) [
    | inl e ↦ rw e (left_may client fence (Some s) names s refl (subst IsCount (eqb-true s.fence fence e) fits.0)
        (left_by client s.holders) (λ h is. left_fits client s.holders h fits.1.0 fits.1.1 is))
    | inr e ↦ rw e tt
  ]

  broken_may : (fence : ℕ) (old : Option LockEntry) (names : ℕ) → IsKept old → IsNextLockEntry old names
      (broken fence old).change
  broken_may fence None names fits = tt
  broken_may fence (Some s) names fits = elim (tested (is_held s.holders) s.fence fence) [
    | inl h ↦ rw h.0 ((subst IsCount h.1 fits.0, (tt, refl)), λ none. absurd cc)
    | inr h ↦ rw h tt
  ]

  row_may : (client : ℕ) (body : Body) (old : Option LockEntry) (names : ℕ) → is_known raised_now body ≡ true
      → IsClient client → IsKept old → IsNextLockEntry old names (transition client body old names).change
  row_may client (Acquire name) old names is_known is_client fits = acquired_may client old names is_client fits
  row_may client (Release name fence) old names is_known is_client fits = released_may client fence old names fits
  row_may client (Ask name) old names is_known is_client fits = tt
  row_may client (Check name fence) old names is_known is_client fits = tt
  row_may client (Share name) old names is_known is_client fits = shared_may client old names is_known is_client fits
  row_may client (Break name fence) old names is_known is_client fits = broken_may fence old names fits

  -- ---- names

  found_fits : (name : List ℕ) (es : List Entry) → AllByRecursion (IsTableEntry raised_now) es
      → IsKept (map.find (slice_cmp nat_cmp) name es)
  found_fits name [] fits = tt
  found_fits name (e ∷ es) fits = by (eq_by_cmp (slice_cmp nat_cmp) name e.0) (found_fits name es fits.1)
    where
      by : (b : Bool) → IsKept (map.find (slice_cmp nat_cmp) name es)
          → IsKept (cond b (Some e.1) (map.find (slice_cmp nat_cmp) name es))
      by true rest = fits.0.1
      by false rest = rest

  pub kept : (m : Names) (name : List ℕ) → AreNames raised_now m → IsKept (map.get m name)
  unfolding AreNames
  kept m name fits = subst IsKept (sym (map.get-entries m name)) (found_fits name (map.entries m) fits.1)

  changed_are_names : (m : Names) (name : List ℕ) (change : Option LockEntry) → AreNames raised_now m → IsName name
      → IsNextLockEntry (map.get m name) (map.len m) change → AreNames raised_now (changed name change m)
  changed_are_names m name None fits named may = fits
  changed_are_names m name (Some s) fits named may = insert_are_names raised_now m name s fits (named, may.0) may.1

  -- what a transition writes may be in a table
  pub row_in_may : (client : ℕ) (body : Body) (m : Names) → is_known raised_now body ≡ true → IsClient client
      → AreNames raised_now m → IsNextLockEntry (map.get m (name_of body)) (map.len m)
      (transition_in client body m).change
  row_in_may client body m is_known is_client fits =
      row_may client body (map.get m (name_of body)) (map.len m) is_known is_client (kept m (name_of body) fits)

  abbrev IsKnownBody : Option Body → Type 0
  IsKnownBody None = Unit {0}
  IsKnownBody (Some b) = IsName (name_of b) × (is_known raised_now b ≡ true)

  after_are_names : (client : ℕ) (body : Option Body) (m : Names) → IsClient client → IsKnownBody body
      → AreNames raised_now m → AreNames raised_now (next_by client body m)
  after_are_names client None m is_client known fits = fits
  after_are_names client (Some b) m is_client known fits =
      changed_are_names m (name_of b) (transition_in client b m).change fits known.0
      (row_in_may client b m known.1 is_client fits)

  known_is : (body : Option Body) → ((b : Body) → body ≡ Some b → IsName (name_of b))
      → IsKnownBody (known raised_now body)
  known_is None named = tt
  known_is (Some b) named = elim (decided (is_known raised_now b)) [
    | inl e ↦ rw e (named b refl, e)
    | inr e ↦ rw e tt
  ]

pub next_is_table : (client : ℕ) (bytes : List ℕ) (t : Table) → IsClient client → IsTable t
    → IsTable (next client bytes t)
next_is_table client bytes t is_client fits =
    after_are_names t.raised client (known t.raised (body_of bytes)) t.names is_client
    (known_is t.raised (body_of bytes) (λ b e. body_fits bytes b e)) fits

pub raised_is_table : (t : Table) → IsTable t → IsTable (raised t)
raised_is_table t fits = raised_are_names t.raised t.names fits

-- the text after a task, in terms of the text before it
pub next_is_text : (client : ℕ) (task : Task) (before : List ℕ) → IsClient client → IsTableText before
    → IsTableText (table_meaning.next client task before)
next_is_text client (Running body) before is_client t =
    let is = text_is before t in (
      next client body (table_in before),
      next_is_table client body (table_in before) is_client (subst IsTable (sym is.3) is.1),
      refl,
    )
next_is_text client Raising before is_client t =
    let is = text_is before t in
    (raised (table_in before), raised_is_table (table_in before) (subst IsTable (sym is.3) is.1), refl)

-- ---- each answer is in its range

module _ (raised_now : Bool) where
  given_answers : (told : ℕ → Answer) (h : Holders) (old : Option LockEntry) (names : ℕ) (r : Result ℕ Answer)
      → ((fence : ℕ) → IsCount fence → IsAnswer (told fence)) → MayGive raised_now old names r
      → ((a : Answer) → r ≡ Err a → IsAnswer a) → IsAnswer (given told h r).answer
  given_answers told h old names (Ok fence) f may refused = f fence may.0
  given_answers told h old names (Err refusal) f may refused = refused refusal refl

  after_refuses : (fence : ℕ) (a : Answer) → fence_after fence ≡ Err a → IsAnswer a
  after_refuses fence a e = elim (decided (ltb fence 281474976710656)) [
    | inl y ↦ let no : ok_of (fence + 1) ≡ Err a = rw y at e in absurd cc
    | inr n ↦ let is : err_of Spent ≡ Err a = rw n at e in subst IsAnswer (err_is Spent a is) tt
  ]

  first_refuses : (names : ℕ) (a : Answer) → first_fence names ≡ Err a → IsAnswer a
  first_refuses names a e = elim (decided (ltb names 512)) [
    | inl y ↦ let no : ok_of 1 ≡ Err a = rw y at e in absurd cc
    | inr n ↦ let is : err_of NoRoom ≡ Err a = rw n at e in subst IsAnswer (err_is NoRoom a is) tt
  ]

  acquired_answers : (client : ℕ) (old : Option LockEntry) (names : ℕ) → IsKept raised_now old
      → IsAnswer (acquired client old names).answer
  acquired_answers client None names fits =
      given_answers Granted (ExclusiveHold client) None names (first_fence names) (λ fence f. f)
      (first_may raised_now names) (first_refuses names)
  acquired_answers client (Some s) names fits = by s.holders fits.1.0
    where
      by : (h : Holders) → IsHolders h → IsAnswer (acquired_at client s.fence h).answer
      by Nobody is = given_answers Granted (ExclusiveHold client) (Some s) names (fence_after s.fence) (λ fence f. f)
          (after_may raised_now s names fits.0) (after_refuses s.fence)
      by (ExclusiveHold holder) is = (is, fits.0)
      by (SharedHold clients) is = (least-fits clients is, fits.0)

  shared_answers : (client : ℕ) (old : Option LockEntry) (names : ℕ) → IsKept raised_now old
      → IsAnswer (shared client old names).answer
  shared_answers client None names fits =
      given_answers Shared (SharedHold (client ∷ [])) None names (first_fence names) (λ fence f. f)
      (first_may raised_now names) (first_refuses names)
  shared_answers client (Some s) names fits = by s.holders fits.1.0
    where
      shared_with_answers : (clients : List ℕ) → AreSharers clients
          → IsAnswer (shared_with client s.fence clients).answer
      shared_with_answers clients are = elim (decided (is_among client clients)) [
        | inl e ↦ rw e fits.0
        | inr new ↦ elim (decided (ltb (length clients) 8))
            [ inl e ↦ rw (new, e) fits.0 | inr e ↦ rw (new, e) (least-fits clients are, fits.0) ]
      ]

      by : (h : Holders) → IsHolders h → IsAnswer (shared_at client s.fence h).answer
      by Nobody is = given_answers Shared (SharedHold (client ∷ [])) (Some s) names (fence_after s.fence) (λ fence f. f)
          (after_may raised_now s names fits.0) (after_refuses s.fence)
      by (ExclusiveHold holder) is = (is, fits.0)
      by (SharedHold clients) is = shared_with_answers clients is

  left_answers : (fence : ℕ) (o : Option Holders) → IsAnswer (left_at fence o).answer
  left_answers fence None = tt
  left_answers fence (Some h) = tt

  released_answers : (client fence : ℕ) (old : Option LockEntry) → IsAnswer (released client fence old).answer
  released_answers client fence None = tt
  released_answers client fence (Some s) =
      elim (decided (eqb s.fence fence))
      [ inl e ↦ rw e (left_answers fence (left_by client s.holders)) | inr e ↦ rw e tt ]

  broken_answers : (fence : ℕ) (old : Option LockEntry) → IsAnswer (broken fence old).answer
  broken_answers fence old = elim (decided (is_held_at fence old)) [ inl e ↦ rw e tt | inr e ↦ rw e tt ]

  asked_answers : (old : Option LockEntry) → IsKept raised_now old → IsAnswer (asked old)
  asked_answers None fits = omega arith
  asked_answers (Some s) fits = by s.holders fits.1.0
    where
      by : (h : Holders) → IsHolders h → IsAnswer (asked_at s.fence h)
      by Nobody is = fits.0.1
      by (ExclusiveHold client) is = (is, fits.0)
      by (SharedHold clients) is = ((is.0, is.1), fits.0)

  checked_answers : (fence : ℕ) (old : Option LockEntry) → IsAnswer (checked fence old)
  checked_answers fence old = elim (decided (is_held_at fence old)) [ inl e ↦ rw e tt | inr e ↦ rw e tt ]

  row_answers : (client : ℕ) (body : Body) (old : Option LockEntry) (names : ℕ) → IsKept raised_now old
      → IsAnswer (transition client body old names).answer
  row_answers client (Acquire name) old names fits = acquired_answers client old names fits
  row_answers client (Release name fence) old names fits = released_answers client fence old
  row_answers client (Ask name) old names fits = asked_answers old fits
  row_answers client (Check name fence) old names fits = checked_answers fence old
  row_answers client (Share name) old names fits = shared_answers client old names fits
  row_answers client (Break name fence) old names fits = broken_answers fence old

  answers_fit : (client : ℕ) (body : Option Body) (m : Names) → AreNames raised_now m
      → IsAnswer (answer_to client body m)
  answers_fit client None m fits = tt
  answers_fit client (Some body) m fits =
      row_answers client body (map.get m (name_of body)) (map.len m) (kept raised_now m (name_of body) fits)

raise_answers : (b : Bool) → IsAnswer (cond b AlreadyRaised Raised)
raise_answers true = tt
raise_answers false = tt

-- the answer to a client, in terms of the text before its task
pub answer_is_answer : (client : ℕ) (task : Task) (before : List ℕ) → IsClient client → IsTableText before
    → IsAnswer (table_meaning.answer client task before)
answer_is_answer client (Running body) before is_client t =
    let is = text_is before t in
    let now : Table = table_in before in
    answers_fit now.raised client (known now.raised (body_of body)) now.names (subst IsTable (sym is.3) is.1)
answer_is_answer client Raising before is_client t = raise_answers (table_in before).raised
