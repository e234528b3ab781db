-- Entries in rising order, one by one.
use Rattle.std.proofs.Common.{◌≡◌, ℕ, ◌+◌, ◌-◌, ◌≤◌, leb, ltb, eqb, cond, length, arith, Bool, true, false, ◌&&◌, List}
use Rattle.std.proofs.Common.{[], ◌∷◌, ◌++◌, Option, Some, None, refl, sym, ap, subst, ◌∙◌, append_assoc, inl, inr}
use Rattle.std.specs.declared.cmp.Ordering.{Ordering}
use Rattle.std.specs.declared.cmp.Ordering.TheVariants.{Less, Equal, Greater}
use Rattle.std.specs.List.{flat_map, AllByRecursion}
use Rattle.std.specs.Ordering.{nat_cmp, is_lt, ordering_reverse}
use Rattle.std.specs.Cmp.Lexicographic.{slice_cmp, nat_list_cmp_total}
use Rattle.std.specs.FinMap as map
use Rattle.std.proofs.lemmas.Bool.{eqb-true, le-leb}
use Rattle.std.proofs.lemmas.List.{length-append, nil_from_length}
use Rattle.std.specs.FinMap.Entries.{below_all}
use Rattle.lk_locks.specs.Plain.{Names, Table}
use Rattle.lk_locks.specs.Packed.{Entry, entry, entries, read_entry, read_size, read_entries, read_table, table_text}
use Rattle.lk_locks.specs.Packed.{rise, DoNotRise}
use Rattle.lk_locks.specs.declared.lock_entry.LockEntry.{LockEntry}
use Rattle.lk_codec.specs.Fields.{two}
use Rattle.lk_codec.specs.FieldReading.{read_two}
use Rattle.lk_codec.specs.Parser.{◌>>=◌, many, made, whole}
use Rattle.lk_codec.proofs.Spellings.{with_front}
use Rattle.lk_locks.specs.PackedLaws.{decided, entries_rise, empty_entries}

two_hold : (a b : Bool) → (a && b) ≡ true → (a ≡ true) × (b ≡ true)
two_hold true b e = (refl, e)
two_hold false b e = absurd cc

both_hold : (a b : Bool) → a ≡ true → b ≡ true → (a && b) ≡ true
both_hold true b p q = q
both_hold false b p q = absurd cc

less : (o : Ordering) → is_lt o ≡ true → o ≡ Less
less Less e = refl
less Equal e = absurd cc
less Greater e = absurd cc

-- each name is below this one
abbrev AreBelow : List Entry → List ℕ → Type 0
AreBelow es name = AllByRecursion (λ x. slice_cmp nat_cmp x.0 name ≡ Less) es

-- ---- what rises

below_front : (x : List ℕ) (es fs : List Entry) → below_all (slice_cmp nat_cmp) x (es ++ fs) ≡ true
    → below_all (slice_cmp nat_cmp) x es ≡ true
below_front x [] fs h = refl
below_front x (e ∷ es) fs h = let p = two_hold _ _ h in both_hold _ _ p.0 (below_front x es fs p.1)

-- a beginning of what rises
rises_front : (es fs : List Entry) → rise (es ++ fs) ≡ true → rise es ≡ true
rises_front [] fs h = refl
rises_front (e ∷ es) fs h = let p = two_hold _ _ h in both_hold _ _ (below_front e.0 es fs p.0) (rises_front es fs p.1)

below_last : (x : List ℕ) (es : List Entry) (e : Entry) → below_all (slice_cmp nat_cmp) x (es ++ e ∷ []) ≡ true
    → slice_cmp nat_cmp x e.0 ≡ Less
below_last x [] e h = less _ (two_hold _ _ h).0
below_last x (f ∷ es) e h = below_last x es e (two_hold _ _ h).1

-- all are below the last
pub rise_below : (es : List Entry) (e : Entry) → rise (es ++ e ∷ []) ≡ true → AreBelow es e.0
rise_below [] e h = tt
rise_below (x ∷ es) e h = let p = two_hold _ _ h in (below_last x.0 es e p.0, rise_below es e p.1)

below_push : (x : List ℕ) (es : List Entry) (e : Entry) → below_all (slice_cmp nat_cmp) x es ≡ true
    → slice_cmp nat_cmp x e.0 ≡ Less → below_all (slice_cmp nat_cmp) x (es ++ e ∷ []) ≡ true
below_push x [] e h lt = both_hold _ _ (ap is_lt lt) refl
below_push x (f ∷ es) e h lt = let p = two_hold _ _ h in both_hold _ _ p.0 (below_push x es e p.1 lt)

push_rises : (es : List Entry) (e : Entry) → rise es ≡ true → AreBelow es e.0 → rise (es ++ e ∷ []) ≡ true
push_rises [] e h below = refl
push_rises (x ∷ es) e h below = let p = two_hold _ _ h in
    both_hold _ _ (below_push x.0 es e p.0 below.0) (push_rises es e p.1 below.1)

-- what is below the last is below whatever is above it
below_all_up : (es : List Entry) (l : Entry) (name : List ℕ) → AreBelow es l.0 → slice_cmp nat_cmp l.0 name ≡ Less
    → AreBelow (es ++ l ∷ []) name
below_all_up [] l name h lt = (lt, tt)
below_all_up (x ∷ es) l name h lt = (nat_list_cmp_total.trans x.0 l.0 name h.0 lt, below_all_up es l name h.1 lt)

rises_last : (es : List Entry) (l e : Entry) → rise ((es ++ l ∷ []) ++ e ∷ []) ≡ true
    → is_lt (slice_cmp nat_cmp l.0 e.0) ≡ true
rises_last [] l e h = (two_hold _ _ (two_hold _ _ h).0).0
rises_last (x ∷ es) l e h = rises_last es l e (two_hold _ _ h).1

-- one more rises exactly where it is above the last
pub rises_on : (es : List Entry) (l e : Entry) → rise (es ++ l ∷ []) ≡ true
    → rise ((es ++ l ∷ []) ++ e ∷ []) ≡ is_lt (slice_cmp nat_cmp l.0 e.0)
rises_on es l e h =
    elim (decided (is_lt (slice_cmp nat_cmp l.0 e.0))) [
      | inl lt ↦ push_rises (es ++ l ∷ []) e h (below_all_up es l e.0 (rise_below es l h) (less _ lt)) ∙ sym lt
      | inr n ↦ elim (decided (rise ((es ++ l ∷ []) ++ e ∷ []))) [
        | inl y ↦ let bad = rises_last es l e y in absurd cc
        | inr falls ↦ falls ∙ sym n
      ]
    ]

-- whether a name is below one more, by the last that stands
pub below_is : (m : Names) (es : List Entry) (l : Entry) (name : List ℕ) (s : LockEntry) → map.entries m ≡ es ++ l ∷ []
    → is_lt (slice_cmp nat_cmp l.0 name) ≡ rise (map.entries m ++ (name, s) ∷ [])
below_is m es l name s e =
    rw e (sym (rises_on es l (name, s) (subst (λ (fs : List Entry). rise fs ≡ true) e (entries_rise m))))

-- ---- a table with one more name, above all others

put_last : (es : List Entry) (name : List ℕ) (s : LockEntry) → AreBelow es name
    → map.put (slice_cmp nat_cmp) name s es ≡ es ++ (name, s) ∷ []
put_last [] name s below = refl
put_last (x ∷ es) name s below =
    let after : slice_cmp nat_cmp name x.0 ≡ Greater = nat_list_cmp_total.antisymm name x.0
    ∙ ap ordering_reverse below.0 in
    rw after (ap (λ (t : List Entry). x ∷ t) (put_last es name s below.1))

pub push_is : (m : Names) (name : List ℕ) (s : LockEntry) → rise (map.entries m ++ (name, s) ∷ []) ≡ true
    → map.entries (map.insert m name s) ≡ map.entries m ++ (name, s) ∷ []
push_is m name s h = map.entries-insert nat_list_cmp_total m name s
    ∙ put_last (map.entries m) name s (rise_below (map.entries m) (name, s) h)

-- ---- entries read one by one

-- what was read does not rise any more, however it goes on
pub falls : (front : List Entry) (read : Option (List Entry × List ℕ)) (total : Option (List Entry × List ℕ))
    → rise front ≡ false → with_front front read ≡ total → DoNotRise total
falls front (Some x) total h e =
    elim (decided (rise (front ++ x.0))) [
      | inl y ↦ let bad = rises_front front x.0 y in absurd cc
      | inr n ↦ subst DoNotRise e n
    ]
falls front None total h e = subst DoNotRise e tt

-- ---- a text written piece by piece

pub begun : (raised : Bool) (m : Names) (old : List ℕ) (n : ℕ) (es : List Entry) → n ≡ map.len m → es ≡ map.entries m
    → (old ++ two n) ++ flat_map (entry raised) es ≡ old ++ entries raised (map.entries m)
begun raised m old n es p q =
    append_assoc old (two n) (flat_map (entry raised) es)
    ∙ ap (λ (t : List ℕ). old ++ t) (rw (p, q, map.len-entries m) refl)

-- ---- reading begins, goes on and ends

none_before : (read : Option (List Entry × List ℕ)) → with_front [] read ≡ read
none_before (Some x) = refl
none_before None = refl

pub starts : (raised : Bool) (count : ℕ) (bytes : List ℕ)
    → with_front (map.entries {X = LockEntry} {R = slice_cmp nat_cmp} map.empty)
    (many (read_entry raised) (count - 0) bytes) ≡ many (read_entry raised) count bytes
starts raised count bytes = let all : count - 0 ≡ count = omega arith in
    rw (all, empty_entries) (none_before (many (read_entry raised) count bytes))

pub one_longer : (m n : Names) (e : Entry) (i : ℕ) → map.entries n ≡ map.entries m ++ e ∷ []
    → map.len m ≡ i → map.len n ≡ i + 1
one_longer m n e i new size =
    omega (arith, map.len-entries n, map.len-entries m, ap length new, length-append (map.entries m) (e ∷ []), size)

pub read_is : (raised : Bool) (m : Names) (bytes rest left : List ℕ) (count : ℕ) → read_two bytes ≡ Some (count, rest)
    → count ≤ 512 → many (read_entry raised) count rest ≡ Some (map.entries m, left) → eqb (length left) 0 ≡ true
    → whole (read_entries raised) bytes ≡ Some (map.entries m)
unfolding read_entries read_size
read_is raised m bytes rest left count front le all empty =
    let none : left ≡ [] = nil_from_length left (eqb-true _ _ empty) in
    let small : leb count 512 ≡ true = le-leb count 512 le in
    rw (front, small, all, entries_rise m, none) refl

-- ---- the version, and then the names

module _ {X Y : Type 0} (f : X → Y) where
  abbrev remade : X × List ℕ → Option (Y × List ℕ)
  remade a = Some (f a.0, a.1)

  abbrev pub mapped : Option X → Option Y
  mapped None = None
  mapped (Some x) = Some (f x)

  -- all of the bytes under another view
  whole_made : (p : List ℕ → Option (X × List ℕ)) (bytes : List ℕ) → whole (made f p) bytes ≡ mapped (whole p bytes)
  whole_made p bytes = by (p bytes)
    where
      by_end : (b : Bool) (x : X) → cond b None (Some (f x)) ≡ mapped (cond b None (Some x))
      by_end true x = refl
      by_end false x = refl

      by : (o : Option (X × List ℕ))
          → ((o >>= remade) >>= λ a. cond (ltb 0 (length a.1)) None (Some a.0))
          ≡ mapped (o >>= λ a. cond (ltb 0 (length a.1)) None (Some a.0))
      by None = refl
      by (Some a) = by_end (ltb 0 (length a.1)) a.0

pub raised_table : (bytes behind : List ℕ) (n : ℕ) (r : Option (List Entry)) → read_two bytes ≡ Some (n, behind)
    → n ≡ 65282 → whole (read_entries true) behind ≡ r
    → whole read_table bytes ≡ mapped (λ (es : List Entry). let v : Bool × List Entry = (true, es) in v) r
unfolding read_table
raised_table bytes behind n r front is e =
    rw (front, is) (whole_made (λ (es : List Entry). let v : Bool × List Entry = (true, es) in v)
    (read_entries true) behind ∙ ap (mapped (λ (es : List Entry). let v : Bool × List Entry = (true, es) in v)) e)

pub plain_table : (bytes behind : List ℕ) (n : ℕ) (r : Option (List Entry)) → read_two bytes ≡ Some (n, behind)
    → eqb n 65282 ≡ false → whole (read_entries false) bytes ≡ r
    → whole read_table bytes ≡ mapped (λ (es : List Entry). let v : Bool × List Entry = (false, es) in v) r
unfolding read_table
plain_table bytes behind n r front other e =
    rw (front, other) (whole_made (λ (es : List Entry). let v : Bool × List Entry = (false, es) in v)
    (read_entries false) bytes ∙ ap (mapped (λ (es : List Entry). let v : Bool × List Entry = (false, es) in v)) e)

-- a text written after its mark, or without one
pub marked : (t : Table) (old new : List ℕ) → t.raised ≡ true
    → new ≡ (old ++ two 65282) ++ entries t.raised (map.entries t.names) → new ≡ old ++ table_text t
unfolding table_text
marked t old new is e = e ∙ append_assoc old (two 65282) (entries t.raised (map.entries t.names)) ∙ rw is refl

pub unmarked : (t : Table) (old new : List ℕ) → t.raised ≡ false → new ≡ old ++ entries t.raised (map.entries t.names)
    → new ≡ old ++ table_text t
unfolding table_text
unmarked t old new is e = e ∙ rw is refl
