-- A `BTreeMap` as the finite map of its entries, for any order that is total and tells keys apart.
use Rattle.std.proofs.Common.{◌≡◌, cond, List, [], ◌∷◌, length, Some, refl, sym, ap, ◌∙◌}
use Rattle.std.specs.declared.cmp.Ordering.{Ordering}
use Rattle.std.specs.declared.cmp.Ordering.TheVariants.{Less}
use Rattle.std.specs.Ordering.{eq_by_cmp}
use Rattle.std.specs.Cmp.{IsTotalOrder, eq_by_cmp_equiv}
use Rattle.std.specs.List.{AllByRecursion}
use Rattle.std.specs.List.Sorted.{IsStrictlySortedBy}
use Rattle.std.specs.Map.{lookup, keys_of}
use Rattle.std.specs.BTreeMap.{is_at}
use Rattle.std.specs.FinMap.{IsAntisymmetric, get, insert, len, entries, find, put, from_entries, get-from_entries}
use Rattle.std.specs.FinMap.{get-insert, entries-insert, len-entries, len-empty, empty, same_map}
use Rattle.std.proofs.lemmas.List.{nil_from_length}

module _ {K X : Type 0} {R : K → K → Ordering} (o : IsTotalOrder R) where
  find_is : (es : List (K × X)) (q : K) → find R q es ≡ lookup (is_at (R q)) es
  find_is [] q = refl
  find_is (e ∷ es) q = ap (cond (is_at (R q) e.0) (Some e.1)) (find_is es q)

  -- what the map that the entries make has at a key
  pub get_is : (es : List (K × X)) (q : K) → get (from_entries {R = R} es) q ≡ lookup (is_at (R q)) es
  get_is es q = get-from_entries o es q ∙ find_is es q

  -- entries that differ at one key make maps that differ there
  pub one_set : IsAntisymmetric R → (es fs : List (K × X)) (k : K) (v : X)
      → ((q : K) → lookup (is_at (R q)) fs ≡ cond (is_at (R k) q) (Some v) (lookup (is_at (R q)) es))
      → from_entries {R = R} fs ≡ insert (from_entries es) k v
  one_set same es fs k v h = same_map o same _ _ (λ q.
      get_is fs q ∙ h q ∙ ap (λ b. cond b (Some v) (lookup (is_at (R q)) es)) ((eq_by_cmp_equiv o).symm k q)
      ∙ sym (get-insert o (from_entries es) k v q ∙ ap (cond (eq_by_cmp R q k) (Some v)) (get_is es q)))

  put_first : (k : K) (v : X) (es : List (K × X)) → AllByRecursion (λ y. R k y ≡ Less) (keys_of es)
      → put R k v es ≡ (k, v) ∷ es
  put_first k v [] h = refl
  put_first k v (e ∷ es) h = rw h.0 refl

  -- a map that lists its entries in order has these entries
  pub entries_are : (es : List (K × X)) → IsStrictlySortedBy R (keys_of es) → entries (from_entries {R = R} es) ≡ es
  unfolding IsStrictlySortedBy
  entries_are [] h = nil_from_length _ (sym (len-entries empty) ∙ len-empty R X)
  entries_are (e ∷ es) h =
      entries-insert o (from_entries es) e.0 e.1 ∙ ap (put R e.0 e.1) (entries_are es h.1) ∙ put_first e.0 e.1 es h.0

  -- how many keys the map has
  pub len_is : (es : List (K × X)) → IsStrictlySortedBy R (keys_of es) → len (from_entries {R = R} es) ≡ length es
  len_is es h = len-entries (from_entries es) ∙ ap length (entries_are es h)
