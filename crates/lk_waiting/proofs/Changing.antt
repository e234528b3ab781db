-- Names that have changed, one after another.
use Rattle.std.proofs.Common.{◌≡◌, ◌⊎◌, true, List, [], ◌∷◌, ◌++◌, ℕ, inl, inr, refl, sym, ap, subst, ◌∙◌}
use Rattle.std.proofs.Common.{append-nil, append_assoc}
use Rattle.lk_node_interface.specs.declared.note.Note.{Note}
use Rattle.lk_waiting.specs.ChangedNames.{ChangedValue, AreChanged, name_in, names_in}

names_push : (ns : List Note) (n : Note) → names_in (ns ++ n ∷ []) ≡ names_in ns ++ name_in n
names_push [] n = append-nil (name_in n)
names_push (m ∷ ns) n =
    ap (λ (l : List (List ℕ)). name_in m ++ l) (names_push ns n)
    ∙ sym (append_assoc (name_in m) (names_in ns) (name_in n))

-- with those of one more note
pub changed_more : (xs ys : List (List ℕ)) (old mid new : ChangedValue) → AreChanged xs old mid → AreChanged ys mid new
    → AreChanged (xs ++ ys) old new
changed_more xs ys old mid new one (inl all) = inl all
changed_more xs ys old mid new (inl all) (inr two) =
    inl (ap (λ (c : ChangedValue). c.all) two ∙ all)
changed_more xs ys old mid new (inr one) (inr two) =
    inr (two ∙ ap (λ (c : ChangedValue). record c { names = c.names ++ ys }) one
    ∙ ap (λ (l : List (List ℕ)). record old { names = l }) (append_assoc old.names xs ys))

pub noted_more : (ns : List Note) (n : Note) (old mid new : ChangedValue) → AreChanged (names_in ns) old mid
    → AreChanged (name_in n) mid new → AreChanged (names_in (ns ++ n ∷ [])) old new
noted_more ns n old mid new one two =
    subst (λ (l : List (List ℕ)). AreChanged l old new) (sym (names_push ns n))
    (changed_more (names_in ns) (name_in n) old mid new one two)
