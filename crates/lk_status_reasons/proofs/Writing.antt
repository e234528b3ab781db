-- One text after another, for each of a list.
use Rattle.std.proofs.Common.{◌≡◌, ℕ, ◌+◌, [], ◌∷◌, ◌++◌, List, Option, take, sym, ap, subst, ◌∙◌}
use Rattle.std.proofs.lemmas.List.{flat_map_more}
use Rattle.std.specs.Io.KnownBytes.{Appends}
use Rattle.std.specs.List.{flat_map}
use Rattle.lk_types.proofs.Appending.{appends_more}

-- one more of a list
pub writes_more : {X : Type 0} (f : X → List ℕ) (front : List ℕ) (a b c : Option (List ℕ)) (xs : List X) (i : ℕ)
    (x : X) → take (i + 1) xs ≡ take i xs ++ x ∷ []
    → Appends a b (front ++ flat_map f (take i xs)) → Appends b c (f x)
    → Appends a c (front ++ flat_map f (take (i + 1) xs))
writes_more f front a b c xs i x more first second =
    subst (λ (t : List ℕ). Appends a c t)
    (flat_map_more f front (take i xs) x ∙ ap (λ (ys : List _). front ++ flat_map f ys) (sym more))
    (appends_more a b c (front ++ flat_map f (take i xs)) (f x) first second)
