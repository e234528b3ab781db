-- Lists of what passes a test, with one element more.
use Rattle.std.proofs.Common.{◌≡◌, ◌∙◌, ℕ, ◌+◌, ◌<◌, Bool, true, false, cond, List, [], ◌∷◌, ◌++◌, map, filter, get_or}
use Rattle.std.proofs.Common.{take, length, refl, ap, sym, append-nil}
use Rattle.std.proofs.lemmas.List.Elements.{filter_more}
use Rattle.lk_types.specs.declared.member.Member.{Member}

pub map-push : {X Y : Type 0} (f : X → Y) (xs ys : List X) → map f (xs ++ ys) ≡ map f xs ++ map f ys
map-push f [] ys = refl
map-push f (x ∷ xs) ys = ap (λ l. f x ∷ l) (map-push f xs ys)

module _ {X : Type 0} (p : X → Bool) (xs : List X) (i : ℕ) (x : X) (in' : i < length xs) (is : x ≡ get_or xs i x) where
  -- it comes last, where it passes
  pub filter-more : p x ≡ true → filter p (take (i + 1) xs) ≡ filter p (take i xs) ++ x ∷ []
  filter-more t = filter_more p xs i x in' ∙ ap (λ y. filter p (take i xs) ++ cond (p y) (y ∷ []) []) (sym is)
      ∙ ap (λ b. filter p (take i xs) ++ cond b (x ∷ []) []) t

  pub filter-same : p x ≡ false → filter p (take (i + 1) xs) ≡ filter p (take i xs)
  filter-same f = filter_more p xs i x in' ∙ ap (λ y. filter p (take i xs) ++ cond (p y) (y ∷ []) []) (sym is)
      ∙ ap (λ b. filter p (take i xs) ++ cond b (x ∷ []) []) f ∙ append-nil (filter p (take i xs))

module _ (p : Member → Bool) (set : List Member) (i : ℕ) (m : Member) (in' : i < length set)
    (is : m ≡ get_or set i m) where
  -- the nodes of the members that pass
  pub passing-more : p m ≡ true
      → map (λ (m : Member). m.node) (filter p (take (i + 1) set))
      ≡ map (λ (m : Member). m.node) (filter p (take i set)) ++ m.node ∷ []
  passing-more t = ap (map (λ (m : Member). m.node)) (filter-more p set i m in' is t)
      ∙ map-push (λ (m : Member). m.node) (filter p (take i set)) (m ∷ [])

  pub passing-same : p m ≡ false
      → map (λ (m : Member). m.node) (filter p (take (i + 1) set))
      ≡ map (λ (m : Member). m.node) (filter p (take i set))
  passing-same f = ap (map (λ (m : Member). m.node)) (filter-same p set i m in' is f)
