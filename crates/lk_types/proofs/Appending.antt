-- One text after another, in a writer.
use Rattle.std.proofs.Common.{◌≡◌, ◌∙◌, ◌++◌, ℕ, List, [], Option, Some, None, ap, sym, append_assoc, append-nil}
use Rattle.std.specs.Io.KnownBytes.{Appends}

pub appends_nothing : (before : Option (List ℕ)) → Appends before before []
appends_nothing None = tt
appends_nothing (Some xs) = sym (append-nil xs)

pub appends_more : (a b c : Option (List ℕ)) (x y : List ℕ) → Appends a b x → Appends b c y → Appends a c (x ++ y)
appends_more None b c x y f g = tt
appends_more (Some xs) None c x y f g = absurd f
appends_more (Some xs) (Some ys) None x y f g = absurd g
appends_more (Some xs) (Some ys) (Some zs) x y f g = g ∙ ap (λ (t : List ℕ). t ++ y) f ∙ append_assoc xs x y
