-- What a writer that is refused leaves.
use Rattle.std.proofs.Common.{◌≡◌, ℕ, List, ◌++◌, length, take, drop, sym, ap, ◌∙◌, append_assoc}
use Rattle.std.proofs.Math.Seq.{take-append_seam, take-length}
use Rattle.std.proofs.lemmas.List.{take-append-drop}
use Rattle.lk_codec.specs.Fronts.{KeepsFront}

pub keeps_same : (old new : List ℕ) → new ≡ old → KeepsFront old new
keeps_same old new e = record { front = ap (take (length old)) e ∙ take-length old }

-- the same after what was added before
pub keeps_behind : (old mid new added : List ℕ) → mid ≡ old ++ added → KeepsFront mid new → KeepsFront old new
keeps_behind old mid new added e k =
    let rest = drop (length mid) new in
    let whole : new ≡ old ++ (added ++ rest) = sym (take-append-drop (length mid) new)
    ∙ ap (λ (w : List ℕ). w ++ rest) (k.front ∙ e) ∙ append_assoc old added rest in
    record { front = ap (take (length old)) whole ∙ take-append_seam old (added ++ rest) }
