-- A list for each target, by the token of its probe.
use Rattle.std.specs.Prelude.{ℕ, ◌+◌, ◌%◌, ◌^◌, List, [], ◌∷◌, ◌++◌}
use Rattle.lk_status.specs.declared.target.Target.{Target}

-- the probe of the first carries this token, and that of each other the next
abbrev pub by_token : {A : Type 0} → (ℕ → Target → List A) → ℕ → List Target → List A
by_token list token [] = []
by_token list token (t ∷ ts) = list token t ++ by_token list ((token + 1) % (2 ^ 64)) ts
