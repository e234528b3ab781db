use Rattle.std.proofs.Common.{◌≡◌, List, ℕ, Option, subst}
use Rattle.std.specs.Io.KnownBytes.{Appends}
use Rattle.lk_status_command.specs.Metrics.{head_text}
use Rattle.lk_types.proofs.Appending.{appends_more}
use Rattle.lk_status_command.proofs.prometheus.write_field.Goals as goal

-- the two lines in other words for the same texts
head_as : (a b : Option (List ℕ)) (n k h name kind help : List ℕ) → n ≡ name → k ≡ kind → h ≡ help
    → Appends a b (head_text n k h) → Appends a b (head_text name kind help)
head_as a b n k h name kind help ns ks hs printed =
    subst (λ (x : List ℕ). Appends a b (head_text x kind help)) ns
    (subst (λ (x : List ℕ). Appends a b (head_text n x help)) ks
    (subst (λ (x : List ℕ). Appends a b (head_text n k x)) hs printed))

pub returns : goal.returns
returns g c =
    appends_more _ _ _ _ _ (head_as _ _ _ _ _ _ _ _ c.name.ensures c.kind.ensures c.help.ensures
    c.in_ok-write_head.ensures) c.in_ok-write_samples.ensures
