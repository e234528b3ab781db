-- The test whether a node is heard is right: it holds exactly where one of the last probes to it has a recent reply.
use Rattle.std.proofs.Common.{◌≡◌, ◌⊎◌, ◌<◌, ◌-◌, ◌==◌, ℕ, Bool, true, false, ◌&&◌, ◌||◌, [], ◌∷◌, Option}
use Rattle.std.proofs.Common.{Some, None, refl, sym, ap, ◌∙◌, inl, inr, arith}
use Rattle.std.proofs.lemmas.Bool.{eqb-true, ltb-true, lt-ltb}
use Rattle.std.proofs.lemmas.Grind.{common_steps}
use Rattle.lk_hearing.specs.Probes.{Entries, IsAmong, IsHeard, counts_for, hears, is_recent}
use Rattle.lk_hearing.specs.declared.hearing.Asked.{Asked}

pub both_true : (a b : Bool) → (a && b) ≡ true → (a ≡ true) × (b ≡ true)
both_true true b e = (refl, e)
both_true false b e = absurd cc

pub either_true : (a b : Bool) → (a || b) ≡ true → (a ≡ true) ⊎ (b ≡ true)
either_true true b e = inl refl
either_true false b e = inr e

pub or_true : (a b : Bool) → b ≡ true → (a || b) ≡ true
or_true true b e = refl
or_true false b e = e

pub same : (n : ℕ) → (n == n) ≡ true
same n = grind (arith, common_steps)

recent_is : (now : ℕ) (o : Option ℕ) → is_recent now o ≡ true
    → (period : ℕ) × (o ≡ Some period) × (now - period < 8)
recent_is now None e = absurd cc
recent_is now (Some period) e = (period, refl, ltb-true _ _ e)

pub to_heard : (node now : ℕ) (es : Entries) → hears node now es ≡ true → IsHeard node now es
to_heard node now [] e = absurd cc
to_heard node now (None ∷ es) e =
    let h = to_heard node now es e in
    record { asked = h.asked; among = h.among; to = h.to; period = h.period; replied = h.replied; recent = h.recent }
to_heard node now (Some a ∷ es) e = elim (either_true (counts_for node now (Some a)) (hears node now es) e) [
  | inl this ↦
      let both = both_true (a.probe.node == node) (is_recent now a.replied) this in
      let r = recent_is now a.replied both.1 in
      record {
        asked = a;
        among = inl refl;
        to = eqb-true _ _ both.0;
        period = r.0;
        replied = r.1;
        recent = r.2;
      }
  | inr more ↦
      let h = to_heard node now es more in
      record {
        asked = h.asked;
        among = inr h.among;
        to = h.to;
        period = h.period;
        replied = h.replied;
        recent = h.recent;
      }
]

counts : (node now : ℕ) (a : Asked) (period : ℕ) → a.probe.node ≡ node → a.replied ≡ Some period → now - period < 8
    → counts_for node now (Some a) ≡ true
counts node now a period to replied recent = rw (to, replied, same node) (lt-ltb _ _ recent)

from_among : (node now : ℕ) (es : Entries) (a : Asked) → IsAmong a es → counts_for node now (Some a) ≡ true
    → hears node now es ≡ true
from_among node now [] a there counted = absurd there
from_among node now (None ∷ es) a there counted = from_among node now es a there counted
from_among node now (Some b ∷ es) a (inl is) counted =
    let here : counts_for node now (Some b) ≡ true = ap (λ (x : Asked). counts_for node now (Some x)) (sym is)
    ∙ counted in
    rw here refl
from_among node now (Some b ∷ es) a (inr there) counted =
    or_true (counts_for node now (Some b)) (hears node now es) (from_among node now es a there counted)

pub from_heard : (node now : ℕ) (es : Entries) → IsHeard node now es → hears node now es ≡ true
from_heard node now es h =
    from_among node now es h.asked h.among (counts node now h.asked h.period h.to h.replied h.recent)
