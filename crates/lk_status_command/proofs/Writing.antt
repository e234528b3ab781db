-- What was written, and a text for each target.
use Rattle.std.proofs.Common.{◌≡◌, ◌<◌, ◌≤◌, ℕ, suc, ◌+◌, ◌%◌, ◌^◌, false, List, [], ◌∷◌, ◌++◌, Option, Some, None}
use Rattle.std.proofs.Common.{length, get_or, drop, sym, ap, subst, ◌∙◌, append_assoc, append-nil, drop-cons, arith}
use Rattle.std.specs.List.{flat_map}
use Rattle.std.proofs.lemmas.List.{drop_all}
use Rattle.std.specs.Io.KnownBytes.{Appends, Keeps}
use Rattle.std.specs.Prelude.{codes}
use Rattle.lk_types.proofs.Appending.{appends_more}
use Rattle.lk_probe.specs.declared.probe.Report.{Report}
use Rattle.lk_status.specs.Verdicts.{one_genesis}
use Rattle.lk_status.specs.declared.target.Target.{Target}
use Rattle.lk_status_command.specs.Lines.{count_text, traffic_text, stranger_word, strangers_text}
use Rattle.lk_status_command.specs.Tokens.{by_token}

-- what is flushed stays
pub appends_kept : (a b c : Option (List ℕ)) (x : List ℕ) → Appends a b x → Keeps b c → Appends a c x
appends_kept None b c x f g = tt
appends_kept (Some xs) None c x f g = absurd f
appends_kept (Some xs) (Some ys) None x f g = absurd g
appends_kept (Some xs) (Some ys) (Some zs) x f g = g ∙ f

-- the counts of a node
pub traffic_as : (a z : Option (List ℕ)) (r : Report) (p w : ℕ)
    → Appends a z (count_text (codes "a change takes effect in ") p (codes "position") (codes "positions")
    ++ (count_text [] w (codes "request waits") (codes "requests wait")
    ++ count_text [] r.status.traffic.unsent (codes "send failed") (codes "sends failed")))
    → p ≡ r.status.progress.pending → w ≡ r.status.traffic.waiting → Appends a z (traffic_text r)
traffic_as a z r p w printed ps ws = rw (sym ps, sym ws) printed

-- the nodes of another genesis, where there are several
pub strangers_as : (a z : Option (List ℕ)) (measure : Report) (rs front : List Report)
    → one_genesis rs ≡ false → front ≡ rs
    → Appends a z (codes "; genesis differs:" ++ flat_map (stranger_word measure) front)
    → Appends a z (strangers_text measure rs)
strangers_as a z measure rs front several all printed =
    rw several (subst (λ (l : List Report). Appends a z
    (codes "; genesis differs:" ++ flat_map (stranger_word measure) l)) all printed)

-- ---- a text for each target

same : (n : ℕ) → suc n ≡ n + 1
same n = omega arith

-- a list from a place on begins with what is there
pub next_item : {A : Type 0} (xs : List A) (i : ℕ) (x : A) → i < length xs → x ≡ get_or xs i x
    → drop i xs ≡ x ∷ drop (i + 1) xs
next_item {A} xs i x within is =
    drop-cons xs i x within ∙ ap (λ (other : A). other ∷ drop (suc i) xs) (sym is)
    ∙ ap (λ (n : ℕ). x ∷ drop n xs) (same i)

-- what was written, with the texts of the targets that are left, is all
abbrev pub SoFar : (ℕ → Target → List ℕ) → Option (List ℕ) → Option (List ℕ) → List ℕ → ℕ → List Target → Type 0
SoFar text old new all token ts =
    (written : List ℕ) × Appends old new written × (written ++ by_token text token ts ≡ all)

pub targets_more : (text : ℕ → Target → List ℕ) (a b c : Option (List ℕ)) (all : List ℕ) (token : ℕ) (ts : List Target)
    (i : ℕ) (t : Target) → drop i ts ≡ t ∷ drop (i + 1) ts
    → SoFar text a b all token (drop i ts) → Appends b c (text token t)
    → SoFar text a c all ((token + 1) % (2 ^ 64)) (drop (i + 1) ts)
targets_more text a b c all token ts i t next so_far more = (
  so_far.0 ++ text token t,
  appends_more a b c so_far.0 (text token t) so_far.1 more,
  append_assoc so_far.0 (text token t) (by_token text ((token + 1) % (2 ^ 64)) (drop (i + 1) ts))
      ∙ ap (λ (l : List ℕ). so_far.0 ++ l) (sym (ap (λ (l : List Target). by_token text token l) next)) ∙ so_far.2,
)

pub targets_done : (text : ℕ → Target → List ℕ) (a b : Option (List ℕ)) (all : List ℕ) (token : ℕ)
    (ts : List Target) (i : ℕ) → length ts ≤ i
    → SoFar text a b all token (drop i ts) → Appends a b all
targets_done text a b all token ts i past so_far =
    subst (λ (l : List ℕ). Appends a b l)
    (sym (append-nil so_far.0)
    ∙ ap (λ (l : List Target). so_far.0 ++ by_token text token l) (sym (drop_all i ts past)) ∙ so_far.2) so_far.1
