-- What is added to a transcript by one run after another.
use Rattle.std.proofs.Common.{◌≡◌, ◌∙◌, refl, sym, ap, subst, append_assoc, append-nil, take, length, Bool, true, false}
use Rattle.std.proofs.Common.{ℕ, List, [], ◌∷◌, ◌++◌}
use Rattle.std.proofs.Math.Seq.{take-append_seam}
use Rattle.lk_replica.specs.Behaviours.{Behaviour}
use Rattle.lk_script_lines.specs.EventLines.{line_of, lines_for}
use Rattle.lk_sim.specs.Runs.{AreExecuted}
use Rattle.lk_sim.specs.WorldStates.{WorldState}
use Rattle.lk_sim.specs.declared.event.Event.{Event}
use Rattle.lk_random_schedules.specs.Transcripts.{kept_lines, AddsSome}
use Rattle.lk_random_schedules.specs.declared.transcript.Transcript.{Transcript}

passes_on : {R : Type 0} (b : Behaviour R) (es fs : List Event) (old mid new : WorldState R) → AreExecuted b es old mid
    → AreExecuted b fs mid new → AreExecuted b (es ++ fs) old new
passes_on b [] fs old mid new p q = subst (λ w. AreExecuted b fs w new) p q
passes_on b (e ∷ es) fs old mid new p q = (p.0, p.1, passes_on b es fs p.0 mid new p.2 q)

lines_on : (kept : Bool) (es fs : List Event) → kept_lines kept (es ++ fs) ≡ kept_lines kept es ++ kept_lines kept fs
lines_on false es fs = refl
lines_on true [] fs = refl
lines_on true (e ∷ es) fs =
    ap (λ (l : List ℕ). line_of e ++ 10 ∷ l) (lines_on true es fs)
    ∙ sym (append_assoc (line_of e) (10 ∷ lines_for es) (lines_for fs))

-- some events, and then some more
pub adds_on : {R : Type 0} (b : Behaviour R) (old mid new : WorldState R) (t u v : Transcript) → AddsSome b old t mid u
    → AddsSome b mid u new v → AddsSome b old t new v
adds_on b old mid new t u v p q =
    let es : List Event = p.0 in
    let fs : List Event = q.0 in
    let split : kept_lines t.is_kept (es ++ fs) ≡ kept_lines t.is_kept es ++ kept_lines t.is_kept fs =
    lines_on t.is_kept es fs in
    let moved : kept_lines u.is_kept fs ≡ kept_lines t.is_kept fs = ap (λ (k : Bool). kept_lines k fs) p.1.1 in
    let front : u.text.items ≡ t.text.items ++ kept_lines t.is_kept es = p.1.2 in
    let all : v.text.items ≡ (t.text.items ++ kept_lines t.is_kept es) ++ kept_lines t.is_kept fs =
    q.1.2 ∙ ap (λ (l : List ℕ). l ++ kept_lines u.is_kept fs) front
    ∙ ap (λ (l : List ℕ). (t.text.items ++ kept_lines t.is_kept es) ++ l) moved in (
      es ++ fs,
      (
        passes_on b es fs old mid new p.1.0 q.1.0,
        q.1.1 ∙ p.1.1,
        all ∙ append_assoc t.text.items (kept_lines t.is_kept es) (kept_lines t.is_kept fs)
            ∙ ap (λ (l : List ℕ). t.text.items ++ l) (sym split),
      ),
    )

no_lines : (kept : Bool) → [] ≡ kept_lines kept []
no_lines false = refl
no_lines true = refl

-- a text that is cut to what it was has no line more
pub cut_back : (kept : Bool) (text more cut : List ℕ) → cut ≡ take (length text) (text ++ more)
    → cut ≡ text ++ kept_lines kept []
cut_back kept text more cut is =
    is ∙ take-append_seam text more ∙ sym (append-nil text) ∙ ap (λ (l : List ℕ). text ++ l) (no_lines kept)

-- no event
pub adds_none : {R : Type 0} (b : Behaviour R) (old : WorldState R) (t : Transcript) → AddsSome b old t old t
adds_none b old t =
    ([], (refl, refl, sym (append-nil t.text.items) ∙ ap (λ (l : List ℕ). t.text.items ++ l) (no_lines t.is_kept)))

-- a transcript that kept lines, and had the first
pub script_lines : (front : List ℕ) (t u : Transcript) (events : List Event) → t.is_kept ≡ true → t.text.items ≡ front
    → u.text.items ≡ t.text.items ++ kept_lines t.is_kept events → u.text.items ≡ front ++ lines_for events
script_lines front t u events kept is adds =
    adds ∙ ap (λ (k : Bool). t.text.items ++ kept_lines k events) kept ∙ ap (λ (l : List ℕ). l ++ lines_for events) is
