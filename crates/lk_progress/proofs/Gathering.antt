-- The parts of a snapshot, heard in order, join to its text, and the whole text is installed.
use Rattle.std.proofs.Common.{◌≡◌, ◌∙◌, ℕ, zero, suc, ◌+◌, ◌*◌, ◌<◌, ◌≤◌, ◌⊎◌, inl, inr, Bool, true, false, cond, eqb}
use Rattle.std.proofs.Common.{ltb}
use Rattle.std.proofs.Common.{List, [], ◌∷◌, ◌++◌, length, take, drop, Some, refl, sym, ap, subst, arith}
use Rattle.std.proofs.lemmas.Bool.{lt-ltb, eq-eqb}
use Rattle.std.proofs.lemmas.List.{length-take-le, take_all}
use Rattle.std.specs.Prelude.{slice_get}
use Rattle.lk_messages.specs.Values.{PartValue}
use Rattle.lk_messages.specs.declared.message.Content.TheVariants as content
use Rattle.lk_messages.specs.declared.message.NodeMessage.TheVariants as kinds
use Rattle.lk_learner.specs.Gathering.{starts_text, heard, with_next_any}
use Rattle.lk_learner.specs.Installing.{hearing, installed, HasWhole, MayInstall, Installs}
use Rattle.lk_learner.specs.Learners.{GatheredValue, LearnerValue, WholeValue, executed, alpha}
use Rattle.lk_learner.specs.Parts.{part_of, AreParts}
use Rattle.lk_learner.specs.Unpacking.{Unpacks}
use Rattle.lk_node_interface.specs.Envelopes.{EnvelopeValue}
use Rattle.lk_node_interface.specs.Outboxes.{OutboxValue}
use Rattle.lk_node.specs.Executing.{without_term_if_outside}
use Rattle.lk_node.specs.Installing.{EndsFirstWaits, none_ended, one_ended, HandlesPart, InstallsGathered}
use Rattle.lk_node.specs.NodeValue.{NodeValue}
use Rattle.lk_progress.proofs.Executing.{outside_learner, reaches_or_not, runs_move}
use Rattle.lk_progress.proofs.Hearing.{Handled, handled, same_learner}
use Rattle.lk_progress.specs.Gathering.{HasSoFar, parts_from, GetsOn, PartsAreInstalled}
use Rattle.lk_progress.specs.Hearing.{Hears, TakesEach}
use Rattle.lk_state.specs.Meanings.{Meaning}
use Rattle.lk_state.specs.declared.session.Session.{Session}

-- ---- the text

take_none : (k : ℕ) → ◌≡◌ {A = List ℕ} (take k []) []
take_none zero = refl
take_none (suc k) = refl

take_then : (n k : ℕ) (xs : List ℕ) → take n xs ++ take k (drop n xs) ≡ take (n + k) xs
take_then zero k xs = let e : zero + k ≡ k = omega arith in rw e refl
take_then (suc n) k [] = take_none k ∙ sym (take_none (suc n + k))
take_then (suc n) k (x ∷ xs) =
    let e : suc n + k ≡ suc (n + k) = omega arith in rw e (ap (λ (l : List ℕ). x ∷ l) (take_then n k xs))

-- ---- what is gathered with the next part

-- the first bytes
abbrev first_of : ℕ → List ℕ → ℕ → GatheredValue
first_of position text count = record { position = position; total = length text; bytes = take count text }

module _ (position : ℕ) (text : List ℕ) (l : LearnerValue) (behind : executed l < position) where
  begins : starts_text l.gathered (part_of position text 0) ≡ true
      → heard (executed l) l.gathered (part_of position text 0) ≡ Some (first_of position text 1024)
  begins starts = by_tests (ltb (executed l) position) (starts_text l.gathered (part_of position text 0))
      (lt-ltb (executed l) position behind) starts
    where
      by_tests : (t u : Bool) → t ≡ true → u ≡ true
          → cond t (cond u (Some (first_of position text 1024)) (with_next_any l.gathered (part_of position text 0)))
          l.gathered
          ≡ Some (first_of position text 1024)
      by_tests true true e f = refl
      by_tests true false e f = absurd (cc f)
      by_tests false u e f = absurd (cc e)

  continues : (count : ℕ) → count < length text → l.gathered ≡ Some (first_of position text count)
      → heard (executed l) l.gathered (part_of position text count) ≡ Some (first_of position text (count + 1024))
  continues count within is =
      let part : PartValue = part_of position text count in
      let above : ltb (executed l) position ≡ true = lt-ltb (executed l) position behind in
      let older : ltb position position ≡ false = grind (arith) in
      let here : eqb position position ≡ true = eq-eqb position position refl in
      let total : eqb (length text) (length text) ≡ true = eq-eqb (length text) (length text) refl in
      let at : eqb count (length (take count text)) ≡ true =
      eq-eqb count (length (take count text)) (sym (length-take-le count text (omega (arith, within)))) in
      let joined : take count text ++ take 1024 (drop count text) ≡ take (count + 1024) text =
      take_then count 1024 text in
      rw (is, above, older, here, total, at, joined) refl

-- ---- installing

waits_learner : (ss : List Session) (old : NodeValue) (before : OutboxValue) (k : ℕ) (new : NodeValue)
    (after : OutboxValue) → EndsFirstWaits ss old before k new after → new.learner ≡ old.learner
waits_learner ss old before _ _ _ none_ended = refl
waits_learner ss old before _ new after (one_ended s so_far at ends) =
    ap (λ (node : NodeValue). node.learner) ends.becomes ∙ waits_learner ss old before _ _ _ so_far

-- a node that has installed a state has executed as much as it
adopted : (m : Meaning) (old new : NodeValue) (out : OutboxValue) → InstallsGathered m old new out
    → 1 ≤ alpha old.learner → executed old.learner ≤ executed new.learner
adopted m old new out k some =
    let is : (without_term_if_outside k.told).learner ≡ old.learner =
    outside_learner k.told ∙ waits_learner old.learner.whole.sessions old _ _ k.told k.said k.ends_wait in
    let there : alpha (without_term_if_outside k.told).learner ≡ alpha old.learner =
    ap (λ (l : LearnerValue). alpha l) is in
    let same : executed (without_term_if_outside k.told).learner ≡ executed old.learner =
    ap (λ (l : LearnerValue). executed l) is in
    let moved = runs_move m (without_term_if_outside k.told) k.said new out k.runs.0 (omega (arith, there, some)) in
    omega (arith, moved.0, same)

module _ (m : Meaning) (IsText : List ℕ → Type 0) (old : NodeValue) (p : PartValue) (g : GatheredValue)
    (hears : heard (executed old.learner) old.learner.gathered p ≡ Some g) where
  this_one : (h : GatheredValue) → HasWhole (hearing p old.learner) h → h ≡ g
  this_one h k = cc (hears, k.gathered)

  -- an incomplete text is kept
  not_yet : (new : NodeValue) (out : OutboxValue) → (length g.bytes ≡ g.total → ⊥) → HandlesPart m IsText old p new out
      → new.learner ≡ hearing p old.learner
  not_yet new out short (inl k) = absurd (by_install k.1.1)
    where
      whole_not : (h : GatheredValue) → HasWhole (hearing p old.learner) h → ⊥
      whole_not h k = short (subst (λ (x : GatheredValue). length x.bytes ≡ x.total) (this_one h k) k.whole)

      by_install : Installs IsText true (hearing p old.learner) k.1.0 → ⊥
      by_install (inl went) = whole_not went.1.1.gathered went.1.1.has
      by_install (inr (inl thrown)) = cc thrown.0
      by_install (inr (inr kept)) = cc kept.0
  not_yet new out short (inr k) = by_install k.0.1
    where
      whole_not : (h : GatheredValue) → HasWhole (hearing p old.learner) h → ⊥
      whole_not h k = short (subst (λ (x : GatheredValue). length x.bytes ≡ x.total) (this_one h k) k.whole)

      by_install : Installs IsText false (hearing p old.learner) k.0.0 → new.learner ≡ hearing p old.learner
      by_install (inl went) = absurd (cc went.0)
      by_install (inr (inl thrown)) = absurd (whole_not thrown.1.0 thrown.1.1)
      by_install (inr (inr kept)) = ap (λ (node : NodeValue). node.learner) k.0.2 ∙ kept.2

  -- a complete one that is a state's is installed
  now_whole : (w : WholeValue) (new : NodeValue) (out : OutboxValue) → 1 ≤ alpha old.learner
      → executed old.learner < g.position → length g.bytes ≡ g.total
      → Unpacks IsText (alpha old.learner) g.position g.bytes w → HandlesPart m IsText old p new out
      → g.position ≤ executed new.learner
  now_whole w new out some behind full unpacks (inl k) = by_install k.1.1
    where
      adopts : (v : WholeValue) (may : MayInstall IsText (hearing p old.learner) v)
          → k.1.0 ≡ installed v (hearing p old.learner) → g.position ≤ executed new.learner
      adopts v may is =
          let there : may.gathered.position ≡ g.position =
          ap (λ (h : GatheredValue). h.position) (this_one may.gathered may.has) in
          let learner : k.0.learner ≡ installed v (hearing p old.learner) =
          ap (λ (node : NodeValue). node.learner) k.1.2 ∙ is in
          let as_much : executed k.0.learner ≡ v.roster.executed = ap (λ (l : LearnerValue). executed l) learner in
          let window : alpha k.0.learner ≡ length v.roster.sets = ap (λ (l : LearnerValue). alpha l) learner in
          let moved = adopted m k.0 new out k.2 (omega (arith, window, may.unpacks.sets, some)) in
          omega (arith, moved, as_much, may.unpacks.executed, there)

      by_install : Installs IsText true (hearing p old.learner) k.1.0 → g.position ≤ executed new.learner
      by_install (inl went) = adopts went.1.0 went.1.1 went.1.2
      by_install (inr (inl thrown)) = absurd (cc thrown.0)
      by_install (inr (inr kept)) = absurd (cc kept.0)
  now_whole w new out some behind full unpacks (inr k) = absurd (by_install k.0.1)
    where
      by_install : Installs IsText false (hearing p old.learner) k.0.0 → ⊥
      by_install (inl went) = cc went.0
      by_install (inr (inl thrown)) =
          thrown.2 w
          (record { gathered = g; has = record { gathered = hears; whole = full }; above = behind; unpacks = unpacks })
      by_install (inr (inr kept)) = kept.1 g (record { gathered = hears; whole = full })

-- ---- one part, and all of them

with_part : (position : ℕ) (text : List ℕ) (l : LearnerValue) (count : ℕ) → executed l < position
    → count < length text → HasSoFar l position text count
    → heard (executed l) l.gathered (part_of position text count) ≡ Some (first_of position text (count + 1024))
with_part position text l count behind within (inl none) =
    subst (λ (c : ℕ). heard (executed l) l.gathered (part_of position text c) ≡ Some (first_of position text (c +
    1024)))
    (sym none.0) (begins position text l behind none.1)
with_part position text l count behind within (inr has) = continues position text l behind count within has

part_heard : (m : Meaning) (IsText : List ℕ → Type 0) (old new : NodeValue) (from position count : ℕ) (text : List ℕ)
    (w : WholeValue) (out : OutboxValue) → 1 ≤ alpha old.learner → executed old.learner < position
    → Unpacks IsText (alpha old.learner) position text w → count < length text
    → HasSoFar old.learner position text count
    → Hears m IsText old from (kinds.Part (part_of position text count)) new out
    → GetsOn old new position text (count + 1024)
part_heard m IsText old new from position count text w out some behind unpacks within has takes =
    by_length (reaches_or_not (length text) (count + 1024))
  where
    part : PartValue
    part = part_of position text count

    k : Handled m IsText old (content.Node from (kinds.Part part)) new out
    k = handled m IsText old _ new out takes

    learner : new.learner ≡ k.mid.learner
    learner = same_learner m IsText old _ new out k

    hears : heard (executed old.learner) old.learner.gathered part ≡ Some (first_of position text (count + 1024))
    hears = with_part position text old.learner count behind within has

    by_length : (length text ≤ count + 1024) ⊎ (count + 1024 < length text)
        → GetsOn old new position text (count + 1024)
    by_length (inl whole) =
        let all : take (count + 1024) text ≡ text = take_all (count + 1024) text whole in
        let full : length (take (count + 1024) text) ≡ length text = ap length all in
        let is : Unpacks IsText (alpha old.learner) position (take (count + 1024) text) w =
        subst (λ (bytes : List ℕ). Unpacks IsText (alpha old.learner) position bytes w) (sym all) unpacks in
        let reached : position ≤ executed k.mid.learner =
        now_whole m IsText old part (first_of position text (count + 1024)) hears w k.mid k.first some behind full is
        k.handles in
        inl (whole, subst (λ (l : LearnerValue). position ≤ executed l) (sym learner) reached)
    by_length (inr short) =
        let long : length (take (count + 1024) text) ≡ count + 1024 =
        length-take-le (count + 1024) text (omega (arith, short)) in
        let not_whole : length (take (count + 1024) text) ≡ length text → ⊥ = λ e. omega (arith, e, long, short) in
        let is : new.learner ≡ hearing part old.learner =
        learner ∙ not_yet m IsText old part (first_of position text (count + 1024)) hears k.mid k.first not_whole
        k.handles in
        inr (short, ap (λ (l : LearnerValue). l.gathered) is ∙ hears, ap (λ (l : LearnerValue). l.whole) is)

-- each part begins where the one before it ends
abbrev Follow : ℕ → List ℕ → ℕ → List PartValue → Type 0
Follow position text count parts = (k : ℕ) (p : PartValue) → slice_get parts k ≡ Some p
    → (p ≡ part_of position text (count + k * 1024)) × (count + k * 1024 < length text)

rest_follow : (position : ℕ) (text : List ℕ) (count : ℕ) (p : PartValue) (parts : List PartValue)
    → Follow position text count (p ∷ parts) → Follow position text (count + 1024) parts
rest_follow position text count p parts follow k q at =
    let e : count + suc k * 1024 ≡ count + 1024 + k * 1024 = omega arith in
    subst (λ (n : ℕ). (q ≡ part_of position text n) × (n < length text)) e (follow (suc k) q at)

first_follows : (position : ℕ) (text : List ℕ) (count : ℕ) (p : PartValue) (parts : List PartValue)
    → Follow position text count (p ∷ parts) → (p ≡ part_of position text count) × (count < length text)
first_follows position text count p parts follow =
    let e : count + 0 * 1024 ≡ count = omega arith in
    subst (λ (n : ℕ). (p ≡ part_of position text n) × (n < length text)) e (follow 0 p refl)

since : (position : ℕ) (text : List ℕ) (old mid new : NodeValue) (reached : ℕ)
    → mid.learner.whole ≡ old.learner.whole → GetsOn mid new position text reached
    → GetsOn old new position text reached
since position text old mid new reached same (inl whole) = inl whole
since position text old mid new reached same (inr more) = inr (more.0, more.1, more.2 ∙ same)

all_heard : (m : Meaning) (IsText : List ℕ → Type 0) (from position : ℕ) (text : List ℕ) (w : WholeValue)
    (parts : List PartValue) (p : PartValue) (old new : NodeValue) (count : ℕ) (envelopes : List EnvelopeValue)
    → 1 ≤ alpha old.learner → executed old.learner < position → Unpacks IsText (alpha old.learner) position text w
    → HasSoFar old.learner position text count → Follow position text count (p ∷ parts)
    → TakesEach m IsText (parts_from from (p ∷ parts)) old new envelopes
    → GetsOn old new position text (count + length (p ∷ parts) * 1024)
all_heard m IsText from position text w [] p old new count envelopes some behind unpacks has follow takes =
    let first = first_follows position text count p [] follow in
    let heard : Hears m IsText old from (kinds.Part (part_of position text count)) takes.0 takes.1 =
    subst (λ (q : PartValue). Hears m IsText old from (kinds.Part q) takes.0 takes.1) first.0 takes.3 in
    subst (λ (node : NodeValue). GetsOn old node position text (count + 1024)) (sym takes.4.0)
    (part_heard m IsText old takes.0 from position count text w takes.1 some behind unpacks first.1 has heard)
all_heard m IsText from position text w (q ∷ parts) p old new count envelopes some behind unpacks has follow takes =
    let first = first_follows position text count p (q ∷ parts) follow in
    let rest = rest_follow position text count p (q ∷ parts) follow in
    let next = first_follows position text (count + 1024) q parts rest in
    let heard : Hears m IsText old from (kinds.Part (part_of position text count)) takes.0 takes.1 =
    subst (λ (x : PartValue). Hears m IsText old from (kinds.Part x) takes.0 takes.1) first.0 takes.3 in
    let reached : count + 1024 + length (q ∷ parts) * 1024 ≡ count + length (p ∷ q ∷ parts) * 1024 = omega arith in
    elim (part_heard m IsText old takes.0 from position count text w takes.1 some behind unpacks first.1 has heard) [
      | inl whole ↦ absurd (omega (arith, next.1, whole.0))
      | inr more ↦
          let window : alpha takes.0.learner ≡ alpha old.learner =
          ap (λ (v : WholeValue). length v.roster.sets) more.2 in
          let as_much : executed takes.0.learner ≡ executed old.learner =
          ap (λ (v : WholeValue). v.roster.executed) more.2 in
          subst (λ (n : ℕ). GetsOn old new position text n) reached
          (since position text old takes.0 new (count + 1024 + length (q ∷ parts) * 1024) more.2
          (all_heard m IsText from position text w parts q takes.0 new (count + 1024) takes.2
          (omega (arith, window, some)) (omega (arith, as_much, behind))
          (subst (λ (n : ℕ). Unpacks IsText n position text w) (sym window) unpacks) (inr more.1) rest takes.4))
    ]

pub parts_installed : (m : Meaning) (IsText : List ℕ → Type 0) → PartsAreInstalled m IsText
parts_installed m IsText old new from position count text w parts envelopes some behind unpacks within has are takes =
    by_parts parts are takes
  where
    by_parts : (ps : List PartValue) → AreParts position text count ps
        → TakesEach m IsText (parts_from from ps) old new envelopes
        → GetsOn old new position text (count + length ps * 1024)
    by_parts [] are takes =
        elim are.all [ inl eight ↦ absurd (cc eight) | inr all ↦ absurd (omega (arith, all, within)) ]
    by_parts (p ∷ ps) are takes =
        all_heard m IsText from position text w ps p old new count envelopes some behind unpacks has are.each takes
