-- Parts of a snapshot that are delivered to a node of a world, and what they leave of it.
use Rattle.std.proofs.Common.{◌≡◌, ◌∙◌, ◌⊎◌, inl, inr, ℕ, zero, suc, ◌+◌, ◌*◌, ◌<◌, ◌≤◌}
use Rattle.std.proofs.Common.{◌++◌, Bool, true, false, cond, eqb}
use Rattle.std.proofs.Common.{ltb, List, [], ◌∷◌, length, take, drop, Some, Contains, refl, ap, sym, subst}
use Rattle.std.proofs.Common.{arith, append-nil, get_or}
use Rattle.std.proofs.lemmas.Bool.{cases_Bool, eq-eqb, eqb-true, lt-ltb}
use Rattle.std.proofs.lemmas.List.{length-take-le}
use Rattle.std.proofs.lemmas.Option.{slice_get-get_or}
use Rattle.std.specs.Prelude.{slice_get}
use Rattle.lk_types.specs.declared.vote.Vote.{Vote}
use Rattle.lk_messages.specs.Values.{PartValue}
use Rattle.lk_messages.specs.declared.message.Content.{Content}
use Rattle.lk_messages.specs.declared.message.Content.TheVariants as content
use Rattle.lk_messages.specs.declared.message.NodeMessage.TheVariants as kinds
use Rattle.lk_state.specs.Meanings.{Meaning}
use Rattle.lk_state.specs.States.{WholeValue}
use Rattle.lk_learner.specs.Gathering.{heard, starts_text, with_next_any}
use Rattle.lk_learner.specs.Installing.{HasWhole, Installs, hearing}
use Rattle.lk_learner.specs.Learners.{GatheredValue, LearnerValue, executed}
use Rattle.lk_learner.specs.Parts.{AreParts, part_of, start_of}
use Rattle.lk_node.specs.Installing.{HandlesPart}
use Rattle.lk_node.specs.Leading.{having_proposed, ProposesAll}
use Rattle.lk_node.specs.NewBases.{with_snapshot}
use Rattle.lk_node.specs.NodeValue.{NodeValue}
use Rattle.lk_node_interface.specs.Envelopes.{EnvelopeValue}
use Rattle.lk_node_interface.specs.Outboxes.{OutboxValue}
use Rattle.lk_progress.proofs.Hearing.{Handled, handled, same_learner}
use Rattle.lk_progress.specs.Gathering.{GetsOn, HasFirst, HasSoFar, parts_from}
use Rattle.lk_progress.specs.Hearing.{Takes, TakesEach}
use Rattle.lk_replica.specs.ReplicaValue.{ReplicaValue}
use Rattle.lk_sim.specs.WorldStates.{WorldState}
use Rattle.lk_world_feeding.proofs.Knowing.{left_is}
use Rattle.lk_world_feeding.proofs.Taking.{TakesFrom, takes_from, then_only}
use Rattle.lk_world_feeding.specs.Asking.{ChangesOnly}
use Rattle.lk_world_feeding.specs.Gathering.{LeavesOlder, NewerPartsBeginAnew}
use Rattle.lk_world_progress.specs.Delivering.{Delivers, DeliversInTurn}
use Rattle.lk_world_progress.specs.Stepping.{EventIsStep, Holds, IsUpAs}

-- ---- the gathered text

take_none : (k : ℕ) → ◌≡◌ {A = List ℕ} (take k []) []
take_none zero = refl
take_none (suc k) = refl

take_then : (n k : ℕ) (xs : List ℕ) → take n xs ++ take k (drop n xs) ≡ take (n + k) xs
take_then zero k xs = let e : zero + k ≡ k = omega arith in rw e refl
take_then (suc n) k [] = take_none k ∙ sym (take_none (suc n + k))
take_then (suc n) k (x ∷ xs) =
    let e : suc n + k ≡ suc (n + k) = omega arith in rw e (ap (λ (l : List ℕ). x ∷ l) (take_then n k xs))

-- its first bytes
abbrev first_of : ℕ → List ℕ → ℕ → GatheredValue
first_of position text count = record { position = position; total = length text; bytes = take count text }

module _ (position : ℕ) (text : List ℕ) (l : LearnerValue) (behind : executed l < position) where
  begins : starts_text l.gathered (part_of position text 0) ≡ true
      → heard (executed l) l.gathered (part_of position text 0) ≡ Some (first_of position text 1024)
  begins starts = by_tests (ltb (executed l) position) (starts_text l.gathered (part_of position text 0))
      (lt-ltb (executed l) position behind) starts
    where
      by_tests : (t u : Bool) → t ≡ true → u ≡ true
          → cond t (cond u (Some (first_of position text 1024)) (with_next_any l.gathered (part_of position text 0)))
          l.gathered
          ≡ Some (first_of position text 1024)
      by_tests true true e f = refl
      by_tests true false e f = absurd (cc f)
      by_tests false u e f = absurd (cc e)

  continues : (count : ℕ) → count < length text → l.gathered ≡ Some (first_of position text count)
      → heard (executed l) l.gathered (part_of position text count) ≡ Some (first_of position text (count + 1024))
  continues count within is =
      let part : PartValue = part_of position text count in
      let above : ltb (executed l) position ≡ true = lt-ltb (executed l) position behind in
      let older : ltb position position ≡ false = grind (arith) in
      let here : eqb position position ≡ true = eq-eqb position position refl in
      let total : eqb (length text) (length text) ≡ true = eq-eqb (length text) (length text) refl in
      let at : eqb count (length (take count text)) ≡ true =
      eq-eqb count (length (take count text)) (sym (length-take-le count text (omega (arith, within)))) in
      let joined : take count text ++ take 1024 (drop count text) ≡ take (count + 1024) text =
      take_then count 1024 text in
      rw (is, above, older, here, total, at, joined) refl

  with_part : (count : ℕ) → count < length text → HasSoFar l position text count
      → heard (executed l) l.gathered (part_of position text count) ≡ Some (first_of position text (count + 1024))
  with_part count within (inl none) = subst
      (λ (c : ℕ). heard (executed l) l.gathered (part_of position text c) ≡ Some (first_of position text (c + 1024)))
      (sym none.0) (begins none.1)
  with_part count within (inr has) = continues count within has

-- ---- a part that does not complete it

proposed_rests : (xs : List Vote) (old new : NodeValue) (before out : OutboxValue) → ProposesAll xs old new before out
    → out.rebase ≡ before.rebase
proposed_rests [] old new before out p = ap (λ (o : OutboxValue). o.rebase) p.2
proposed_rests (x ∷ xs) old new before out p = proposed_rests xs (having_proposed old x p.0) new _ out p.1

-- nothing is installed, so the store is not rebased
module _ (m : Meaning) (IsText : List ℕ → Type 0) (old : NodeValue) (p : PartValue) (g : GatheredValue)
    (hears : heard (executed old.learner) old.learner.gathered p ≡ Some g) (short : length g.bytes ≡ g.total → ⊥) where
  whole_not : (h : GatheredValue) → HasWhole (hearing p old.learner) h → ⊥
  whole_not h k =
      let same : h ≡ g = cc (hears, k.gathered) in
      short (subst (λ (x : GatheredValue). length x.bytes ≡ x.total) same k.whole)

  not_yet : (new : NodeValue) (out : OutboxValue) → HandlesPart m IsText old p new out
      → (new.learner ≡ hearing p old.learner) × (out.rebase ≡ false)
  not_yet new out (inl k) = absurd (by_install k.1.1)
    where
      by_install : Installs IsText true (hearing p old.learner) k.1.0 → ⊥
      by_install (inl went) = whole_not went.1.1.gathered went.1.1.has
      by_install (inr (inl thrown)) = cc thrown.0
      by_install (inr (inr kept)) = cc kept.0
  not_yet new out (inr k) = (by_install k.0.1, ap (λ (o : OutboxValue). o.rebase) k.1)
    where
      by_install : Installs IsText false (hearing p old.learner) k.0.0 → new.learner ≡ hearing p old.learner
      by_install (inl went) = absurd (cc went.0)
      by_install (inr (inl thrown)) = absurd (whole_not thrown.1.0 thrown.1.1)
      by_install (inr (inr kept)) = ap (λ (node : NodeValue). node.learner) k.0.2 ∙ kept.2

-- a part that follows what is gathered, and is not the last one, is gathered
part_gathered : (m : Meaning) (IsText : List ℕ → Type 0) (old new : NodeValue) (from position count : ℕ)
    (text : List ℕ) (out : OutboxValue) → executed old.learner < position → count + 1024 < length text
    → HasSoFar old.learner position text count
    → Takes m IsText old (content.Node from (kinds.Part (part_of position text count))) new out
    → HasFirst new.learner position text (count + 1024) × (new.learner.whole ≡ old.learner.whole)
    × (out.rebase ≡ false)
part_gathered m IsText old new from position count text out behind short has k =
    let hears : heard (executed old.learner) old.learner.gathered (part_of position text count)
    ≡ Some (first_of position text (count + 1024)) =
    with_part position text old.learner behind count (omega (arith, short)) has in
    let long : length (take (count + 1024) text) ≡ count + 1024 =
    length-take-le (count + 1024) text (omega (arith, short)) in
    let h : Handled m IsText old (content.Node from (kinds.Part (part_of position text count))) new out =
    handled m IsText old (content.Node from (kinds.Part (part_of position text count))) new out k in
    let rests = not_yet m IsText old (part_of position text count) (first_of position text (count + 1024)) hears
    (λ e. omega (arith, e, long, short)) h.mid h.first h.handles in
    let learner : new.learner ≡ hearing (part_of position text count) old.learner =
    same_learner m IsText old (content.Node from (kinds.Part (part_of position text count))) new out h ∙ rests.0 in (
      ap (λ (l : LearnerValue). l.gathered) learner ∙ hears,
      ap (λ (l : LearnerValue). l.whole) learner,
      proposed_rests h.proposes.0 h.mid new h.first out h.proposes.1 ∙ rests.1,
    )

-- ---- all parts of an exchange

-- each part begins where the one before it ends
abbrev pub Follow : ℕ → List ℕ → ℕ → List PartValue → Type 0
Follow position text count parts = (k : ℕ) (p : PartValue) → slice_get parts k ≡ Some p
    → (p ≡ part_of position text (count + k * 1024)) × (count + k * 1024 < length text)

rest_follow : (position : ℕ) (text : List ℕ) (count : ℕ) (p : PartValue) (parts : List PartValue)
    → Follow position text count (p ∷ parts) → Follow position text (count + 1024) parts
rest_follow position text count p parts follow k q at =
    let e : count + suc k * 1024 ≡ count + 1024 + k * 1024 = omega arith in
    subst (λ (n : ℕ). (q ≡ part_of position text n) × (n < length text)) e (follow (suc k) q at)

first_follows : (position : ℕ) (text : List ℕ) (count : ℕ) (p : PartValue) (parts : List PartValue)
    → Follow position text count (p ∷ parts) → (p ≡ part_of position text count) × (count < length text)
first_follows position text count p parts follow =
    let e : count + 0 * 1024 ≡ count = omega arith in
    subst (λ (n : ℕ). (p ≡ part_of position text n) × (n < length text)) e (follow 0 p refl)

-- The node took the parts, as steps of a node; after the last one a snapshot may have replaced what it has executed.
pub record TookParts (m : Meaning) (IsText : List ℕ → Type 0) (n from : ℕ) (parts : List PartValue) (r : ReplicaValue)
    (old new : WorldState ReplicaValue) : Type 0 where
  pub last : NodeValue
  pub envelopes : List EnvelopeValue
  pub takes : TakesEach m IsText (parts_from from parts) r.node last envelopes
  pub now : ReplicaValue
  pub is : IsUpAs new n now
  pub left : (now.node ≡ last) ⊎ (now.node ≡ with_snapshot last)
  pub only : ChangesOnly n old new

module _ (m : Meaning) (IsText : List ℕ → Type 0) (law : EventIsStep m IsText) (n from position : ℕ) (text : List ℕ)
  where
    -- one part, taken by a node that has no rebase due
    module _ (x : Content) (r : ReplicaValue) (old new : WorldState ReplicaValue) (up : IsUpAs old n r)
        (k : Delivers m IsText n x old new) where
      abbrev took : TakesFrom m IsText law n x r old new
      took = takes_from m IsText law n x r old new up k.hears

      rested : took.steps.step.start ≡ r.node
      rested = took.steps.found.rests (k.rested r up)

      taken : Takes m IsText r.node x took.steps.step.last took.steps.step.out
      taken = subst (λ (node : NodeValue). Takes m IsText node x took.steps.step.last took.steps.step.out) rested
          took.takes

    took_parts : (parts : List PartValue) (p : PartValue) (count : ℕ) (r : ReplicaValue)
        (old new : WorldState ReplicaValue)
        → IsUpAs old n r → executed r.node.learner < position → HasSoFar r.node.learner position text count
        → Follow position text count (p ∷ parts) → DeliversInTurn m IsText n (parts_from from (p ∷ parts)) old new
        → TookParts m IsText n from (p ∷ parts) r old new
    took_parts [] p count r old new up behind has follow d =
        let x : Content = content.Node from (kinds.Part p) in
        let t = took x r old d.0 up d.1 in
        let e : new ≡ d.0 = d.2 in record {
          last = t.steps.step.last;
          envelopes = t.steps.step.out.envelopes;
          takes = (
            t.steps.step.last,
            t.steps.step.out,
            [],
            taken x r old d.0 up d.1,
            (refl, refl),
            sym (append-nil t.steps.step.out.envelopes),
          );
          now = t.steps.step.after;
          is = subst (λ (w : WorldState ReplicaValue). IsUpAs w n t.steps.step.after) (sym e) t.steps.step.is;
          left = left_is t.steps.step.out t.steps.step.last t.steps.step.after t.steps.step.left;
          only = subst (λ (w : WorldState ReplicaValue). ChangesOnly n old w) (sym e) t.steps.only;
        }
    took_parts (q ∷ parts) p count r old new up behind has follow d =
        let x : Content = content.Node from (kinds.Part p) in
        let t = took x r old d.0 up d.1 in
        let first = first_follows position text count p (q ∷ parts) follow in
        let rest = rest_follow position text count p (q ∷ parts) follow in
        let next = first_follows position text (count + 1024) q parts rest in
        let gathered = part_gathered m IsText r.node t.steps.step.last from position count text t.steps.step.out behind
        next.1 has
        (subst (λ (y : PartValue). Takes m IsText r.node (content.Node from (kinds.Part y)) t.steps.step.last
        t.steps.step.out) first.0 (taken x r old d.0 up d.1)) in
        let after : t.steps.step.after.node ≡ t.steps.step.last = t.steps.step.left.rests gathered.2 in
        let as_much : executed t.steps.step.last.learner ≡ executed r.node.learner =
        ap (λ (w : WholeValue). w.roster.executed) gathered.1 in
        let more = took_parts parts q (count + 1024) t.steps.step.after d.0 new t.steps.step.is
        (subst (λ (node : NodeValue). executed node.learner < position) (sym after) (omega (arith, behind, as_much)))
        (subst (λ (node : NodeValue). HasSoFar node.learner position text (count + 1024)) (sym after) (inr gathered.0))
        rest d.2 in record {
          last = more.last;
          envelopes = t.steps.step.out.envelopes ++ more.envelopes;
          takes = (
            t.steps.step.last,
            t.steps.step.out,
            more.envelopes,
            taken x r old d.0 up d.1,
            subst (λ (node : NodeValue). TakesEach m IsText (parts_from from (q ∷ parts)) node more.last more.envelopes)
                after more.takes,
            refl,
          );
          now = more.now;
          is = more.is;
          left = more.left;
          only = then_only n old d.0 new t.steps.only more.only;
        }

    -- and the parts of an exchange, one at least
    pub all_taken : (parts : List PartValue) (count : ℕ) (r : ReplicaValue) (old new : WorldState ReplicaValue)
        → 1 ≤ length parts → IsUpAs old n r → executed r.node.learner < position
        → HasSoFar r.node.learner position text count → Follow position text count parts
        → DeliversInTurn m IsText n (parts_from from parts) old new → TookParts m IsText n from parts r old new
    all_taken [] count r old new some up behind has follow d = absurd (omega (arith, some))
    all_taken (p ∷ parts) count r old new some up behind has follow d =
        took_parts parts p count r old new up behind has follow d

-- ---- the parts that are asked for

pub start_here : (offset : ℕ) (text : List ℕ) → offset < length text → start_of offset text ≡ offset
start_here offset text within = rw (lt-ltb offset (length text) within) refl

-- two nodes' parts from the same byte on are the same
pub same_parts : (position start : ℕ) (text : List ℕ) (some all : List PartValue) → AreParts position text start some
    → AreParts position text start all → (p : PartValue) → Contains some p → Contains all p
same_parts position start text some all are others p c = (c.0, within others.all, ap_some here)
  where
    at : slice_get some c.0 ≡ Some p
    at = slice_get-get_or some c.0 p c.1 ∙ ap Some c.2

    is : (p ≡ part_of position text (start + c.0 * 1024)) × (start + c.0 * 1024 < length text)
    is = are.each c.0 p at

    within : (length all ≡ 8) ⊎ (length text ≤ start + length all * 1024) → c.0 < length all
    within (inl eight) = omega (arith, eight, are.few, c.1)
    within (inr rest) = omega (arith, rest, is.1)

    here : get_or all c.0 p ≡ part_of position text (start + c.0 * 1024)
    here = (others.each c.0 (get_or all c.0 p) (slice_get-get_or all c.0 p (within others.all))).0

    ap_some : get_or all c.0 p ≡ part_of position text (start + c.0 * 1024) → get_or all c.0 p ≡ p
    ap_some e = e ∙ sym is.0

-- deliveries keep the invariant
delivered_holds : (m : Meaning) (IsText : List ℕ → Type 0) (n : ℕ) (xs : List Content)
    (old new : WorldState ReplicaValue)
    → Holds m IsText old → DeliversInTurn m IsText n xs old new → Holds m IsText new
delivered_holds m IsText n [] old new holds same =
    subst (λ (w : WorldState ReplicaValue). Holds m IsText w) (sym same) holds
delivered_holds m IsText n (x ∷ xs) old new holds d =
    delivered_holds m IsText n xs d.0 new d.1.hears.goes.after d.2

pub parts_hold : (m : Meaning) (IsText : List ℕ → Type 0) (n from : ℕ) (parts : List PartValue)
    (old new : WorldState ReplicaValue) → 1 ≤ length parts → DeliversInTurn m IsText n (parts_from from parts) old new
    → Holds m IsText new
parts_hold m IsText n from [] old new some d = absurd (omega (arith, some))
parts_hold m IsText n from (p ∷ parts) old new some d =
    delivered_holds m IsText n (parts_from from parts) d.0 new d.1.hears.goes.after d.2

-- a snapshot of the node itself leaves what it has gained
pub gets_on_left : (old last new : NodeValue) (position reached : ℕ) (text : List ℕ)
    → (new ≡ last) ⊎ (new ≡ with_snapshot last) → GetsOn old last position text reached
    → GetsOn old new position text reached
gets_on_left old last new position reached text (inl e) k =
    subst (λ (node : NodeValue). GetsOn old node position text reached) (sym e) k
gets_on_left old last new position reached text (inr e) k =
    subst (λ (node : NodeValue). GetsOn old node position text reached) (sym e) (by_case k)
  where
    by_case : GetsOn old last position text reached → GetsOn old (with_snapshot last) position text reached
    by_case (inl whole) = inl whole
    by_case (inr more) = inr more

pub gets_on_since : (old mid new : NodeValue) (position reached : ℕ) (text : List ℕ)
    → mid.learner.whole ≡ old.learner.whole → GetsOn mid new position text reached
    → GetsOn old new position text reached
gets_on_since old mid new position reached text same (inl whole) = inl whole
gets_on_since old mid new position reached text same (inr more) = inr (more.0, more.1, more.2 ∙ same)

-- ---- a part of a newer snapshot

module _ (m : Meaning) (IsText : List ℕ → Type 0) (law : EventIsStep m IsText) where
  module _ (old new : WorldState ReplicaValue) (n from : ℕ) (r : ReplicaValue) (g : GatheredValue) (p : PartValue)
      (up : IsUpAs old n r) (is : r.node.learner.gathered ≡ Some g) (newer : g.position < p.position)
      (behind : executed r.node.learner < p.position) (later : 1 ≤ p.offset) (some : 1 ≤ p.total)
      (k : Delivers m IsText n (content.Node from (kinds.Part p)) old new) where
    abbrev begun : GatheredValue
    begun = record { position = p.position; total = p.total; bytes = [] }

    abbrev heard_from : TakesFrom m IsText law n (content.Node from (kinds.Part p)) r old new
    heard_from = takes_from m IsText law n (content.Node from (kinds.Part p)) r old new up k.hears

    abbrev last : NodeValue
    last = heard_from.steps.step.last

    takes : Takes m IsText r.node (content.Node from (kinds.Part p)) last heard_from.steps.step.out
    takes = subst
        (λ (node : NodeValue). Takes m IsText node (content.Node from (kinds.Part p)) last heard_from.steps.step.out)
        (heard_from.steps.found.rests (k.rested r up)) heard_from.takes

    hears : heard (executed r.node.learner) r.node.learner.gathered p ≡ Some begun
    hears =
        let above : ltb (executed r.node.learner) p.position ≡ true =
        lt-ltb (executed r.node.learner) p.position behind in
        let starts : ltb g.position p.position ≡ true = lt-ltb g.position p.position newer in
        let not_first : eqb p.offset 0 ≡ false = elim (cases_Bool (eqb p.offset 0)) [
          | inl t ↦ (let none : p.offset ≡ 0 = eqb-true p.offset 0 t in absurd (omega (arith, none, later)))
          | inr f ↦ f
        ] in
        rw (is, above, starts, not_first) refl

    begins_anew : LeavesOlder n p r old new
    begins_anew =
        let h : Handled m IsText r.node (content.Node from (kinds.Part p)) last heard_from.steps.step.out =
        handled m IsText r.node (content.Node from (kinds.Part p)) last heard_from.steps.step.out takes in
        let rests = not_yet m IsText r.node p begun hears (λ e. omega (arith, e, some)) h.mid h.first h.handles in
        let learner : last.learner ≡ hearing p r.node.learner =
        same_learner m IsText r.node (content.Node from (kinds.Part p)) last heard_from.steps.step.out h ∙ rests.0 in
        let after : heard_from.steps.step.after.node ≡ last = heard_from.steps.step.left.rests
        (proposed_rests h.proposes.0 h.mid last h.first heard_from.steps.step.out h.proposes.1 ∙ rests.1) in
        let gathered : heard_from.steps.step.after.node.learner.gathered ≡ Some begun =
        ap (λ (node : NodeValue). node.learner.gathered) after ∙ ap (λ (l : LearnerValue). l.gathered) learner
        ∙ hears in
        record {
          now = heard_from.steps.step.after;
          is = heard_from.steps.step.is;
          open_for = λ q at.
              let same : begun ≡ q = cc (gathered, at) in (
                ap (λ (x : GatheredValue). x.position) (sym same),
                subst (λ (x : GatheredValue). length x.bytes < x.total) same (omega (arith, some)),
              );
          whole = ap (λ (node : NodeValue). node.learner.whole) after ∙ ap (λ (l : LearnerValue). l.whole) learner;
          only = heard_from.steps.only;
        }

  pub newer_begins_anew : NewerPartsBeginAnew m IsText
  newer_begins_anew old new n from r g p up is newer behind later some k =
      begins_anew old new n from r g p up is newer behind later some k
