-- What a node without a term does with a rejection that tells of more, with a question, and with a part of a snapshot.
use Rattle.std.proofs.Common.{◌≡◌, ◌∙◌, inl, inr, ℕ, zero, suc, ◌+◌, ◌<◌, ◌≤◌, ◌++◌, max, Bool, true, false}
use Rattle.std.proofs.Common.{cond, eqb, ltb, List, [], ◌∷◌, length, take, drop, Option, Some, None}
use Rattle.std.proofs.Common.{refl, ap, sym, subst, arith}
use Rattle.std.proofs.lemmas.Bool.{eq-eqb, lt-ltb}
use Rattle.std.proofs.lemmas.List.{length-take-le}
use Rattle.lk_types.specs.BallotValue.{BallotValue}
use Rattle.lk_types.specs.declared.vote.Vote.{Vote}
use Rattle.lk_messages.specs.Grammar.{IsMessage}
use Rattle.lk_messages.specs.Values.{PartValue, WantValue}
use Rattle.lk_messages.specs.declared.message.Content.TheVariants as content
use Rattle.lk_messages.specs.declared.message.Nack.{Nack}
use Rattle.lk_messages.specs.declared.message.NodeMessage.TheVariants as kinds
use Rattle.lk_state.specs.Meanings.{Meaning}
use Rattle.lk_leader.specs.Terms.{TermValue, is_term_below}
use Rattle.lk_learner.specs.Gathering.{heard, starts_text, with_next_any}
use Rattle.lk_learner.specs.Installing.{HasWhole, Installs, hearing}
use Rattle.lk_learner.specs.Learners.{GatheredValue, LearnerValue, decided_from, executed, wanted}
use Rattle.lk_learner.specs.Parts.{part_of}
use Rattle.lk_node_interface.specs.Outboxes.{OutboxValue, nothing, with_envelope}
use Rattle.lk_node_interface.specs.Saying.{saying}
use Rattle.lk_node.specs.CatchingUp.{AsksOn, ClosesGap, Feeds, FeedsParts, HandlesNack, HandlesWant}
use Rattle.lk_node.specs.Installing.{HandlesPart}
use Rattle.lk_node.specs.Leading.{ProposesAll}
use Rattle.lk_node.specs.Learning.{with_learner}
use Rattle.lk_node.specs.NodeValue.{NodeValue}
use Rattle.lk_node.specs.Telling.{envelope_to}
use Rattle.lk_node.specs.Yielding.{seeing, with_round, without_term}
use Rattle.lk_progress.specs.Gathering.{HasSoFar}
use Rattle.lk_progress.specs.Hearing.{Takes}
use Rattle.lk_rebases.proofs.Rebases.{Handled, handled}
use Rattle.lk_healing.proofs.Gains.{Stays, promised_low, round_low, rounds_low}
use Rattle.lk_healing.proofs.Rests.{WritesNothing}

-- without a term nothing is proposed
idle_ends : (xs : List Vote) (old new : NodeValue) (before out : OutboxValue) → ProposesAll xs old new before out
    → old.leader.term ≡ None → (new ≡ old) × (out ≡ before)
idle_ends [] old new before out p idle = (p.1, p.2)
idle_ends (x ∷ xs) old new before out p idle = absurd (cc (sym idle ∙ p.0.current))

-- and no term ends
idle_sees : (b : BallotValue) (node : NodeValue) → node.leader.term ≡ None → seeing b node ≡ with_round b node
idle_sees b node idle = by_term node.leader.term idle
  where
    by_term : (o : Option TermValue) → o ≡ None
        → cond (is_term_below b o) (without_term (with_round b node)) (with_round b node) ≡ with_round b node
    by_term None e = refl
    by_term (Some t) e = absurd (cc e)

-- ---- a rejection

abbrev pub with_rounds : Nack → NodeValue → NodeValue
with_rounds k node = with_round k.promised (with_round k.ballot node)

-- it asks the other one, and nothing else follows
pub record AsksAlone (old new : NodeValue) (from : ℕ) (k : Nack) (out : OutboxValue) : Type 0 where
  pub becomes : new ≡ with_rounds k old
  pub fits : IsMessage (saying old.header (kinds.Want (wanted old.learner)))
  pub comes_to : out ≡ with_envelope (envelope_to old (kinds.Want (wanted old.learner)) from) nothing

pub nack_asks : (m : Meaning) (IsText : List ℕ → Type 0) (old new : NodeValue) (from : ℕ) (k : Nack)
    (out : OutboxValue) → old.leader.term ≡ None → executed old.learner < k.executed
    → executed old.learner < 281474976710656 → Takes m IsText old (content.Node from (kinds.Nack k)) new out
    → AsksAlone old new from k out
nack_asks m IsText old new from k out idle more few takes =
    by_handled (handled m IsText old (content.Node from (kinds.Nack k)) new out takes)
  where
    by_handled : Handled m IsText old (content.Node from (kinds.Nack k)) new out → AsksAlone old new from k out
    by_handled h = by_gap h.handles
      where
        by_gap : HandlesNack old from k h.mid h.first → AsksAlone old new from k out
        by_gap n = by_case n.1
          where
            mid_is : h.mid ≡ with_rounds k old
            mid_is = n.0 ∙ ap (λ (node : NodeValue). seeing k.promised node) (idle_sees k.ballot old idle)
                ∙ idle_sees k.promised (with_round k.ballot old) idle

            ends : (new ≡ h.mid) × (out ≡ h.first)
            ends = idle_ends h.proposes.0 h.mid new h.first out h.proposes.1
                (ap (λ (node : NodeValue). node.leader.term) mid_is ∙ idle)

            by_asking : AsksOn old from h.first → AsksAlone old new from k out
            by_asking (inl says) = record {
              becomes = ends.0 ∙ mid_is;
              fits = says.1.0;
              comes_to = ends.1 ∙ says.1.1;
            }
            by_asking (inr last) = absurd (omega (arith, last.0, few))

            by_case : ClosesGap old from k.executed h.first → AsksAlone old new from k out
            by_case (inl asks) = by_asking asks.1
            by_case (inr (inl fewer)) = absurd (omega (arith, fewer.0, more))
            by_case (inr (inr same)) = absurd (omega (arith, same.0, more))

-- what that leaves
pub stays_asked : (old new : NodeValue) (k : Nack) → new ≡ with_rounds k old → k.ballot.round < 281474976710656
    → k.promised.round < 281474976710656 → Stays old new
stays_asked old new k is low low_promised = subst (Stays old) (sym is) (record {
  lasts = record { whole = refl; pairs = refl; votes = λ v c. c; near = λ n. n };
  idle = λ e. e;
  waiting = λ e. e;
  round = λ left.
      let promised = promised_low old.acceptor.state.promised old.rounds 281474976710656 left in
      let rounds = rounds_low old.acceptor.state.promised old.rounds 281474976710656 left in
      round_low old.acceptor.state.promised (max (max old.rounds k.ballot.round) k.promised.round) 281474976710656
      promised (omega (arith, rounds, low, low_promised));
})

pub asked_writes : (old new : NodeValue) (from : ℕ) (k : Nack) (out : OutboxValue) → AsksAlone old new from k out
    → WritesNothing old new out
asked_writes old new from k out a = record {
  entries = ap (λ (o : OutboxValue). o.entries) a.comes_to;
  sync = ap (λ (o : OutboxValue). o.sync) a.comes_to;
  rebase = ap (λ (o : OutboxValue). o.rebase) a.comes_to;
  reach = ap (λ (node : NodeValue). executed node.learner) a.becomes;
  snapshot = ap (λ (node : NodeValue). node.acceptor.state.snapshot_position) a.becomes;
}

-- ---- a question

record Wants (old new : NodeValue) (from : ℕ) (want : WantValue) (out : OutboxValue) : Type 0 where
  same : new ≡ old
  feeds : Feeds old from want.first want.offset out

want_feeds : (m : Meaning) (IsText : List ℕ → Type 0) (old new : NodeValue) (from : ℕ) (want : WantValue)
    (out : OutboxValue) → old.leader.term ≡ None → Takes m IsText old (content.Node from (kinds.Want want)) new out
    → Wants old new from want out
want_feeds m IsText old new from want out idle takes =
    by_handled (handled m IsText old (content.Node from (kinds.Want want)) new out takes)
  where
    by_handled : Handled m IsText old (content.Node from (kinds.Want want)) new out → Wants old new from want out
    by_handled h =
        let w : HandlesWant old from want h.mid h.first = h.handles in
        let ends = idle_ends h.proposes.0 h.mid new h.first out h.proposes.1
        (ap (λ (node : NodeValue). node.leader.term) w.0 ∙ idle) in record {
          same = ends.0 ∙ w.0;
          feeds = subst (λ (o : OutboxValue). Feeds old from want.first want.offset o) (sym ends.1) w.1;
        }

-- it sends the commands
pub record SendsAlone (old new : NodeValue) (from first : ℕ) (out : OutboxValue) : Type 0 where
  pub same : new ≡ old
  pub fits : IsMessage (saying old.header (kinds.Decided (decided_from first old.learner)))
  pub comes_to : out ≡ with_envelope (envelope_to old (kinds.Decided (decided_from first old.learner)) from) nothing

pub want_sends : (m : Meaning) (IsText : List ℕ → Type 0) (old new : NodeValue) (from : ℕ) (want : WantValue)
    (out : OutboxValue) → old.leader.term ≡ None → old.learner.snapshot_position < want.first
    → want.first ≤ executed old.learner → Takes m IsText old (content.Node from (kinds.Want want)) new out
    → SendsAlone old new from want.first out
want_sends m IsText old new from want out idle above there takes =
    let w = want_feeds m IsText old new from want out idle takes in
    elim w.feeds [
      | inl says ↦ record { same = w.same; fits = says.1.0; comes_to = says.1.1 }
      | inr (inl replaced) ↦ absurd (omega (arith, replaced.0, above))
      | inr (inr later) ↦ absurd (omega (arith, later.0, there))
    ]

pub sent_writes : (old new : NodeValue) (from first : ℕ) (out : OutboxValue) → SendsAlone old new from first out
    → WritesNothing old new out
sent_writes old new from first out a = record {
  entries = ap (λ (o : OutboxValue). o.entries) a.comes_to;
  sync = ap (λ (o : OutboxValue). o.sync) a.comes_to;
  rebase = ap (λ (o : OutboxValue). o.rebase) a.comes_to;
  reach = ap (λ (node : NodeValue). executed node.learner) a.same;
  snapshot = ap (λ (node : NodeValue). node.acceptor.state.snapshot_position) a.same;
}

-- or parts of its snapshot
pub want_sends_parts : (m : Meaning) (IsText : List ℕ → Type 0) (old new : NodeValue) (from : ℕ) (want : WantValue)
    (out : OutboxValue) → old.leader.term ≡ None → want.first ≤ old.learner.snapshot_position
    → old.learner.snapshot_position ≤ executed old.learner
    → Takes m IsText old (content.Node from (kinds.Want want)) new out
    → (new ≡ old) × FeedsParts old from want.offset out
want_sends_parts m IsText old new from want out idle replaced within takes =
    let w = want_feeds m IsText old new from want out idle takes in
    elim w.feeds [
      | inl says ↦ absurd (omega (arith, replaced, says.0.0))
      | inr (inl parts) ↦ (w.same, parts.1)
      | inr (inr later) ↦ absurd (omega (arith, replaced, later.0, within))
    ]

pub parts_write : (old new : NodeValue) (from offset : ℕ) (out : OutboxValue) → new ≡ old
    → FeedsParts old from offset out → WritesNothing old new out
parts_write old new from offset out same f = record {
  entries = ap (λ (o : OutboxValue). o.entries) f.comes_to;
  sync = ap (λ (o : OutboxValue). o.sync) f.comes_to;
  rebase = ap (λ (o : OutboxValue). o.rebase) f.comes_to;
  reach = ap (λ (node : NodeValue). executed node.learner) same;
  snapshot = ap (λ (node : NodeValue). node.acceptor.state.snapshot_position) same;
}

-- ---- a part that does not complete the snapshot

take_none : (k : ℕ) → ◌≡◌ {A = List ℕ} (take k []) []
take_none zero = refl
take_none (suc k) = refl

take_then : (n k : ℕ) (xs : List ℕ) → take n xs ++ take k (drop n xs) ≡ take (n + k) xs
take_then zero k xs = let e : zero + k ≡ k = omega arith in rw e refl
take_then (suc n) k [] = take_none k ∙ sym (take_none (suc n + k))
take_then (suc n) k (x ∷ xs) =
    let e : suc n + k ≡ suc (n + k) = omega arith in rw e (ap (λ (l : List ℕ). x ∷ l) (take_then n k xs))

-- its first bytes
abbrev first_of : ℕ → List ℕ → ℕ → GatheredValue
first_of position text count = record { position = position; total = length text; bytes = take count text }

module _ (position : ℕ) (text : List ℕ) (l : LearnerValue) (behind : executed l < position) where
  begins : starts_text l.gathered (part_of position text 0) ≡ true
      → heard (executed l) l.gathered (part_of position text 0) ≡ Some (first_of position text 1024)
  begins starts = by_tests (ltb (executed l) position) (starts_text l.gathered (part_of position text 0))
      (lt-ltb (executed l) position behind) starts
    where
      by_tests : (t u : Bool) → t ≡ true → u ≡ true
          → cond t (cond u (Some (first_of position text 1024)) (with_next_any l.gathered (part_of position text 0)))
          l.gathered
          ≡ Some (first_of position text 1024)
      by_tests true true e f = refl
      by_tests true false e f = absurd (cc f)
      by_tests false u e f = absurd (cc e)

  continues : (count : ℕ) → count < length text → l.gathered ≡ Some (first_of position text count)
      → heard (executed l) l.gathered (part_of position text count) ≡ Some (first_of position text (count + 1024))
  continues count within is =
      let part : PartValue = part_of position text count in
      let above : ltb (executed l) position ≡ true = lt-ltb (executed l) position behind in
      let older : ltb position position ≡ false = grind (arith) in
      let here : eqb position position ≡ true = eq-eqb position position refl in
      let total : eqb (length text) (length text) ≡ true = eq-eqb (length text) (length text) refl in
      let at : eqb count (length (take count text)) ≡ true =
      eq-eqb count (length (take count text)) (sym (length-take-le count text (omega (arith, within)))) in
      let joined : take count text ++ take 1024 (drop count text) ≡ take (count + 1024) text =
      take_then count 1024 text in
      rw (is, above, older, here, total, at, joined) refl

  with_part : (count : ℕ) → count < length text → HasSoFar l position text count
      → heard (executed l) l.gathered (part_of position text count) ≡ Some (first_of position text (count + 1024))
  with_part count within (inl none) = subst
      (λ (c : ℕ). heard (executed l) l.gathered (part_of position text c) ≡ Some (first_of position text (c + 1024)))
      (sym none.0) (begins none.1)
  with_part count within (inr has) = continues count within has

module _ (m : Meaning) (IsText : List ℕ → Type 0) (old : NodeValue) (p : PartValue) (g : GatheredValue)
    (hears : heard (executed old.learner) old.learner.gathered p ≡ Some g) (short : length g.bytes ≡ g.total → ⊥) where
  whole_not : (h : GatheredValue) → HasWhole (hearing p old.learner) h → ⊥
  whole_not h k =
      let same : h ≡ g = cc (hears, k.gathered) in
      short (subst (λ (x : GatheredValue). length x.bytes ≡ x.total) same k.whole)

  not_yet : (new : NodeValue) (out : OutboxValue) → HandlesPart m IsText old p new out
      → (new ≡ with_learner old (hearing p old.learner)) × (out ≡ nothing)
  not_yet new out (inl k) = absurd (by_install k.1.1)
    where
      by_install : Installs IsText true (hearing p old.learner) k.1.0 → ⊥
      by_install (inl went) = whole_not went.1.1.gathered went.1.1.has
      by_install (inr (inl thrown)) = cc thrown.0
      by_install (inr (inr kept)) = cc kept.0
  not_yet new out (inr k) = (k.0.2 ∙ ap (λ (l : LearnerValue). with_learner old l) (by_install k.0.1), k.1)
    where
      by_install : Installs IsText false (hearing p old.learner) k.0.0 → k.0.0 ≡ hearing p old.learner
      by_install (inl went) = absurd (cc went.0)
      by_install (inr (inl thrown)) = absurd (whole_not thrown.1.0 thrown.1.1)
      by_install (inr (inr kept)) = kept.2

-- it is gathered, and nothing else happens
pub record GathersAlone (old new : NodeValue) (position count : ℕ) (text : List ℕ) (out : OutboxValue) : Type 0 where
  pub becomes : new ≡ with_learner old (hearing (part_of position text count) old.learner)
  pub comes_to : out ≡ nothing
  pub gathered : heard (executed old.learner) old.learner.gathered (part_of position text count)
      ≡ Some (record { position = position; total = length text; bytes = take (count + 1024) text })

pub part_gathers : (m : Meaning) (IsText : List ℕ → Type 0) (old new : NodeValue) (from position count : ℕ)
    (text : List ℕ) (out : OutboxValue) → old.leader.term ≡ None → executed old.learner < position
    → count + 1024 < length text → HasSoFar old.learner position text count
    → Takes m IsText old (content.Node from (kinds.Part (part_of position text count))) new out
    → GathersAlone old new position count text out
part_gathers m IsText old new from position count text out idle behind short has takes =
    by_handled (handled m IsText old (content.Node from (kinds.Part (part_of position text count))) new out takes)
  where
    hears : heard (executed old.learner) old.learner.gathered (part_of position text count)
        ≡ Some (first_of position text (count + 1024))
    hears = with_part position text old.learner behind count (omega (arith, short)) has

    by_handled : Handled m IsText old (content.Node from (kinds.Part (part_of position text count))) new out
        → GathersAlone old new position count text out
    by_handled h =
        let long : length (take (count + 1024) text) ≡ count + 1024 =
        length-take-le (count + 1024) text (omega (arith, short)) in
        let mid = not_yet m IsText old (part_of position text count) (first_of position text (count + 1024)) hears
        (λ e. omega (arith, e, long, short)) h.mid h.first h.handles in
        let ends = idle_ends h.proposes.0 h.mid new h.first out h.proposes.1
        (ap (λ (node : NodeValue). node.leader.term) mid.0 ∙ idle) in
        record { becomes = ends.0 ∙ mid.0; comes_to = ends.1 ∙ mid.1; gathered = hears }

pub gathered_writes : (old new : NodeValue) (position count : ℕ) (text : List ℕ) (out : OutboxValue)
    → GathersAlone old new position count text out → WritesNothing old new out
gathered_writes old new position count text out a = record {
  entries = ap (λ (o : OutboxValue). o.entries) a.comes_to;
  sync = ap (λ (o : OutboxValue). o.sync) a.comes_to;
  rebase = ap (λ (o : OutboxValue). o.rebase) a.comes_to;
  reach = ap (λ (node : NodeValue). executed node.learner) a.becomes;
  snapshot = ap (λ (node : NodeValue). node.acceptor.state.snapshot_position) a.becomes;
}
