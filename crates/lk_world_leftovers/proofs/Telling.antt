-- A leader that counts a position tells the other members what is decided there.
use Rattle.std.proofs.Common.{◌≡◌, ◌∙◌, ◌⊎◌, inl, inr, ℕ, ◌<◌, ◌≤◌, Bool, true, false, not, eqb, eqb-true, List, []}
use Rattle.std.proofs.Common.{◌∷◌, Contains, ap, sym, subst, arith}
use Rattle.std.proofs.lemmas.Bool.{cases_Bool, cases_order}
use Rattle.std.proofs.lemmas.List.Elements.{Contains-append_left, Contains-append_right}
use Rattle.lk_types.specs.declared.vote.Vote.{Vote}
use Rattle.lk_store_format.specs.Values.{HeaderValue}
use Rattle.lk_messages.specs.declared.message.Content.TheVariants as content
use Rattle.lk_messages.specs.declared.message.NodeMessage.TheVariants as kinds
use Rattle.lk_agreement_laws.proofs.Histories.{contains_more}
use Rattle.lk_members.specs.Ports.{AreAllAbove, is_named}
use Rattle.lk_state.specs.Meanings.{Meaning}
use Rattle.lk_learner.proofs.Learnerships.{filter_has}
use Rattle.lk_learner.specs.Learners.{LearnerValue, executed}
use Rattle.lk_node_interface.specs.Envelopes.{EnvelopeValue}
use Rattle.lk_node_interface.specs.Outboxes.{OutboxValue}
use Rattle.lk_node.proofs.Nodes.{map_has}
use Rattle.lk_node.specs.Deciding.{AreDecidedEnvelopes, HandlesAccepted, with_vote}
use Rattle.lk_node.specs.NodeValue.{NodeValue}
use Rattle.lk_node.specs.Telling.{envelope_to}
use Rattle.lk_progress.specs.Deciding.{acceptances}
use Rattle.lk_progress.specs.Hearing.{Hears, TakesEach}
use Rattle.lk_rebases.proofs.Rebases.{Handled, HasSame, handled, proposed_envelopes, proposed_same}
use Rattle.lk_leftovers.proofs.Offering.{Tells}
use Rattle.lk_world_leftovers.specs.Filling.{decided_by}

-- whoever passes a test is in a list of all that do
all_above : (is : ℕ → Bool) (low : ℕ) (ns : List ℕ) (k : ℕ) → AreAllAbove is low ns → low < k → is k ≡ true
    → Contains ns k
all_above is low [] k none above passes = absurd (cc (sym passes ∙ none k above))
all_above is low (n ∷ ns) k all above passes =
    elim (cases_order k n) [
      | inl same ↦ (0, omega arith, sym same)
      | inr (inl below) ↦ absurd (cc (sym passes ∙ all.0.least k above below))
      | inr (inr later) ↦ contains_more n ns k (all_above is n ns k all.1 later passes)
    ]

not_same : (i j : ℕ) → (i ≡ j → ⊥) → eqb i j ≡ false
not_same i j ne = elim (cases_Bool (eqb i j)) [ inl e ↦ absurd (ne (eqb-true i j e)) | inr e ↦ e ]

module _ (m : Meaning) (IsText : List ℕ → Type 0) (x : Vote) (whose : HeaderValue) (e n : ℕ) (some : 1 ≤ n)
    (ne : n ≡ whose.node → ⊥) where
  -- the node has executed this much, and its window names the other one
  pub record IsBefore (node : NodeValue) : Type 0 where
    pub header : node.header ≡ whose
    pub reach : executed node.learner ≡ e
    pub named : is_named n node.learner.whole.roster.sets ≡ true

  same_before : (old new : NodeValue) → new.header ≡ old.header → new.learner ≡ old.learner → IsBefore old
      → IsBefore new
  same_before old new header learner k = record {
    header = header ∙ k.header;
    reach = ap (λ (l : LearnerValue). executed l) learner ∙ k.reach;
    named = subst (λ (l : LearnerValue). is_named n l.whole.roster.sets ≡ true) (sym learner) k.named;
  }

  -- what it tells all others it tells this one
  tells_it : (node : NodeValue) (envelopes : List EnvelopeValue) → IsBefore node
      → AreDecidedEnvelopes node (x.position, x.command) envelopes
      → Contains envelopes (envelope_to node (kinds.Decided (decided_by x)) n)
  tells_it node envelopes k told =
      let own : node.header.node ≡ whose.node = ap (λ (h : HeaderValue). h.node) k.header in
      let differs : not (eqb n node.header.node) ≡ true =
      subst (λ (j : ℕ). not (eqb n j) ≡ true) (sym own) (ap not (not_same n whose.node ne)) in
      subst (λ (ls : List EnvelopeValue). Contains ls (envelope_to node (kinds.Decided (decided_by x)) n))
      (sym told.comes_to)
      (map_has (envelope_to node (kinds.Decided (decided_by x))) told.nodes n
      (subst (λ (l : List ℕ). Contains l n) (sym told.others.2)
      (filter_has (λ j. not (eqb j node.header.node)) told.others.0 n
      (all_above (λ j. is_named j node.learner.whole.roster.sets) 0 told.others.0 n told.others.1 (omega (arith, some))
      k.named) differs)))

  -- one reply: it has told, or nothing is executed yet
  one_tells : (from : ℕ) (old new : NodeValue) (out : OutboxValue)
      → Hears m IsText old from (kinds.Accepted x) new out → IsBefore old
      → IsBefore new ⊎ Tells whose out.envelopes (kinds.Decided (decided_by x)) n
  one_tells from old new out takes k =
      by_handled (handled m IsText old (content.Node from (kinds.Accepted x)) new out takes)
    where
      by_handled : Handled m IsText old (content.Node from (kinds.Accepted x)) new out
          → IsBefore new ⊎ Tells whose out.envelopes (kinds.Decided (decided_by x)) n
      by_handled h = by_vote h.handles
        where
          same : HasSame h.mid new
          same = proposed_same h.proposes.0 h.mid new h.first out h.proposes.1

          by_vote : HandlesAccepted m from x old h.mid h.first
              → IsBefore new ⊎ Tells whose out.envelopes (kinds.Decided (decided_by x)) n
          by_vote (inl counted) =
              let d = counted.2 in
              inr (record {
                node = with_vote from x old counted.0;
                header = k.header;
                told = proposed_envelopes h.proposes.0 h.mid new h.first out
                    (envelope_to (with_vote from x old counted.0) (kinds.Decided (decided_by x)) n) h.proposes.1
                    (subst (λ (o : OutboxValue). Contains o.envelopes
                    (envelope_to (with_vote from x old counted.0) (kinds.Decided (decided_by x)) n)) (sym d.comes_to)
                    (Contains-append_right d.ran.envelopes d.envelopes
                    (envelope_to (with_vote from x old counted.0) (kinds.Decided (decided_by x)) n)
                    (tells_it (with_vote from x old counted.0) d.envelopes
                    (record { header = k.header; reach = k.reach; named = k.named }) d.told)));
              })
          by_vote (inr (inl heard, silent)) = inl (same_before old new
              (same.header ∙ ap (λ (node : NodeValue). node.header) heard.2)
              (same.learner ∙ ap (λ (node : NodeValue). node.learner) heard.2) k)
          by_vote (inr (inr other, silent)) = inl (same_before old new
              (same.header ∙ ap (λ (node : NodeValue). node.header) other.1)
              (same.learner ∙ ap (λ (node : NodeValue). node.learner) other.1) k)

  -- so it has told by the time that it has executed more
  pub all_tell : (voters : List ℕ) (old new : NodeValue) (envelopes : List EnvelopeValue)
      → TakesEach m IsText (acceptances voters x) old new envelopes → IsBefore old
      → (executed new.learner ≡ e) ⊎ Tells whose envelopes (kinds.Decided (decided_by x)) n
  all_tell [] old new envelopes takes k = inl (ap (λ (node : NodeValue). executed node.learner) takes.0 ∙ k.reach)
  all_tell (v ∷ voters) old new envelopes takes k =
      elim (one_tells v old takes.0 takes.1 takes.3 k) [
        | inl before ↦ elim (all_tell voters takes.0 new takes.2 takes.4 before) [
          | inl still ↦ inl still
          | inr later ↦ inr (record {
            node = later.node;
            header = later.header;
            told = subst (λ (ls : List EnvelopeValue). Contains ls
                (envelope_to later.node (kinds.Decided (decided_by x)) n)) (sym takes.5)
                (Contains-append_right takes.1.envelopes takes.2
                (envelope_to later.node (kinds.Decided (decided_by x)) n) later.told);
          })
        ]
        | inr told ↦ inr (record {
          node = told.node;
          header = told.header;
          told = subst (λ (ls : List EnvelopeValue). Contains ls
              (envelope_to told.node (kinds.Decided (decided_by x)) n)) (sym takes.5)
              (Contains-append_left takes.1.envelopes takes.2
              (envelope_to told.node (kinds.Decided (decided_by x)) n) told.told);
        })
      ]
