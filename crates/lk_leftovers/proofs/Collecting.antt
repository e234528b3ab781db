-- What a candidate keeps as it hears promises.
use Rattle.std.proofs.Common.{◌≡◌, ◌∙◌, ◌⊎◌, inl, inr, ℕ, ◌+◌, ◌<◌}
use Rattle.std.proofs.Common.{true, false, List, [], ◌∷◌, ◌++◌}
use Rattle.std.proofs.Common.{map, Some, Contains, refl, ap, sym, subst, arith}
use Rattle.std.proofs.lemmas.List.Elements.{Contains-append_cases}
use Rattle.lk_types.specs.BallotValue.{BallotValue}
use Rattle.lk_types.specs.declared.member.Member.{Member}
use Rattle.lk_types.specs.declared.vote.Vote.{Vote}
use Rattle.lk_store_format.specs.Values.{HeaderValue}
use Rattle.lk_messages.proofs.Spellings.{one_message}
use Rattle.lk_messages.specs.Values.{PromiseValue}
use Rattle.lk_messages.specs.declared.message.Content.TheVariants as content
use Rattle.lk_messages.specs.declared.message.Message.{Message}
use Rattle.lk_messages.specs.declared.message.NodeMessage.TheVariants as kinds
use Rattle.lk_agreement_laws.proofs.Histories.{contains_more, filter_from, only}
use Rattle.lk_members.specs.Effects.{Command}
use Rattle.lk_members.specs.Majorities.{IsMajority}
use Rattle.lk_members.specs.Rosters.{is_member}
use Rattle.lk_state.specs.Meanings.{Meaning}
use Rattle.lk_leader.specs.Proposing.{AreMembersAt, IsElected, Leads, proposed, promisers}
use Rattle.lk_leader.specs.Terms.{ProposalValue, ReceivedPromise, TermValue, in_window, with_received}
use Rattle.lk_leader.specs.Values.{has_vote_from, is_changing_at}
use Rattle.lk_learner.specs.Learners.{LearnerValue, Pair, IsNext, alpha, executed}
use Rattle.lk_node_interface.specs.Envelopes.{EnvelopeValue}
use Rattle.lk_node_interface.specs.Outboxes.{OutboxValue}
use Rattle.lk_node.specs.Leading.{DropsPromise, NothingToPropose, ProposesAll, ProposesVote, RecordsPromise}
use Rattle.lk_node.specs.Leading.{having_proposed, received_from}
use Rattle.lk_node.specs.NodeValue.{NodeValue}
use Rattle.lk_node.specs.Steps.{Handles, HandlesBytes}
use Rattle.lk_progress.specs.Electing.{PromisedNodeLeads, promises}
use Rattle.lk_progress.specs.Hearing.{Hears, TakesEach}
use Rattle.lk_progress.specs.LeadingOn.{AreAll, KeepsMembers}
use Rattle.lk_leftovers.proofs.Reported.{has_more, later_unchanged}
use Rattle.lk_leftovers.proofs.Walking.{value_kept}
use Rattle.lk_leftovers.specs.Collecting.{HasBegun, LeadsToFill, MayBeHeard, PromisedCandidateFills}
use Rattle.lk_leftovers.specs.Filling.{IsLeftover, ReportNoChange}

-- Its term, if any, is of this ballot, its promises report no change, and its proposals are leftovers.
record Collects (b : BallotValue) (l : LearnerValue) (whose : HeaderValue) (node : NodeValue) : Type 0 where
  learner : node.learner ≡ l
  header : node.header ≡ whose
  waiting : node.leader.waiting ≡ []
  ballot : (u : TermValue) → node.leader.term ≡ Some u → u.ballot ≡ b
  reports : (u : TermValue) → node.leader.term ≡ Some u → ReportNoChange u.received
  leftovers : (u : TermValue) → node.leader.term ≡ Some u → (p : ProposalValue) → Contains u.proposals p
      → IsLeftover u.received p

module _ (b : BallotValue) (l : LearnerValue) (whose : HeaderValue)
    (unchanged : is_changing_at l.whole.roster (executed l + 1) ≡ false) where
  -- ---- proposals

  vote_collects : (old : NodeValue) (x : Vote) (p : ProposesVote old x) → Collects b l whose old
      → Collects b l whose (having_proposed old x p)
  vote_collects old x p k = record {
    learner = k.learner;
    header = k.header;
    waiting = k.waiting;
    ballot = λ u is. ap (λ (t : TermValue). t.ballot) (sym (one u is)) ∙ k.ballot p.term p.current;
    reports = λ u is. subst (λ (t : TermValue). ReportNoChange t.received) (one u is) (k.reports p.term p.current);
    leftovers = λ u is q c. subst (λ (t : TermValue). IsLeftover t.received q) (one u is)
        (by_part q (Contains-append_cases
        (in_window (executed old.learner) (alpha old.learner) p.term.proposals) (made ∷ []) q
        (subst (λ (t : TermValue). Contains t.proposals q) (sym (one u is)) c)));
  }
    where
      made : ProposalValue
      made = record { position = x.position; command = x.command; accepted = [] }

      later : TermValue
      later = proposed old.learner.whole.roster x.position x.command p.term

      one : (u : TermValue) → (having_proposed old x p).leader.term ≡ Some u
          → proposed old.learner.whole.roster x.position x.command p.term ≡ u
      one u is =
          let e : Some (proposed old.learner.whole.roster x.position x.command p.term) ≡ Some u = is in cc e

      still : is_changing_at old.learner.whole.roster x.position ≡ false
      still = later_unchanged old.learner.whole.roster (executed old.learner + 1) x.position
          (let above = p.proposes.next.above in omega (arith, above))
          (subst (λ (n : LearnerValue). is_changing_at n.whole.roster (executed n + 1) ≡ false) (sym k.learner)
          unchanged)

      value : (has_vote_from p.term.received x.position ≡ true) × KeepsMembers x.command
      value = value_kept p.term.received 0 (k.reports p.term p.current) p.term old.leader.waiting
          old.learner.whole.roster p.proposes.set x.position x.command refl k.waiting still p.proposes.value

      by_part : (q : ProposalValue)
          → Contains (in_window (executed old.learner) (alpha old.learner) p.term.proposals) q
          ⊎ Contains (made ∷ []) q → IsLeftover p.term.received q
      by_part q (inl before) = k.leftovers p.term p.current q (filter_from _ p.term.proposals q before)
      by_part q (inr last) = subst (IsLeftover p.term.received) (only made q last)
          (record { reported = value.0; keeps = value.1; yet_to_accept = refl })

  proposed_collects : (xs : List Vote) (old new : NodeValue) (before out : OutboxValue)
      → ProposesAll xs old new before out → Collects b l whose old → Collects b l whose new × NothingToPropose new
  proposed_collects [] old new before out all k =
      (subst (Collects b l whose) (sym all.1) k, subst NothingToPropose (sym all.1) all.0)
  proposed_collects (x ∷ xs) old new before out all k =
      proposed_collects xs (having_proposed old x all.0) new _ out all.1 (vote_collects old x all.0 k)

  -- ---- a promise

  module _ (from : ℕ) (p : PromiseValue) (keeps : (v : Vote) → Contains p.votes v → KeepsMembers v.command) where
    recorded_collects : (old new : NodeValue) → RecordsPromise old from p new ⊎ DropsPromise old from p new
        → Collects b l whose old → Collects b l whose new
    recorded_collects old new (inr drops) k = subst (Collects b l whose) (sym drops.1) k
    recorded_collects old new (inl records) k = subst (Collects b l whose) (sym records.2) (record {
      learner = k.learner;
      header = k.header;
      waiting = k.waiting;
      ballot = λ u is. ap (λ (t : TermValue). t.ballot) (sym (one u is)) ∙ k.ballot records.0 records.1.current;
      reports = λ u is. subst (λ (t : TermValue). ReportNoChange t.received) (one u is) more;
      leftovers = λ u is q c. subst (λ (t : TermValue). IsLeftover t.received q) (one u is)
          (let left : IsLeftover records.0.received q = k.leftovers records.0 records.1.current q
          (subst (λ (t : TermValue). Contains t.proposals q) (sym (one u is)) c) in
          record {
            reported = has_more q.position records.0.received (received_from from p ∷ []) left.reported;
            keeps = left.keeps;
            yet_to_accept = left.yet_to_accept;
          });
    })
      where
        one : (u : TermValue) → Some (with_received (received_from from p) records.0) ≡ Some u
            → with_received (received_from from p) records.0 ≡ u
        one u e = cc e

        more : ReportNoChange (records.0.received ++ received_from from p ∷ [])
        more q c v d = elim (Contains-append_cases records.0.received (received_from from p ∷ []) q c) [
          | inl old' ↦ k.reports records.0 records.1.current q old' v d
          | inr new' ↦ keeps v (subst (λ (r : ReceivedPromise). Contains r.votes v) (sym (only _ q new')) d)
        ]

    one_collects : (m : Meaning) (IsText : List ℕ → Type 0) (old new : NodeValue) (out : OutboxValue)
        → Hears m IsText old from (kinds.Promise p) new out → Collects b l whose old
        → Collects b l whose new × NothingToPropose new
    one_collects m IsText old new out h k = by_bytes h.step.handles
      where
        message : Message
        message = record { cluster = old.header.cluster; content = content.Node from (kinds.Promise p) }

        by_bytes : HandlesBytes m IsText old h.bytes h.step.mid h.step.first
            → Collects b l whose new × NothingToPropose new
        by_bytes (inl known) =
            let done : Handles m IsText old message.content h.step.mid h.step.first =
            subst (λ (y : Message). Handles m IsText old y.content h.step.mid h.step.first)
            (one_message known.0 message h.bytes known.1 h.spells) known.3 in
            proposed_collects h.step.proposes.0 h.step.mid new h.step.first out h.step.proposes.1
            (recorded_collects old h.step.mid done.0 k)
        by_bytes (inr foreign) = absurd (foreign.0 message h.spells refl)

  all_collect : (m : Meaning) (IsText : List ℕ → Type 0) (heard : List (ℕ × PromiseValue)) (old new : NodeValue)
      (envelopes : List EnvelopeValue)
      → ((h : ℕ × PromiseValue) → Contains heard h → (v : Vote) → Contains h.1.votes v → KeepsMembers v.command)
      → TakesEach m IsText (promises heard) old new envelopes → Collects b l whose old × NothingToPropose old
      → Collects b l whose new × NothingToPropose new
  all_collect m IsText [] old new envelopes keeps takes k =
      subst (λ (node : NodeValue). Collects b l whose node × NothingToPropose node) (sym takes.0) k
  all_collect m IsText (h ∷ heard) old new envelopes keeps takes k =
      all_collect m IsText heard takes.0 new takes.2 (λ g c. keeps g (contains_more h heard g c)) takes.4
      (one_collects h.0 h.1 (keeps h (0, omega arith, refl)) m IsText old takes.0 takes.1 takes.3 k.0)

-- ---- with those of a majority

module _ (m : Meaning) (IsText : List ℕ → Type 0) (law : PromisedNodeLeads m IsText) (old new : NodeValue)
    (t : TermValue) (set : List Member) (heard : List (ℕ × PromiseValue)) (envelopes : List EnvelopeValue)
    (begun : HasBegun old t set) (nothing_open : NothingToPropose old) (may : MayBeHeard old t heard)
    (major : IsMajority (map (λ (h : ℕ × PromiseValue). h.0) heard) set)
    (takes : TakesEach m IsText (promises heard) old new envelopes) where
  begins : Collects t.ballot old.learner old.header old
  begins = record {
    learner = refl;
    header = refl;
    waiting = begun.waiting;
    ballot = λ u is. ap (λ (x : TermValue). x.ballot) (sym (one u is));
    reports = λ u is q c. absurd (nobody q (subst (λ (qs : List ReceivedPromise). Contains qs q)
        (ap (λ (x : TermValue). x.received) (sym (one u is)) ∙ begun.none_received) c));
    leftovers = λ u is p c. absurd (nothing p (subst (λ (ps : List ProposalValue). Contains ps p)
        (ap (λ (x : TermValue). x.proposals) (sym (one u is)) ∙ begun.none_proposed) c));
  }
    where
      one : (u : TermValue) → old.leader.term ≡ Some u → t ≡ u
      one u is = let e : Some t ≡ Some u = sym begun.current ∙ is in cc e

      nobody : (q : ReceivedPromise) → Contains [] q → ⊥
      nobody q c = omega (arith, c.1)

      nothing : (p : ProposalValue) → Contains [] p → ⊥
      nothing p c = omega (arith, c.1)

  collected : Collects t.ballot old.learner old.header new × NothingToPropose new
  collected = all_collect t.ballot old.learner old.header begun.unchanged m IsText heard old new envelopes
      may.keeps takes
      (begins, nothing_open)

  leads : Leads new.leader new.learner.whole.roster
  leads = law old new t set heard envelopes begun.current begun.members begun.room may.usable major takes

  on : (P : LearnerValue → Type 0) → P old.learner → P new.learner
  on P h = subst P (sym collected.0.learner) h

  members : AreMembersAt new.learner.whole.roster (executed new.learner + 1) set
  members = on (λ (l : LearnerValue). AreMembersAt l.whole.roster (executed l + 1) set) begun.members

  majority : (e : IsElected leads.0 new.learner.whole.roster)
      → IsMajority (promisers set (executed new.learner + 1) leads.0.received) set
  majority e =
      let same : e.1.set ≡ set = (let s : Some e.1.set ≡ Some set = sym e.1.members.1 ∙ members.1 in cc s) in
      subst (λ (s : List Member). IsMajority (promisers s (executed new.learner + 1) leads.0.received) s) same
      e.1.promised

  leads_to_fill : LeadsToFill old t set new
  leads_to_fill = record {
    term = leads.0;
    ballot = collected.0.ballot leads.0 leads.1;
    learner = collected.0.learner;
    fills = record {
      leads = record {
        leads = record {
          current = leads.1;
          members = members;
          promised = majority leads.2;
          room = on (λ (l : LearnerValue). executed l < 281474976710656) begun.room;
        };
        fixed = on (λ (l : LearnerValue). AreAll l.whole.roster.sets set) begun.fixed;
        named = ap (λ (h : HeaderValue). is_member h.node set) collected.0.header ∙ begun.named;
        keeps = on (λ (l : LearnerValue). (p : Pair) → Contains l.pairs p → KeepsMembers p.1) begun.keeps;
        known = on (λ (l : LearnerValue). (v : Command) → IsNext l v → ⊥) begun.known;
      };
      reports = collected.0.reports leads.0 leads.1;
      waiting = collected.0.waiting;
      unchanged = on (λ (l : LearnerValue). is_changing_at l.whole.roster (executed l + 1) ≡ false) begun.unchanged;
      proposed = λ p c above. collected.0.leftovers leads.0 leads.1 p c;
      all = collected.1;
    };
  }

pub promised_fills : (m : Meaning) (IsText : List ℕ → Type 0) → PromisedNodeLeads m IsText
    → PromisedCandidateFills m IsText
promised_fills m IsText law old new t set heard envelopes begun none may major takes =
    leads_to_fill m IsText law old new t set heard envelopes begun none may major takes
