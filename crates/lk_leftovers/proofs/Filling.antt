-- A leader fills one position after another, and is then ready.
use Rattle.std.proofs.Common.{◌≡◌, ◌∙◌, inl, inr, ℕ, ◌+◌, ◌-◌, ◌<◌, ◌||◌, true}
use Rattle.std.proofs.Common.{eqb, List, [], ◌∷◌, Some}
use Rattle.std.proofs.Common.{Contains, count_by, refl, ap, sym, subst, arith}
use Rattle.std.proofs.lemmas.Bool.{cases_Bool, cases_lt, eqb-true}
use Rattle.std.proofs.lemmas.Option.{slice_get_within}
use Rattle.std.specs.List.{list_any}
use Rattle.lk_types.specs.declared.member.Member.{Member}
use Rattle.lk_agreement_laws.proofs.Histories.{contains_more}
use Rattle.lk_members.specs.Majorities.{IsMajority}
use Rattle.lk_state.specs.Meanings.{Meaning}
use Rattle.lk_leader.specs.Acceptances.{members_among}
use Rattle.lk_leader.specs.Terms.{ProposalValue, ReceivedPromise, TermValue, proposal_at}
use Rattle.lk_leader.specs.Values.{has_vote_from, is_changing_at}
use Rattle.lk_learner.specs.Learners.{executed}
use Rattle.lk_node_interface.specs.Envelopes.{EnvelopeValue}
use Rattle.lk_node.specs.Leading.{NothingToPropose}
use Rattle.lk_node.specs.NodeValue.{NodeValue}
use Rattle.lk_progress.specs.Deciding.{HasProposed, acceptances, vote_for_next}
use Rattle.lk_progress.specs.Hearing.{TakesEach}
use Rattle.lk_progress.specs.Leading.{LeaderHasProposed}
use Rattle.lk_progress.specs.LeadingOn.{LeaderLeadsOn, LeadsOn}
use Rattle.lk_leftovers.proofs.Reported.{has_earlier, none_reported}
use Rattle.lk_leftovers.proofs.Walking.{IsKept, Walks, all_walk}
use Rattle.lk_leftovers.specs.Filling.{FilledLeaderIsReady, FillsOn, FillsUp, IsLeftover, LeaderFillsOn}
use Rattle.lk_leftovers.specs.Filling.{ReportNoChange}

-- ---- what is proposed

pub found_at : (i : ℕ) (ps : List ProposalValue) (p : ProposalValue) → proposal_at i ps ≡ Some p
    → Contains ps p × (p.position ≡ i)
found_at i [] p at = absurd (cc at)
found_at i (q ∷ ps) p at = elim (cases_Bool (eqb q.position i)) [
  | inl t ↦
      let e : Some q ≡ Some p = rw t at at in
      let one : q ≡ p = cc e in
      let here : q.position ≡ i = eqb-true q.position i t in
      ((0, omega arith, one), sym (ap (λ (x : ProposalValue). x.position) one) ∙ here)
  | inr f ↦
      let rest = found_at i ps p (rw f at at) in
      (contains_more q ps p rest.0, rest.1)
]

-- nobody is no majority
none_among : (set : List Member) → members_among set [] ≡ []
none_among [] = refl
none_among (m ∷ set) = none_among set

none_counted : (set : List Member) → count_by (λ (m : Member). list_any (λ (n : ℕ). eqb n m.node) []) set ≡ 0
none_counted [] = refl
none_counted (m ∷ set) = none_counted set

none_few : (set : List Member) → IsMajority (members_among set []) set → ⊥
none_few set major =
    let k : IsMajority [] set = subst (λ (ns : List ℕ). IsMajority ns set) (none_among set) major in
    omega (arith, k.more_than_half, none_counted set)

-- ---- one position

module _ (m : Meaning) (IsText : List ℕ → Type 0) (node : NodeValue) (t : TermValue) (set : List Member)
    (f : FillsUp node t set) where
  abbrev next : ℕ
  next = executed node.learner + 1

  same_term : (u : TermValue) → node.leader.term ≡ Some u → t ≡ u
  same_term u is = let e : Some t ≡ Some u = sym f.leads.leads.current ∙ is in cc e

  begins : Walks t.received next node
  begins = record {
    received = λ u is. ap (λ (x : TermValue). x.received) (sym (same_term u is));
    proposed = λ u is p c above.
        let left : IsLeftover t.received p = f.proposed p
        (subst (λ (x : TermValue). Contains x.proposals p) (sym (same_term u is)) c) above in
        record { reported = left.reported; keeps = left.keeps; yet_to_accept = inr left.yet_to_accept };
    waiting = f.waiting;
    unchanged = f.unchanged;
    some = (let lt = slice_get_within node.learner.whole.roster.sets (next - (executed node.learner + 1)) set
        f.leads.leads.members.1 in omega (arith, lt));
    pairs = f.leads.keeps;
  }

  module _ (leads : LeaderLeadsOn m IsText) (p : ProposalValue)
      (at : proposal_at next t.proposals ≡ Some p) where
    in_list : Contains t.proposals p × (p.position ≡ next)
    in_list = found_at next t.proposals p at

    leftover : IsLeftover t.received p
    leftover = f.proposed p in_list.0 (omega (arith, in_list.1))

    has : HasProposed node t set p.command []
    has = record {
      current = f.leads.leads.current;
      members = f.leads.leads.members;
      proposal = at ∙ (λ i. Some (record {
        position = in_list.1 i;
        command = p.command;
        accepted = leftover.yet_to_accept i;
      }));
      few = none_few set;
      known = f.leads.known;
    }

    module _ (new : NodeValue) (voters : List ℕ) (envelopes : List EnvelopeValue) (major : IsMajority voters set)
        (takes : TakesEach m IsText (acceptances voters (vote_for_next node t p.command)) node new envelopes) where
      led : LeadsOn node t set new
      led = leads node new t set p.command [] voters envelopes f.leads leftover.keeps has major takes

      walk : Walks t.received next new × NothingToPropose new
      walk = all_walk t.received next f.reports m IsText (vote_for_next node t p.command) voters node new envelopes refl
          leftover.keeps takes (begins, f.all)

      still : (u : TermValue) → new.leader.term ≡ Some u → (q : ProposalValue) → Contains u.proposals q
          → executed new.learner < q.position → IsLeftover t.received q
      still u is q c above =
          let k : IsKept t.received next q = walk.0.proposed u is q c above in
          record {
            reported = k.reported;
            keeps = k.keeps;
            yet_to_accept = elim k.yet_to_accept [
              | inl here ↦ absurd (omega (arith, here, above, led.moves))
              | inr
                  none ↦ none
            ];
          }

      fills : FillsOn node t set new
      fills = record {
        moves = led.moves;
        fills = λ room.
            let u = led.leads room in
            let same : u.0.received ≡ t.received = walk.0.received u.0 u.2.leads.current in (
              u.0,
              u.1,
              same,
              record {
                leads = u.2;
                reports = subst ReportNoChange (sym same) f.reports;
                waiting = walk.0.waiting;
                unchanged = walk.0.unchanged;
                proposed = λ q c above. subst (λ (qs : List ReceivedPromise). IsLeftover qs q) (sym same)
                    (still u.0 u.2.leads.current q c above);
                all = walk.1;
              },
            );
      }

pub fills_on : LeaderHasProposed → (m : Meaning) (IsText : List ℕ → Type 0) → LeaderLeadsOn m IsText
    → LeaderFillsOn m IsText
fills_on proposes m IsText leads node t set f reported =
    let work : has_vote_from t.received (executed node.learner + 1)
    || is_changing_at node.learner.whole.roster (executed node.learner + 1) ≡ true = rw reported refl in
    let p = proposes node t set f.leads.leads (inr (inr work)) f.all in
    record {
      proposal = p.0;
      there = p.1;
      goes_on = λ new voters envelopes major takes.
          fills m IsText node t set f leads p.0 p.1 new voters envelopes major takes;
    }

-- ---- the end

pub filled_ready : FilledLeaderIsReady
filled_ready node t set f none = record {
  current = f.leads.leads.current;
  members = f.leads.leads.members;
  promised = f.leads.leads.promised;
  unreported = none_reported (executed node.learner + 1) set t.received none;
  proposed = λ p c. elim (cases_lt (executed node.learner) p.position) [
    | inl above ↦ absurd (cc (sym none
        ∙ has_earlier (executed node.learner + 1) p.position t.received (omega (arith, above))
        (f.proposed p c above).reported))
    | inr low ↦ omega (arith, low)
  ];
  waiting = f.waiting;
  known = f.leads.known;
  room = f.leads.leads.room;
}
