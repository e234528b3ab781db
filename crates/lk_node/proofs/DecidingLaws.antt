-- What a node decides goes on: what a majority has accepted is chosen, and its list names the members that it notes.
use Rattle.std.proofs.Common.{◌≡◌, ◌↔◌, ℕ, zero, suc, ◌+◌, ◌-◌, ◌≤◌, inl, inr, Bool, true, false, cond, List, [], ◌∷◌}
use Rattle.std.proofs.Common.{length, map, Option, Some, None, Contains, refl, sym, ◌∙◌, ap, subst, subst₂, arith}
use Rattle.std.specs.Prelude.{slice_get, IsTrue}
use Rattle.std.proofs.lemmas.Option.{slice_get_within}
use Rattle.std.proofs.lemmas.List.{append-nil, append_assoc}
use Rattle.lk_types.specs.BallotValue.{BallotValue}
use Rattle.lk_types.specs.Ballots.{IsAtMost}
use Rattle.lk_types.specs.declared.entry.Entry.{Entry}
use Rattle.lk_types.specs.declared.entry.Entry.TheVariants as entry
use Rattle.lk_types.specs.declared.member.Member.{Member}
use Rattle.lk_types.specs.declared.vote.Vote.{Vote}
use Rattle.lk_messages.specs.Grammar.{spelling, IsMessage}
use Rattle.lk_messages.specs.declared.message.NodeMessage.TheVariants as kinds
use Rattle.lk_members.specs.Rosters.{Genesis, members}
use Rattle.lk_members.specs.Windows.{RosterValue, RosterSumsUp, roster_after}
use Rattle.lk_members.proofs.Memberships.{length_of_window, set_of_window}
use Rattle.lk_agreement_laws.specs.Changes.{counts, with_paxos_term, with_acceptance}
use Rattle.lk_agreement_laws.specs.Chosen.{Command, ChosenAt}
use Rattle.lk_agreement_laws.specs.Datagrams.{HasSent}
use Rattle.lk_agreement_laws.specs.Nodes.{Pair, Acceptance, Term, PaxosState, PaxosFits}
use Rattle.lk_agreement_laws.proofs.Histories.{change_fits, accepted_is_chosen}
use Rattle.lk_store_format.specs.Values.{HeaderValue}
use Rattle.lk_state.specs.Meanings.{Meaning}
use Rattle.lk_state.specs.Runs.{run_answer}
use Rattle.lk_state.specs.States.{WholeValue, SumsUp, whole_after}
use Rattle.lk_state.specs.declared.session.Session.{Session}
use Rattle.lk_leader.specs.Acceptances.{heard_at, IsVoteFor, GainsMajority}
use Rattle.lk_leader.specs.Proposing.{AreMembersAt}
use Rattle.lk_leader.specs.LedTerms.{AgreesWithTerm}
use Rattle.lk_leader.specs.Terms.{TermValue, LeaderValue, ProposalValue, with_term, with_proposals}
use Rattle.lk_leader.proofs.Leaderships.{majority_rests, accepted_by, majority_leads}
use Rattle.lk_learner.specs.Learners.{executed, advanced}
use Rattle.lk_node_interface.specs.KeptReplies.{session_by}
use Rattle.lk_node_interface.specs.DecidedMessages.{decided_message}
use Rattle.lk_node_interface.specs.Envelopes.{EnvelopeValue}
use Rattle.lk_node_interface.specs.Outboxes.{OutboxValue, nothing, with_note, with_envelope, with_envelopes}
use Rattle.lk_node_interface.specs.Saying.{saying}
use Rattle.lk_node_interface.specs.declared.note.Note.TheVariants as note
use Rattle.lk_node.specs.Deciding.{IsForProposal, with_vote, BringsMajority, IsOnlyHeard}
use Rattle.lk_node.specs.Deciding.{HandlesVote, AreDecidedEnvelopes}
use Rattle.lk_node.specs.Deciding.{HandlesAccepted, Decides}
use Rattle.lk_node.specs.Executing.{EndsWaitIfAny, is_outside, without_term_if_outside, Executes, Runs, stays, goes_on}
use Rattle.lk_node.specs.Histories.{History}
use Rattle.lk_node.specs.Keeping.{IsKnown}
use Rattle.lk_node.specs.Learning.{with_learner, Learns}
use Rattle.lk_node.specs.NodeValue.{NodeValue}
use Rattle.lk_node.specs.Proposed.{ProposesNothing, ProposesNothingIf}
use Rattle.lk_node.specs.Saying.{to_node}
use Rattle.lk_node.specs.SafeSteps.{IsSafeStep, ActsSafely}
use Rattle.lk_node.specs.Telling.{envelope_to}
use Rattle.lk_node.specs.Yielding.{without_term}
use Rattle.lk_node.proofs.Changing.{change_goes_on}
use Rattle.lk_node.proofs.Decisions.{for_proposal_or_not}
use Rattle.lk_node.proofs.HeardNothing.{heard_brings_nothing}
use Rattle.lk_node.proofs.LearnerLaws.{Chooses, yet_to_accept}
use Rattle.lk_node.proofs.SafeSteps.{rests_here, then_goes_on, heard_goes_on, says, notes}

-- ---- what the leader tells of a vote

abbrev pub with_leader : NodeValue → LeaderValue → NodeValue
with_leader node l = record node { leader = l }

not_told : (told : Bool) → told ≡ false → IsTrue told → ⊥
not_told true isnt is = cc isnt
not_told false isnt is = cc is

module _ (from : ℕ) (x : Vote) (was : NodeValue) (l : LeaderValue) (o : Bool) (set : List Member) (r : RosterValue)
    (same : r ≡ was.learner.whole.roster) (at : AreMembersAt r x.position set)
    (heard : (t : TermValue) (s : List Member) (p : ProposalValue) → was.leader.term ≡ Some t
    → IsVoteFor t r x.ballot x.position x.command s p
    → (l ≡ with_term (with_proposals (heard_at s from x.position t.proposals) t) was.leader)
    × (IsTrue o ↔ GainsMajority s from p))
    (other : ((t : TermValue) (s : List Member) (p : ProposalValue) → was.leader.term ≡ Some t
    → IsVoteFor t r x.ballot x.position x.command s p → ⊥) → (l ≡ was.leader) × (o ≡ false)) where
  told_for : (k : IsForProposal was x)
      → (with_leader was l ≡ with_vote from x was k) × (IsTrue o ↔ BringsMajority from x was k)
  told_for k =
      let told = heard k.term k.set k.proposal k.current
      (subst (λ (q : RosterValue). IsVoteFor k.term q x.ballot x.position x.command k.set k.proposal)
      (sym same) k.vote) in
      (ap (with_leader was) told.0, told.1)

  told_none : (IsForProposal was x → ⊥) → (with_leader was l ≡ was) × (o ≡ false)
  told_none isnt =
      let told = other (λ t s p current vote. isnt (record {
        term = t;
        current = current;
        set = s;
        proposal = p;
        vote = subst (λ (q : RosterValue). IsVoteFor t q x.ballot x.position x.command s p) same vote;
      })) in
      (ap (with_leader was) told.0, told.1)

  its_members : AreMembersAt was.learner.whole.roster x.position set
  its_members = subst (λ (q : RosterValue). AreMembersAt q x.position set) same at

  pub only_heard : o ≡ false → IsOnlyHeard from x was (with_leader was l)
  only_heard none =
      elim (for_proposal_or_not was x set its_members) [
        | inl k ↦ (let told = told_for k in inl (k, (λ counted. not_told o none (told.1.1 counted)), told.0))
        | inr isnt ↦ (let told = told_none isnt in inr (isnt, told.0))
      ]

  pub heard_and_decided : o ≡ true → HandlesVote from x was (with_leader was l) (Some set)
  heard_and_decided some =
      elim (for_proposal_or_not was x set its_members) [
        | inl k ↦ (let told = told_for k in
            let one : k.set ≡ set = (let e : Some k.set ≡ Some set = sym k.vote.members.1 ∙ its_members.1 in cc e) in
            (k, told.1.0 some, one, told.0))
        | inr isnt ↦ (let told = told_none isnt in
            absurd (not_told o told.1 some))
      ]

  -- the leader's ballot stays promised
  pub still_promised : (b : BallotValue) → ((t : TermValue) → was.leader.term ≡ Some t → IsAtMost t.ballot b)
      → (t : TermValue) → l.term ≡ Some t → IsAtMost t.ballot b
  still_promised b promised t is =
      elim (for_proposal_or_not was x set its_members) [
        | inl k ↦
            (let told = told_for k in
            let kept : Some (with_proposals (heard_at k.set from x.position k.term.proposals) k.term) ≡ Some t =
            sym (ap (λ (n : NodeValue). n.leader.term) told.0) ∙ is in
            let same : with_proposals (heard_at k.set from x.position k.term.proposals) k.term ≡ t = cc kept in
            subst (λ (u : TermValue). IsAtMost u.ballot b) same (promised k.term k.current))
        | inr isnt ↦ promised t (sym (ap (λ (n : NodeValue). n.leader.term) (told_none isnt).0) ∙ is)
      ]

  -- if nothing was left to propose, nothing is
  pub still_nothing : (b : Bool) → ProposesNothingIf b was.leader was.learner.whole.roster
      → ProposesNothingIf b l was.learner.whole.roster
  still_nothing false none = tt
  still_nothing true none =
      let roster : RosterValue = was.learner.whole.roster in
      elim (for_proposal_or_not was x set its_members) [
        | inl k ↦ subst (λ (q : LeaderValue). ProposesNothing q roster)
            (sym (ap (λ (n : NodeValue). n.leader) (told_for k).0))
            (heard_brings_nothing k.set from x.position was.leader k.term roster k.current none)
        | inr isnt ↦ subst (λ (q : LeaderValue). ProposesNothing q roster)
            (sym (ap (λ (n : NodeValue). n.leader) (told_none isnt).0)) none
      ]

-- ---- a vote is heard

abbrev acceptance : ℕ → Vote → Acceptance
acceptance from x = record { node = from; position = x.position; command = x.command }

abbrev voted : ℕ → Vote → PaxosState → Term → PaxosState
voted from x w t = with_paxos_term w (Some (with_acceptance t (acceptance from x)))

abbrev Accepts : ℕ → Vote → History → Type 0
Accepts from x h = HasSent h.genesis h.sent from (kinds.Accepted x)

knows_voted : (from : ℕ) (x : Vote) (w : PaxosState) (t : Term) (e : Entry) → IsKnown w e → IsKnown (voted from x w t) e
knows_voted from x w t (entry.Promise b) k = k
knows_voted from x w t (entry.Vote y) k = k
knows_voted from x w t (entry.Decided i c) k = k

voted_fits : (h : History) (n from : ℕ) (x : Vote) (w : PaxosState) (t : Term) (m : Meaning) (loose : List Entry)
    (node : NodeValue) (out : OutboxValue) → IsSafeStep m h n loose node out
    → PaxosFits h.genesis h.sent n w → w.term ≡ Some t → t.ballot ≡ x.ballot → Accepts from x h
    → PaxosFits h.genesis h.sent n (voted from x w t)
voted_fits h n from x w t m loose node out s fits at ballot heard =
    change_fits h.genesis h.sent s.lawful.sound n w (voted from x w t) fits
    (counts t (acceptance from x) at
    (subst (λ (b : BallotValue). HasSent h.genesis h.sent from
    (kinds.Accepted (record { position = x.position; ballot = b; command = x.command }))) (sym ballot) heard))

some_of : (a b : Term) → Some a ≡ Some b → a ≡ b
some_of a b e = cc e

some_kept : (a b : TermValue) → Some a ≡ Some b → a ≡ b
some_kept a b e = cc e

pub vote_goes_on : (m : Meaning) (from : ℕ) (x : Vote) (node : NodeValue) (out : OutboxValue)
    (k : IsForProposal node x) → ActsSafely m (Accepts from x) node (with_vote from x node k) out out
vote_goes_on m from x node out k =
    change_goes_on m (Accepts from x) node (with_vote from x node k) out refl refl (λ h n loose s heard.
    let w : PaxosState = s.holding.paxos in
    let u = s.held.leads k.term k.current in
    let t : Term = u.0 in
    let more : Term = with_acceptance t (acceptance from x) in
    let r : RosterValue = node.learner.whole.roster in
    record {
      holding = record { paxos = voted from x w t; waiting = s.holding.waiting; gathered = s.holding.gathered };
      held = record {
        acceptor = s.held.acceptor;
        follows = s.held.follows;
        leads = λ j e. (
          more,
          refl,
          subst (AgreesWithTerm r.executed (length r.sets) more)
              (some_kept (with_proposals (heard_at k.set from x.position k.term.proposals) k.term) j e)
              (majority_leads r.executed
              (length r.sets) t k.term r x.ballot from x.position x.command k.set k.proposal k.vote u.2),
        );
        waiting = s.held.waiting;
        gathered = s.held.gathered;
      };
      fits = record {
        paxos = voted_fits h n from x w t m loose node out s s.fits.paxos u.1 (u.2.ballot ∙ k.vote.ballot) heard;
        waiting = s.fits.waiting;
        proposals = λ q e i v c. s.fits.proposals t u.1 i v
            (subst (λ (z : Term). Contains z.proposals (i, v)) (sym (some_of more q e)) c);
        gathered = s.fits.gathered;
      };
      grows = record {
        acceptor = refl;
        term = λ q e.
            let same : t ≡ q = some_of t q (sym u.1 ∙ e) in (
              more,
              refl,
              ap (λ (z : Term). z.ballot) same,
              λ p c. subst (λ (z : Term). Contains z.proposals p) (sym same) c,
            );
      };
      knows = knows_voted from x w t;
    })

-- ---- a majority

state_roster : (m : Meaning) (genesis : Genesis) (done : List Command)
    → (whole_after m genesis done).roster ≡ roster_after genesis done
unfolding whole_after
state_roster m genesis done = refl

roster_sums : (m : Meaning) (genesis : Genesis) (done : List Command) (w : WholeValue) → SumsUp m genesis done w
    → RosterSumsUp genesis done w.roster
roster_sums m genesis done w sums = ap (λ (x : WholeValue). x.roster) sums ∙ state_roster m genesis done

within_window : (r : RosterValue) (i : ℕ) (set : List Member) → AreMembersAt r i set → i ≤ r.executed + length r.sets
within_window r i set at = let less = slice_get_within r.sets (i - (r.executed + 1)) set at.1 in
    omega (arith, less, at.0)

roster_executed : (genesis : Genesis) (done : List Command) → (roster_after genesis done).executed ≡ length done
unfolding roster_after
roster_executed genesis done = refl

-- the set is the one that the list names, and the list reaches
list_names : (genesis : Genesis) (done : List Command) (r : RosterValue) (i : ℕ) (set : List Member)
    → RosterSumsUp genesis done r → AreMembersAt r i set
    → (i ≤ length done + genesis.alpha) × (set ≡ members genesis done i)
list_names genesis done r i set sums at =
    let e : r.executed ≡ length done = ap (λ (x : RosterValue). x.executed) sums ∙ roster_executed genesis done in
    let a : length r.sets ≡ genesis.alpha = length_of_window genesis done r sums in
    let near = within_window r i set at in
    let k : ℕ = i - (r.executed + 1) in
    let there : slice_get r.sets k ≡ Some (members genesis done (length done + 1 + k)) =
    set_of_window genesis done r k sums (omega (arith, at.0, near, a)) in
    let place : length done + 1 + k ≡ i = omega (arith, at.0, e) in
    let same : set ≡ members genesis done (length done + 1 + k) =
    (let both : Some set ≡ Some (members genesis done (length done + 1 + k)) = sym at.1 ∙ there in cc both) in
    (omega (arith, near, e, a), same ∙ ap (members genesis done) place)

-- what a majority has accepted is chosen
pub decided_chosen : (m : Meaning) (h : History) (n : ℕ) (loose : List Entry) (node : NodeValue) (out : OutboxValue)
    (from : ℕ) (x : Vote) (k : IsForProposal node x) → BringsMajority from x node k
    → IsSafeStep m h n loose node out → Accepts from x h → ChosenAt h.genesis h.sent x.position x.command
decided_chosen m h n loose node out from x k counted s heard =
    let w : PaxosState = s.holding.paxos in
    let r : RosterValue = node.learner.whole.roster in
    let u = s.held.leads k.term k.current in
    let t : Term = u.0 in
    let rests = majority_rests h.genesis w.done t k.term r x.ballot from x.position x.command k.set k.proposal
    (roster_sums m h.genesis w.done node.learner.whole s.held.follows.sums)
    (within_window r x.position k.set k.vote.members) u.2 k.vote counted in
    accepted_is_chosen h.genesis h.sent n (voted from x w t)
    (with_acceptance t (acceptance from x)) x.position x.command (accepted_by k.set from k.proposal)
    (voted_fits h n from x w t m loose node out s s.fits.paxos u.1 (u.2.ballot ∙ k.vote.ballot) heard)
    refl rests.0 rests.1 rests.2

-- ---- it is noted

notes_counted : (m : Meaning) (node : NodeValue) (out : OutboxValue) (whose i : ℕ) (set : List Member) (v : Command)
    → AreMembersAt node.learner.whole.roster i set
    → ActsSafely m (Chooses i v) node node out (with_note (note.Counted whose i set v) out)
notes_counted m node out whose i set v at =
    notes m (Chooses i v) node out (note.Counted whose i set v) tt (λ h n loose s heard.
    let w : PaxosState = s.holding.paxos in
    let names = list_names h.genesis w.done node.learner.whole.roster i set
    (roster_sums m h.genesis w.done node.learner.whole s.held.follows.sums) at in
    record { under = w.done; chosen = s.fits.paxos.stems.done; bears = (names.0, names.1, heard) })

-- ---- and told

chosen_alone : (h : History) (i : ℕ) (v : Command) → ChosenAt h.genesis h.sent i v → (k : ℕ) (u : Command)
    → slice_get (v ∷ []) k ≡ Some u → ChosenAt h.genesis h.sent (i + k) u
chosen_alone h i v chosen zero u at =
    let same : v ≡ u = cc at in
    let place : i ≡ i + 0 = omega arith in
    subst₂ (λ (j : ℕ) (c : Command). ChosenAt h.genesis h.sent j c) place same chosen
chosen_alone h i v chosen (suc k) u at = absurd (nothing k at)
  where
    nothing : (j : ℕ) → slice_get [] j ≡ Some u → ⊥
    nothing zero e = cc e
    nothing (suc j) e = cc e

abbrev enveloped : OutboxValue → List EnvelopeValue → OutboxValue
enveloped out ls =
    record { rebase = out.rebase; entries = out.entries; sync = out.sync; notes = out.notes; envelopes = ls }

decided_go_on : (m : Meaning) (i : ℕ) (v : Command) (was node : NodeValue) (out : OutboxValue) (nodes : List ℕ)
    → node.header ≡ was.header → IsMessage (saying was.header (decided_message (i, v)))
    → ActsSafely m (Chooses i v) node node out
    (with_envelopes (map (envelope_to was (decided_message (i, v))) nodes) out)
decided_go_on m i v was node out [] same fits =
    subst (λ (ls : List EnvelopeValue). ActsSafely m (Chooses i v) node node out (enveloped out ls))
    (sym (append-nil out.envelopes)) (rests_here m (Chooses i v) node out)
decided_go_on m i v was node out (k ∷ nodes) same fits =
    let one : EnvelopeValue = envelope_to was (decided_message (i, v)) k in
    let sent : OutboxValue = with_envelope one out in
    let bytes : spelling (saying node.header (decided_message (i, v)))
    ≡ spelling (saying was.header (decided_message (i, v))) =
    ap (λ (w : HeaderValue). spelling (saying w (decided_message (i, v)))) same in
    subst (λ (ls : List EnvelopeValue). ActsSafely m (Chooses i v) node node out (enveloped out ls))
    (append_assoc out.envelopes (one ∷ []) (map (envelope_to was (decided_message (i, v))) nodes))
    (then_goes_on m (Chooses i v) node node node out sent
    (with_envelopes (map (envelope_to was (decided_message (i, v))) nodes) sent)
    (subst (λ (bs : List ℕ). ActsSafely m (Chooses i v) node node out
    (with_envelope (record { to = to_node was k; bytes = bs }) out)) bytes
    (says m (Chooses i v) node out (to_node was k) (decided_message (i, v))
    (subst (λ (w : HeaderValue). IsMessage (saying w (decided_message (i, v)))) (sym same) fits) tt (λ e. tt)
    (λ h n loose s heard. (
      chosen_alone h i v heard,
      record { under = s.holding.paxos.done; chosen = s.fits.paxos.stems.done; bears = tt },
    ))))
    (decided_go_on m i v was node sent nodes same fits))

-- ---- the header stays

learns_header : (p : Pair) (old : NodeValue) (before : OutboxValue) (new : NodeValue) (after : OutboxValue)
    → Learns p old before new after → new.header ≡ old.header
learns_header p old before new after (inl wanted) = ap (λ (node : NodeValue). node.header) wanted.1
learns_header p old before new after (inr other) = ap (λ (node : NodeValue). node.header) other.1

named_header : (node : NodeValue) → (without_term_if_outside node).header ≡ node.header
named_header node = by_test (is_outside node)
  where
    by_test : (t : Bool) → (cond t (without_term node) node).header ≡ node.header
    by_test true = refl
    by_test false = refl

any_header : (o : Option Session) (old : NodeValue) (before : OutboxValue) (new : NodeValue) (after : OutboxValue)
    → EndsWaitIfAny o old before new after → new.header ≡ old.header
any_header None old before new after k = ap (λ (node : NodeValue). node.header) k.0
any_header (Some s) old before new after k = ap (λ (node : NodeValue). node.header) k.becomes

executes_header : (m : Meaning) (old : NodeValue) (before : OutboxValue) (new : NodeValue) (after : OutboxValue)
    → Executes m old before new after → new.header ≡ old.header
executes_header m old before new after k =
    ap (λ (node : NodeValue). node.header) k.becomes ∙ named_header k.mid
    ∙ any_header (session_by k.command (run_answer m k.command old.learner.whole))
    (with_learner old (advanced m k.command old.learner))
    (with_note (note.Ran old.header.node (executed old.learner + 1) k.command) before) k.mid after k.ends_wait

runs_header : (m : Meaning) (old : NodeValue) (before : OutboxValue) (new : NodeValue) (after : OutboxValue)
    → Runs m old before new after → new.header ≡ old.header
runs_header m old before new after stays = refl
runs_header m old before new after (goes_on {mid} {between} runs one) =
    executes_header m mid between new after one ∙ runs_header m old before mid between runs

-- ---- in all

pub decides_goes_on : (m : Meaning) (set : List Member) (i : ℕ) (v : Command) (whose : ℕ) (old learned new : NodeValue)
    (before written ran : OutboxValue) (envelopes : List EnvelopeValue) → AreMembersAt old.learner.whole.roster i set
    → AreDecidedEnvelopes old (i, v) envelopes
    → Learns (i, v) old (with_note (note.Counted whose i set v) before) learned written → Runs m learned written new ran
    → ActsSafely m (Chooses i v) old learned (with_note (note.Counted whose i set v) before) written
    → ActsSafely m (λ h. Unit {0}) learned new written ran
    → ActsSafely m (Chooses i v) old new before (with_envelopes envelopes ran)
decides_goes_on m set i v whose old learned new before written ran envelopes at news learns runs f g =
    let noted : OutboxValue = with_note (note.Counted whose i set v) before in
    let same : new.header ≡ old.header = runs_header m learned written new ran runs
    ∙ learns_header (i, v) old noted learned written learns in
    then_goes_on m (Chooses i v) old old new before noted (with_envelopes envelopes ran)
    (notes_counted m old before whose i set v at)
    (then_goes_on m (Chooses i v) old learned new noted written (with_envelopes envelopes ran) f
    (then_goes_on m (Chooses i v) learned new new written ran (with_envelopes envelopes ran)
    (yet_to_accept m (Chooses i v) learned new written ran g)
    (subst (λ (ls : List EnvelopeValue). ActsSafely m (Chooses i v) new new ran (with_envelopes ls ran))
    (sym news.comes_to)
    (decided_go_on m i v old new ran news.nodes same news.fits))))

pub only_heard_goes_on : (m : Meaning) (from : ℕ) (x : Vote) (old new : NodeValue) (out : OutboxValue)
    → IsOnlyHeard from x old new → ActsSafely m (Accepts from x) old new out out
only_heard_goes_on m from x old new out (inl k) =
    subst (λ (node : NodeValue). ActsSafely m (Accepts from x) old node out out) (sym k.2)
    (vote_goes_on m from x old out k.0)
only_heard_goes_on m from x old new out (inr k) =
    subst (λ (node : NodeValue). ActsSafely m (Accepts from x) old node out out) (sym k.1)
    (rests_here m (Accepts from x) old out)

abbrev HandlesMajority : ℕ → Vote → NodeValue → NodeValue → List Member → Type 0
HandlesMajority from x old mid set = HandlesVote from x old mid (Some set)

-- the members that are given are those of the position
pub are_members : (from : ℕ) (x : Vote) (old mid : NodeValue) (set : List Member) → HandlesMajority from x old mid set
    → AreMembersAt mid.learner.whole.roster x.position set
are_members from x old mid set k =
    subst₂ (λ (node : NodeValue) (s : List Member). AreMembersAt node.learner.whole.roster x.position s)
    (sym k.3) k.2 k.0.vote.members

pub accepted_goes_on : (m : Meaning) (from : ℕ) (x : Vote) (old mid new : NodeValue) (set : List Member)
    (out after : OutboxValue) → HandlesMajority from x old mid set
    → ActsSafely m (Chooses x.position x.command) mid new out after → ActsSafely m (Accepts from x) old new out after
accepted_goes_on m from x old mid new set out after k f =
    let Both : History → Type 0 = λ (h : History). Accepts from x h × Chooses x.position x.command h in
    let heard_so : ActsSafely m (Accepts from x) old mid out out =
    subst (λ (node : NodeValue). ActsSafely m (Accepts from x) old node out out) (sym k.3)
    (vote_goes_on m from x old out k.0) in
    heard_goes_on m (Accepts from x) Both old new out after
    (λ h n loose s heard. (heard, decided_chosen m h n loose old out from x k.0 k.1 s heard))
    (then_goes_on m Both old mid new out out after
    (heard_goes_on m Both (Accepts from x) old mid out out (λ h n loose s both. both.0) heard_so)
    (heard_goes_on m Both (Chooses x.position x.command) mid new out after (λ h n loose s both. both.1) f))

pub hears_accepted : (m : Meaning) (from : ℕ) (x : Vote) (old mid new : NodeValue) (set : List Member)
    (out : OutboxValue) → HandlesMajority from x old mid set
    → Decides m set (x.position, x.command) mid nothing new out → HandlesAccepted m from x old new out
hears_accepted m from x old mid new set out k c =
    inl (
      k.0,
      k.1,
      subst₂ (λ (node : NodeValue) (s : List Member). Decides m s
          (x.position, x.command) node nothing new out) k.3 (sym k.2) c,
    )
