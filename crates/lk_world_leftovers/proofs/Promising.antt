-- What nodes that promise keep, and a candidate that takes its own Prepare.
use Rattle.std.proofs.Common.{◌≡◌, ◌∙◌, ◌⊎◌, inl, inr, ℕ, ◌+◌, ◌<◌, ◌≤◌, true, false, nat_lt, nat_le, List, []}
use Rattle.std.proofs.Common.{◌∷◌, Some, Contains, ap, sym, subst, arith}
use Rattle.std.proofs.lemmas.Bool.{leb-true}
use Rattle.std.proofs.lemmas.Bool.Decides.{nat_tests}
use Rattle.lk_types.specs.BallotValue.{BallotValue}
use Rattle.lk_types.specs.Ballots.{IsAtMost, IsBelow}
use Rattle.lk_types.specs.declared.member.Member.{Member}
use Rattle.lk_types.specs.declared.vote.Vote.{Vote}
use Rattle.lk_store_format.specs.Values.{HeaderValue}
use Rattle.lk_messages.specs.declared.message.Content.TheVariants as content
use Rattle.lk_messages.specs.declared.message.NodeMessage.TheVariants as kinds
use Rattle.lk_agreement_laws.proofs.Histories.{at_most_below, below_self, filter_from, filter_passes_at}
use Rattle.lk_agreement_laws.specs.Changes.{with_promise}
use Rattle.lk_members.specs.Effects.{Command}
use Rattle.lk_members.specs.Rosters.{is_member}
use Rattle.lk_state.specs.Meanings.{Meaning}
use Rattle.lk_acceptor.specs.AcceptorValue.{AcceptorValue}
use Rattle.lk_acceptor.specs.States.{with_state}
use Rattle.lk_acceptor.specs.VoteLists.{votes_above, votes_from}
use Rattle.lk_leader.specs.Proposing.{AreMembersAt}
use Rattle.lk_leader.specs.Terms.{LeaderValue, begun}
use Rattle.lk_leader.specs.Values.{is_changing_at}
use Rattle.lk_learner.specs.Learners.{IsNext, LearnerValue, Pair, executed}
use Rattle.lk_node_interface.specs.Outboxes.{OutboxValue}
use Rattle.lk_node.specs.Executing.{NothingToRun}
use Rattle.lk_node.specs.Leading.{NothingToPropose, ProposesAll, having_proposed}
use Rattle.lk_node.specs.Nearness.{AreNear}
use Rattle.lk_node.specs.NewBases.{with_snapshot}
use Rattle.lk_node.specs.NodeValue.{NodeValue}
use Rattle.lk_node.specs.Telling.{envelope_to}
use Rattle.lk_progress.proofs.Hearing.{Handled, handled, same_acceptor, same_learner}
use Rattle.lk_progress.proofs.Quiet.{proposes_nothing}
use Rattle.lk_progress.proofs.Rejecting.{keeps_header, keeps_leader}
use Rattle.lk_progress.specs.Electing.{promises}
use Rattle.lk_progress.specs.Hearing.{Takes}
use Rattle.lk_progress.specs.LeadingOn.{AreAll, KeepsMembers}
use Rattle.lk_progress.specs.Rejecting.{PrepareIsPromisedOrRejected, Promises, RejectsPrepare}
use Rattle.lk_rebases.proofs.Rebases.{strict_filter}
use Rattle.lk_leftovers.specs.Accepting.{IsVoterFrom}
use Rattle.lk_world_progress.proofs.Balloting.{near_snapshot}
use Rattle.lk_world_leftovers.specs.Collecting.{AreLeftovers}

-- ---- votes

later_votes : (e i : ℕ) → e < i → (votes : List Vote) → votes_from i (votes_above e votes) ≡ votes_from i votes
later_votes e i lt votes =
    strict_filter (λ (v : Vote). nat_le i v.position) (λ (v : Vote). nat_lt e v.position) sure votes
  where
    sure : (v : Vote) → nat_le i v.position ≡ true → nat_lt e v.position ≡ true
    sure v t = grind (arith, nat_tests)

pub above_from : (i : ℕ) (votes : List Vote) (v : Vote) → Contains (votes_from i votes) v
    → Contains votes v × (i ≤ v.position)
above_from i votes v c = (
  filter_from (λ (x : Vote). nat_le i x.position) votes v c,
  leb-true i v.position (filter_passes_at (λ (x : Vote). nat_le i x.position) votes v c),
)

-- ---- a node of the exchange

-- what it promises of the positions from the next one on is this list, and its votes are leftovers
pub record Stands (b : BallotValue) (e highest : ℕ) (votes : List Vote) (node : NodeValue) : Type 0 where
  pub behind : executed node.learner ≤ e
  pub near : AreNear node.acceptor node.learner
  pub left : AreLeftovers node b e highest
  pub reports : votes_from (e + 1) node.acceptor.state.votes ≡ votes

pub stands_snapshot : (b : BallotValue) (e highest : ℕ) (votes : List Vote) (node : NodeValue)
    → Stands b e highest votes node → Stands b e highest votes (with_snapshot node)
stands_snapshot b e highest votes node s = record {
  behind = s.behind;
  near = near_snapshot node s.near;
  left = record {
    low = λ v c. s.left.low v (kept v c);
    older = λ v c. s.left.older v (kept v c);
    keeps = λ v c. s.left.keeps v (kept v c);
  };
  reports = later_votes (executed node.learner) (e + 1) (omega (arith, s.behind)) node.acceptor.state.votes ∙ s.reports;
}
  where
    kept : (v : Vote) → Contains (votes_above (executed node.learner) node.acceptor.state.votes) v
        → Contains node.acceptor.state.votes v
    kept v c = filter_from (λ (x : Vote). nat_lt (executed node.learner) x.position) node.acceptor.state.votes v c

-- a promise changes nothing of that
pub stands_promised : (b c : BallotValue) (e highest : ℕ) (votes : List Vote) (old new : NodeValue)
    → new.acceptor ≡ with_state old.acceptor (with_promise old.acceptor.state c) → new.learner ≡ old.learner
    → Stands b e highest votes old → Stands b e highest votes new
stands_promised b c e highest votes old new acceptor learner s = record {
  behind = subst (λ (l : LearnerValue). executed l ≤ e) (sym learner) s.behind;
  near = subst (λ (l : LearnerValue). AreNear new.acceptor l) (sym learner)
      (subst (λ (a : AcceptorValue). AreNear a old.learner) (sym acceptor)
      (record { alpha_is = s.near.alpha_is; snapshot = s.near.snapshot; votes = s.near.votes }));
  left = record {
    low = λ v d. s.left.low v (kept v d);
    older = λ v d. s.left.older v (kept v d);
    keeps = λ v d. s.left.keeps v (kept v d);
  };
  reports = ap (λ (a : AcceptorValue). votes_from (e + 1) a.state.votes) acceptor ∙ s.reports;
}
  where
    kept : (v : Vote) → Contains new.acceptor.state.votes v → Contains old.acceptor.state.votes v
    kept v d = subst (λ (a : AcceptorValue). Contains a.state.votes v) acceptor d

-- so it promises
pub record PromisesFrom (old : NodeValue) (from : ℕ) (b : BallotValue) (e highest : ℕ) (votes : List Vote)
    (new : NodeValue) (out : OutboxValue) : Type 0 where
  pub promises : Promises old from b (e + 1) new out
  pub told : Contains out.envelopes
      (envelope_to old (kinds.Promise (record { ballot = b; first = e + 1; votes = votes })) from)
  pub stands : Stands b e highest votes new

pub promises_from : (m : Meaning) (IsText : List ℕ → Type 0) → PrepareIsPromisedOrRejected m IsText
    → (old new : NodeValue) (from : ℕ) (b : BallotValue) (e highest : ℕ) (votes : List Vote) (out : OutboxValue)
    → Stands b e highest votes old → IsAtMost old.acceptor.state.promised b
    → Takes m IsText old (content.Node from (kinds.Prepare b (e + 1))) new out
    → PromisesFrom old from b e highest votes new out
promises_from m IsText law old new from b e highest votes out s ballot takes =
    by_cause (law old new from b (e + 1) out s.near takes)
  where
    why_not : IsBelow b old.acceptor.state.promised ⊎ (e + 1 ≤ executed old.learner) → ⊥
    why_not (inl greater) = below_self old.acceptor.state.promised
        (at_most_below old.acceptor.state.promised b old.acceptor.state.promised ballot greater)
    why_not (inr ahead) = omega (arith, ahead, s.behind)

    by_cause : Promises old from b (e + 1) new out ⊎ RejectsPrepare old from b (e + 1) new out
        → PromisesFrom old from b e highest votes new out
    by_cause (inr rejects) = absurd (why_not rejects.why)
    by_cause (inl promises) = record {
      promises = promises;
      told = subst (λ (vs : List Vote). Contains out.envelopes
          (envelope_to old (kinds.Promise (record { ballot = b; first = e + 1; votes = vs })) from))
          s.reports promises.told;
      stands = stands_promised b b e highest votes old new promises.acceptor promises.learner s;
    }

-- and is then a voter from the next position on
pub then_votes : (old new : NodeValue) (from : ℕ) (b : BallotValue) (e highest : ℕ) (votes : List Vote)
    (out : OutboxValue) → PromisesFrom old from b e highest votes new out
    → IsVoterFrom new b (e + 1)
then_votes old new from b e highest votes out p = record {
  near = p.stands.near;
  ballot = inr (ap (λ (a : AcceptorValue). a.state.promised) p.promises.acceptor);
  above = omega (arith, p.stands.behind);
  older = λ v c above. p.stands.left.older v c (omega (arith, above));
}

-- ---- the candidate

-- what it knows of the members and of what is decided
pub record Knows (set : List Member) (e highest : ℕ) (node : NodeValue) : Type 0 where
  pub reach : executed node.learner ≡ e
  pub members : AreMembersAt node.learner.whole.roster (executed node.learner + 1) set
  pub fixed : AreAll node.learner.whole.roster.sets set
  pub named : is_member node.header.node set ≡ true
  pub known : NothingToRun node
  pub unchanged : is_changing_at node.learner.whole.roster (executed node.learner + 1) ≡ false
  pub keeps : (p : Pair) → Contains node.learner.pairs p → KeepsMembers p.1
  pub pairs : (p : Pair) → Contains node.learner.pairs p → p.0 ≤ highest

pub knows_snapshot : (set : List Member) (e highest : ℕ) (node : NodeValue) → Knows set e highest node
    → Knows set e highest (with_snapshot node)
knows_snapshot set e highest node k = record {
  reach = k.reach;
  members = k.members;
  fixed = k.fixed;
  named = k.named;
  known = k.known;
  unchanged = k.unchanged;
  keeps = k.keeps;
  pairs = k.pairs;
}

pub knows_alike : (set : List Member) (e highest : ℕ) (old new : NodeValue) → new.learner ≡ old.learner
    → new.header ≡ old.header → Knows set e highest old → Knows set e highest new
knows_alike set e highest old new learner header k = record {
  reach = ap (λ (l : LearnerValue). executed l) learner ∙ k.reach;
  members = on (λ (l : LearnerValue). AreMembersAt l.whole.roster (executed l + 1) set) k.members;
  fixed = on (λ (l : LearnerValue). AreAll l.whole.roster.sets set) k.fixed;
  named = ap (λ (h : HeaderValue). is_member h.node set) header ∙ k.named;
  known = on (λ (l : LearnerValue). (v : Command) → IsNext l v → ⊥) k.known;
  unchanged = on (λ (l : LearnerValue). is_changing_at l.whole.roster (executed l + 1) ≡ false) k.unchanged;
  keeps = on (λ (l : LearnerValue). (p : Pair) → Contains l.pairs p → KeepsMembers p.1) k.keeps;
  pairs = on (λ (l : LearnerValue). (p : Pair) → Contains l.pairs p → p.0 ≤ highest) k.pairs;
}
  where
    on : (P : LearnerValue → Type 0) → P old.learner → P new.learner
    on P h = subst P (sym learner) h

ends_idle : (xs : List Vote) (old new : NodeValue) (before out : OutboxValue) → ProposesAll xs old new before out
    → NothingToPropose new
ends_idle [] old new before out p = subst NothingToPropose (sym p.1) p.0
ends_idle (x ∷ xs) old new before out p = ends_idle xs (having_proposed old x p.0) new _ out p.1

-- it has a term of this ballot in which nothing is promised or proposed, and nothing waits
pub record HasTerm (b : BallotValue) (node : NodeValue) : Type 0 where
  pub current : node.leader.term ≡ Some (begun b)
  pub waiting : node.leader.waiting ≡ []
  pub promised : node.acceptor.state.promised ≡ b

-- after its own Prepare it still has
pub record StillBegun (b : BallotValue) (old new : NodeValue) : Type 0 where
  pub leader : new.leader ≡ old.leader
  pub header : new.header ≡ old.header
  pub idle : NothingToPropose new

pub own_prepare : (m : Meaning) (IsText : List ℕ → Type 0) (old new : NodeValue) (from : ℕ) (b : BallotValue)
    (e highest : ℕ) (votes : List Vote) (set : List Member) (out : OutboxValue)
    → PromisesFrom old from b e highest votes new out → HasTerm b old → Knows set e highest old
    → Takes m IsText old (content.Node from (kinds.Prepare b (e + 1))) new out → StillBegun b old new
own_prepare m IsText old new from b e highest votes set out p has knows takes =
    by_handled (handled m IsText old (content.Node from (kinds.Prepare b (e + 1))) new out takes)
  where
    by_handled : Handled m IsText old (content.Node from (kinds.Prepare b (e + 1))) new out → StillBegun b old new
    by_handled h = record {
      leader = ap (λ (n : NodeValue). n.leader) unchanged ∙ mid_leader;
      header = ap (λ (n : NodeValue). n.header) unchanged ∙ keeps_header old h.mid from _ h.first h.handles;
      idle = ends_idle h.proposes.0 h.mid new h.first out h.proposes.1;
    }
      where
        mid_leader : h.mid.leader ≡ old.leader
        mid_leader = keeps_leader old h.mid from _ h.first h.handles (begun b) has.current
            (ap (λ (a : AcceptorValue). a.state.promised) (sym (same_acceptor m IsText old _ new out h))
            ∙ ap (λ (a : AcceptorValue). a.state.promised) p.promises.acceptor)

        mid_learner : h.mid.learner ≡ old.learner
        mid_learner = sym (same_learner m IsText old _ new out h) ∙ p.promises.learner

        unchanged : new ≡ h.mid
        unchanged = proposes_nothing h.mid new h.first out (begun b) h.proposes
            (ap (λ (l : LeaderValue). l.term) mid_leader ∙ has.current)
            (ap (λ (l : LeaderValue). l.waiting) mid_leader ∙ has.waiting) (λ q d. absurd (omega (arith, d.1)))
            (subst (λ (l : LearnerValue). is_changing_at l.whole.roster (executed l + 1) ≡ false) (sym mid_learner)
            knows.unchanged)
