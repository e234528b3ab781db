-- A voter accepts, and so does the leader itself, which keeps its term.
use Rattle.std.proofs.Common.{◌≡◌, ◌∙◌, ◌⊎◌, inl, inr, ℕ, ◌+◌, ◌*◌, ◌<◌, ◌≤◌, nat_lt, eqb}
use Rattle.std.proofs.Common.{Bool, true, false, cond, List, []}
use Rattle.std.proofs.Common.{◌&&◌, ◌∷◌, Option, Some, Contains, refl, ap, sym, subst, arith}
use Rattle.std.proofs.lemmas.Bool.Decides.{nat_tests}
use Rattle.lk_types.specs.BallotValue.{BallotValue}
use Rattle.lk_types.specs.Ballots.{is_below, IsBelow}
use Rattle.lk_types.specs.declared.member.Member.{Member}
use Rattle.lk_types.specs.declared.vote.Vote.{Vote}
use Rattle.lk_store_format.specs.Values.{HeaderValue}
use Rattle.lk_store_format.specs.VoteLists.{votes_with}
use Rattle.lk_messages.proofs.Spellings.{one_message}
use Rattle.lk_messages.specs.declared.message.Content.TheVariants as content
use Rattle.lk_messages.specs.declared.message.Message.{Message}
use Rattle.lk_messages.specs.declared.message.NodeMessage.{NodeMessage}
use Rattle.lk_messages.specs.declared.message.NodeMessage.TheVariants as kinds
use Rattle.lk_agreement_laws.proofs.Histories.{below_self, cons_cases, contains_more}
use Rattle.lk_members.specs.Effects.{Command}
use Rattle.lk_members.specs.Rosters.{is_member}
use Rattle.lk_state.specs.Meanings.{Meaning}
use Rattle.lk_acceptor.specs.AcceptorValue.{AcceptorValue}
use Rattle.lk_acceptor.specs.Replies.{RepliesToAccept}
use Rattle.lk_acceptor.specs.States.{with_state, with_vote as voted}
use Rattle.lk_leader.specs.Proposing.{AreMembersAt, LeaderProposes, promisers}
use Rattle.lk_leader.specs.Terms.{LeaderValue, ProposalValue, TermValue, is_term_below}
use Rattle.lk_leader.specs.Values.{is_changing_at}
use Rattle.lk_learner.specs.Learners.{IsNext, LearnerValue, Pair, alpha, executed}
use Rattle.lk_members.specs.Majorities.{IsMajority}
use Rattle.lk_node_interface.specs.Grants.{is_granted}
use Rattle.lk_node_interface.specs.Outboxes.{OutboxValue}
use Rattle.lk_node.specs.Leading.{ProposesAll, ProposesVote}
use Rattle.lk_node.specs.Nearness.{AreNear}
use Rattle.lk_node.specs.NodeValue.{NodeValue}
use Rattle.lk_node.specs.Responding.{Responds, replied, with_acceptor}
use Rattle.lk_node.specs.Steps.{Handles, HandlesBytes}
use Rattle.lk_node.specs.Yielding.{with_round, yielded}
use Rattle.lk_progress.specs.Deciding.{IsNearVote, NearNodeAccepts, vote_for_next}
use Rattle.lk_progress.specs.Hearing.{Hears}
use Rattle.lk_progress.specs.LeadingOn.{AreAll, KeepsMembers}
use Rattle.lk_progress.specs.Rejecting.{Accepts}
use Rattle.lk_leftovers.specs.Accepting.{AcceptsAndStays, IsVoterAt, IsVoterFrom, LeaderAccepts}
use Rattle.lk_leftovers.specs.Accepting.{VoterAccepts}
use Rattle.lk_leftovers.specs.Filling.{FillsUp, IsLeftover}

-- ---- the votes

-- a vote that is kept now was kept before, or is the new one
pub kept_or_new : (x : Vote) (vs : List Vote) (v : Vote) → Contains (votes_with x vs) v → (x ≡ v) ⊎ Contains vs v
kept_or_new x [] v c = elim (cons_cases x [] v c) [ inl is ↦ inl is | inr none ↦ absurd (omega (arith, none.1)) ]
kept_or_new x (w ∷ vs) v c =
    by_tests (kept_or_new x vs v) (nat_lt w.position x.position) (eqb w.position x.position)
    (is_below w.ballot x.ballot) c
  where
    later : (x ≡ v) ⊎ Contains vs v → (x ≡ v) ⊎ Contains (w ∷ vs) v
    later (inl is) = inl is
    later (inr there) = inr (contains_more w vs v there)

    first : (y : Vote) → (y ≡ x) ⊎ (y ≡ w) → (rest : List Vote)
        → (Contains rest v → (x ≡ v) ⊎ Contains (w ∷ vs) v) → Contains (y ∷ rest) v → (x ≡ v) ⊎ Contains (w ∷ vs) v
    first y which rest others d = elim (cons_cases y rest v d) [
      | inl is ↦ elim which [
        | inl new ↦ inl (sym new ∙ is)
        | inr old ↦ inr (0, omega arith, sym old ∙ is)
      ]
      | inr more ↦ others more
    ]

    by_tests : (Contains (votes_with x vs) v → (x ≡ v) ⊎ Contains vs v) → (a s b : Bool)
        → Contains (cond a (w ∷ votes_with x vs) (cond s (cond b x w ∷ vs) (x ∷ w ∷ vs))) v
        → (x ≡ v) ⊎ Contains (w ∷ vs) v
    by_tests rest true s b d = first w (inr refl) (votes_with x vs) (λ r. later (rest r)) d
    by_tests rest false true true d = first x (inl refl) vs (λ r. inr (contains_more w vs v r)) d
    by_tests rest false true false d = first w (inr refl) vs (λ r. inr (contains_more w vs v r)) d
    by_tests rest false false b d = first x (inl refl) (w ∷ vs) (λ r. inr r) d

-- ---- a voter

pub near_vote : (node : NodeValue) (x : Vote) → IsVoterAt node x.ballot x.position → IsNearVote node x
near_vote node x k = record {
  near = k.from.near;
  ballot = k.from.ballot;
  above = k.from.above;
  within = k.within;
  agrees = λ v c here same. absurd (below_self x.ballot
      (subst (λ (b : BallotValue). IsBelow b x.ballot) same (k.from.older v c (omega (arith, here)))));
}

pub voter_accepts : (m : Meaning) (IsText : List ℕ → Type 0) → NearNodeAccepts m IsText → VoterAccepts m IsText
voter_accepts m IsText law old new from x out k hears = record { accepts = accepts; stays = stays }
  where
    accepts : Accepts old from x new out
    accepts = law old new from x out (near_vote old x k) hears

    own : AcceptorValue
    own = with_state old.acceptor (voted old.acceptor.state x)

    near : AreNear (with_state old.acceptor (voted old.acceptor.state x)) old.learner
    near = record {
      alpha_is = k.from.near.alpha_is;
      snapshot = k.from.near.snapshot;
      votes = λ v c. elim (kept_or_new x old.acceptor.state.votes v c) [
        | inl is ↦ subst (λ (y : Vote). y.position ≤ executed old.learner + 2 * alpha old.learner) is k.within
        | inr before ↦ k.from.near.votes v before
      ];
    }

    stays : (j : ℕ) → x.position < j → IsVoterFrom new x.ballot j
    stays j later = record {
      near = subst (λ (l : LearnerValue). AreNear new.acceptor l) (sym accepts.learner)
          (subst (λ (a : AcceptorValue). AreNear a old.learner) (sym accepts.acceptor) near);
      ballot = inr (ap (λ (a : AcceptorValue). a.state.promised) accepts.acceptor);
      above = omega (arith, k.from.above, later, ap (λ (l : LearnerValue). executed l) accepts.learner);
      older = λ v c from_j. elim (kept_or_new x old.acceptor.state.votes v
          (subst (λ (a : AcceptorValue). Contains a.state.votes v) accepts.acceptor c)) [
            | inl is ↦ absurd (omega (arith, later, from_j, ap (λ (y : Vote). y.position) is))
            | inr before ↦ k.from.older v before (omega (arith, later, from_j))
          ];
    }

-- ---- the leader itself

-- a ballot is not below itself
not_below : (b : BallotValue) → is_below b b ≡ false
not_below b =
    let less : nat_lt b.round b.round ≡ false = grind (arith, nat_tests) in
    let lower : nat_lt b.node b.node ≡ false = grind (arith, nat_tests) in
    rw (less, lower) (by_test (eqb b.round b.round))
  where
    by_test : (t : Bool) → t && false ≡ false
    by_test true = refl
    by_test false = refl

-- a granted vote of the term's own ballot leaves the term
reply_keeps : (reply : NodeMessage) (node : NodeValue) (t : TermValue) → node.leader.term ≡ Some t
    → node.acceptor.state.promised ≡ t.ballot
    → ((replied reply node).leader ≡ node.leader) × ((replied reply node).learner ≡ node.learner)
    × ((replied reply node).header ≡ node.header)
reply_keeps reply node t current promised = by_test (is_granted reply)
  where
    kept : is_term_below node.acceptor.state.promised node.leader.term ≡ false
    kept = ap (λ (o : Option TermValue). is_term_below node.acceptor.state.promised o) current
        ∙ ap (λ (b : BallotValue). is_below t.ballot b) promised ∙ not_below t.ballot

    by_test : (g : Bool)
        → ((yielded node.acceptor.state.promised (cond g (record node { ticks = 0 }) node)).leader ≡ node.leader)
        × ((yielded node.acceptor.state.promised (cond g (record node { ticks = 0 }) node)).learner ≡ node.learner)
        × ((yielded node.acceptor.state.promised (cond g (record node { ticks = 0 }) node)).header ≡ node.header)
    by_test true = rw kept (refl, refl, refl)
    by_test false = rw kept (refl, refl, refl)

-- what depends on a node's leader, learner and header alone
fills_alike : (old new : NodeValue) (t : TermValue) (set : List Member) → new.leader ≡ old.leader
    → new.learner ≡ old.learner → new.header ≡ old.header → FillsUp old t set → FillsUp new t set
fills_alike old new t set leader learner header f = record {
  leads = record {
    leads = record {
      current = ap (λ (l : LeaderValue). l.term) leader ∙ f.leads.leads.current;
      members = on (λ (l : LearnerValue). AreMembersAt l.whole.roster (executed l + 1) set) f.leads.leads.members;
      promised = on (λ (l : LearnerValue). IsMajority (promisers set (executed l + 1) t.received) set)
          f.leads.leads.promised;
      room = on (λ (l : LearnerValue). executed l < 281474976710656) f.leads.leads.room;
    };
    fixed = on (λ (l : LearnerValue). AreAll l.whole.roster.sets set) f.leads.fixed;
    named = ap (λ (h : HeaderValue). is_member h.node set) header ∙ f.leads.named;
    keeps = on (λ (l : LearnerValue). (p : Pair) → Contains l.pairs p → KeepsMembers p.1) f.leads.keeps;
    known = on (λ (l : LearnerValue). (v : Command) → IsNext l v → ⊥) f.leads.known;
  };
  reports = f.reports;
  waiting = ap (λ (l : LeaderValue). l.waiting) leader ∙ f.waiting;
  unchanged = on (λ (l : LearnerValue). is_changing_at l.whole.roster (executed l + 1) ≡ false) f.unchanged;
  proposed = on (λ (l : LearnerValue). (p : ProposalValue) → Contains t.proposals p → executed l < p.position
      → IsLeftover t.received p) f.proposed;
  all = on (λ (l : LearnerValue). (i : ℕ) (v : Command) → LeaderProposes new.leader l.whole.roster i v → ⊥)
      (subst (λ (l : LeaderValue). (i : ℕ) (v : Command) → LeaderProposes l old.learner.whole.roster i v → ⊥)
      (sym leader) f.all);
}
  where
    on : (P : LearnerValue → Type 0) → P old.learner → P new.learner
    on P h = subst P (sym learner) h

module _ (m : Meaning) (IsText : List ℕ → Type 0) (law : NearNodeAccepts m IsText) (old new : NodeValue)
    (t : TermValue) (set : List Member) (v : Command) (out : OutboxValue) (f : FillsUp old t set)
    (voter : IsVoterAt old t.ballot (executed old.learner + 1))
    (h : Hears m IsText old old.header.node (kinds.Accept (vote_for_next old t v)) new out) where
  abbrev x : Vote
  x = vote_for_next old t v

  accepts : AcceptsAndStays old old.header.node (vote_for_next old t v) new out
  accepts = voter_accepts m IsText law old new old.header.node x out voter h

  message : Message
  message = record {
    cluster = old.header.cluster;
    content = content.Node old.header.node (kinds.Accept (vote_for_next old t v));
  }

  none_more : (mid : NodeValue) → mid.leader ≡ old.leader → mid.learner ≡ old.learner → (xs : List Vote)
      → (before : OutboxValue) → ProposesAll xs mid new before out → new ≡ mid
  none_more mid leader learner [] before all = all.1
  none_more mid leader learner (y ∷ ys) before all =
      let p : ProposesVote mid y = all.0 in
      let proposes : LeaderProposes mid.leader mid.learner.whole.roster y.position y.command =
      (p.term, p.current, p.proposes) in
      absurd (f.all y.position y.command
      (subst (λ (l : LeaderValue). LeaderProposes l old.learner.whole.roster y.position y.command) leader
      (subst (λ (l : LearnerValue). LeaderProposes mid.leader l.whole.roster y.position y.command) learner proposes)))

  by_reply : (mid : NodeValue) (before : OutboxValue)
      → Responds (with_round t.ballot old) old.header.node (RepliesToAccept old.acceptor (executed old.learner) x) mid
      before → (xs : List Vote) → ProposesAll xs mid new before out → FillsUp new t set
  by_reply mid before k xs all =
      fills_alike old new t set (ap (λ (n : NodeValue). n.leader) is ∙ kept.0)
      (ap (λ (n : NodeValue). n.learner) is ∙ kept.1) (ap (λ (n : NodeValue). n.header) is ∙ kept.2) f
    where
      acceptor_is : k.acceptor.state.promised ≡ t.ballot
      acceptor_is = elim k.given [
        | inl granted ↦ ap (λ (a : AcceptorValue). a.state.promised) granted.1.state
        | inr refused ↦ absurd (refused.0 (record {
          ballot = voter.from.ballot;
          above = omega (arith, voter.from.near.snapshot);
          near = omega (arith, voter.within, voter.from.near.alpha_is);
          agree = (near_vote old x voter).agrees;
        }))
      ]

      kept : (mid.leader ≡ old.leader) × (mid.learner ≡ old.learner) × (mid.header ≡ old.header)
      kept =
          let r = reply_keeps k.response.reply (with_acceptor (with_round t.ballot old) k.acceptor) t
          f.leads.leads.current acceptor_is in (
            ap (λ (n : NodeValue). n.leader) k.becomes ∙ r.0,
            ap (λ (n : NodeValue). n.learner) k.becomes ∙ r.1,
            ap (λ (n : NodeValue). n.header) k.becomes ∙ r.2,
          )

      is : new ≡ mid
      is = none_more mid kept.0 kept.1 xs before all

  fills : FillsUp new t set
  unfolding message
  fills = by_bytes h.step.handles
    where
      by_bytes : HandlesBytes m IsText old h.bytes h.step.mid h.step.first → FillsUp new t set
      by_bytes (inl known) = by_reply h.step.mid h.step.first
          (subst (λ (y : Message). Handles m IsText old y.content h.step.mid h.step.first)
          (one_message known.0 message h.bytes known.1 h.spells) known.3) h.step.proposes.0 h.step.proposes.1
      by_bytes (inr foreign) = absurd (foreign.0 message h.spells refl)

pub leader_accepts : (m : Meaning) (IsText : List ℕ → Type 0) → NearNodeAccepts m IsText → LeaderAccepts m IsText
leader_accepts m IsText law old new t set v out f voter h = record {
  accepts = accepts m IsText law old new t set v out f voter h;
  fills = fills m IsText law old new t set v out f voter h;
}
