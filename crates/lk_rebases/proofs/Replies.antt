-- With another past a node replies the same to a Prepare and to an Accept.
use Rattle.std.proofs.Common.{◌≡◌, ◌∙◌, inl, inr, ℕ, ◌+◌, ◌*◌, ◌<◌, ◌≤◌}
use Rattle.std.proofs.Common.{nat_lt, Bool, true, false, cond}
use Rattle.std.proofs.Common.{List, Contains, refl, ap, sym, subst, arith}
use Rattle.std.proofs.lemmas.Bool.{cases_lt}
use Rattle.lk_types.specs.BallotValue.{BallotValue}
use Rattle.lk_types.specs.declared.entry.Entry.TheVariants as entry
use Rattle.lk_types.specs.declared.vote.Vote.{Vote}
use Rattle.lk_store_format.specs.VoteLists.{votes_with}
use Rattle.lk_messages.specs.declared.message.NodeMessage.{NodeMessage}
use Rattle.lk_messages.specs.declared.message.NodeMessage.TheVariants as kinds
use Rattle.lk_agreement_laws.specs.Changes.{with_promise}
use Rattle.lk_acceptor.specs.AcceptorValue.{AcceptorValue}
use Rattle.lk_acceptor.specs.Replies.{GrantsAccept, GrantsPrepare, RepliesToAccept, RepliesToPrepare}
use Rattle.lk_acceptor.specs.States.{with_state, with_vote as voted}
use Rattle.lk_acceptor.specs.VoteLists.{votes_above}
use Rattle.lk_leader.specs.Terms.{is_term_below}
use Rattle.lk_learner.specs.Learners.{LearnerValue, alpha, executed}
use Rattle.lk_node_interface.specs.Grants.{is_granted}
use Rattle.lk_node_interface.specs.Outboxes.{OutboxValue}
use Rattle.lk_node.specs.NewBases.{with_snapshot}
use Rattle.lk_node.specs.NodeValue.{NodeValue}
use Rattle.lk_node.specs.Responding.{Responds, replied, with_acceptor}
use Rattle.lk_node.specs.Yielding.{with_round, without_term, yielded}
use Rattle.lk_rebases.specs.Pasts.{Fits, Past, past_of, with_past}
use Rattle.lk_rebases.proofs.Votes.{same_from, same_voted, still_has, strict_filter}

-- ---- another past fits as well

pub fits_same : (p : Past) (old new : NodeValue) → new ≡ old → Fits p old → Fits p new
fits_same p old new e f = subst (Fits p) (sym e) f

-- a node with the same acceptor and learner
pub fits_alike : (p : Past) (old new : NodeValue) → new.acceptor ≡ old.acceptor → new.learner ≡ old.learner → Fits p old
    → Fits p new
fits_alike p old new acceptor learner f = record {
  some = subst (λ (l : LearnerValue). 1 ≤ alpha l) (sym learner) f.some;
  below = subst (λ (l : LearnerValue). p.below ≤ executed l) (sym learner) f.below;
  own = subst (λ (a : AcceptorValue). a.state.snapshot_position ≤ executed new.learner) (sym acceptor)
      (subst (λ (l : LearnerValue). old.acceptor.state.snapshot_position ≤ executed l) (sym learner) f.own);
  votes = subst (λ (a : AcceptorValue). votes_above (executed new.learner) p.votes
      ≡ votes_above (executed new.learner) a.state.votes) (sym acceptor)
      (subst (λ (l : LearnerValue). votes_above (executed l) p.votes
      ≡ votes_above (executed l) old.acceptor.state.votes) (sym learner) f.votes);
}

pub fits_itself : (node : NodeValue) → 1 ≤ alpha node.learner
    → node.acceptor.state.snapshot_position ≤ executed node.learner → Fits (past_of node) node
fits_itself node some own = record { some = some; below = own; own = own; votes = refl }

pub fits_snapshot : (p : Past) (node : NodeValue) → Fits p node → Fits p (with_snapshot node)
fits_snapshot p node f = record {
  some = f.some;
  below = f.below;
  own = omega arith;
  votes = f.votes
      ∙ sym (strict_filter (λ (v : Vote). nat_lt (executed node.learner) v.position)
      (λ (v : Vote). nat_lt (executed node.learner) v.position) (λ v t. t) node.acceptor.state.votes);
}

-- ---- what a reply leaves

past_yielded : (p : Past) (b : BallotValue) (node : NodeValue)
    → with_past p (yielded b node) ≡ yielded b (with_past p node)
past_yielded p b node = by_test (is_term_below b node.leader.term)
  where
    by_test : (t : Bool) → with_past p (cond t (without_term node) node)
        ≡ cond t (without_term (with_past p node)) (with_past p node)
    by_test true = refl
    by_test false = refl

past_replied : (p : Past) (reply : NodeMessage) (node : NodeValue)
    → with_past p (replied reply node) ≡ replied reply (with_past p node)
past_replied p reply node = by_test (is_granted reply)
  where
    by_test : (t : Bool)
        → with_past p (yielded node.acceptor.state.promised (cond t (record node { ticks = 0 }) node))
        ≡ yielded node.acceptor.state.promised (cond t (record (with_past p node) { ticks = 0 }) (with_past p node))
    by_test true = past_yielded p node.acceptor.state.promised (record node { ticks = 0 })
    by_test false = past_yielded p node.acceptor.state.promised node

pub kept_by_reply : (reply : NodeMessage) (node : NodeValue)
    → ((replied reply node).acceptor ≡ node.acceptor) × ((replied reply node).learner ≡ node.learner)
kept_by_reply reply node = by_test (is_granted reply)
  where
    by_term : (b : BallotValue) (n : NodeValue) (t : Bool)
        → ((cond t (without_term n) n).acceptor ≡ n.acceptor) × ((cond t (without_term n) n).learner ≡ n.learner)
    by_term b n true = (refl, refl)
    by_term b n false = (refl, refl)

    by_test : (t : Bool)
        → ((yielded node.acceptor.state.promised (cond t (record node { ticks = 0 }) node)).acceptor ≡ node.acceptor)
        × ((yielded node.acceptor.state.promised (cond t (record node { ticks = 0 }) node)).learner ≡ node.learner)
    by_test true = by_term node.acceptor.state.promised (record node { ticks = 0 })
        (is_term_below node.acceptor.state.promised node.leader.term)
    by_test false = by_term node.acceptor.state.promised node
        (is_term_below node.acceptor.state.promised node.leader.term)

-- ---- what a node does, with another past

-- with another past that fits it, the node comes to the same, with a past that fits
pub record Mirrors (Does : NodeValue → Type 0) (new : NodeValue) : Type 0 where
  pub past : Past
  pub fits : Fits past new
  pub does : Does (with_past past new)

module _ (p : Past) (old : NodeValue) (f : Fits p old) where
  abbrev other : NodeValue
  other = with_past p old

  abbrev e : ℕ
  e = executed old.learner

  -- ---- replies

  low : (old' new' : List Vote) (k : ℕ) → votes_above e old' ≡ votes_above e new' → e < k
      → ((v : Vote) → Contains old' v → v.position < k) → (v : Vote) → Contains new' v → v.position < k
  low old' new' k same lt each v c = elim (cases_lt e v.position) [
    | inl late ↦ each v (still_has e old' new' same v late c)
    | inr early ↦ omega (arith, lt, early)
  ]

  module _ (b : BallotValue) (first : ℕ) (lt : e < first) where
    abbrev most : ℕ
    most = first + 2 * old.acceptor.alpha

    grants_other : GrantsPrepare old.acceptor b first → GrantsPrepare other.acceptor b first
    grants_other g = record {
      ballot = g.ballot;
      above = omega (arith, f.below, lt);
      near = low old.acceptor.state.votes p.votes most (sym f.votes) (omega (arith, lt)) g.near;
    }

    grants_own : GrantsPrepare other.acceptor b first → GrantsPrepare old.acceptor b first
    grants_own g = record {
      ballot = g.ballot;
      above = omega (arith, f.own, lt);
      near = low p.votes old.acceptor.state.votes most f.votes (omega (arith, lt)) g.near;
    }

    pub prepared : (from : ℕ) (new : NodeValue) (out : OutboxValue)
        → Responds old from (RepliesToPrepare old.acceptor e b first) new out
        → Mirrors (λ node. Responds other from (RepliesToPrepare other.acceptor e b first) node out) new
    prepared from new out k = by_given k.given
      where
        by_given : RepliesToPrepare old.acceptor e b first k.response k.acceptor
            → Mirrors (λ node. Responds other from (RepliesToPrepare other.acceptor e b first) node out) new
        by_given (inl granted) =
            let promised = with_state old.acceptor (with_promise old.acceptor.state b) in
            let becomes : new ≡ replied k.response.reply (with_acceptor old promised) =
            subst (λ (a : AcceptorValue). new ≡ replied k.response.reply (with_acceptor old a)) granted.1.state
            k.becomes in
            let kept = kept_by_reply k.response.reply (with_acceptor old promised) in
            record {
              past = p;
              fits = subst (Fits p) (sym becomes)
                  (fits_alike p (with_acceptor old promised) _ kept.0 kept.1
                  (record { some = f.some; below = f.below; own = f.own; votes = f.votes }));
              does = record {
                response = k.response;
                acceptor = with_state other.acceptor (with_promise other.acceptor.state b);
                given = inl (
                  grants_other granted.0,
                  record {
                    reply = granted.1.reply
                        ∙ ap (λ (votes : List Vote). kinds.Promise
                        (record { ballot = b; first = first; votes = votes }))
                        (sym (same_from e p.votes old.acceptor.state.votes f.votes first lt));
                    entry = granted.1.entry;
                    state = refl;
                  },
                );
                becomes = ap (with_past p) becomes
                    ∙ past_replied p k.response.reply (with_acceptor old promised);
                fits = k.fits;
                comes_to = k.comes_to;
              };
            }
        by_given (inr refused) =
            let becomes : new ≡ replied k.response.reply old =
            subst (λ (a : AcceptorValue). new ≡ replied k.response.reply (with_acceptor old a)) refused.1.state
            k.becomes in
            let kept = kept_by_reply k.response.reply old in
            record {
              past = p;
              fits = subst (Fits p) (sym becomes) (fits_alike p old _ kept.0 kept.1 f);
              does = record {
                response = k.response;
                acceptor = other.acceptor;
                given = inr (
                  λ g. refused.0 (grants_own g),
                  record { reply = refused.1.reply; entry = refused.1.entry; state = refl },
                );
                becomes = ap (with_past p) becomes ∙ past_replied p k.response.reply old;
                fits = k.fits;
                comes_to = k.comes_to;
              };
            }

  module _ (x : Vote) (lt : e < x.position) where
    abbrev seen_by : NodeValue
    seen_by = with_round x.ballot old

    abbrev other_by : NodeValue
    other_by = with_round x.ballot other

    accepts_other : GrantsAccept old.acceptor e x → GrantsAccept other.acceptor e x
    accepts_other g = record {
      ballot = g.ballot;
      above = omega (arith, f.below, lt);
      near = g.near;
      agree = λ v c here. g.agree v
          (still_has e old.acceptor.state.votes p.votes (sym f.votes) v (omega (arith, lt, here)) c) here;
    }

    accepts_own : GrantsAccept other.acceptor e x → GrantsAccept old.acceptor e x
    accepts_own g = record {
      ballot = g.ballot;
      above = omega (arith, f.own, lt);
      near = g.near;
      agree = λ v c here. g.agree v
          (still_has e p.votes old.acceptor.state.votes f.votes v (omega (arith, lt, here)) c) here;
    }

    pub accepted : (from : ℕ) (new : NodeValue) (out : OutboxValue)
        → Responds seen_by from (RepliesToAccept old.acceptor e x) new out
        → Mirrors (λ node. Responds other_by from (RepliesToAccept other.acceptor e x) node out) new
    accepted from new out k = by_given k.given
      where
        by_given : RepliesToAccept old.acceptor e x k.response k.acceptor
            → Mirrors (λ node. Responds other_by from (RepliesToAccept other.acceptor e x) node out) new
        by_given (inl granted) =
            let own = with_state old.acceptor (voted old.acceptor.state x) in
            let later : Past = record p { votes = votes_with x p.votes } in
            let becomes : new ≡ replied k.response.reply (with_acceptor seen_by own) =
            subst (λ (a : AcceptorValue). new ≡ replied k.response.reply (with_acceptor seen_by a)) granted.1.state
            k.becomes in
            let kept = kept_by_reply k.response.reply (with_acceptor seen_by own) in
            record {
              past = later;
              fits = subst (Fits later) (sym becomes)
                  (fits_alike later (with_acceptor seen_by own) _ kept.0 kept.1 (record {
                    some = f.some;
                    below = f.below;
                    own = f.own;
                    votes = same_voted e x p.votes old.acceptor.state.votes lt f.votes;
                  }));
              does = record {
                response = k.response;
                acceptor = with_state other.acceptor (voted other.acceptor.state x);
                given = inl (
                  accepts_other granted.0,
                  record {
                    reply = granted.1.reply;
                    entry = elim granted.1.entry [
                      | inl there ↦ inl (
                        still_has e p.votes old.acceptor.state.votes f.votes x lt there.0,
                        there.1,
                      )
                      | inr new' ↦ inr (
                        λ c. new'.0 (still_has e old.acceptor.state.votes p.votes (sym f.votes) x lt c),
                        new'.1,
                      )
                    ];
                    state = refl;
                  },
                );
                becomes = ap (with_past later) becomes
                    ∙ past_replied later k.response.reply (with_acceptor seen_by own);
                fits = k.fits;
                comes_to = k.comes_to;
              };
            }
        by_given (inr refused) =
            let becomes : new ≡ replied k.response.reply seen_by =
            subst (λ (a : AcceptorValue). new ≡ replied k.response.reply (with_acceptor seen_by a)) refused.1.state
            k.becomes in
            let kept = kept_by_reply k.response.reply seen_by in
            record {
              past = p;
              fits = subst (Fits p) (sym becomes) (fits_alike p seen_by _ kept.0 kept.1
                  (record { some = f.some; below = f.below; own = f.own; votes = f.votes }));
              does = record {
                response = k.response;
                acceptor = other.acceptor;
                given = inr (
                  λ g. refused.0 (accepts_own g),
                  record { reply = refused.1.reply; entry = refused.1.entry; state = refl },
                );
                becomes = ap (with_past p) becomes ∙ past_replied p k.response.reply seen_by;
                fits = k.fits;
                comes_to = k.comes_to;
              };
            }
