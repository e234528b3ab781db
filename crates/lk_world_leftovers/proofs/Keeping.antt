-- What a rebase leaves of a leader that fills up, and of a voter.
use Rattle.std.proofs.Common.{inl, inr, ℕ, ◌<◌, List, Contains, nat_lt, subst, arith}
use Rattle.std.proofs.lemmas.Bool.{cases_lt}
use Rattle.lk_types.specs.BallotValue.{BallotValue}
use Rattle.lk_types.specs.declared.member.Member.{Member}
use Rattle.lk_types.specs.declared.vote.Vote.{Vote}
use Rattle.lk_agreement_laws.proofs.Histories.{filter_from}
use Rattle.lk_acceptor.specs.VoteLists.{votes_above}
use Rattle.lk_leader.specs.Terms.{TermValue}
use Rattle.lk_learner.specs.Learners.{executed}
use Rattle.lk_node.specs.NewBases.{with_snapshot}
use Rattle.lk_node.specs.NodeValue.{NodeValue}
use Rattle.lk_rebases.proofs.Rebases.{still_has}
use Rattle.lk_rebases.specs.Pasts.{Fits, Past, with_past}
use Rattle.lk_leftovers.specs.Accepting.{IsVoterAt, IsVoterFrom}
use Rattle.lk_leftovers.specs.Filling.{FillsUp}
use Rattle.lk_world_progress.proofs.Shadowing.{Shadows}

-- ---- a snapshot

-- a leader that fills up with another past does so with its own
fills_past : (p : Past) (node : NodeValue) (t : TermValue) (set : List Member) → FillsUp (with_past p node) t set
    → FillsUp node t set
fills_past p node t set f = record {
  leads = record {
    leads = record {
      current = f.leads.leads.current;
      members = f.leads.leads.members;
      promised = f.leads.leads.promised;
      room = f.leads.leads.room;
    };
    fixed = f.leads.fixed;
    named = f.leads.named;
    keeps = f.leads.keeps;
    known = f.leads.known;
  };
  reports = f.reports;
  waiting = f.waiting;
  unchanged = f.unchanged;
  proposed = f.proposed;
  all = f.all;
}

pub fills_snapshot : (node : NodeValue) (t : TermValue) (set : List Member) → FillsUp node t set
    → FillsUp (with_snapshot node) t set
fills_snapshot node t set f = record {
  leads = record {
    leads = record {
      current = f.leads.leads.current;
      members = f.leads.leads.members;
      promised = f.leads.leads.promised;
      room = f.leads.leads.room;
    };
    fixed = f.leads.fixed;
    named = f.leads.named;
    keeps = f.leads.keeps;
    known = f.leads.known;
  };
  reports = f.reports;
  waiting = f.waiting;
  unchanged = f.unchanged;
  proposed = f.proposed;
  all = f.all;
}

pub from_snapshot : (node : NodeValue) (b : BallotValue) (i : ℕ) → IsVoterFrom node b i
    → IsVoterFrom (with_snapshot node) b i
from_snapshot node b i k = record {
  near = record {
    alpha_is = k.near.alpha_is;
    snapshot = omega arith;
    votes = λ v c. k.near.votes v (kept v c);
  };
  ballot = k.ballot;
  above = k.above;
  older = λ v c. k.older v (kept v c);
}
  where
    kept : (v : Vote) → Contains (votes_above (executed node.learner) node.acceptor.state.votes) v
        → Contains node.acceptor.state.votes v
    kept v c = filter_from (λ (x : Vote). nat_lt (executed node.learner) x.position) node.acceptor.state.votes v c

pub voter_snapshot : (node : NodeValue) (b : BallotValue) (i : ℕ) → IsVoterAt node b i
    → IsVoterAt (with_snapshot node) b i
voter_snapshot node b i k = record { from = from_snapshot node b i k.from; within = k.within }

-- ---- another past

voter_past : (p : Past) (node : NodeValue) (b : BallotValue) (i : ℕ) → Fits p node
    → IsVoterAt (with_past p node) b i → IsVoterAt node b i
voter_past p node b i f k = record {
  from = record {
    near = record {
      alpha_is = k.from.near.alpha_is;
      snapshot = f.own;
      votes = λ v c. elim (cases_lt (executed node.learner) v.position) [
        | inl late ↦ k.from.near.votes v (there v late c)
        | inr early ↦ omega (arith, early)
      ];
    };
    ballot = k.from.ballot;
    above = k.from.above;
    older = λ v c above. k.from.older v (there v (omega (arith, k.from.above, above)) c) above;
  };
  within = k.within;
}
  where
    there : (v : Vote) → executed node.learner < v.position → Contains node.acceptor.state.votes v
        → Contains p.votes v
    there v late c = still_has (executed node.learner) p.votes node.acceptor.state.votes f.votes v late c

-- ---- shadows

pub fills_itself : (shadow node : NodeValue) (t : TermValue) (set : List Member) → Shadows shadow node
    → FillsUp shadow t set → FillsUp node t set
fills_itself shadow node t set s f =
    fills_past s.past node t set (subst (λ (n : NodeValue). FillsUp n t set) s.is f)

pub votes_itself : (shadow node : NodeValue) (b : BallotValue) (i : ℕ) → Shadows shadow node
    → IsVoterAt shadow b i → IsVoterAt node b i
votes_itself shadow node b i s k =
    voter_past s.past node b i s.fits (subst (λ (n : NodeValue). IsVoterAt n b i) s.is k)
