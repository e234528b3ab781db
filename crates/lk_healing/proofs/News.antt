-- A new cluster is quiet for a request.
use Rattle.std.proofs.Common.{◌≡◌, ◌∙◌, ℕ, ◌==◌, List, ◌∷◌, Contains}
use Rattle.std.proofs.Common.{refl, ap, sym, subst, arith}
use Rattle.std.proofs.lemmas.List.Quantifiers.{position-Some}
use Rattle.lk_types.specs.BallotValue.{BallotValue}
use Rattle.lk_types.specs.Ballots.{IsBelow}
use Rattle.lk_types.specs.declared.command.Request.{Request as RequestValue}
use Rattle.lk_types.specs.declared.member.Member.{Member}
use Rattle.lk_agreement_laws.proofs.Histories.{at_most_below, below_self}
use Rattle.lk_members.proofs.Memberships.{majority_lies_within}
use Rattle.lk_state.specs.Meanings.{Meaning}
use Rattle.lk_node.specs.Beginning.{next_ballot}
use Rattle.lk_node.specs.NodeValue.{NodeValue}
use Rattle.lk_progress.proofs.Proposing.{next_set}
use Rattle.lk_progress.specs.Beginnings.{NewClustersAreQuiet, StartsQuietly, new_node}
use Rattle.lk_progress.specs.Exchanges.{IsQuietVoter}
use Rattle.lk_progress.specs.Ticking.{MayBegin}
use Rattle.lk_replica.specs.ReplicaValue.{ReplicaValue}
use Rattle.lk_sim.specs.WorldStates.{WorldState}
use Rattle.lk_world_progress.proofs.Stepping.{one_replica}
use Rattle.lk_world_progress.specs.Beginning.{IsNewWorld}
use Rattle.lk_world_progress.specs.Exchanging.{number_of}
use Rattle.lk_world_progress.specs.Stepping.{IsUpAs}
use Rattle.lk_world_leftovers.specs.Fixed.{IsFresh, NobodyChanges}
use Rattle.lk_world_leftovers.specs.Persisting.{Contends, NewWorldsContend}
use Rattle.lk_healing.proofs.Places.{place_in}
use Rattle.lk_healing.specs.Answers.{IsQuietFor, NewWorldsAreQuietFor}

module _ (m : Meaning) (IsText : List ℕ → Type 0) (clusters : NewClustersAreQuiet)
    (contend : NewWorldsContend m IsText) (w : WorldState ReplicaValue) (c : ReplicaValue) (index ticks : ℕ)
    (others : List ℕ) (r : RequestValue) (new : IsNewWorld m IsText w c index ticks others)
    (changes : NobodyChanges w) (fresh : IsFresh w r) where
  abbrev x : ℕ
  x = number_of c

  abbrev own : NodeValue
  own = new_node m w.genesis (number_of c) ticks

  quiet : StartsQuietly m w.genesis x ticks
  quiet = clusters m w.genesis x index ticks new.due

  contends : Contends m IsText w x 0 0 others 0
  contends = contend w c index ticks others new

  same : contends.candidate ≡ c
  same = one_replica m IsText w new.holds x contends.candidate c contends.up new.new.0

  -- what holds of the new node holds of the candidate
  on : (P : NodeValue → Type 0) → P own → P contends.candidate.node
  on P p = subst (λ (q : ReplicaValue). P q.node) (sym same) (subst P (sym new.new.1) p)

  own_may : MayBegin own index
  own_may = record {
    member = place_in own.learner.whole.roster.sets w.genesis.members x
        (next_set own.learner.whole.roster w.genesis.members quiet.candidate.members) ∙ new.due.place;
    few = (
        let below = position-Some (λ (y : Member). y.node == x) w.genesis.members index
        (record { node = 0; port = 0 }) new.due.place in
        let most = new.due.valid.2.1 in
        omega (arith, below.0, most)
        );
    round = omega arith;
  }

  voter : (n : ℕ) (d : Contains others n) → (q : ReplicaValue) × IsQuietVoter q.node (next_ballot own) 0
  voter n d =
      let v = new.voters n d in
      (v.0, subst (λ (y : NodeValue). IsQuietVoter y (next_ballot own) 0) (sym v.2.1) (quiet.others n v.1))

  voter_is : (n : ℕ) (d : Contains others n) (q : ReplicaValue) → IsUpAs w n q
      → IsQuietVoter q.node (next_ballot own) 0
  unfolding voter
  voter_is n d q up = subst (λ (y : ReplicaValue). IsQuietVoter y.node (next_ballot own) 0)
      (one_replica m IsText w new.holds n (voter n d).0 q (new.voters n d).2.0 up) (voter n d).1

  is_quiet_for : IsQuietFor m IsText w x (x ∷ others) r
  is_quiet_for = record {
    others = others;
    are = refl;
    e = 0;
    contends = contends;
    index = index;
    may = on (λ node. MayBegin node index) own_may;
    reach = λ n d q up.
        let v = voter_is n d q up in
        omega (arith, v.within, contends.reach);
    no_rival = λ n d k up rival.
        let v = voter_is n d rival.replica rival.up in
        let b : next_ballot k.node ≡ next_ballot own = ap (λ (q : ReplicaValue). next_ballot q.node)
        (one_replica m IsText w new.holds x k c up new.new.0) ∙ ap next_ballot new.new.1 in
        below_self rival.replica.node.acceptor.state.promised
        (at_most_below rival.replica.node.acceptor.state.promised (next_ballot own)
        rival.replica.node.acceptor.state.promised v.ballot
        (subst (λ (y : BallotValue). IsBelow y rival.replica.node.acceptor.state.promised) b rival.above));
    fixed = record {
      changes = changes;
      named = majority_lies_within w.genesis.members (x ∷ others) x new.majority (0, omega arith, refl);
      majority = new.majority;
    };
    fresh = fresh;
    room = omega arith;
  }

pub new_worlds_quiet_for : (m : Meaning) (IsText : List ℕ → Type 0) → NewClustersAreQuiet → NewWorldsContend m IsText
    → NewWorldsAreQuietFor m IsText
new_worlds_quiet_for m IsText clusters contend w c index ticks others r new changes fresh =
    is_quiet_for m IsText clusters contend w c index ticks others r new changes fresh
