-- The world of a new cluster is quiet.
use Rattle.std.proofs.Common.{ℕ, List, Contains, sym, subst}
use Rattle.lk_state.specs.Meanings.{Meaning}
use Rattle.lk_learner.specs.Learners.{executed}
use Rattle.lk_node.specs.Beginning.{next_ballot}
use Rattle.lk_node.specs.NodeValue.{NodeValue}
use Rattle.lk_progress.specs.Beginnings.{NewClustersAreQuiet, StartsQuietly, new_node}
use Rattle.lk_progress.specs.Exchanges.{IsQuietCandidate, IsQuietVoter}
use Rattle.lk_replica.specs.ReplicaValue.{ReplicaValue}
use Rattle.lk_sim.specs.WorldStates.{WorldState}
use Rattle.lk_world_progress.proofs.Starting.{none_executed}
use Rattle.lk_world_progress.specs.Beginning.{IsNewWorld, NewWorldsAreQuiet}
use Rattle.lk_world_progress.specs.Exchanging.{IsQuietWorld, IsVoterIn, number_of}

module _ (m : Meaning) (IsText : List ℕ → Type 0) (w : WorldState ReplicaValue) (candidate : ReplicaValue)
    (index ticks : ℕ) (others : List ℕ) (new : IsNewWorld m IsText w candidate index ticks others)
    (quiet : StartsQuietly m w.genesis (number_of candidate) ticks) where
  abbrev first : NodeValue
  first = new_node m w.genesis (number_of candidate) ticks

  voter : (n : ℕ) → Contains others n → IsVoterIn w candidate.node n
  voter n c =
      let v = new.voters n c in
      let is_quiet : IsQuietVoter (new_node m w.genesis n v.1) (next_ballot first) (executed first.learner) =
      subst (λ (e : ℕ). IsQuietVoter (new_node m w.genesis n v.1) (next_ballot first) e)
      (sym (none_executed m w.genesis)) (quiet.others n v.1) in
      let to_it : IsQuietVoter v.0.node (next_ballot first) (executed first.learner) =
      subst (λ (x : NodeValue). IsQuietVoter x (next_ballot first) (executed first.learner)) (sym v.2.1) is_quiet in (
        v.0,
        v.2.0,
        subst (λ (x : NodeValue). IsQuietVoter v.0.node (next_ballot x) (executed x.learner)) (sym new.new.1) to_it,
      )

  is_quiet_world : IsQuietWorld m IsText w candidate w.genesis.members others
  is_quiet_world = record {
    holds = new.holds;
    up = new.new.0;
    quiet = subst (λ (x : NodeValue). IsQuietCandidate x w.genesis.members) (sym new.new.1) quiet.candidate;
    voters = voter;
    distinct = new.distinct;
    majority = new.majority;
  }

pub new_worlds_quiet : (m : Meaning) (IsText : List ℕ → Type 0) → NewClustersAreQuiet → NewWorldsAreQuiet m IsText
new_worlds_quiet m IsText law w candidate index ticks others new =
    is_quiet_world m IsText w candidate index ticks others new
    (law m w.genesis (number_of candidate) index ticks new.due)
