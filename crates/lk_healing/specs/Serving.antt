-- A leader of a world that is ready for a request.
use Rattle.std.specs.Prelude.{◌≡◌, ℕ, ◌+◌, true, List, ◌∷◌}
use Rattle.lk_types.specs.declared.command.Request.{Request as RequestValue}
use Rattle.lk_types.specs.declared.member.Member.{Member}
use Rattle.lk_messages.specs.declared.message.Content.TheVariants as content
use Rattle.lk_state.specs.Meanings.{Meaning}
use Rattle.lk_state.specs.Sessions.{session_of, is_new}
use Rattle.lk_leader.specs.Terms.{TermValue}
use Rattle.lk_learner.specs.Learners.{executed}
use Rattle.lk_replica.specs.ReplicaValue.{ReplicaValue}
use Rattle.lk_sim.specs.WorldStates.{WorldState}
use Rattle.lk_sim.specs.declared.event.Event.TheVariants as event
use Rattle.lk_world_progress.specs.Delivering.{Hears}
use Rattle.lk_world_progress.specs.Stepping.{GoesWell}
use Rattle.lk_world_leftovers.specs.Answering.{IsReadyIn}
use Rattle.lk_healing.specs.declared.asking.Asking.{Asking}

-- The first of these nodes is up and ready, and the others are voters at its next position. The request is fresh there.
-- Its ballot and its next position are those that it has asked for.
pub record IsReadyFor (m : Meaning) (IsText : List ℕ → Type 0) (w : WorldState ReplicaValue) (x : ℕ) (nodes : List ℕ)
    (asking : Asking) (r : RequestValue) : Type 0 where
  pub others : List ℕ
  pub are : nodes ≡ x ∷ others
  pub replica : ReplicaValue
  pub term : TermValue
  pub set : List Member
  pub ready : IsReadyIn m IsText w x replica term set others
  pub cluster : asking.cluster ≡ w.genesis.cluster
  pub ballot : asking.ballot ≡ term.ballot
  pub first : asking.first ≡ executed replica.node.learner + 1
  pub fresh : is_new (session_of r.client replica.node.learner.whole.sessions) r.number ≡ true

-- A client asks the node, which takes the request.
pub record TakesRequest (m : Meaning) (IsText : List ℕ → Type 0) (x : ℕ) (r : RequestValue)
    (old new : WorldState ReplicaValue) : Type 0 where
  pub asked : WorldState ReplicaValue
  pub asks : GoesWell m IsText old (event.Client x r) asked
  pub takes : Hears m IsText x (content.Request r) asked new
