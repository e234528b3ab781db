-- A leader of a world that is ready answers a fresh request within four deliveries: the request, the Accept, the
-- Accepted and the answer.
use Rattle.std.specs.Prelude.{◌≡◌, ℕ, ◌+◌, true, List, ◌∷◌, Contains}
use Rattle.lk_types.specs.declared.command.Request.{Request as RequestValue}
use Rattle.lk_types.specs.declared.member.Member.{Member}
use Rattle.lk_types.specs.declared.vote.Vote.{Vote}
use Rattle.lk_messages.specs.declared.message.Content.TheVariants as content
use Rattle.lk_messages.specs.declared.message.NodeMessage.TheVariants as kinds
use Rattle.lk_members.specs.Effects.{Request}
use Rattle.lk_members.specs.Majorities.{IsMajority}
use Rattle.lk_members.specs.Nodes.{nodes_of}
use Rattle.lk_state.specs.Meanings.{Meaning}
use Rattle.lk_state.specs.Sessions.{session_of, is_new}
use Rattle.lk_leader.specs.Terms.{TermValue}
use Rattle.lk_learner.specs.Learners.{executed}
use Rattle.lk_progress.specs.Deciding.{IsReady, acceptances, vote_for_next}
use Rattle.lk_leftovers.specs.Accepting.{IsVoterAt}
use Rattle.lk_replica.specs.ReplicaValue.{ReplicaValue}
use Rattle.lk_sim.specs.WorldStates.{WorldState}
use Rattle.lk_sim.specs.declared.event.Event.TheVariants as event
use Rattle.lk_world_progress.specs.Balloting.{HasSentTo}
use Rattle.lk_world_progress.specs.Delivering.{AreDistinct, Hears, HearsEach, HearsInTurn}
use Rattle.lk_world_progress.specs.Exchanging.{HasAnswered, HasNoted}
use Rattle.lk_world_progress.specs.Stepping.{GoesWell, Holds, IsUpAs}

-- the leader is up and ready in this term, and these others, which with it are a majority of the set, are up, and they
-- all are voters at its next position
pub record IsReadyIn (m : Meaning) (IsText : List ℕ → Type 0) (w : WorldState ReplicaValue) (x : ℕ)
    (leader : ReplicaValue) (t : TermValue) (set : List Member) (others : List ℕ) : Type 0 where
  pub holds : Holds m IsText w
  pub up : IsUpAs w x leader
  pub ready : IsReady leader.node t set
  pub own : IsVoterAt leader.node t.ballot (executed leader.node.learner + 1)
  pub voters : (n : ℕ) → Contains others n → (r : ReplicaValue) × IsUpAs w n r
      × IsVoterAt r.node t.ballot (executed leader.node.learner + 1)
  pub distinct : AreDistinct (x ∷ others)
  pub majority : IsMajority (x ∷ others) set

-- the vote for the request at the leader's next position
abbrev pub vote_in : ReplicaValue → TermValue → RequestValue → Vote
vote_in leader t r = vote_for_next leader.node t (Request r)

-- A client sends a request, and the leader takes it. Each node takes the leader's Accept, and the leader takes their
-- replies. Nothing else happens meanwhile, but any of these nodes may have a rebase due.
pub record Serves (m : Meaning) (IsText : List ℕ → Type 0) (x : ℕ) (leader : ReplicaValue) (t : TermValue)
    (r : RequestValue) (others : List ℕ) (first last : WorldState ReplicaValue) : Type 0 where
  pub requested : WorldState ReplicaValue
  pub requests : GoesWell m IsText first (event.Client x r) requested
  pub proposed : WorldState ReplicaValue
  pub proposes : Hears m IsText x (content.Request r) requested proposed
  pub accepted : WorldState ReplicaValue
  pub accepts : HearsEach m IsText (content.Node x (kinds.Accept (vote_in leader t r)))
      (x ∷ others) proposed accepted
  pub replies : HearsInTurn m IsText x
      (acceptances (x ∷ others) (vote_in leader t r)) accepted last

-- The Accept was sent to each member, and each reply to the leader, before they are delivered, and in the end the
-- request is answered, and that is noted.
pub record IsServed (m : Meaning) (IsText : List ℕ → Type 0) (x : ℕ) (leader : ReplicaValue) (t : TermValue)
    (set : List Member) (r : RequestValue) (others : List ℕ) (first last : WorldState ReplicaValue)
    (k : Serves m IsText x leader t r others first last) : Type 0 where
  pub proposes : (n : ℕ) → Contains (nodes_of set) n
      → HasSentTo k.proposed x n (kinds.Accept (vote_in leader t r))
  pub accepts : (n : ℕ) → Contains (x ∷ others) n
      → HasSentTo k.accepted n x (kinds.Accepted (vote_in leader t r))
  pub answers : HasAnswered m last leader.node r
  pub notes : HasNoted m last leader.node r

abbrev pub ReadyLeaderAnswers : Meaning → (List ℕ → Type 0) → Type 0
ReadyLeaderAnswers m IsText = (x : ℕ) (leader : ReplicaValue) (t : TermValue) (set : List Member) (r : RequestValue)
    (others : List ℕ) (first last : WorldState ReplicaValue) → IsReadyIn m IsText first x leader t set others
    → is_new (session_of r.client leader.node.learner.whole.sessions) r.number ≡ true
    → (k : Serves m IsText x leader t r others first last)
    → IsServed m IsText x leader t set r others first last k
