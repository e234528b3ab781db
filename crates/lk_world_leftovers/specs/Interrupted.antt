-- A new cluster whose first leader is interrupted: others have accepted what it proposed, and it has heard none of
-- their replies. So a vote of its ballot is left, and another new node contends for answering with these others.
use Rattle.std.specs.Prelude.{ℕ, List, ◌∷◌, map, Contains}
use Rattle.lk_types.specs.declared.command.Request.{Request as RequestValue}
use Rattle.lk_types.specs.declared.vote.Vote.{Vote}
use Rattle.lk_messages.specs.declared.message.Content.TheVariants as content
use Rattle.lk_messages.specs.declared.message.NodeMessage.TheVariants as kinds
use Rattle.lk_state.specs.Meanings.{Meaning}
use Rattle.lk_progress.specs.Electing.{promises}
use Rattle.lk_progress.specs.Exchanges.{prepare_by, promise_to, vote_by}
use Rattle.lk_replica.specs.ReplicaValue.{ReplicaValue}
use Rattle.lk_sim.specs.WorldStates.{WorldState}
use Rattle.lk_sim.specs.declared.event.Event.TheVariants as event
use Rattle.lk_world_progress.specs.Beginning.{IsNewIn, IsNewWorld}
use Rattle.lk_world_progress.specs.Delivering.{Hears, HearsEach, HearsInTurn}
use Rattle.lk_world_progress.specs.Exchanging.{number_of}
use Rattle.lk_world_progress.specs.Stepping.{GoesWell, IsUpAs}
use Rattle.lk_world_leftovers.specs.Persisting.{Contends}

-- The candidate takes a tick. Each node takes its Prepare, and it takes their promises. A client sends a request, and
-- the candidate takes it. The others take its Accept. Nothing else happens meanwhile.
pub record IsInterrupted (m : Meaning) (IsText : List ℕ → Type 0) (candidate : ReplicaValue) (r : RequestValue)
    (others : List ℕ) (first last : WorldState ReplicaValue) : Type 0 where
  pub ticked : WorldState ReplicaValue
  pub ticks : GoesWell m IsText first (event.Tick (number_of candidate)) ticked
  pub asked : WorldState ReplicaValue
  pub asks : HearsEach m IsText (content.Node (number_of candidate) (prepare_by candidate.node))
      (number_of candidate ∷ others) ticked asked
  pub promised : WorldState ReplicaValue
  pub leads : HearsInTurn m IsText (number_of candidate)
      (promises (map (λ n. (n, promise_to candidate.node)) (number_of candidate ∷ others))) asked promised
  pub requested : WorldState ReplicaValue
  pub requests : GoesWell m IsText promised (event.Client (number_of candidate) r) requested
  pub proposed : WorldState ReplicaValue
  pub proposes : Hears m IsText (number_of candidate) (content.Request r) requested proposed
  pub accepts : HearsEach m IsText (content.Node (number_of candidate) (kinds.Accept (vote_by candidate.node r)))
      others proposed last

-- the node is up and keeps the vote
abbrev pub KeepsVote : WorldState ReplicaValue → ℕ → Vote → Type 0
KeepsVote w n v = (q : ReplicaValue) × IsUpAs w n q × Contains q.node.acceptor.state.votes v

-- the node contends with these others, each of which keeps the vote, and nobody of them has executed anything
pub record HasVoteLeft (m : Meaning) (IsText : List ℕ → Type 0) (x : ℕ) (others : List ℕ) (v : Vote)
    (w : WorldState ReplicaValue) : Type 0 where
  pub contends : Contends m IsText w x 0 0 others 1
  pub left : (n : ℕ) → Contains others n → KeepsVote w n v

-- another node, as new as these were, contends with those that have accepted
abbrev pub InterruptedWorldsContend : Meaning → (List ℕ → Type 0) → Type 0
InterruptedWorldsContend m IsText = (candidate : ReplicaValue) (index ticks : ℕ) (r : RequestValue) (others : List ℕ)
    (x passed : ℕ) (other : ReplicaValue) (first last : WorldState ReplicaValue)
    → IsNewWorld m IsText first candidate index ticks others → IsNewIn m first x passed other
    → (Contains (number_of candidate ∷ others) x → ⊥) → IsInterrupted m IsText candidate r others first last
    → HasVoteLeft m IsText x others (vote_by candidate.node r) last
