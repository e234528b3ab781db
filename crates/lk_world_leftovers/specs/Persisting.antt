-- A candidate that nobody of a majority is ahead of goes on after each rejection, until it has no rival, and then a
-- request is answered. Members do not change.
use Rattle.std.specs.Prelude.{◌≡◌, ℕ, zero, suc, ◌+◌, ◌*◌, ◌<◌, ◌≤◌, true, None, List, [], ◌∷◌, map, length, Contains}
use Rattle.lk_types.specs.Limits.{max_count}
use Rattle.lk_types.specs.declared.command.Request.{Request as RequestValue}
use Rattle.lk_types.specs.declared.vote.Vote.{Vote}
use Rattle.lk_messages.specs.Values.{DecidedValue}
use Rattle.lk_messages.specs.declared.message.Content.TheVariants as content
use Rattle.lk_messages.specs.declared.message.NodeMessage.TheVariants as kinds
use Rattle.lk_members.specs.Majorities.{IsMajority}
use Rattle.lk_members.specs.Rosters.{is_member}
use Rattle.lk_state.specs.Meanings.{Meaning}
use Rattle.lk_learner.specs.Learners.{executed, alpha}
use Rattle.lk_node.specs.Beginning.{next_ballot}
use Rattle.lk_node.specs.Executing.{NothingToRun}
use Rattle.lk_node.specs.Nearness.{AreNear}
use Rattle.lk_node.specs.NodeValue.{NodeValue}
use Rattle.lk_progress.specs.Electing.{IsDue}
use Rattle.lk_replica.specs.ReplicaValue.{ReplicaValue}
use Rattle.lk_sim.specs.WorldStates.{WorldState}
use Rattle.lk_sim.specs.declared.event.Event.TheVariants as event
use Rattle.lk_world_progress.specs.Beginning.{IsNewWorld}
use Rattle.lk_world_progress.specs.Delivering.{AreDistinct, Hears}
use Rattle.lk_world_progress.specs.Exchanging.{number_of}
use Rattle.lk_world_progress.specs.Overtaking.{IsRejected, IsRival}
use Rattle.lk_world_progress.specs.Stepping.{GoesWell, Holds, IsUpAs}
use Rattle.lk_world_leftovers.specs.Exchanging.{Exchanges, LeftoversAnswer}
use Rattle.lk_world_leftovers.specs.Filling.{PairsUpTo}
use Rattle.lk_world_leftovers.specs.Fixed.{IsFresh, NobodyChanges}

-- ---- who takes part

-- the node keeps no vote above the last position
abbrev pub VotesUpTo : NodeValue → ℕ → Type 0
VotesUpTo node last = (v : Vote) → Contains node.acceptor.state.votes v → v.position ≤ last

-- the node is up, has executed at most d positions, and keeps no vote, and knows no pair, above the last one. Each
-- position up to that is one of its next 2 alpha
pub record MayVote (w : WorldState ReplicaValue) (d last : ℕ) (n : ℕ) : Type 0 where
  pub replica : ReplicaValue
  pub up : IsUpAs w n replica
  pub near : AreNear replica.node.acceptor replica.node.learner
  pub behind : executed replica.node.learner ≤ d
  pub reaches : last ≤ executed replica.node.learner + 2 * alpha replica.node.learner
  pub pairs : PairsUpTo replica.node last
  pub votes : VotesUpTo replica.node last

-- The candidate is up, and has executed e positions. It has no term, nothing waits, and nothing is left to execute. It
-- keeps no vote, and knows no pair, above the last position. The others may vote, and have executed at most d
-- positions.
pub record Contends (m : Meaning) (IsText : List ℕ → Type 0) (w : WorldState ReplicaValue) (x e d : ℕ) (others : List ℕ)
    (last : ℕ) : Type 0 where
  pub holds : Holds m IsText w
  pub candidate : ReplicaValue
  pub up : IsUpAs w x candidate
  pub reach : executed candidate.node.learner ≡ e
  pub idle : candidate.node.leader.term ≡ None
  pub waiting : candidate.node.leader.waiting ≡ []
  pub known : NothingToRun candidate.node
  pub near : AreNear candidate.node.acceptor candidate.node.learner
  pub pairs : PairsUpTo candidate.node last
  pub votes : VotesUpTo candidate.node last
  pub others_may : (n : ℕ) → Contains others n → MayVote w d last n
  pub distinct : AreDistinct (x ∷ others)

-- The nodes of a new cluster, which have executed nothing, contend for answering.
abbrev pub NewWorldsContend : Meaning → (List ℕ → Type 0) → Type 0
NewWorldsContend m IsText = (w : WorldState ReplicaValue) (candidate : ReplicaValue) (index ticks : ℕ) (others : List ℕ)
    → IsNewWorld m IsText w candidate index ticks others
    → Contends m IsText w (number_of candidate) 0 0 others 0

-- ---- a candidate that is behind

-- A node that contends, and takes decided commands of positions up to the last one, contends on, and has executed no
-- less, and nothing above the last one. How much more it has executed is in the laws of feeding.
abbrev pub FedCandidateContends : Meaning → (List ℕ → Type 0) → Type 0
FedCandidateContends m IsText = (x e d : ℕ) (others : List ℕ) (last from : ℕ) (told : DecidedValue)
    (old new : WorldState ReplicaValue) → Contends m IsText old x e d others last
    → e ≤ last → told.first + length told.commands ≤ last + 1
    → Hears m IsText x (content.Node from (kinds.Decided told)) old new
    → (f : ℕ) × (e ≤ f) × (f ≤ last) × Contends m IsText new x f d others last

-- ---- rejections

-- the node has no term
abbrev pub IsIdleIn : WorldState ReplicaValue → ℕ → Type 0
IsIdleIn w x = (r : ReplicaValue) → IsUpAs w x r → r.node.leader.term ≡ None

-- it takes this many ticks, none of which begins a ballot, and nothing else happens meanwhile
abbrev pub WaitsIn : Meaning → (List ℕ → Type 0) → ℕ → ℕ → WorldState ReplicaValue → WorldState ReplicaValue → Type 0
WaitsIn m IsText x zero old new = new ≡ old
WaitsIn m IsText x (suc k) old new =
    (mid : WorldState ReplicaValue) × GoesWell m IsText old (event.Tick x) mid × IsIdleIn mid x
    × WaitsIn m IsText x k mid new

-- it waits until it is due, begins a ballot, and is rejected by this rival
pub record Retries (m : Meaning) (IsText : List ℕ → Type 0) (x : ℕ) (others : List ℕ) (rival : ℕ)
    (old new : WorldState ReplicaValue) : Type 0 where
  pub ticks : ℕ
  pub due : WorldState ReplicaValue
  pub waits : WaitsIn m IsText x ticks old due
  pub candidate : ReplicaValue
  pub number : number_of candidate ≡ x
  pub rejected : IsRejected m IsText candidate others rival due new

-- one rival after another rejects it
abbrev pub RetriesInTurn : Meaning → (List ℕ → Type 0) → ℕ → List ℕ → List ℕ → WorldState ReplicaValue
    → WorldState ReplicaValue → Type 0
RetriesInTurn m IsText x others [] old new = new ≡ old
RetriesInTurn m IsText x others (n ∷ ns) old new =
    (mid : WorldState ReplicaValue) × Retries m IsText x others n old mid × RetriesInTurn m IsText x others ns mid new

-- whatever replica the candidate is, the node is no rival of its next ballot
abbrev pub IsNoRival : WorldState ReplicaValue → ℕ → ℕ → Type 0
IsNoRival w x n = (c : ReplicaValue) → IsUpAs w x c → IsRival w (next_ballot c.node) n → ⊥

-- The rivals that have rejected it are different, and each is one of the others, so they are not more than these. None
-- of them is a rival any more, and the candidate and the others are as before.
pub record HasPersisted (m : Meaning) (IsText : List ℕ → Type 0) (x e d : ℕ) (others : List ℕ) (last : ℕ)
    (rivals : List ℕ) (new : WorldState ReplicaValue) : Type 0 where
  pub contends : Contends m IsText new x e d others last
  pub distinct : AreDistinct rivals
  pub among : (n : ℕ) → Contains rivals n → Contains others n
  pub few : length rivals ≤ length others
  pub settled : (n : ℕ) → Contains rivals n → IsNoRival new x n

abbrev pub RejectionsAreFew : Meaning → (List ℕ → Type 0) → Type 0
RejectionsAreFew m IsText = (x e d : ℕ) (others : List ℕ) (last : ℕ) (rivals : List ℕ)
    (old new : WorldState ReplicaValue) → Contends m IsText old x e d others last
    → RetriesInTurn m IsText x others rivals old new → HasPersisted m IsText x e d others last rivals new

-- ---- until a request is answered

-- Rivals reject the candidate, one after another, until none of the others is a rival. Then, once it is due again, a
-- whole exchange takes place.
pub record Persists (m : Meaning) (IsText : List ℕ → Type 0) (x : ℕ) (others : List ℕ) (r : RequestValue)
    (first last : WorldState ReplicaValue) : Type 0 where
  pub rivals : List ℕ
  pub retried : WorldState ReplicaValue
  pub retries : RetriesInTurn m IsText x others rivals first retried
  pub ticks : ℕ
  pub ready : WorldState ReplicaValue
  pub waits : WaitsIn m IsText x ticks retried ready
  pub candidate : ReplicaValue
  pub up : IsUpAs ready x candidate
  pub due : IsDue candidate.node
  pub voters : List ReplicaValue
  pub numbers : map number_of (candidate ∷ voters) ≡ x ∷ others
  pub voters_up : (q : ReplicaValue) → Contains voters q → IsUpAs ready (number_of q) q
  pub no_rival : (n : ℕ) → Contains others n → IsNoRival ready x n
  pub exchanges : Exchanges m IsText candidate r voters ready last

-- nobody had asked to change the members by the time of the exchange, and the candidate and the others are a majority
-- of them
pub record AreFixed (w : WorldState ReplicaValue) (x : ℕ) (others : List ℕ) : Type 0 where
  pub changes : NobodyChanges w
  pub named : is_member x w.genesis.members ≡ true
  pub majority : IsMajority (x ∷ others) w.genesis.members

-- At most as many rejections have been heard as there are others, and the exchange has answered the request.
pub record HasAnsweredInTime (m : Meaning) (IsText : List ℕ → Type 0) (x e : ℕ) (others : List ℕ) (highest : ℕ)
    (r : RequestValue) (first last : WorldState ReplicaValue) (k : Persists m IsText x others r first last)
    : Type 0 where
  pub few : length k.rivals ≤ length others
  pub answer : LeftoversAnswer m IsText k.candidate k.ready.genesis.members r k.voters highest k.ready last k.exchanges
  pub reach : executed k.candidate.node.learner ≡ e

abbrev pub PersistingCandidateAnswers : Meaning → (List ℕ → Type 0) → Type 0
PersistingCandidateAnswers m IsText = (x e d : ℕ) (others : List ℕ) (highest : ℕ) (r : RequestValue)
    (first last : WorldState ReplicaValue) → Contends m IsText first x e d others highest → d ≤ e → e ≤ highest
    → highest < max_count → (k : Persists m IsText x others r first last) → AreFixed k.ready x others
    → IsFresh k.exchanges.ready r → HasAnsweredInTime m IsText x e others highest r first last k
