-- One exchange in a world in which votes of earlier ballots are left, from a tick to an answer.
use Rattle.std.specs.Prelude.{◌≡◌, ℕ, ◌+◌, ◌*◌, ◌<◌, ◌≤◌, true, false, Some, List, [], ◌∷◌, map, length, Contains}
use Rattle.lk_types.specs.declared.command.Request.{Request as RequestValue}
use Rattle.lk_types.specs.declared.member.Member.{Member}
use Rattle.lk_types.specs.declared.vote.Vote.{Vote}
use Rattle.lk_messages.specs.Values.{DecidedValue}
use Rattle.lk_messages.specs.declared.message.Content.TheVariants as content
use Rattle.lk_messages.specs.declared.message.NodeMessage.TheVariants as kinds
use Rattle.lk_members.specs.Nodes.{nodes_of}
use Rattle.lk_state.specs.Meanings.{Meaning}
use Rattle.lk_state.specs.Sessions.{session_of, is_new}
use Rattle.lk_leader.specs.Terms.{TermValue}
use Rattle.lk_leader.specs.Values.{has_vote_from}
use Rattle.lk_learner.specs.Learners.{alpha, executed}
use Rattle.lk_replica.specs.ReplicaValue.{ReplicaValue}
use Rattle.lk_sim.specs.WorldStates.{WorldState}
use Rattle.lk_world_progress.specs.Balloting.{HasSentTo}
use Rattle.lk_world_progress.specs.Delivering.{AreDistinct, Hears}
use Rattle.lk_world_progress.specs.Exchanging.{number_of}
use Rattle.lk_world_progress.specs.Stepping.{IsUpAs}
use Rattle.lk_world_leftovers.specs.Answering.{IsServed, Serves}
use Rattle.lk_world_leftovers.specs.Collecting.{Collects, HasCollected, HasLeftovers}
use Rattle.lk_world_leftovers.specs.Filling.{Fills, IsFilling, IsNextVote, decided_by}

-- ---- one position after another

-- the vote is for what the leader of this number has proposed at its next position
abbrev pub IsNextIn : WorldState ReplicaValue → ℕ → Vote → Type 0
IsNextIn w x v =
    (r : ReplicaValue) × (t : TermValue) × IsUpAs w x r × (r.node.leader.term ≡ Some t) × IsNextVote r.node t v

-- each of these votes is for the next position when its turn comes, and the nodes fill that position
abbrev pub FillsInTurn : Meaning → (List ℕ → Type 0) → ℕ → List ℕ → List Vote → WorldState ReplicaValue
    → WorldState ReplicaValue → Type 0
FillsInTurn m IsText x nodes [] old new = new ≡ old
FillsInTurn m IsText x nodes (v ∷ vs) old new =
    (mid : WorldState ReplicaValue) × IsNextIn old x v × Fills m IsText x nodes v old mid
    × FillsInTurn m IsText x nodes vs mid new

-- Before each position is filled the Accept of its vote has been sent to each member, and then each reply. After that
-- each other member has been told what is decided there.
abbrev pub AreOffered : (m : Meaning) (IsText : List ℕ → Type 0) (x : ℕ) (set : List Member) (nodes : List ℕ)
    (vs : List Vote) (old new : WorldState ReplicaValue) → FillsInTurn m IsText x nodes vs old new → Type 0
AreOffered m IsText x set nodes [] old new k = Unit {0}
AreOffered m IsText x set nodes (v ∷ vs) old new k =
    ((n : ℕ) → Contains (nodes_of set) n → HasSentTo old x n (kinds.Accept v))
    × ((n : ℕ) → Contains nodes n → HasSentTo k.2.accepted n x (kinds.Accepted v))
    × ((n : ℕ) → Contains (nodes_of set) n → 1 ≤ n → (n ≡ x → ⊥) → HasSentTo k.0 x n (kinds.Decided (decided_by v)))
    × AreOffered m IsText x set nodes vs k.0 new k.3

-- the leader still leads in the ballot, and each position filled has brought it on. So at most as many are filled as
-- are left up to the last
pub record HaveFilled (m : Meaning) (IsText : List ℕ → Type 0) (x : ℕ) (leader : ReplicaValue) (t : TermValue)
    (set : List Member) (others : List ℕ) (last : ℕ) (vs : List Vote) (old new : WorldState ReplicaValue)
    (k : FillsInTurn m IsText x (x ∷ others) vs old new) : Type 0 where
  pub offered : AreOffered m IsText x set (x ∷ others) vs old new k
  pub after : ReplicaValue
  pub term : TermValue
  pub ballot : term.ballot ≡ t.ballot
  pub received : term.received ≡ t.received
  pub moves : executed leader.node.learner + length vs ≤ executed after.node.learner
  pub fills : IsFilling m IsText new x after term set others last

abbrev pub LeftoversAreFilled : Meaning → (List ℕ → Type 0) → Type 0
LeftoversAreFilled m IsText = (x : ℕ) (leader : ReplicaValue) (t : TermValue) (set : List Member) (others : List ℕ)
    (last : ℕ) (vs : List Vote) (old new : WorldState ReplicaValue) → IsFilling m IsText old x leader t set others last
    → (k : FillsInTurn m IsText x (x ∷ others) vs old new)
    → HaveFilled m IsText x leader t set others last vs old new k

-- ---- voters at the end of their window

-- The next 2 alpha positions of a voter end where the leader has executed, or before that. It takes decided commands,
-- among them that of its next position. The leader has executed all of them.
pub record CatchesUp (m : Meaning) (IsText : List ℕ → Type 0) (x n : ℕ) (old new : WorldState ReplicaValue)
    : Type 0 where
  pub leader : ReplicaValue
  pub up : IsUpAs old x leader
  pub voter : ReplicaValue
  pub voter_up : IsUpAs old n voter
  pub ends : executed voter.node.learner + 2 * alpha voter.node.learner ≤ executed leader.node.learner
  pub from : ℕ
  pub told : DecidedValue
  pub begins : told.first ≤ executed voter.node.learner + 1
  pub some : executed voter.node.learner + 1 < told.first + length told.commands
  pub known : told.first + length told.commands ≤ executed leader.node.learner + 1
  pub takes : Hears m IsText n (content.Node from (kinds.Decided told)) old new

-- each of these voters does, one after another
abbrev pub CatchUpInTurn : Meaning → (List ℕ → Type 0) → ℕ → List ℕ → WorldState ReplicaValue
    → WorldState ReplicaValue → Type 0
CatchUpInTurn m IsText x [] old new = new ≡ old
CatchUpInTurn m IsText x (n ∷ ns) old new =
    (mid : WorldState ReplicaValue) × CatchesUp m IsText x n old mid × CatchUpInTurn m IsText x ns mid new

-- each voter does so once at most, and the leader fills up as before
pub record HaveCaughtUp (m : Meaning) (IsText : List ℕ → Type 0) (x : ℕ) (leader : ReplicaValue) (t : TermValue)
    (set : List Member) (others : List ℕ) (last : ℕ) (ns : List ℕ) (new : WorldState ReplicaValue) : Type 0 where
  pub once : AreDistinct ns
  pub few : length ns ≤ length others
  pub fills : IsFilling m IsText new x leader t set others last

abbrev pub VotersCatchUp : Meaning → (List ℕ → Type 0) → Type 0
VotersCatchUp m IsText = (x : ℕ) (leader : ReplicaValue) (t : TermValue) (set : List Member) (others : List ℕ)
    (last : ℕ) (ns : List ℕ) (old new : WorldState ReplicaValue) → IsFilling m IsText old x leader t set others last
    → ((n : ℕ) → Contains ns n → Contains others n) → CatchUpInTurn m IsText x ns old new
    → HaveCaughtUp m IsText x leader t set others last ns new

-- the leader's next position is one of the voter's next 2 alpha
abbrev pub ReachesNext : WorldState ReplicaValue → ReplicaValue → ℕ → Type 0
ReachesNext w leader n = (q : ReplicaValue) → IsUpAs w n q
    → executed leader.node.learner < executed q.node.learner + 2 * alpha q.node.learner

-- ---- the whole exchange

-- The candidate takes a tick, each node its Prepare, and the candidate their promises. Then they fill one position
-- after another, until no vote is reported at the leader's next position or above it. Voters catch up, until that
-- position is one of the next 2 alpha of each of them, and they serve a client's request. Nothing else happens
-- meanwhile, but any of these nodes may have a rebase due.
pub record Exchanges (m : Meaning) (IsText : List ℕ → Type 0) (candidate : ReplicaValue) (r : RequestValue)
    (others : List ReplicaValue) (first last : WorldState ReplicaValue) : Type 0 where
  pub promised : WorldState ReplicaValue
  pub collects : Collects m IsText candidate others first promised
  pub votes : List Vote
  pub filled : WorldState ReplicaValue
  pub fills : FillsInTurn m IsText (number_of candidate) (map number_of (candidate ∷ others)) votes promised filled
  pub caught : List ℕ
  pub among : (n : ℕ) → Contains caught n → Contains (map number_of others) n
  pub ready : WorldState ReplicaValue
  pub catch_up : CatchUpInTurn m IsText (number_of candidate) caught filled ready
  pub leader : ReplicaValue
  pub is : IsUpAs ready (number_of candidate) leader
  pub term : TermValue
  pub current : leader.node.leader.term ≡ Some term
  pub none_left : has_vote_from term.received (executed leader.node.learner + 1) ≡ false
  pub reach : (n : ℕ) → Contains (map number_of others) n → ReachesNext ready leader n
  pub serves : Serves m IsText (number_of candidate) leader term r (map number_of others) ready last

-- Each datagram that is delivered was sent before, there are at most as many positions to fill as lie between what the
-- candidate has executed and the last vote, each voter catches up once at most, and in the end the request is answered,
-- and that is noted.
pub record LeftoversAnswer (m : Meaning) (IsText : List ℕ → Type 0) (candidate : ReplicaValue) (set : List Member)
    (r : RequestValue) (others : List ReplicaValue) (highest : ℕ) (first last : WorldState ReplicaValue)
    (k : Exchanges m IsText candidate r others first last) : Type 0 where
  pub collected : HasCollected m IsText candidate set others highest first k.promised k.collects
  pub offered : AreOffered m IsText (number_of candidate) set (map number_of (candidate ∷ others)) k.votes k.promised
      k.filled k.fills
  pub few : executed candidate.node.learner + length k.votes ≤ highest
  pub few_caught : length k.caught ≤ length others
  pub served : IsServed m IsText (number_of candidate) k.leader k.term set r (map number_of others) k.ready last
      k.serves

abbrev pub WorldWithLeftoversAnswers : Meaning → (List ℕ → Type 0) → Type 0
WorldWithLeftoversAnswers m IsText = (candidate : ReplicaValue) (set : List Member) (r : RequestValue)
    (others : List ReplicaValue) (highest : ℕ) (first last : WorldState ReplicaValue)
    → HasLeftovers m IsText first candidate set others highest
    → (k : Exchanges m IsText candidate r others first last)
    → is_new (session_of r.client k.leader.node.learner.whole.sessions) r.number ≡ true
    → LeftoversAnswer m IsText candidate set r others highest first last k
