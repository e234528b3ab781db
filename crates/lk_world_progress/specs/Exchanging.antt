-- One exchange in a world, from a tick to an answer. A candidate and others, a majority of the members of its next
-- position, are up and quiet; they take what they send one another, in order, and nothing else meanwhile.
use Rattle.std.specs.Prelude.{◌≡◌, ℕ, ◌≤◌, true, List, ◌∷◌, map, Contains}
use Rattle.lk_types.specs.declared.command.Request.{Request as RequestValue}
use Rattle.lk_types.specs.declared.member.Member.{Member}
use Rattle.lk_messages.specs.Grammar.{spelling}
use Rattle.lk_messages.specs.declared.message.Content.TheVariants as content
use Rattle.lk_messages.specs.declared.message.NodeMessage.TheVariants as kinds
use Rattle.lk_members.specs.Majorities.{IsMajority}
use Rattle.lk_members.specs.Nodes.{nodes_of}
use Rattle.lk_agreement_laws.specs.Datagrams.{said_by}
use Rattle.lk_agreement_laws.specs.declared.party.Party.TheVariants as party
use Rattle.lk_state.specs.Meanings.{Meaning}
use Rattle.lk_state.specs.Runs.{session_for}
use Rattle.lk_state.specs.Sessions.{session_of, is_new}
use Rattle.lk_learner.specs.Learners.{executed}
use Rattle.lk_node_interface.specs.declared.note.Note.TheVariants as note
use Rattle.lk_node.specs.Beginning.{next_ballot}
use Rattle.lk_node.specs.NodeValue.{NodeValue}
use Rattle.lk_progress.specs.Deciding.{acceptances}
use Rattle.lk_progress.specs.Electing.{promises}
use Rattle.lk_progress.specs.Exchanges.{IsQuietCandidate, IsQuietVoter, prepare_by, promise_to, vote_by}
use Rattle.lk_replica.specs.ReplicaValue.{ReplicaValue}
use Rattle.lk_sim.specs.WorldStates.{WorldState}
use Rattle.lk_sim.specs.declared.event.Event.TheVariants as event
use Rattle.lk_world_progress.specs.Balloting.{HasSentTo}
use Rattle.lk_world_progress.specs.Delivering.{AreDistinct, Hears, HearsEach, HearsInTurn}
use Rattle.lk_world_progress.specs.Stepping.{GoesWell, Holds, IsUpAs}

-- ---- who takes part

-- a replica's node has this number
abbrev pub number_of : ReplicaValue → ℕ
number_of r = r.node.header.node

-- a voter is up, and quiet for the candidate's next ballot
abbrev pub IsVoterIn : WorldState ReplicaValue → NodeValue → ℕ → Type 0
IsVoterIn w candidate n =
    (r : ReplicaValue) × IsUpAs w n r × IsQuietVoter r.node (next_ballot candidate) (executed candidate.learner)

-- the candidate is up and quiet, and so are these others, which with it are a majority of the set of its next position
pub record IsQuietWorld (m : Meaning) (IsText : List ℕ → Type 0) (w : WorldState ReplicaValue)
    (candidate : ReplicaValue)
    (set : List Member) (others : List ℕ) : Type 0 where
  pub holds : Holds m IsText w
  pub up : IsUpAs w (number_of candidate) candidate
  pub quiet : IsQuietCandidate candidate.node set
  pub voters : (n : ℕ) → Contains others n → IsVoterIn w candidate.node n
  pub distinct : AreDistinct (number_of candidate ∷ others)
  pub majority : IsMajority (number_of candidate ∷ others) set

-- ---- the exchange

-- The candidate takes a tick. Each node takes the candidate's Prepare, and the candidate takes their promises. A client
-- sends a request, and the candidate takes it. Each node takes the candidate's Accept, and the candidate takes their
-- replies. Nothing else happens meanwhile, but any of these nodes may have a rebase due.
pub record Exchanges (m : Meaning) (IsText : List ℕ → Type 0) (candidate : ReplicaValue) (r : RequestValue)
    (others : List ℕ) (first last : WorldState ReplicaValue) : Type 0 where
  pub ticked : WorldState ReplicaValue
  pub ticks : GoesWell m IsText first (event.Tick (number_of candidate)) ticked
  pub asked : WorldState ReplicaValue
  pub asks : HearsEach m IsText (content.Node (number_of candidate) (prepare_by candidate.node))
      (number_of candidate ∷ others) ticked asked
  pub promised : WorldState ReplicaValue
  pub leads : HearsInTurn m IsText (number_of candidate)
      (promises (map (λ n. (n, promise_to candidate.node)) (number_of candidate ∷ others))) asked promised
  pub requested : WorldState ReplicaValue
  pub requests : GoesWell m IsText promised (event.Client (number_of candidate) r) requested
  pub proposed : WorldState ReplicaValue
  pub proposes : Hears m IsText (number_of candidate) (content.Request r) requested proposed
  pub accepted : WorldState ReplicaValue
  pub accepts : HearsEach m IsText
      (content.Node (number_of candidate) (kinds.Accept (vote_by candidate.node r)))
      (number_of candidate ∷ others) proposed accepted
  pub replies : HearsInTurn m IsText (number_of candidate)
      (acceptances (number_of candidate ∷ others) (vote_by candidate.node r)) accepted last

-- ---- the law

-- it has answered the client's request with what its machine returns for it
abbrev pub HasAnswered : Meaning → WorldState ReplicaValue → NodeValue → RequestValue → Type 0
HasAnswered m w node r = Contains w.sent (record {
  from = party.Node node.header.node;
  to = party.Client r.client;
  bytes = spelling (said_by w.genesis node.header.node (kinds.Answer (record {
    client = r.client;
    number = r.number;
    answer = (session_for m node.learner.whole r).answer;
  })));
})

-- it has noted that answer in the trace
abbrev pub HasNoted : Meaning → WorldState ReplicaValue → NodeValue → RequestValue → Type 0
HasNoted m w node r = Contains w.trace
    (note.Answered node.header.node r.client r.number (session_for m node.learner.whole r).answer)

-- The Prepare and the Accept were sent to each member of that position, and each promise and each reply to the
-- candidate, before they are delivered, and in the end the request is answered, and that is noted.
pub record IsAnsweredBy (m : Meaning) (IsText : List ℕ → Type 0) (candidate : ReplicaValue) (set : List Member)
    (r : RequestValue) (others : List ℕ) (first last : WorldState ReplicaValue)
    (k : Exchanges m IsText candidate r others first last) : Type 0 where
  pub asks : (n : ℕ) → Contains (nodes_of set) n → 1 ≤ n
      → HasSentTo k.ticked (number_of candidate) n (prepare_by candidate.node)
  pub promises : (n : ℕ) → Contains (number_of candidate ∷ others) n
      → HasSentTo k.asked n (number_of candidate) (kinds.Promise (promise_to candidate.node))
  pub proposes : (n : ℕ) → Contains (nodes_of set) n
      → HasSentTo k.proposed (number_of candidate) n (kinds.Accept (vote_by candidate.node r))
  pub accepts : (n : ℕ) → Contains (number_of candidate ∷ others) n
      → HasSentTo k.accepted n (number_of candidate) (kinds.Accepted (vote_by candidate.node r))
  pub answers : HasAnswered m last candidate.node r
  pub notes : HasNoted m last candidate.node r

-- A world with a quiet majority answers a fresh request after one exchange.
abbrev pub QuietWorldAnswers : Meaning → (List ℕ → Type 0) → Type 0
QuietWorldAnswers m IsText = (candidate : ReplicaValue) (set : List Member) (r : RequestValue) (others : List ℕ)
    (first last : WorldState ReplicaValue) → IsQuietWorld m IsText first candidate set others
    → is_new (session_of r.client candidate.node.learner.whole.sessions) r.number ≡ true
    → (k : Exchanges m IsText candidate r others first last)
    → IsAnsweredBy m IsText candidate set r others first last k
