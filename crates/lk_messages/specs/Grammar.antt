-- The canonical spelling of each message, and which messages are valid.
use Rattle.std.specs.Prelude.{◌≡◌, ℕ, ◌<◌, ◌^◌, List, ◌∷◌, ◌++◌, length}
use Rattle.std.specs.List.{flat_map}
use Rattle.lk_types.specs.Ranges.{IsNode, IsClient, IsCount, IsTotal}
use Rattle.lk_types.specs.BallotValue.{BallotValue}
use Rattle.lk_types.specs.Ballots.{IsRealBallot, IsBallot}
use Rattle.lk_types.specs.Commands.{IsRequest}
use Rattle.lk_types.specs.Votes.{IsVote}
use Rattle.lk_types.specs.Answers.{IsAnswer}
use Rattle.lk_types.specs.Rosters.{IsMember}
use Rattle.lk_types.specs.declared.command.Command.{Command}
use Rattle.lk_types.specs.declared.vote.Vote.{Vote}
use Rattle.lk_codec.specs.Fields.{one, two, four, eight, ballot, member, request, command, vote, answer}
use Rattle.lk_messages.specs.Values.{PromiseValue, IsPromise, DecidedValue, IsDecided, WantValue, IsWant, PartValue}
use Rattle.lk_messages.specs.Values.{IsPart, PassedValue, IsPassed}
use Rattle.lk_messages.specs.declared.message.Nack.{Nack}
use Rattle.lk_messages.specs.declared.message.Answered.{Answered}
use Rattle.lk_messages.specs.declared.message.Elsewhere.{Elsewhere}
use Rattle.lk_messages.specs.declared.message.NodeMessage.{NodeMessage}
use Rattle.lk_messages.specs.declared.message.NodeMessage.TheVariants as kinds
use Rattle.lk_messages.specs.declared.message.Content.{Content}
use Rattle.lk_messages.specs.declared.message.Content.TheVariants as content
use Rattle.lk_messages.specs.declared.message.Message.{Message}

abbrev pub prepare : BallotValue → ℕ → List ℕ
prepare b first = ballot b ++ eight first

-- the count, and then the votes
abbrev pub votes : List Vote → List ℕ
votes vs = one (length vs) ++ flat_map vote vs

abbrev pub promise : PromiseValue → List ℕ
promise p = ballot p.ballot ++ (eight p.first ++ votes p.votes)

-- what an Accept proposes or an Accepted reports: here the ballot comes first
abbrev pub proposal : Vote → List ℕ
proposal v = ballot v.ballot ++ (eight v.position ++ command v.command)

abbrev pub nack : Nack → List ℕ
nack n = ballot n.ballot ++ (ballot n.promised ++ eight n.executed)

-- the count, and then the commands
abbrev pub commands : List Command → List ℕ
commands cs = one (length cs) ++ flat_map command cs

abbrev pub decided : DecidedValue → List ℕ
decided d = eight d.first ++ commands d.commands

abbrev pub want : WantValue → List ℕ
want w = eight w.first ++ four w.offset

abbrev pub part : PartValue → List ℕ
part p = eight p.position ++ (four p.total ++ (four p.offset ++ (two (length p.bytes) ++ p.bytes)))

abbrev pub answered : Answered → List ℕ
answered a = two a.client ++ (eight a.number ++ answer a.answer)

abbrev pub elsewhere : Elsewhere → List ℕ
elsewhere e = two e.client ++ (eight e.number ++ member e.member)

abbrev pub passed : PassedValue → List ℕ
passed p = two p.client ++ (eight p.number ++ eight p.last)

abbrev pub lead : BallotValue → ℕ → List ℕ
lead b executed = ballot b ++ eight executed

-- the kind of a node's message
abbrev pub node_kind : NodeMessage → ℕ
node_kind (kinds.Prepare b first) = 1
node_kind (kinds.Promise p) = 2
node_kind (kinds.Accept v) = 3
node_kind (kinds.Accepted v) = 4
node_kind (kinds.Nack n) = 5
node_kind (kinds.Decided d) = 6
node_kind (kinds.Want w) = 7
node_kind (kinds.Part p) = 8
node_kind (kinds.Answer a) = 10
node_kind (kinds.Elsewhere e) = 11
node_kind (kinds.Passed p) = 12
node_kind (kinds.Lead b executed) = 13

-- its fields
abbrev pub node_fields : NodeMessage → List ℕ
node_fields (kinds.Prepare b first) = prepare b first
node_fields (kinds.Promise p) = promise p
node_fields (kinds.Accept v) = proposal v
node_fields (kinds.Accepted v) = proposal v
node_fields (kinds.Nack n) = nack n
node_fields (kinds.Decided d) = decided d
node_fields (kinds.Want w) = want w
node_fields (kinds.Part p) = part p
node_fields (kinds.Answer a) = answered a
node_fields (kinds.Elsewhere e) = elsewhere e
node_fields (kinds.Passed p) = passed p
node_fields (kinds.Lead b executed) = lead b executed

-- a client's request is kind 9, and its sender is 0
abbrev pub kind : Content → ℕ
kind (content.Request r) = 9
kind (content.Node node m) = node_kind m

abbrev pub sender : Content → ℕ
sender (content.Request r) = 0
sender (content.Node node m) = node

abbrev pub fields : Content → List ℕ
fields (content.Request r) = request r
fields (content.Node node m) = node_fields m

-- two letters and the version, the kind, the cluster and the sender
abbrev pub header : ℕ → ℕ → ℕ → List ℕ
header k cluster from = 76 ∷ 75 ∷ 1 ∷ k ∷ (eight cluster ++ four from)

-- the bytes of a datagram
abbrev pub spelling : Message → List ℕ
spelling m = header (kind m.content) m.cluster (sender m.content) ++ fields m.content

-- how many votes a node's message has: none if it is no Promise
abbrev pub node_vote_count : NodeMessage → ℕ
node_vote_count (kinds.Promise p) = length p.votes
node_vote_count _ = 0

-- how many votes a message has
abbrev pub vote_count : Content → ℕ
vote_count (content.Request r) = 0
vote_count (content.Node node m) = node_vote_count m

-- ---- validity

abbrev pub IsNack : Nack → Type 0
IsNack n = IsRealBallot n.ballot × IsBallot n.promised × IsTotal n.executed

abbrev pub IsAnswered : Answered → Type 0
IsAnswered a = IsClient a.client × IsCount a.number × IsAnswer a.answer

abbrev pub IsElsewhere : Elsewhere → Type 0
IsElsewhere e = IsClient e.client × IsCount e.number × IsMember e.member

abbrev pub IsNodeMessage : NodeMessage → Type 0
IsNodeMessage (kinds.Prepare b first) = IsRealBallot b × IsCount first
IsNodeMessage (kinds.Promise p) = IsPromise p
IsNodeMessage (kinds.Accept v) = IsVote v
IsNodeMessage (kinds.Accepted v) = IsVote v
IsNodeMessage (kinds.Nack n) = IsNack n
IsNodeMessage (kinds.Decided d) = IsDecided d
IsNodeMessage (kinds.Want w) = IsWant w
IsNodeMessage (kinds.Part p) = IsPart p
IsNodeMessage (kinds.Answer a) = IsAnswered a
IsNodeMessage (kinds.Elsewhere e) = IsElsewhere e
IsNodeMessage (kinds.Passed p) = IsPassed p
IsNodeMessage (kinds.Lead b executed) = IsRealBallot b × IsTotal executed

abbrev pub IsContent : Content → Type 0
IsContent (content.Request r) = IsRequest r
IsContent (content.Node node m) = IsNode node × IsNodeMessage m

abbrev pub IsMessage : Message → Type 0
IsMessage m = (m.cluster < 2 ^ 64) × IsContent m.content

-- the grammar: the bytes are those of the message
abbrev pub Spells : Message → List ℕ → Type 0
Spells m bytes = IsMessage m × (bytes ≡ spelling m)
