-- How long a spelling can be.
use Rattle.std.proofs.Common.{◌≡◌, ℕ, ◌+◌, ◌*◌, ◌≤◌, true, List, [], ◌∷◌, length, arith}
use Rattle.std.specs.List.{flat_map, AllByRecursion}
use Rattle.std.proofs.lemmas.Bool.Decides.{nat_tests}
use Rattle.std.proofs.lemmas.List.{length-append}
use Rattle.std.proofs.lemmas.List.Concat.{flat_map-cons}
use Rattle.lk_types.specs.BallotValue.{BallotValue}
use Rattle.lk_types.specs.Commands.{IsOp, IsRequest, IsCommand}
use Rattle.lk_types.specs.Votes.{IsVote}
use Rattle.lk_types.specs.declared.answer.Answer.{Answer}
use Rattle.lk_types.specs.declared.answer.Answer.TheVariants as answers
use Rattle.lk_types.specs.declared.command.Op.{Op}
use Rattle.lk_types.specs.declared.command.Op.TheVariants.{Table, Join, Leave, Raise}
use Rattle.lk_types.specs.declared.command.Request.{Request as RequestValue}
use Rattle.lk_types.specs.declared.command.Command.{Command}
use Rattle.lk_types.specs.declared.command.Command.TheVariants.{Noop, Request}
use Rattle.lk_types.specs.declared.member.Member.{Member}
use Rattle.lk_types.specs.declared.vote.Vote.{Vote}
use Rattle.lk_messages.specs.Values.{are_votes_from, are_commands_from}
use Rattle.lk_messages.specs.declared.message.NodeMessage.{NodeMessage}
use Rattle.lk_messages.specs.declared.message.NodeMessage.TheVariants as kinds
use Rattle.lk_messages.specs.declared.message.Content.{Content}
use Rattle.lk_messages.specs.declared.message.Content.TheVariants as content
use Rattle.lk_messages.specs.declared.message.Message.{Message}
use Rattle.lk_codec.specs.Fields.{ballot, member, op, request, command, vote, pair, answer}
use Rattle.lk_codec.proofs.Spellings.{length-two, length-four, length-eight}
use Rattle.lk_messages.specs.Grammar.{node_fields, fields, header, spelling, kind, sender, node_vote_count}
use Rattle.lk_messages.specs.Grammar.{vote_count, IsNodeMessage, IsContent, IsMessage}

pub length-ballot : (b : BallotValue) → length (ballot b) ≡ 12
length-ballot b = simp (length-append, length-four, length-eight)

pub length-member : (m : Member) → length (member m) ≡ 6
length-member m = simp (length-append, length-two, length-four)

op_is_short : (o : Op) → IsOp o → length (op o) ≤ 66
op_is_short (Table bytes) f = omega (arith, f)
op_is_short (Join node port) f = simp (length-append, length-two, length-four) (omega arith)
op_is_short (Leave node) f = simp length-four (omega arith)
op_is_short Raise f = omega arith

pub request_is_short : (r : RequestValue) → IsRequest r → length (request r) ≤ 76
request_is_short r f = simp (length-append, length-two, length-eight) (omega (arith, op_is_short r.op f.2))

pub command_is_short : (c : Command) → IsCommand c → length (command c) ≤ 77
command_is_short Noop f = omega arith
command_is_short (Request r) f = omega (arith, request_is_short r f)

pub vote_is_short : (v : Vote) → IsVote v → length (vote v) ≤ 97
vote_is_short v f = simp (length-append, length-four, length-eight) (omega (arith, command_is_short v.command f.2))

pub pair_is_short : (p : ℕ × Command) → IsCommand p.1 → length (pair p) ≤ 85
pair_is_short p f = simp (length-append, length-eight) (omega (arith, command_is_short p.1 f))

pub answer_is_short : (a : Answer) → length (answer a) ≤ 11
answer_is_short (answers.Granted fence) = simp length-eight (omega arith)
answer_is_short (answers.Busy client fence) = simp (length-append, length-two, length-eight) (omega arith)
answer_is_short (answers.Free fence) = simp length-eight (omega arith)
answer_is_short (answers.Shared fence) = simp length-eight (omega arith)
answer_is_short (answers.HeldShared count fence) = simp (length-append, length-eight) (omega arith)
answer_is_short (answers.Held client fence) = simp (length-append, length-two, length-eight) (omega arith)
answer_is_short _ = omega arith

-- so many things are at most so many times as long as the longest
pub flat_map_is_short : {X : Type 0} (s : X → List ℕ) (F : X → Type 0) (most : ℕ)
    → ((x : X) → F x → length (s x) ≤ most) → (xs : List X) → AllByRecursion F xs
    → length (flat_map s xs) ≤ most * length xs
flat_map_is_short s F most short [] f = omega arith
flat_map_is_short s F most short (x ∷ xs) f =
    rw (flat_map-cons s x xs, length-append) (omega (arith, short x f.0, flat_map_is_short s F most short xs f.1))

-- ---- messages

pub few_votes : (first : ℕ) (vs : List Vote) → are_votes_from first vs ≡ true → length vs ≤ 128
few_votes first vs e = grind (arith, nat_tests)

pub few_commands : (first : ℕ) (cs : List Command) → are_commands_from first cs ≡ true → length cs ≤ 16
few_commands first cs e = grind (arith, nat_tests)

votes_are_short : (most : ℕ) (vs : List Vote) → AllByRecursion IsVote vs → length vs ≤ most
    → length (flat_map vote vs) ≤ 97 * most
votes_are_short most vs f few = omega (arith, flat_map_is_short vote IsVote 97 vote_is_short vs f, few)

commands_are_short : (first : ℕ) (cs : List Command) → AllByRecursion IsCommand cs → are_commands_from first cs ≡ true
    → length (flat_map command cs) ≤ 1232
commands_are_short first cs f e =
    omega (arith, flat_map_is_short command IsCommand 77 command_is_short cs f, few_commands first cs e)

-- with 13 votes a Promise is longer than any other message of a node
node_fields_are_short : (most : ℕ) → 13 ≤ most → (m : NodeMessage) → IsNodeMessage m → node_vote_count m ≤ most
    → length (node_fields m) ≤ 21 + 97 * most
node_fields_are_short most least (kinds.Prepare b first) f few =
    simp (length-append, length-four, length-eight) (omega (arith, least))
node_fields_are_short most least (kinds.Promise p) f few =
    simp (length-append, length-four, length-eight) (omega (arith, votes_are_short most p.votes f.2 few))
node_fields_are_short most least (kinds.Accept v) f few =
    simp (length-append, length-four, length-eight) (omega (arith, least, command_is_short v.command f.2))
node_fields_are_short most least (kinds.Accepted v) f few =
    simp (length-append, length-four, length-eight) (omega (arith, least, command_is_short v.command f.2))
node_fields_are_short most least (kinds.Nack n) f few =
    simp (length-append, length-four, length-eight) (omega (arith, least))
node_fields_are_short most least (kinds.Decided d) f few =
    simp (length-append, length-eight) (omega (arith, least, commands_are_short d.first d.commands f.1 f.2))
node_fields_are_short most least (kinds.Want w) f few =
    simp (length-append, length-four, length-eight) (omega (arith, least))
node_fields_are_short most least (kinds.Part p) f few =
    simp (length-append, length-two, length-four, length-eight) (omega (arith, least, f.1))
node_fields_are_short most least (kinds.Answer a) f few =
    simp (length-append, length-two, length-eight) (omega (arith, least, answer_is_short a.answer))
node_fields_are_short most least (kinds.Elsewhere e) f few =
    simp (length-append, length-two, length-four, length-eight) (omega (arith, least))
node_fields_are_short most least (kinds.Passed p) f few =
    simp (length-append, length-two, length-eight) (omega (arith, least))
node_fields_are_short most least (kinds.Lead b executed) f few =
    simp (length-append, length-four, length-eight) (omega (arith, least))

fields_are_short : (most : ℕ) → 13 ≤ most → (c : Content) → IsContent c → vote_count c ≤ most
    → length (fields c) ≤ 21 + 97 * most
fields_are_short most least (content.Request r) f few = omega (arith, least, request_is_short r f)
fields_are_short most least (content.Node node m) f few = node_fields_are_short most least m f.1 few

length-header : (k cluster from : ℕ) → length (header k cluster from) ≡ 16
length-header k cluster from = simp (length-append, length-four, length-eight)

pub few_votes_are_short : (m : Message) (most : ℕ) → IsMessage m → 13 ≤ most → vote_count m.content ≤ most
    → length (spelling m) ≤ 37 + 97 * most
few_votes_are_short m most f least few = omega (
  arith,
  length-append (header (kind m.content) m.cluster (sender m.content)) (fields m.content),
  length-header (kind m.content) m.cluster (sender m.content),
  fields_are_short most least m.content f.1 few,
)

few_of_node : (m : NodeMessage) → IsNodeMessage m → node_vote_count m ≤ 128
few_of_node (kinds.Promise p) f = few_votes p.first p.votes f.3
few_of_node _ f = omega arith

few_of : (c : Content) → IsContent c → vote_count c ≤ 128
few_of (content.Request r) f = omega arith
few_of (content.Node node m) f = few_of_node m f.1

pub message_is_short : (m : Message) → IsMessage m → length (spelling m) ≤ 12453
message_is_short m f = few_votes_are_short m 128 f (omega arith) (few_of m.content f.1)
