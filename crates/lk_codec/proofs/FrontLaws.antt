-- What a reader of each field finds is what stands at the front.
use Rattle.std.proofs.Common.{ℕ, ◌^◌, ◌<◌, List, Option}
use Rattle.std.specs.List.{AllByRecursion}
use Rattle.lk_types.specs.Ranges.{IsNode, IsClient, IsPort, IsCount, IsTotal}
use Rattle.lk_types.specs.BallotValue.{BallotValue}
use Rattle.lk_types.specs.Ballots.{IsRealBallot, IsBallot}
use Rattle.lk_types.specs.Rosters.{IsMember, AreMembers}
use Rattle.lk_types.specs.Commands.{IsOp, IsRequest, IsCommand}
use Rattle.lk_types.specs.Votes.{IsVote}
use Rattle.lk_types.specs.Answers.{IsAnswer}
use Rattle.lk_types.specs.declared.answer.Answer.{Answer}
use Rattle.lk_types.specs.declared.command.Op.{Op}
use Rattle.lk_types.specs.declared.command.Request.{Request as RequestValue}
use Rattle.lk_types.specs.declared.command.Command.{Command}
use Rattle.lk_types.specs.declared.member.Member.{Member}
use Rattle.lk_types.specs.declared.vote.Vote.{Vote}
use Rattle.lk_codec.specs.Fields.{one, two, four, eight, ballot, member, members, op, request, command, vote, answer}
use Rattle.lk_codec.specs.Fronts.{ReadsFront}
use Rattle.lk_codec.specs.Parser.{Finds, read_byte}
use Rattle.lk_codec.specs.FieldReading.{read_two, read_four, read_eight, read_node, read_client, read_port, read_count}
use Rattle.lk_codec.specs.FieldReading.{read_total, read_ballot, read_any_ballot, read_member, read_members, read_op}
use Rattle.lk_codec.specs.FieldReading.{read_request, read_command, read_vote, read_answer}
use Rattle.lk_codec.proofs.Codec.{IsBytes, byte_reads, front_is}
use Rattle.lk_codec.proofs.NumberLaws.{two_reads, four_reads, eight_reads}
use Rattle.lk_codec.proofs.FieldLaws.{node_reads, client_reads, port_reads, count_reads, total_reads, ballot_reads}
use Rattle.lk_codec.proofs.FieldLaws.{mark_reads, member_reads, members_reads, op_reads, request_reads, command_reads}
use Rattle.lk_codec.proofs.FieldLaws.{vote_reads, answer_reads}

module _ {Y : Type 0} where
  pub one_front : (view : Y → ℕ × List ℕ) (bytes : List ℕ) (result : Option Y) → IsBytes bytes
      → Finds view result (read_byte bytes) → ReadsFront view one (λ n. n < 256) bytes result
  one_front = front_is read_byte one (λ n. n < 256) byte_reads

  pub two_front : (view : Y → ℕ × List ℕ) (bytes : List ℕ) (result : Option Y) → IsBytes bytes
      → Finds view result (read_two bytes) → ReadsFront view two (λ n. n < 2 ^ 16) bytes result
  two_front = front_is read_two two (λ n. n < 2 ^ 16) two_reads

  pub four_front : (view : Y → ℕ × List ℕ) (bytes : List ℕ) (result : Option Y) → IsBytes bytes
      → Finds view result (read_four bytes) → ReadsFront view four (λ n. n < 2 ^ 32) bytes result
  four_front = front_is read_four four (λ n. n < 2 ^ 32) four_reads

  pub eight_front : (view : Y → ℕ × List ℕ) (bytes : List ℕ) (result : Option Y) → IsBytes bytes
      → Finds view result (read_eight bytes) → ReadsFront view eight (λ n. n < 2 ^ 64) bytes result
  eight_front = front_is read_eight eight (λ n. n < 2 ^ 64) eight_reads

  pub node_front : (view : Y → ℕ × List ℕ) (bytes : List ℕ) (result : Option Y) → IsBytes bytes
      → Finds view result (read_node bytes) → ReadsFront view four IsNode bytes result
  node_front = front_is read_node four IsNode node_reads

  pub client_front : (view : Y → ℕ × List ℕ) (bytes : List ℕ) (result : Option Y) → IsBytes bytes
      → Finds view result (read_client bytes) → ReadsFront view two IsClient bytes result
  client_front = front_is read_client two IsClient client_reads

  pub port_front : (view : Y → ℕ × List ℕ) (bytes : List ℕ) (result : Option Y) → IsBytes bytes
      → Finds view result (read_port bytes) → ReadsFront view two IsPort bytes result
  port_front = front_is read_port two IsPort port_reads

  pub count_front : (view : Y → ℕ × List ℕ) (bytes : List ℕ) (result : Option Y) → IsBytes bytes
      → Finds view result (read_count bytes) → ReadsFront view eight IsCount bytes result
  count_front = front_is read_count eight IsCount count_reads

  pub total_front : (view : Y → ℕ × List ℕ) (bytes : List ℕ) (result : Option Y) → IsBytes bytes
      → Finds view result (read_total bytes) → ReadsFront view eight IsTotal bytes result
  total_front = front_is read_total eight IsTotal total_reads

  pub ballot_front : (view : Y → BallotValue × List ℕ) (bytes : List ℕ) (result : Option Y) → IsBytes bytes
      → Finds view result (read_ballot bytes) → ReadsFront view ballot IsRealBallot bytes result
  ballot_front = front_is read_ballot ballot IsRealBallot ballot_reads

  pub mark_front : (view : Y → BallotValue × List ℕ) (bytes : List ℕ) (result : Option Y) → IsBytes bytes
      → Finds view result (read_any_ballot bytes) → ReadsFront view ballot IsBallot bytes result
  mark_front = front_is read_any_ballot ballot IsBallot mark_reads

  pub member_front : (view : Y → Member × List ℕ) (bytes : List ℕ) (result : Option Y) → IsBytes bytes
      → Finds view result (read_member bytes) → ReadsFront view member IsMember bytes result
  member_front = front_is read_member member IsMember member_reads

  pub members_front : (view : Y → List Member × List ℕ) (bytes : List ℕ) (result : Option Y) → IsBytes bytes
      → Finds view result (read_members bytes)
      → ReadsFront view members (λ (ms : List Member). AreMembers ms × AllByRecursion IsMember ms) bytes result
  members_front =
      front_is read_members members (λ (ms : List Member). AreMembers ms × AllByRecursion IsMember ms) members_reads

  pub op_front : (view : Y → Op × List ℕ) (bytes : List ℕ) (result : Option Y) → IsBytes bytes
      → Finds view result (read_op bytes) → ReadsFront view op IsOp bytes result
  op_front = front_is read_op op IsOp op_reads

  pub request_front : (view : Y → RequestValue × List ℕ) (bytes : List ℕ) (result : Option Y) → IsBytes bytes
      → Finds view result (read_request bytes) → ReadsFront view request IsRequest bytes result
  request_front = front_is read_request request IsRequest request_reads

  pub command_front : (view : Y → Command × List ℕ) (bytes : List ℕ) (result : Option Y) → IsBytes bytes
      → Finds view result (read_command bytes) → ReadsFront view command IsCommand bytes result
  command_front = front_is read_command command IsCommand command_reads

  pub vote_front : (view : Y → Vote × List ℕ) (bytes : List ℕ) (result : Option Y) → IsBytes bytes
      → Finds view result (read_vote bytes) → ReadsFront view vote IsVote bytes result
  vote_front = front_is read_vote vote IsVote vote_reads

  pub answer_front : (view : Y → Answer × List ℕ) (bytes : List ℕ) (result : Option Y) → IsBytes bytes
      → Finds view result (read_answer bytes) → ReadsFront view answer IsAnswer bytes result
  answer_front = front_is read_answer answer IsAnswer answer_reads
