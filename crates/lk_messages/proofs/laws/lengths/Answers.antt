use Rattle.lk_messages.proofs.Lengths.{request_is_short, command_is_short, vote_is_short, pair_is_short}
use Rattle.lk_messages.proofs.Lengths.{answer_is_short, few_votes_are_short, message_is_short}
use Rattle.lk_messages.proofs.laws.lengths.Goals as goal

pub returns : goal.returns
returns c = record {
  of_request = request_is_short;
  of_command = command_is_short;
  of_vote = vote_is_short;
  of_pair = pair_is_short;
  of_answer = answer_is_short;
  of_votes = few_votes_are_short;
  of_datagram = message_is_short;
}
