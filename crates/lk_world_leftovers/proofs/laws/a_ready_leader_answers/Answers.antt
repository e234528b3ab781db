use Rattle.lk_state.specs.Meanings.{KeepsTexts}
use Rattle.lk_world_leftovers.proofs.Serving.{ready_answers}
use Rattle.lk_world_leftovers.proofs.laws.a_ready_leader_answers.Goals as goal

pub returns : goal.returns
returns g c =
    let keeps : KeepsTexts g.M.Machine.IsText g.M.Machine.meaning =
    record {
      first = g.met.M.Machine.first_is_text;
      next = g.met.M.Machine.next_is_text;
      answer = g.met.M.Machine.answer_is_answer;
    } in
    ready_answers g.M.Machine.meaning g.M.Machine.IsText keeps c.a_fresh_request_is_proposed.ensures
    c.a_near_node_accepts.ensures c.an_accepted_request_is_answered.ensures
