use Rattle.lk_state.specs.Meanings.{KeepsTexts}
use Rattle.lk_world_progress.proofs.Exchanging.{quiet_world_answers}
use Rattle.lk_world_progress.proofs.laws.a_quiet_world_answers.Goals as goal

pub returns : goal.returns
returns g c =
    let keeps : KeepsTexts g.M.Machine.IsText g.M.Machine.meaning =
    record {
      first = g.met.M.Machine.first_is_text;
      next = g.met.M.Machine.next_is_text;
      answer = g.met.M.Machine.answer_is_answer;
    } in
    quiet_world_answers g.M.Machine.meaning g.M.Machine.IsText keeps c.a_quiet_majority_answers.ensures
