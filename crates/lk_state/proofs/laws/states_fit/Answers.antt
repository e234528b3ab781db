use Rattle.lk_state.specs.Meanings.{Meaning, KeepsTexts}
use Rattle.lk_state.proofs.Wholes as law
use Rattle.lk_state.proofs.laws.states_fit.Goals as goal

pub returns : goal.returns
returns g c =
    let m : Meaning = g.M.Machine.meaning in
    let keeps : KeepsTexts g.M.Machine.IsText m =
    record {
      first = g.met.M.Machine.first_is_text;
      next = g.met.M.Machine.next_is_text;
      answer = g.met.M.Machine.answer_is_answer;
    } in
    law.states_fit g.M.Machine.IsText m keeps
