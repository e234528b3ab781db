-- What stands is that of the list with the command at its end.
use Rattle.std.proofs.Common.{◌∙◌, ap}
use Rattle.lk_state.specs.Meanings.{Meaning}
use Rattle.lk_state.specs.Runs.{ran}
use Rattle.lk_state.proofs.StateLaws.{ran-whole_after}
use Rattle.lk_state.proofs.ReplyLaws.{run_answer-reply_of}
use Rattle.lk_state.proofs.whole.Whole.run.Goals as goal

pub returns-clause-sums : goal.returns-clause-sums
returns-clause-sums g c = λ genesis L e.
    let m : Meaning = g.M.Machine.meaning in
    c.in_ok-answer.ensures.ok ∙ ap (ran m c.args.command.now) e ∙ ran-whole_after m genesis L c.args.command.now

pub returns-clause-reply : goal.returns-clause-reply
returns-clause-reply g c = λ genesis L e.
    let m : Meaning = g.M.Machine.meaning in
    c.in_ok-answer.ensures.answer ∙ run_answer-reply_of m genesis L c.args.command.now c.args.self.now e
