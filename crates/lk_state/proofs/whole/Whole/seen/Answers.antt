-- The client's session is its last request that takes effect.
use Rattle.std.proofs.Common.{◌∙◌, Option, ap}
use Rattle.lk_state.specs.Sessions.{Session, session_of}
use Rattle.lk_state.specs.States.{WholeValue}
use Rattle.lk_state.specs.Runs.{seen_as}
use Rattle.lk_state.proofs.StateLaws.{seen_last}
use Rattle.lk_state.proofs.whole.Whole.seen.Goals as goal

pub returns-clause-last : goal.returns-clause-last
returns-clause-last g c = λ genesis L e.
    let sessions_is = ap (λ (w : WholeValue). w.sessions) c.self.view_is in
    let last = seen_last g.M.Machine.meaning genesis L c.args.self.now c.args.client e in
    c.of.ensures ∙ ap (λ (o : Option Session). seen_as o c.args.number)
    (c.get.ensures ∙ ap (session_of c.args.client) sessions_is ∙ last)
