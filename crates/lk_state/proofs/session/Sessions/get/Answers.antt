-- The client's session stands after those of smaller clients.
use Rattle.std.proofs.Common.{◌∙◌, ap, sym, ℕ, List}
use Rattle.std.specs.Prelude.{slice_get}
use Rattle.lk_state.specs.Sessions.{Session, session_of, if_of_client}
use Rattle.lk_state.proofs.SessionLaws.{before, session_of-before}
use Rattle.lk_state.proofs.session.Sessions.get.Goals as goal

pub returns : goal.returns
returns c =
    let client : ℕ = c.args.client in
    let l : List Session = c.self.inside.list.items in
    c.session_at.ensures
    ∙ ap (λ (n : ℕ). if_of_client client (slice_get c.as_slice-sessions.result.now n)) c.index_of.ensures.index
    ∙ ap (λ (m : List Session). if_of_client client (slice_get m (before client m))) c.as_slice-sessions.ensures.value
    ∙ sym (session_of-before client 0 l c.self.invariant.1)
    ∙ ap (session_of client) c.self.view_is
