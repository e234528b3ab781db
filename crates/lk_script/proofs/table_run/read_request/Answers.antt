use Rattle.lk_wire.specs.Shown.{shown}
use Rattle.lk_script.proofs.table_run.read_request.Goals as goal

pub returns-clause-other : goal.returns-clause-other
returns-clause-other c =
    λ none. (shown c.in_ok-message.message, c.in_ok-message.ensures.found, c.request_to.ensures.none none)
