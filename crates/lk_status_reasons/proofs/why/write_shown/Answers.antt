use Rattle.lk_types.proofs.Appending.{appends_more}
use Rattle.lk_status_reasons.proofs.why.write_shown.Goals as goal

pub returns : goal.returns
returns g c =
    appends_more _ _ _ _ _ c.in_ok-write_geneses.ensures
    (appends_more _ _ _ _ _ c.in_ok-write_states.ensures
    (appends_more _ _ _ _ _ c.in_ok-write_reasons.ensures c.in_ok-write_bundles.ensures))
