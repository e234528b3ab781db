use Rattle.lk_types.proofs.Appending.{appends_more}
use Rattle.lk_status_reasons.proofs.state_reason.write_rivalled.Goals as goal

pub returns : goal.returns
returns g c =
    appends_more _ _ _ _ _ c.in_ok-write_front.ensures
    (appends_more _ _ _ _ _ c.in_ok-write_others.ensures c.in_ok-write_all.ensures.bytes)
