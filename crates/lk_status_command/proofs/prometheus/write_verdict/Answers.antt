use Rattle.lk_types.proofs.Appending.{appends_more}
use Rattle.lk_status_command.proofs.prometheus.write_verdict.Goals as goal

pub returns : goal.returns
returns g c =
    appends_more _ _ _ _ _ c.in_ok-write_served.ensures
    (appends_more _ _ _ _ _ c.in_ok-write_genesis.ensures
    (appends_more _ _ _ _ _ c.in_ok-write_one_state.ensures c.in_ok-write_members_up.ensures))
