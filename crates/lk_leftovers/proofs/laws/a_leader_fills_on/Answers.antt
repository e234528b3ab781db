use Rattle.lk_leftovers.proofs.Filling.{fills_on}
use Rattle.lk_leftovers.proofs.laws.a_leader_fills_on.Goals as goal

pub returns : goal.returns
returns g c = fills_on c.an_elected_leader_has_proposed.ensures g.M.Machine.meaning g.M.Machine.IsText
    c.a_leader_leads_on.ensures
