use Rattle.lk_world_leftovers.proofs.Feeding.{fed_candidate_contends}
use Rattle.lk_world_leftovers.proofs.laws.a_fed_candidate_contends.Goals as goal

pub returns : goal.returns
returns g c = fed_candidate_contends g.M.Machine.meaning g.M.Machine.IsText
