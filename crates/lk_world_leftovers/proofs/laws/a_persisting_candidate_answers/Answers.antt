use Rattle.lk_world_leftovers.proofs.Persisting.{persisting_answers}
use Rattle.lk_world_leftovers.proofs.laws.a_persisting_candidate_answers.Goals as goal

pub returns : goal.returns
returns g c = persisting_answers g.M.Machine.meaning g.M.Machine.IsText c.rejections_are_few.ensures
    c.a_fixed_world_has_leftovers.ensures c.fresh_requests_are_new.ensures c.a_world_with_leftovers_answers.ensures
