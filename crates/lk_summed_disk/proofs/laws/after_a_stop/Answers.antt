use Rattle.lk_summed_disk.proofs.ChangeLaws.{stop_sound, stop_leaves}
use Rattle.lk_summed_disk.proofs.laws.after_a_stop.Goals as goal

pub returns-clause-sound : goal.returns-clause-sound
returns-clause-sound c = stop_sound

pub returns-clause-leaves : goal.returns-clause-leaves
returns-clause-leaves c = stop_leaves
