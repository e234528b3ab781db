use Rattle.lk_summed_disk.proofs.ChangeLaws.{written_text, written_sound, written_long}
use Rattle.lk_summed_disk.proofs.laws.what_is_written.Goals as goal

pub returns-clause-text : goal.returns-clause-text
returns-clause-text c = written_text

pub returns-clause-sound : goal.returns-clause-sound
returns-clause-sound c = written_sound

pub returns-clause-long : goal.returns-clause-long
returns-clause-long c = written_long
