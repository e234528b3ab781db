use Rattle.lk_server.proofs.Free.{unsealed_opens, empty_is_foreign}
use Rattle.lk_server.proofs.laws.unsealed_frames_are_ignored.Goals as goal

pub returns-clause-opens : goal.returns-clause-opens
returns-clause-opens c = unsealed_opens

pub returns-clause-ignored : goal.returns-clause-ignored
returns-clause-ignored c = empty_is_foreign
