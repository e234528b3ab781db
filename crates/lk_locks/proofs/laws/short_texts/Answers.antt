use Rattle.lk_locks.specs.PackedLaws.{short}
use Rattle.lk_locks.proofs.laws.short_texts.Goals as goal

pub returns : goal.returns
returns c = short
