use Rattle.std.proofs.Common.{◌-◌, length, arith, sym}
use Rattle.std.proofs.lemmas.List.{take_all, drop_all, length-drop}
use Rattle.lk_auth.proofs.seals.behind_tag.Goals as goal

pub returns-then-frame-lt-OVERHEAD : goal.returns-then-frame-lt-OVERHEAD
returns-then-frame-lt-OVERHEAD c = sym (drop_all 36 c.args.frame.now (omega arith))

pub returns : goal.returns
returns c = take_all (length c.args.frame.now - 36) _ (omega (arith, length-drop 36 c.args.frame.now))
