-- The roster, the sessions and the machine begin as those of the empty list.
use Rattle.lk_state.proofs.StateLaws.{whole_after-begin}
use Rattle.lk_state.proofs.whole.Whole.begin.Goals as goal

pub returns : goal.returns
returns g c =
    whole_after-begin g.M.Machine.meaning c.args.genesis.now _ c.begin-roster.ensures c.new.ensures c.begin.ensures
