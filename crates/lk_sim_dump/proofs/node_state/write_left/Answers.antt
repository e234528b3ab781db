use Rattle.std.proofs.Common.{[]}
use Rattle.lk_types.proofs.Appending.{appends_nothing}
use Rattle.lk_sim_dump.proofs.node_state.write_left.Goals as goal

pub returns-in_default : goal.returns-in_default
returns-in_default g c = ([], appends_nothing (g.W.Write.contents c.args.out.now))
