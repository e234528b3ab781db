use Rattle.lk_sim_dump.proofs.Printing.{prints_more}
use Rattle.lk_sim_dump.proofs.node_state.run_and_write.Goals as goal

pub returns : goal.returns
returns g c =
    prints_more g.M.MemoryReplica.behaves c.in_ok-mode.mode c.write_left.result (g.R.Read.remaining c.args.reader.now)
    (g.W.Write.contents c.args.out.now) (g.W.Write.contents c.run_script.new.writer)
    (g.W.Write.contents c.write_left.new.out)
    c.in_ok-mode.ensures.ok c.write_left.ensures
