use Rattle.lk_sim.proofs.Explaining.{asked, explains, agree, states, ordered, told_in_time}
use Rattle.lk_sim.proofs.Keeping.{room, covered, kept}
use Rattle.lk_sim.proofs.world.World.facts.Goals as goal

pub returns : goal.returns
returns g c =
    let p = c.self.inside.parts in
    let w = c.self.invariant.0 in
    record {
      guaranteed = rw (← c.self.view_is) (record {
        explained = (w.list, w.chosen, explains _ _ _ p.genesis p.sim_nodes.items p.sent.items p.trace.items w);
        asked = asked _ _ _ p.genesis p.sim_nodes.items p.sent.items p.trace.items w;
        agree = agree _ _ _ p.genesis p.sim_nodes.items p.sent.items p.trace.items w;
        told = w.told;
        states = states _ _ _ p.genesis p.sim_nodes.items p.sent.items p.trace.items w _ g.met.R.MemoryReplica.sums_up;
        covered = covered _ _ _ p.genesis p.sim_nodes.items p.sent.items p.trace.items w;
        kept = λ L i v chosen. kept _ _ _ p.genesis p.sim_nodes.items p.sent.items p.trace.items w L chosen i v;
        order = ordered _ _ _ p.genesis p.sim_nodes.items p.sent.items p.trace.items w;
        told_in_time = told_in_time _ _ _ p.genesis p.sim_nodes.items p.sent.items p.trace.items w;
        ballots = record { own = w.world.sound.own; once = w.world.sound.one_value };
        room = room _ _ _ p.genesis p.sim_nodes.items p.sent.items p.trace.items w;
      });
      keeps = rw (← c.self.view_is) w;
    }
