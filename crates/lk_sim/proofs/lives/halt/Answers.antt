use Rattle.std.proofs.Common.{rules, ◌≡◌, ◌∙◌, refl, ap, sym, append-nil}
use Rattle.lk_sim_nodes.specs.SimNodes.{At, IsUpAt, stopped_on, device_in}
use Rattle.lk_sim_nodes.specs.declared.sim_node.RunState.{RunState}
use Rattle.lk_sim_nodes.specs.declared.sim_node.RunState.TheVariants.{Up, Down}
use Rattle.lk_sim.proofs.Doing.{at_same}
use Rattle.lk_sim.proofs.Given.{went_down}
use Rattle.lk_sim.proofs.lives.halt.Goals as goal

pub returns-clause-holds : goal.returns-clause-holds
returns-clause-holds g c =
    let p = c.args.parts.now in
    let w = c.requires in
    let s = c.index_mut.result.now in
    let at : At p.sim_nodes.items c.in_ok-i.i s = (search rules, sym c.index_mut.ensures.value) in
    went_down _ _ _ p.genesis p.sim_nodes.items p.sent.items p.trace.items w c.in_ok-i.i s
    c.stop.new.sim_node at c.stop.ensures.number
    (c.stop.ensures.fits _ (w.states s.number) (w.as_sim_nodes c.in_ok-i.i s at))

pub returns-clause-ok : goal.returns-clause-ok
returns-clause-ok g c =
    let p = c.args.parts.now in
    let s = c.index_mut.result.now in
    let u : IsUpAt p.sim_nodes.items c.in_ok-i.i c.args.number = search rules in
    let at : At p.sim_nodes.items c.in_ok-i.i s = (u.2.0, sym c.index_mut.ensures.value) in
    let same : u.0 ≡ s = at_same _ _ _ _ u.2 at in
    let up : s.run_state ≡ Up u.1 = rw (sym same) u.4 in (
      (u.1, (c.in_ok-i.i, u.0, u.2, u.3, u.4)),
      record {
        sim_node = u.0;
        number = u.3;
        replica = u.1;
        up = u.4;
        next = c.stop.new.sim_node;
        replaces = record { index = c.in_ok-i.i; at = u.2; number = rw same c.stop.ensures.number; sim_nodes = refl };
        down = c.stop.ensures.stopped
            ∙ ap (λ (z : RunState g.row.R.Denot). Down
            (stopped_on c.args.x c.args.y (device_in g.R.MemoryReplica.behaves z))) up;
        adds = record { genesis = refl; sent = sym (append-nil _); trace = sym (append-nil _) };
        ended = refl;
      },
    )
