use Rattle.std.proofs.Common.{rules, ◌≡◌, refl, sym, append-nil}
use Rattle.lk_sim_nodes.specs.SimNodes.{At, IsSeatOf}
use Rattle.lk_sim.proofs.Doing.{at_same}
use Rattle.lk_sim.proofs.Given.{went_down}
use Rattle.lk_sim.proofs.lives.fail_at.Goals as goal

pub returns-clause-holds : goal.returns-clause-holds
returns-clause-holds g c =
    let p = c.args.parts.now in
    let w = c.requires in
    let s = c.index_mut.result.now in
    let at : At p.sim_nodes.items c.in_ok-i.i s = (search rules, sym c.index_mut.ensures.value) in
    went_down _ _ _ p.genesis p.sim_nodes.items p.sent.items p.trace.items w c.in_ok-i.i s c.set_trap.new.sim_node at
    c.set_trap.ensures.number
    (c.set_trap.ensures.fits _ (w.states s.number) (w.as_sim_nodes c.in_ok-i.i s at))

pub returns-clause-ok : goal.returns-clause-ok
returns-clause-ok g c =
    let p = c.args.parts.now in
    let s = c.index_mut.result.now in
    let u : IsSeatOf p.sim_nodes.items c.in_ok-i.i c.args.number = search rules in
    let same : u.0 ≡ s = at_same _ _ _ _ u.1 (u.1.0, sym c.index_mut.ensures.value) in (
      (u.0.run_state, (c.in_ok-i.i, u.0, u.1, u.2, refl)),
      record {
        sim_node = u.0;
        number = u.2;
        next = c.set_trap.new.sim_node;
        replaces = record {
          index = c.in_ok-i.i;
          at = u.1;
          number =
              rw same c.set_trap.ensures.number;
          sim_nodes = refl;
        };
        trapped = rw same c.set_trap.ensures.trapped;
        adds = record { genesis = refl; sent = sym (append-nil _); trace = sym (append-nil _) };
        ended = refl;
      },
    )
