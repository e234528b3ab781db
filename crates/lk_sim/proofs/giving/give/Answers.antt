use Rattle.std.proofs.Common.{◌≡◌, rules, sym, Err}
use Rattle.lk_sim_nodes.specs.Ends.{Breaks}
use Rattle.lk_sim.specs.Events.{LeftBy}
use Rattle.lk_sim_nodes.specs.SimNodes.{At}
use Rattle.lk_sim_nodes.specs.declared.sim_node.RunState.TheVariants.{Up}
use Rattle.lk_sim.specs.Worlds.{world_state_of}
use Rattle.lk_sim.proofs.Explaining.{lawful}
use Rattle.lk_sim.proofs.Doing.{at_same, given, taken_cases, taken_left, wanted, since, halted_holds, settled_holds}
use Rattle.lk_sim.proofs.Doing.{given_up_holds, given_up}
use Rattle.lk_sim.proofs.giving.give.Goals as goal

pub returns-in_err-outcome-clause-holds : goal.returns-in_err-outcome-clause-holds
returns-in_err-outcome-clause-holds g c =
    let p = c.args.parts.now in
    let s = c.index_mut.result.now in
    let at : At p.sim_nodes.items c.args.i s = (search rules, sym c.index_mut.ensures.value) in
    let v = since _ g.R.MemoryReplica.behaves _ p.genesis p.sim_nodes.items p.sent.items p.trace.items c.requires.holds
    c.args.i s c.step.new.sim_node at c.step.ensures.number c.args.asked in
    let u = c.requires.up.1 in
    let k = c.in_err-outcome.ensures.wants u.1 (rw (at_same _ _ _ _ at u.2) u.4) in
    halted_holds _ g.R.MemoryReplica.behaves _ p.genesis p.sim_nodes.items p.sent.items p.trace.items c.requires.holds
    c.args.i s c.step.new.sim_node at c.step.ensures.number c.args.asked c.step.new.sim_node
    c.step.ensures.number _ k.down
    (v.states s.number) (c.in_err-outcome.ensures.falls _ (v.states s.number) (lawful _ _ _ _ _ _ _ v)
    (v.as_sim_nodes c.args.i s at) c.requires.heard _ k.down)

pub returns-in_err-outcome-clause-halted : goal.returns-in_err-outcome-clause-halted
returns-in_err-outcome-clause-halted g c n u =
    let p = c.args.parts.now in
    let s = c.index_mut.result.now in
    let at : At p.sim_nodes.items c.args.i s = (search rules, sym c.index_mut.ensures.value) in
    let up : s.run_state ≡ Up u.1 = rw (at_same _ _ _ _ at u.2) u.4 in
    let k = c.in_err-outcome.ensures.wants u.1 up in
    let h = wanted (world_state_of p) (LeftBy g.R.MemoryReplica.behaves c.args.input)
    (Breaks g.R.MemoryReplica.behaves u.1 c.args.input) c.args.i n s c.step.new.sim_node at
    (rw (at_same _ _ _ _ at u.2) u.3) c.step.ensures.number k
    (u.1, k.ends.0, Err k.number, up, k.ends.1, k.ends.3, k.want) in
    search rules

pub returns-in_err-finish_call-clause-holds : goal.returns-in_err-finish_call-clause-holds
returns-in_err-finish_call-clause-holds g c =
    let p = c.args.parts.now in
    let s = c.index_mut.result.now in
    let at : At p.sim_nodes.items c.args.i s = (search rules, sym c.index_mut.ensures.value) in
    let v = since _ g.R.MemoryReplica.behaves _ p.genesis p.sim_nodes.items p.sent.items p.trace.items c.requires.holds
    c.args.i s c.step.new.sim_node at c.step.ensures.number c.args.asked in
    let u = c.requires.up.1 in
    let e = c.in_ok-outcome.ensures in
    given_up_holds _ g.R.MemoryReplica.behaves _ p.genesis p.sim_nodes.items p.sent.items p.trace.items c.requires.holds
    c.args.i s c.step.new.sim_node at c.step.ensures.number c.args.asked _ _
    (e.goes _ (v.states s.number) (lawful _ _ _ _ _ _ _ v) (v.as_sim_nodes c.args.i s at) c.requires.heard)
    (e.falls _ (v.states s.number) (lawful _ _ _ _ _ _ _ v) (v.as_sim_nodes c.args.i s at) c.requires.heard)
    (taken_cases g.R.MemoryReplica.behaves _ _ _ _ _ _ _ (e.exact u.1 (rw (at_same _ _ _ _ at u.2) u.4)))
    p.ended (world_state_of c.finish_call.new.parts) c.in_err-finish_call.ensures.err

pub returns-in_err-finish_call-clause-halted : goal.returns-in_err-finish_call-clause-halted
returns-in_err-finish_call-clause-halted g c n u =
    let p = c.args.parts.now in
    let s = c.index_mut.result.now in
    let at : At p.sim_nodes.items c.args.i s = (search rules, sym c.index_mut.ensures.value) in
    let up : s.run_state ≡ Up u.1 = rw (at_same _ _ _ _ at u.2) u.4 in
    let k = given_up g.R.MemoryReplica.behaves (world_state_of p) (world_state_of c.finish_call.new.parts)
    (LeftBy g.R.MemoryReplica.behaves c.args.input) _ _ c.args.i n s c.step.new.sim_node at
    (rw (at_same _ _ _ _ at u.2) u.3) c.step.ensures.number
    (taken_left g.R.MemoryReplica.behaves g.met.R.MemoryReplica.traps_alone u.1
    _ _ _ _ _ _ _ c.in_err-finish_call.ensures.wants up (c.in_ok-outcome.ensures.exact u.1 up))
    c.in_err-finish_call.ensures.err in
    search rules

pub returns-clause-holds : goal.returns-clause-holds
returns-clause-holds g c =
    let p = c.args.parts.now in
    let s = c.index_mut.result.now in
    let at : At p.sim_nodes.items c.args.i s = (search rules, sym c.index_mut.ensures.value) in
    let v = since _ g.R.MemoryReplica.behaves _ p.genesis p.sim_nodes.items p.sent.items p.trace.items c.requires.holds
    c.args.i s c.step.new.sim_node at c.step.ensures.number c.args.asked in
    let u = c.requires.up.1 in
    let e = c.in_ok-outcome.ensures in
    settled_holds _ g.R.MemoryReplica.behaves _ p.genesis p.sim_nodes.items p.sent.items p.trace.items c.requires.holds
    c.args.i s c.step.new.sim_node at c.step.ensures.number c.args.asked _ _
    (e.goes _ (v.states s.number) (lawful _ _ _ _ _ _ _ v) (v.as_sim_nodes c.args.i s at) c.requires.heard)
    (e.falls _ (v.states s.number) (lawful _ _ _ _ _ _ _ v) (v.as_sim_nodes c.args.i s at) c.requires.heard)
    (taken_cases g.R.MemoryReplica.behaves _ _ _ _ _ _ _ (e.exact u.1 (rw (at_same _ _ _ _ at u.2) u.4)))
    p.ended _ _ (world_state_of c.finish_call.new.parts) c.in_ok-finish_call.ensures.ok

pub returns-clause-given : goal.returns-clause-given
returns-clause-given g c n u =
    let p = c.args.parts.now in
    let s = c.index_mut.result.now in
    let at : At p.sim_nodes.items c.args.i s = (search rules, sym c.index_mut.ensures.value) in
    let v = since _ g.R.MemoryReplica.behaves _ p.genesis p.sim_nodes.items p.sent.items p.trace.items c.requires.holds
    c.args.i s c.step.new.sim_node at c.step.ensures.number c.args.asked in
    let goes = c.in_ok-outcome.ensures.goes _ (v.states s.number) (lawful _ _ _ _ _ _ _ v)
    (v.as_sim_nodes c.args.i s at) c.requires.heard in
    given g.R.MemoryReplica.behaves (world_state_of p)
    (world_state_of c.finish_call.new.parts) _ _ c.args.i n s c.step.new.sim_node u.1 _ _ _ _ _ _ at
    (rw (at_same _ _ _ _ at u.2) u.3) (rw (at_same _ _ _ _ at u.2) u.4) c.step.ensures.number
    (λ q up x k. ((goes q up).goes.noted x k).0)
    c.in_ok-finish_call.ensures.ok c.in_ok-outcome.ensures.told
    (c.in_ok-outcome.ensures.exact u.1 (rw (at_same _ _ _ _ at u.2) u.4))
