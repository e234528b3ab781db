use Rattle.std.proofs.Common.{◌≡◌, rules, sym, subst, Err, None, []}
use Rattle.lk_memory_disk.specs.Memory.{disk_of}
use Rattle.lk_node.specs.Leavings.{DisksFit}
use Rattle.lk_sim_nodes.specs.Ends.{BreaksTogether}
use Rattle.lk_sim.specs.Events.{LeftByGroup}
use Rattle.lk_sim_nodes.specs.Rooms.{AreShort}
use Rattle.lk_sim_nodes.specs.SimNodes.{At, device_in}
use Rattle.lk_sim.specs.Traces.{happened}
use Rattle.lk_sim_nodes.specs.declared.sim_node.RunState.{RunState}
use Rattle.lk_sim_nodes.specs.declared.sim_node.RunState.TheVariants.{Up}
use Rattle.lk_sim.specs.Worlds.{world_state_of}
use Rattle.lk_sim.proofs.Explaining.{lawful}
use Rattle.lk_sim.proofs.Doing.{at_same, wanted, given_up}
use Rattle.lk_sim.proofs.GivenTogether.{all_heard, down_holds, settled_steps_hold, given_up_still, given_together}
use Rattle.lk_sim.proofs.GivenTogether.{group_left, all_own}
use Rattle.lk_sim.proofs.group.give_all.Goals as goal

pub returns-in_err-outcome-clause-holds : goal.returns-in_err-outcome-clause-holds
returns-in_err-outcome-clause-holds g c =
    let p = c.args.parts.now in
    let s = c.index_mut.result.now in
    let at : At p.sim_nodes.items c.args.i s = (search rules, sym c.index_mut.ensures.value) in
    let w = c.requires.holds in
    let b = g.R.MemoryReplica.behaves in
    let u = c.requires.up.1 in
    let k = c.in_err-outcome.ensures.wants u.1 (rw (at_same _ _ _ _ at u.2) u.4) in
    let left = c.step_all.ensures.leaves _ (w.states s.number) (lawful _ _ _ _ _ _ _ w) (w.as_sim_nodes c.args.i s at)
    (all_heard _ _ _ p.genesis p.sim_nodes.items p.sent.items p.trace.items w _ c.requires.heard) in
    down_holds _ b _ p.genesis p.sim_nodes.items p.sent.items p.trace.items w c.args.i s c.step_all.new.sim_node at
    c.step_all.ensures.number c.step_all.new.sim_node c.step_all.ensures.number _ k.down
    (subst (λ (l : RunState g.row.R.Denot). DisksFit g.R.MemoryReplica.meaning
    (happened p.genesis p.sent.items p.trace.items) c.step_all.new.sim_node.number (disk_of (device_in b l)))
    k.down left.0)
    (subst (λ (l : RunState g.row.R.Denot). AreShort (disk_of (device_in b l))) k.down left.1)

pub returns-in_err-outcome-clause-halted : goal.returns-in_err-outcome-clause-halted
returns-in_err-outcome-clause-halted g c n u =
    let p = c.args.parts.now in
    let s = c.index_mut.result.now in
    let at : At p.sim_nodes.items c.args.i s = (search rules, sym c.index_mut.ensures.value) in
    let up : s.run_state ≡ Up u.1 = rw (at_same _ _ _ _ at u.2) u.4 in
    let given = c.args.inputs.items in
    let k = c.in_err-outcome.ensures.wants u.1 up in
    let h = wanted (world_state_of p) (LeftByGroup g.R.MemoryReplica.behaves given)
    (BreaksTogether g.R.MemoryReplica.behaves u.1 given) c.args.i n s c.step_all.new.sim_node at
    (rw (at_same _ _ _ _ at u.2) u.3) c.step_all.ensures.number k
    (u.1, k.ends.0, Err k.number, up, k.ends.1, k.ends.3, k.want) in
    search rules

pub returns-in_err-finish_group-clause-holds : goal.returns-in_err-finish_group-clause-holds
returns-in_err-finish_group-clause-holds g c =
    let p = c.args.parts.now in
    let s = c.index_mut.result.now in
    let at : At p.sim_nodes.items c.args.i s = (search rules, sym c.index_mut.ensures.value) in
    let w = c.requires.holds in
    let left = c.step_all.ensures.leaves _ (w.states s.number) (lawful _ _ _ _ _ _ _ w) (w.as_sim_nodes c.args.i s at)
    (all_heard _ _ _ p.genesis p.sim_nodes.items p.sent.items p.trace.items w _ c.requires.heard) in
    given_up_still _ g.R.MemoryReplica.behaves _ p.genesis p.sim_nodes.items p.sent.items p.trace.items w c.args.i s
    c.step_all.new.sim_node at c.step_all.ensures.number p.ended [] [] None None
    (world_state_of c.finish_group.new.parts) left.0 left.1 c.in_err-finish_group.ensures.err

pub returns-in_err-finish_group-clause-halted : goal.returns-in_err-finish_group-clause-halted
returns-in_err-finish_group-clause-halted g c n u =
    let p = c.args.parts.now in
    let s = c.index_mut.result.now in
    let at : At p.sim_nodes.items c.args.i s = (search rules, sym c.index_mut.ensures.value) in
    let up : s.run_state ≡ Up u.1 = rw (at_same _ _ _ _ at u.2) u.4 in
    let b = g.R.MemoryReplica.behaves in
    let k = given_up b (world_state_of p) (world_state_of c.finish_group.new.parts)
    (LeftByGroup b c.args.inputs.items) _ _ c.args.i n s c.step_all.new.sim_node at
    (rw (at_same _ _ _ _ at u.2) u.3) c.step_all.ensures.number
    (group_left b g.met.R.MemoryReplica.traps_alone u.1 _ _ _ _ _ _ _ c.in_err-finish_group.ensures.wants up
    (c.in_ok-outcome.ensures.exact u.1 up)) c.in_err-finish_group.ensures.err in
    search rules

pub returns-clause-holds : goal.returns-clause-holds
returns-clause-holds g c =
    let p = c.args.parts.now in
    let s = c.index_mut.result.now in
    let at : At p.sim_nodes.items c.args.i s = (search rules, sym c.index_mut.ensures.value) in
    let w = c.requires.holds in
    let u = c.requires.up.1 in
    let up : s.run_state ≡ Up u.1 = rw (at_same _ _ _ _ at u.2) u.4 in
    let f = (w.as_sim_nodes c.args.i s at).up u.1 up in
    let left = c.step_all.ensures.leaves _ (w.states s.number) (lawful _ _ _ _ _ _ _ w) (w.as_sim_nodes c.args.i s at)
    (all_heard _ _ _ p.genesis p.sim_nodes.items p.sent.items p.trace.items w _ c.requires.heard) in
    settled_steps_hold _ g.R.MemoryReplica.behaves _ p.genesis p.sim_nodes.items p.sent.items p.trace.items w c.args.i s
    c.step_all.new.sim_node at c.step_all.ensures.number p.ended _ _ _ _ (world_state_of c.finish_group.new.parts) u.1
    _ _ _ up c.requires.heard
    (c.in_ok-outcome.ensures.goes u.1 up p.genesis f.holding f.shown) left.0 left.1
    (c.in_ok-outcome.ensures.exact u.1 up) c.in_ok-finish_group.ensures.ok

pub returns-clause-given : goal.returns-clause-given
returns-clause-given g c n u =
    let p = c.args.parts.now in
    let s = c.index_mut.result.now in
    let at : At p.sim_nodes.items c.args.i s = (search rules, sym c.index_mut.ensures.value) in
    let w = c.requires.holds in
    let up : s.run_state ≡ Up u.1 = rw (at_same _ _ _ _ at u.2) u.4 in
    let f = (w.as_sim_nodes c.args.i s at).up u.1 up in
    let k = c.in_ok-finish_group.ensures.ok in
    given_together g.R.MemoryReplica.behaves (world_state_of p)
    (world_state_of c.finish_group.new.parts) _ _ c.args.i n s c.step_all.new.sim_node u.1 _ _ _ _ _ at
    (rw (at_same _ _ _ _ at u.2) u.3) up c.step_all.ensures.number
    (λ q. all_own _ _ _ p.genesis p.sim_nodes.items p.sent.items p.trace.items k.notes w c.args.i s at _ u.1 q.after
    _ _ q.all up c.requires.heard
    (c.in_ok-outcome.ensures.goes u.1 up p.genesis f.holding f.shown q.after q.up) k.tells)
    k c.in_ok-outcome.ensures.told (c.in_ok-outcome.ensures.exact u.1 up)
