use Rattle.std.proofs.Common.{◌≡◌, rules, None, sym}
use Rattle.lk_sim_nodes.specs.Ends.{FailsToCompact}
use Rattle.lk_sim.specs.Events.{LeftByCompacting}
use Rattle.lk_sim_nodes.specs.SimNodes.{At}
use Rattle.lk_sim_nodes.specs.declared.sim_node.RunState.TheVariants.{Up}
use Rattle.lk_sim.specs.Worlds.{world_state_of}
use Rattle.lk_sim.proofs.Explaining.{lawful}
use Rattle.lk_sim.proofs.Doing.{at_same, compacted, packed_cases, packed_none, wanted, since, halted_holds}
use Rattle.lk_sim.proofs.Doing.{settled_holds, given_up_holds}
use Rattle.lk_sim.proofs.compacting.compact_at.Goals as goal

pub returns-in_err-outcome-clause-holds : goal.returns-in_err-outcome-clause-holds
returns-in_err-outcome-clause-holds g c =
    let p = c.args.parts.now in
    let s = c.index_mut.result.now in
    let at : At p.sim_nodes.items c.args.i s = (search rules, sym c.index_mut.ensures.value) in
    let v = since _ g.R.MemoryReplica.behaves _ p.genesis p.sim_nodes.items p.sent.items p.trace.items c.requires.holds
    c.args.i s c.compact_node.new.sim_node at c.compact_node.ensures.number None in
    let u = c.requires.up.1 in
    let k = c.in_err-outcome.ensures.wants u.1 (rw (at_same _ _ _ _ at u.2) u.4) in
    halted_holds _ g.R.MemoryReplica.behaves _ p.genesis p.sim_nodes.items p.sent.items p.trace.items c.requires.holds
    c.args.i s c.compact_node.new.sim_node at c.compact_node.ensures.number None c.compact_node.new.sim_node
    c.compact_node.ensures.number _ k.down
    (v.states s.number) (c.in_err-outcome.ensures.falls _ (v.states s.number) (lawful _ _ _ _ _ _ _ v)
    (v.as_sim_nodes c.args.i s at) _ k.down)

pub returns-in_err-outcome-clause-halted : goal.returns-in_err-outcome-clause-halted
returns-in_err-outcome-clause-halted g c n u =
    let p = c.args.parts.now in
    let s = c.index_mut.result.now in
    let at : At p.sim_nodes.items c.args.i s = (search rules, sym c.index_mut.ensures.value) in
    let up : s.run_state ≡ Up u.1 = rw (at_same _ _ _ _ at u.2) u.4 in
    let k = c.in_err-outcome.ensures.wants u.1 up in
    let h = wanted (world_state_of p) (LeftByCompacting g.R.MemoryReplica.behaves)
    (FailsToCompact g.R.MemoryReplica.behaves u.1) c.args.i n s c.compact_node.new.sim_node at
    (rw (at_same _ _ _ _ at u.2) u.3) c.compact_node.ensures.number k
    (u.1, k.ends.0, k.number, up, k.ends.1, k.ends.3, k.want) in
    search rules

pub returns-in_err-finish_call-clause-holds : goal.returns-in_err-finish_call-clause-holds
returns-in_err-finish_call-clause-holds g c =
    let p = c.args.parts.now in
    let s = c.index_mut.result.now in
    let at : At p.sim_nodes.items c.args.i s = (search rules, sym c.index_mut.ensures.value) in
    let v = since _ g.R.MemoryReplica.behaves _ p.genesis p.sim_nodes.items p.sent.items p.trace.items c.requires.holds
    c.args.i s c.compact_node.new.sim_node at c.compact_node.ensures.number None in
    let u = c.requires.up.1 in
    let e = c.in_ok-outcome.ensures in
    given_up_holds _ g.R.MemoryReplica.behaves _ p.genesis p.sim_nodes.items p.sent.items p.trace.items c.requires.holds
    c.args.i s c.compact_node.new.sim_node at c.compact_node.ensures.number None _ _
    (e.goes _ (v.states s.number) (lawful _ _ _ _ _ _ _ v) (v.as_sim_nodes c.args.i s at))
    (e.falls _ (v.states s.number) (lawful _ _ _ _ _ _ _ v) (v.as_sim_nodes c.args.i s at))
    (packed_cases g.R.MemoryReplica.behaves _ _ _ _ _ _ (e.exact u.1 (rw (at_same _ _ _ _ at u.2) u.4)))
    p.ended (world_state_of c.finish_call.new.parts) c.in_err-finish_call.ensures.err

pub returns-in_err-finish_call-clause-halted : goal.returns-in_err-finish_call-clause-halted
returns-in_err-finish_call-clause-halted g c n u =
    let p = c.args.parts.now in
    let s = c.index_mut.result.now in
    let at : At p.sim_nodes.items c.args.i s = (search rules, sym c.index_mut.ensures.value) in
    let up : s.run_state ≡ Up u.1 = rw (at_same _ _ _ _ at u.2) u.4 in
    absurd (packed_none g.R.MemoryReplica.behaves u.1 _ _ _ _ _ c.in_err-finish_call.ensures.wants
    (c.in_ok-outcome.ensures.exact u.1 up))

pub returns-clause-holds : goal.returns-clause-holds
returns-clause-holds g c =
    let p = c.args.parts.now in
    let s = c.index_mut.result.now in
    let at : At p.sim_nodes.items c.args.i s = (search rules, sym c.index_mut.ensures.value) in
    let v = since _ g.R.MemoryReplica.behaves _ p.genesis p.sim_nodes.items p.sent.items p.trace.items c.requires.holds
    c.args.i s c.compact_node.new.sim_node at c.compact_node.ensures.number None in
    let u = c.requires.up.1 in
    let e = c.in_ok-outcome.ensures in
    settled_holds _ g.R.MemoryReplica.behaves _ p.genesis p.sim_nodes.items p.sent.items p.trace.items c.requires.holds
    c.args.i s c.compact_node.new.sim_node at c.compact_node.ensures.number None _ _
    (e.goes _ (v.states s.number) (lawful _ _ _ _ _ _ _ v) (v.as_sim_nodes c.args.i s at))
    (e.falls _ (v.states s.number) (lawful _ _ _ _ _ _ _ v) (v.as_sim_nodes c.args.i s at))
    (packed_cases g.R.MemoryReplica.behaves _ _ _ _ _ _ (e.exact u.1 (rw (at_same _ _ _ _ at u.2) u.4)))
    p.ended _ _ (world_state_of c.finish_call.new.parts) c.in_ok-finish_call.ensures.ok

pub returns-clause-compacted : goal.returns-clause-compacted
returns-clause-compacted g c n u =
    let p = c.args.parts.now in
    let s = c.index_mut.result.now in
    let at : At p.sim_nodes.items c.args.i s = (search rules, sym c.index_mut.ensures.value) in
    let up : s.run_state ≡ Up u.1 = rw (at_same _ _ _ _ at u.2) u.4 in
    compacted g.R.MemoryReplica.behaves (world_state_of p)
    (world_state_of c.finish_call.new.parts) _ _ c.args.i n s c.compact_node.new.sim_node u.1 _ _ _ _ at
    (rw (at_same _ _ _ _ at u.2) u.3) up c.compact_node.ensures.number
    c.in_ok-finish_call.ensures.ok c.in_ok-outcome.ensures.told (c.in_ok-outcome.ensures.exact u.1 up)
