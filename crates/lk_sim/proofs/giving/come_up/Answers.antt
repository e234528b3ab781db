use Rattle.std.proofs.Common.{◌≡◌, rules, None, Err, refl, sym, subst}
use Rattle.lk_node.specs.Leavings.{header_of}
use Rattle.lk_sim_nodes.specs.Ends.{StaysDown}
use Rattle.lk_sim.specs.Events.{LeftByRevival}
use Rattle.lk_sim_nodes.specs.SimNodes.{At}
use Rattle.lk_sim_nodes.specs.declared.sim_node.RunState.TheVariants.{Down}
use Rattle.lk_sim.specs.Worlds.{world_state_of}
use Rattle.lk_sim.proofs.Explaining.{lawful}
use Rattle.lk_sim.proofs.Doing.{StopsOn, at_same, back, revived_cases, revived_left, wanted, since, halted_holds}
use Rattle.lk_sim.proofs.Doing.{settled_holds, given_up_holds, given_up}
use Rattle.lk_sim.proofs.giving.come_up.Goals as goal

pub returns-in_err-outcome-clause-holds : goal.returns-in_err-outcome-clause-holds
returns-in_err-outcome-clause-holds g c =
    let p = c.args.parts.now in
    let s = c.index_mut.result.now in
    let at : At p.sim_nodes.items c.args.i s = (search rules, sym c.index_mut.ensures.value) in
    let v = since _ g.R.MemoryReplica.behaves _ p.genesis p.sim_nodes.items p.sent.items p.trace.items c.requires.holds
    c.args.i s c.revive.new.sim_node at c.revive.ensures.number None in
    let k = c.in_err-outcome.ensures.wants c.requires.down.1.1
    (rw (at_same _ _ _ _ at c.requires.down.1.2) c.requires.down.1.4) in
    halted_holds _ g.R.MemoryReplica.behaves _ p.genesis p.sim_nodes.items p.sent.items p.trace.items c.requires.holds
    c.args.i s c.revive.new.sim_node at c.revive.ensures.number None c.revive.new.sim_node
    c.revive.ensures.number _ k.down
    (v.states s.number) (c.in_err-outcome.ensures.falls _ (v.states s.number) refl (lawful _ _ _ _ _ _ _ v)
    (v.as_sim_nodes c.args.i s at) _ k.down)

pub returns-in_err-outcome-clause-halted : goal.returns-in_err-outcome-clause-halted
returns-in_err-outcome-clause-halted g c n d =
    let p = c.args.parts.now in
    let s = c.index_mut.result.now in
    let at : At p.sim_nodes.items c.args.i s = (search rules, sym c.index_mut.ensures.value) in
    let is : s.number ≡ n = rw (at_same _ _ _ _ at d.2) d.3 in
    let down : s.run_state ≡ Down d.1 = rw (at_same _ _ _ _ at d.2) d.4 in
    let k = c.in_err-outcome.ensures.wants d.1 down in
    let h = wanted (world_state_of p) (LeftByRevival g.R.MemoryReplica.behaves (header_of p.genesis n))
    (StaysDown g.R.MemoryReplica.behaves d.1 (header_of p.genesis s.number)) c.args.i n s c.revive.new.sim_node at is
    c.revive.ensures.number k (
      d.1,
      Err (k.number, k.left),
      down,
      subst (λ z. g.R.MemoryReplica.behaves.Revives d.1 (header_of p.genesis z) (Err (k.number, k.left))) is k.ends.0,
      (refl, k.want),
    ) in
    search rules

pub returns-in_err-finish_call-clause-holds : goal.returns-in_err-finish_call-clause-holds
returns-in_err-finish_call-clause-holds g c =
    let p = c.args.parts.now in
    let s = c.index_mut.result.now in
    let at : At p.sim_nodes.items c.args.i s = (search rules, sym c.index_mut.ensures.value) in
    let v = since _ g.R.MemoryReplica.behaves _ p.genesis p.sim_nodes.items p.sent.items p.trace.items c.requires.holds
    c.args.i s c.revive.new.sim_node at c.revive.ensures.number None in
    let d = c.requires.down.1 in
    let e = c.in_ok-outcome.ensures in
    given_up_holds _ g.R.MemoryReplica.behaves _ p.genesis p.sim_nodes.items p.sent.items p.trace.items c.requires.holds
    c.args.i s c.revive.new.sim_node at c.revive.ensures.number None _ _
    (e.goes _ (v.states s.number) refl (lawful _ _ _ _ _ _ _ v) (v.as_sim_nodes c.args.i s at))
    (e.falls _ (v.states s.number) refl (lawful _ _ _ _ _ _ _ v) (v.as_sim_nodes c.args.i s at))
    (revived_cases g.R.MemoryReplica.behaves _ _ _ _ _ _ _ (e.exact d.1 (rw (at_same _ _ _ _ at d.2) d.4)))
    p.ended (world_state_of c.finish_call.new.parts) c.in_err-finish_call.ensures.err

pub returns-in_err-finish_call-clause-halted : goal.returns-in_err-finish_call-clause-halted
returns-in_err-finish_call-clause-halted g c n d =
    let p = c.args.parts.now in
    let s = c.index_mut.result.now in
    let at : At p.sim_nodes.items c.args.i s = (search rules, sym c.index_mut.ensures.value) in
    let is : s.number ≡ n = rw (at_same _ _ _ _ at d.2) d.3 in
    let down : s.run_state ≡ Down d.1 = rw (at_same _ _ _ _ at d.2) d.4 in
    let k = given_up g.R.MemoryReplica.behaves (world_state_of p) (world_state_of c.finish_call.new.parts)
    (LeftByRevival g.R.MemoryReplica.behaves (header_of p.genesis n)) _ _ c.args.i n s c.revive.new.sim_node at
    (rw (at_same _ _ _ _ at d.2) d.3) c.revive.ensures.number
    (subst (λ z. StopsOn g.R.MemoryReplica.behaves
    (LeftByRevival g.R.MemoryReplica.behaves (header_of p.genesis z) s.run_state) c.revive.new.sim_node.run_state) is
    (revived_left g.R.MemoryReplica.behaves d.1 _ _ _ _ _ _ _ c.in_err-finish_call.ensures.wants down
    (c.in_ok-outcome.ensures.exact d.1 down))) c.in_err-finish_call.ensures.err in
    search rules

pub returns-clause-holds : goal.returns-clause-holds
returns-clause-holds g c =
    let p = c.args.parts.now in
    let s = c.index_mut.result.now in
    let at : At p.sim_nodes.items c.args.i s = (search rules, sym c.index_mut.ensures.value) in
    let v = since _ g.R.MemoryReplica.behaves _ p.genesis p.sim_nodes.items p.sent.items p.trace.items c.requires.holds
    c.args.i s c.revive.new.sim_node at c.revive.ensures.number None in
    let d = c.requires.down.1 in
    let e = c.in_ok-outcome.ensures in
    settled_holds _ g.R.MemoryReplica.behaves _ p.genesis p.sim_nodes.items p.sent.items p.trace.items c.requires.holds
    c.args.i s c.revive.new.sim_node at c.revive.ensures.number None _ _
    (e.goes _ (v.states s.number) refl (lawful _ _ _ _ _ _ _ v) (v.as_sim_nodes c.args.i s at))
    (e.falls _ (v.states s.number) refl (lawful _ _ _ _ _ _ _ v) (v.as_sim_nodes c.args.i s at))
    (revived_cases g.R.MemoryReplica.behaves _ _ _ _ _ _ _ (e.exact d.1 (rw (at_same _ _ _ _ at d.2) d.4)))
    p.ended _ _ (world_state_of c.finish_call.new.parts) c.in_ok-finish_call.ensures.ok

pub returns-clause-back : goal.returns-clause-back
returns-clause-back g c n d =
    let p = c.args.parts.now in
    let s = c.index_mut.result.now in
    let at : At p.sim_nodes.items c.args.i s = (search rules, sym c.index_mut.ensures.value) in
    let v = since _ g.R.MemoryReplica.behaves _ p.genesis p.sim_nodes.items p.sent.items p.trace.items c.requires.holds
    c.args.i s c.revive.new.sim_node at c.revive.ensures.number None in
    let goes = c.in_ok-outcome.ensures.goes _ (v.states s.number) refl (lawful _ _ _ _ _ _ _ v)
    (v.as_sim_nodes c.args.i s at) in
    let is : s.number ≡ n = rw (at_same _ _ _ _ at d.2) d.3 in
    let down : s.run_state ≡ Down d.1 = rw (at_same _ _ _ _ at d.2) d.4 in
    back g.R.MemoryReplica.behaves (world_state_of p)
    (world_state_of c.finish_call.new.parts) _ _ c.args.i n s c.revive.new.sim_node d.1 _ _ _ _ at is down
    c.revive.ensures.number (λ q up x e. ((goes q up).goes.noted x e).0)
    c.in_ok-finish_call.ensures.ok
    (c.in_ok-outcome.ensures.told _ (v.states s.number) refl (lawful _ _ _ _ _ _ _ v) (v.as_sim_nodes c.args.i s at))
    (c.in_ok-outcome.ensures.exact d.1 down)
