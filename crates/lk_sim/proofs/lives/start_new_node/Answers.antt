use Rattle.std.proofs.Common.{rules, ◌≡◌, [], ◌∷◌, ◌++◌, length, None, Result, Ok, Err, OnErr, refl, ap, sym, subst}
use Rattle.std.proofs.Common.{inr, ◌∙◌}
use Rattle.lk_memory_disk.specs.Memory.{Memory}
use Rattle.lk_disk.specs.declared.device.Side.TheVariants.{A, B}
use Rattle.lk_node.specs.Leavings.{header_of}
use Rattle.lk_sim.specs.Events.{ComesUp, LeftByRevival, StartWants}
use Rattle.lk_sim.specs.WorldStates.{WorldState}
use Rattle.lk_sim.specs.Worlds.{world_state_of}
use Rattle.lk_sim_nodes.specs.declared.sim_node.RunState.TheVariants.{Down}
use Rattle.lk_sim_nodes.specs.declared.sim_node.SimNode.{SimNode}
use Rattle.lk_sim.proofs.Doing.{comes, revived_cases, revived_left, since, settled_holds}
use Rattle.lk_sim.proofs.Explaining.{lawful}
use Rattle.lk_sim.proofs.Lists.{set_last, at_set_here}
use Rattle.lk_sim.proofs.Starting.{starts, at_end}
use Rattle.lk_sim.proofs.Given.{set_twice}
use Rattle.lk_sim.proofs.lives.start_new_node.Goals as goal

pub returns-clause-holds : goal.returns-clause-holds
returns-clause-holds g c =
    let p = c.args.parts.now in
    let q = c.add.new.parts in
    let s : SimNode g.row.R.Denot = record { number = c.args.number; run_state = Down c.new.result } in
    let w = starts _ _ _ p.genesis p.sim_nodes.items p.sent.items p.trace.items c.requires.holds s c.requires.unused
    c.new.result refl (elim [
      | A ↦ ap (λ (m : Memory). m.a) c.new.ensures
      | B ↦
          ap (λ (m : Memory). m.b) c.new.ensures
    ]) in
    let at = at_end p.sim_nodes.items s in
    let v = since _ g.R.MemoryReplica.behaves _ p.genesis (p.sim_nodes.items ++ s ∷ []) p.sent.items p.trace.items w
    (length p.sim_nodes.items) s c.revive.new.sim_node at c.revive.ensures.number None in
    let e = c.in_ok-outcome.ensures in
    let k = c.in_ok-add.ensures.ok in
    let new : WorldState g.row.R.Denot =
    record {
      genesis = q.genesis;
      sim_nodes = c.push.new.self.items;
      sent = q.sent.items;
      trace = q.trace.items;
      ended = q.ended;
    } in
    let pushed : c.push.new.self.items ≡ p.sim_nodes.items ++ c.carry_out_stop.new.sim_node ∷ [] = search rules in
    settled_holds _ g.R.MemoryReplica.behaves _ p.genesis (p.sim_nodes.items ++ s ∷ []) p.sent.items p.trace.items w
    (length p.sim_nodes.items) s c.revive.new.sim_node at c.revive.ensures.number None _ _
    (e.goes _ (v.states s.number) refl (lawful _ _ _ _ _ _ _ v) (v.as_sim_nodes _ s at))
    (e.falls _ (v.states s.number) refl (lawful _ _ _ _ _ _ _ v) (v.as_sim_nodes _ s at))
    (revived_cases g.R.MemoryReplica.behaves _ _ _ _ _ _ _ (e.exact c.new.result refl))
    p.ended _ _ new (record {
      told = k.told;
      tells = k.tells;
      sim_node = c.revive.new.sim_node;
      next = c.carry_out_stop.new.sim_node;
      at = at_set_here (p.sim_nodes.items ++ s ∷ []) (length p.sim_nodes.items) c.revive.new.sim_node at.0;
      number = c.carry_out_stop.ensures.number;
      sim_nodes = pushed ∙ sym (set_last p.sim_nodes.items s c.carry_out_stop.new.sim_node)
          ∙ sym (set_twice (p.sim_nodes.items ++ s ∷ [])
          (length p.sim_nodes.items) c.revive.new.sim_node c.carry_out_stop.new.sim_node);
      rests = c.carry_out_stop.ensures.rests;
      fits = c.carry_out_stop.ensures.fits;
      adds = record { genesis = k.adds.genesis; sent = k.adds.sent; trace = k.adds.trace };
      ended = k.ended;
    })

pub returns-clause-ok : goal.returns-clause-ok
returns-clause-ok g c =
    let p = c.args.parts.now in
    let s : SimNode g.row.R.Denot = record { number = c.args.number; run_state = Down c.new.result } in
    let w = starts _ _ _ p.genesis p.sim_nodes.items p.sent.items p.trace.items c.requires.holds s c.requires.unused
    c.new.result refl (elim [
      | A ↦ ap (λ (m : Memory). m.a) c.new.ensures
      | B ↦
          ap (λ (m : Memory). m.b) c.new.ensures
    ]) in
    let at = at_end p.sim_nodes.items s in
    let v = since _ g.R.MemoryReplica.behaves _ p.genesis (p.sim_nodes.items ++ s ∷ []) p.sent.items p.trace.items w
    (length p.sim_nodes.items) s c.revive.new.sim_node at c.revive.ensures.number None in
    let goes = c.in_ok-outcome.ensures.goes _ (v.states s.number) refl (lawful _ _ _ _ _ _ _ v)
    (v.as_sim_nodes _ s at) in
    let k = c.in_ok-add.ensures.ok in
    let q = c.add.new.parts in
    let new : WorldState g.row.R.Denot =
    record {
      genesis = q.genesis;
      sim_nodes = c.push.new.self.items;
      sent = q.sent.items;
      trace = q.trace.items;
      ended = q.ended;
    } in
    let pushed : c.push.new.self.items ≡ p.sim_nodes.items ++ c.carry_out_stop.new.sim_node ∷ [] = search rules in
    record {
      sim_node = c.carry_out_stop.new.sim_node;
      number = c.carry_out_stop.ensures.number ∙ c.revive.ensures.number;
      sim_nodes = pushed;
      comes = subst (λ (z : Memory). ComesUp g.R.MemoryReplica.behaves (world_state_of p) new
          c.carry_out_stop.new.sim_node z)
          c.new.ensures
          (comes g.R.MemoryReplica.behaves
          (world_state_of p) new c.revive.new.sim_node c.carry_out_stop.new.sim_node _ c.args.number _ k.told
          _ _ _ c.revive.ensures.number c.carry_out_stop.ensures.number c.carry_out_stop.ensures.rests
          (λ q up x c. ((goes q up).goes.noted x c).0)
          (record { genesis = k.adds.genesis; sent = k.adds.sent; trace = k.adds.trace }) k.tells k.ended
          (c.in_ok-outcome.ensures.told _ (v.states s.number) refl (lawful _ _ _ _ _ _ _ v) (v.as_sim_nodes _ s at))
          (c.in_ok-outcome.ensures.exact c.new.result refl));
    }

-- ---- what memory was wanted for

on_err : {T E : Type 0} (r : Result T E) (P : Type 0) → P → OnErr r P
on_err (Ok x) P p = tt
on_err (Err e) P p = p

pub returns-in_err-outcome-clause-wants : goal.returns-in_err-outcome-clause-wants
returns-in_err-outcome-clause-wants g c =
    let p = c.args.parts.now in
    let b = g.R.MemoryReplica.behaves in
    let k = c.in_err-outcome.ensures.wants c.new.result refl in
    on_err c.from_residual-in_err-outcome.result (StartWants b p.genesis c.args.number p.sim_nodes)
    (inr (
      k.left,
      subst (λ (z : Memory). LeftByRevival b (header_of p.genesis c.args.number) (Down z) k.left)
          c.new.ensures (c.new.result, Err (k.number, k.left), refl, k.ends.0, (refl, k.want)),
    ))

pub returns-in_err-add-clause-wants : goal.returns-in_err-add-clause-wants
returns-in_err-add-clause-wants g c =
    let p = c.args.parts.now in
    let b = g.R.MemoryReplica.behaves in
    let k = revived_left b c.new.result (header_of p.genesis c.args.number)
    (Down c.new.result) c.revive.new.sim_node _ _ _ _ c.in_err-add.ensures.wants refl
    (c.in_ok-outcome.ensures.exact c.new.result refl) in
    on_err c.from_residual-in_err-add.result (StartWants b p.genesis c.args.number p.sim_nodes)
    (inr (
      k.0,
      subst (λ (z : Memory). LeftByRevival b (header_of p.genesis c.args.number) (Down z) k.0) c.new.ensures
          k.1,
    ))
