use Rattle.std.proofs.Common.{rules, ◌≡◌, refl, ap}
use Rattle.lk_memory_disk.specs.Memory.{Memory}
use Rattle.lk_disk.specs.declared.device.Side.TheVariants.{A, B}
use Rattle.lk_sim_nodes.proofs.Fitting.{trapped_up, trapped_down}
use Rattle.lk_sim_nodes.proofs.Stopping.{trapped_fits}
use Rattle.lk_sim_nodes.proofs.sim_node.set_trap.Goals as goal
use Rattle.lk_sim_nodes.specs.declared.sim_node.RunState.TheVariants.{Up, Down}

pub returns-in-Up-clause-fits : goal.returns-in-Up-clause-fits
returns-in-Up-clause-fits g c h w f =
    let is : c.args.sim_node.now.run_state ≡ Up c.in-Up.replica = search rules in
    trapped_up _ _ _ h w c.args.sim_node.now _ c.in-Up.replica
    (g.R.MemoryReplica.behaves.with_trap c.args.trap c.in-Up.replica) is (ap Up c.trap.ensures.sets) refl
    (λ n. trapped_fits g.R.MemoryReplica.behaves g.met.R.MemoryReplica.traps_alone g.R.MemoryReplica.Shows
    g.met.R.MemoryReplica.shows_on g.R.MemoryReplica.meaning h w n c.args.trap c.in-Up.replica) f

pub returns-in-Down-clause-fits : goal.returns-in-Down-clause-fits
returns-in-Down-clause-fits g c h w f =
    let is : c.args.sim_node.now.run_state ≡ Down c.in-Down.device = search rules in
    trapped_down _ _ _ h w c.args.sim_node.now _ c.in-Down.device c.trap-in-Down.new.self is refl refl
    (elim [
      | A ↦ ap (λ (z : Memory). z.a) c.trap-in-Down.ensures
      | B ↦
          ap (λ (z : Memory). z.b) c.trap-in-Down.ensures
    ]) f
