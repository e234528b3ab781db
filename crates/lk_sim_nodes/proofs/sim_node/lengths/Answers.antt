use Rattle.std.proofs.Common.{rules, ◌≡◌, ◌∙◌, ap, length}
use Rattle.lk_disk.specs.Disk.{contents}
use Rattle.lk_memory_disk.specs.Memory.{Memory}
use Rattle.lk_sim_nodes.proofs.sim_node.lengths.Goals as goal
use Rattle.lk_sim_nodes.specs.declared.sim_node.RunState.TheVariants.{Up}

pub returns-in-Up-clause-a : goal.returns-in-Up-clause-a
returns-in-Up-clause-a g c =
    let is : c.args.sim_node.now.run_state ≡ Up c.in-Up.replica = search rules in
    rw is (c.lengths.ensures.a ∙ ap (λ (m : Memory). length (contents m.a)) c.device.ensures.is)

pub returns-in-Up-clause-b : goal.returns-in-Up-clause-b
returns-in-Up-clause-b g c =
    let is : c.args.sim_node.now.run_state ≡ Up c.in-Up.replica = search rules in
    rw is (c.lengths.ensures.b ∙ ap (λ (m : Memory). length (contents m.b)) c.device.ensures.is)
