use Rattle.std.proofs.Common.{◌≡◌, ◌∙◌, refl, ap, length}
use Rattle.lk_disk.specs.Disk.{Disk, contents}
use Rattle.lk_memory_disk.specs.Memory.{Memory}
use Rattle.lk_disk.specs.declared.device.Side.TheVariants.{A, B}
use Rattle.lk_sim_dump.proofs.Leaving.{synced_is_left}
use Rattle.lk_sim_dump.proofs.node_state.state_of.Goals as goal

pub returns : goal.returns
returns c =
    let same = c.inspect_device-found.ensures.unchanged tt in
    let a : c.inspect_device-found.new.device.a ≡ c.args.node.device.a = same A in
    let b : c.inspect_device-found.new.device.b ≡ c.args.node.device.b = same B in
    record {
      number = refl;
      up = refl;
      written_a = c.lengths-written.ensures.a ∙ ap (λ (d : Disk). length (contents d)) a;
      written_b = c.lengths-written.ensures.b ∙ ap (λ (d : Disk). length (contents d)) b;
      synced_a = c.lengths.ensures.a ∙ ap (λ (m : Memory). length (contents m.a)) c.stop.ensures.after
          ∙ synced_is_left c.inspect_device-found.new.device.a ∙ ap (λ (d : Disk). length d.synced) a;
      synced_b = c.lengths.ensures.b ∙ ap (λ (m : Memory). length (contents m.b)) c.stop.ensures.after
          ∙ synced_is_left c.inspect_device-found.new.device.b ∙ ap (λ (d : Disk). length d.synced) b;
      found = c.inspect_device-found.ensures.found tt;
    }
