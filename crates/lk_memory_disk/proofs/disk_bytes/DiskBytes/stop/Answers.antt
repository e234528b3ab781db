use Rattle.std.proofs.Common.{rules, ◌≡◌, ◌∙◌, ap, ◌-◌, ◌+◌, min, take, length}
use Rattle.lk_disk.specs.Disk.{after_stop}
use Rattle.lk_memory_disk.proofs.Keep.{kept_front}
use Rattle.lk_memory_disk.proofs.disk_bytes.DiskBytes.stop.Goals as goal

pub returns : goal.returns
returns c =
    let kept : c.min-kept.result
    ≡ min c.args.unsynced (length c.self.inside.bytes.items - c.self.inside.synced) = search rules in
    kept_front c.args.unsynced c.self.inside.synced c.len-self-inside.result c.self.inside.bytes.items
    c.truncate.new.self.items
    (c.truncate.ensures.items ∙ ap (λ k. take (c.self.inside.synced + k) c.self.inside.bytes.items) kept) (search rules)
    ∙ ap (after_stop c.args.unsynced) c.self.view_is
