use Rattle.std.proofs.Common.{rules, ◌≡◌, ◌∙◌, ◌≤◌, ap, sym, length}
use Rattle.lk_disk.specs.Disk.{Disk, contents, cut_to}
use Rattle.lk_disk.specs.Files.{whole, left_of}
use Rattle.lk_disk.proofs.Devices.{cut_length}
use Rattle.lk_disk.proofs.fail_stop_file.FailStopFile.cut.Goals as goal

pub end-requires : goal.end-requires
end-requires g c honest =
    let before : Disk = left_of (g.F.AppendFile.file c.self.inside.file) in
    let within : c.args.len ≤ length (contents before) = search rules in
    let cut : g.F.AppendFile.file c.sync.new.self ≡ whole (cut_to c.args.len before) = search rules in
    (search rules, cut_length c.args.len before within ∙ sym (ap (λ f. length (contents (left_of f))) cut))
