use Rattle.std.proofs.Common.{◌∙◌, ap}
use Rattle.lk_store_format.specs.Formats.{format}
use Rattle.lk_store_format.specs.Bases.{generation}
use Rattle.lk_log.proofs.ImageLaws.{found_is_live}
use Rattle.lk_log.proofs.reopening.look.Goals as goal

pub returns-clause-some : goal.returns-clause-some
returns-clause-some g c honest =
    let old = g.D.LogDisk.disk c.args.device.now in
    let found = rw c.in-Some.is at (c.in_ok-file.ensures.live honest) in
    record {
      entries = c.in-Some.file.entries.items;
      live = found_is_live old c.in-Some.field-0-0 c.in-Some.file.entries.items c.in-Some.file.end
          c.in-Some.file.size found;
      generation_is = c.generation_of-generation.ensures ∙ ap generation c.deref.ensures.value;
      format_is = c.format_of-format.ensures ∙ ap format c.deref-2.ensures.value;
      stands = c.in_ok-standing.ensures;
    }
