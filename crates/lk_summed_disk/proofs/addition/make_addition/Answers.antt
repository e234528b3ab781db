use Rattle.std.proofs.Common.{IfSome, subst, sym}
use Rattle.lk_summed_disk.specs.Places.{Adds, reader}
use Rattle.lk_summed_disk.specs.declared.place.Form.{Form}
use Rattle.lk_summed_disk.proofs.addition.make_addition.Goals as goal

pub returns-in-Plain-clause-adds : goal.returns-in-Plain-clause-adds
returns-in-Plain-clause-adds c =
    subst (λ (f : Form). IfSome c.plain_addition.result
    (λ a. Adds (reader c.args.side f) c.args.piece.now a.bytes.items (reader c.args.side a.form)))
    (sym c.in-Plain.is) (c.plain_addition.ensures.plain c.args.side)
