use Rattle.std.proofs.Common.{◌∷◌, [], ap}
use Rattle.lk_store_format.specs.Bases.{has_base}
use Rattle.lk_store_format.specs.declared.stored.Stored.{Stored}
use Rattle.lk_node_files.proofs.OlderLaws.{not_plain}
use Rattle.lk_node_files.proofs.older.generation_of.Goals as goal

pub returns-in-Ok-Plain-default-clause-none : goal.returns-in-Ok-Plain-default-clause-none
returns-in-Ok-Plain-default-clause-none c none =
    let is = c.in-Ok-Plain-default.field-0-0-is in
    not_plain c.args.bytes.now c.in-Ok-Plain-default.field-0-0 c.in-Ok-Plain-default.field-0-1.now
    (ap (λ (y : Stored). has_base (y ∷ [])) is) c.in-Ok-Plain-default.ensures.found.0
    c.in-Ok-Plain-default.ensures.found.1
