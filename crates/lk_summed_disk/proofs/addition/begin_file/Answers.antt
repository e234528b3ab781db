use Rattle.std.proofs.Common.{refl}
use Rattle.lk_summed_disk.proofs.addition.begin_file.Goals as goal

pub returns-clause-adds : goal.returns-clause-adds
returns-clause-adds c =
    let begun = c.if-not-begins_plain.ensures.plain refl in
    c.plain_addition.ensures.begun c.args.side begun.0 begun.1
