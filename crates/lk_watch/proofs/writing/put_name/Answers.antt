use Rattle.std.proofs.Common.{ℕ, length, arith, append_assoc}
use Rattle.std.proofs.lemmas.Grind.{common_steps}
use Rattle.std.proofs.lemmas.List.{drop-replicate}
use Rattle.lk_watch.specs.Grammar.{name_field}
use Rattle.lk_watch.proofs.writing.put_name.Goals as goal

pub returns-clause-items : goal.returns-clause-items
unfolding name_field
returns-clause-items c =
    let zeros = drop-replicate {X = ℕ} (length c.args.name.now) 32 0 in
    grind (arith, common_steps, append_assoc, zeros)
