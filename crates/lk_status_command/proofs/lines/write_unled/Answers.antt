use Rattle.std.proofs.Common.{◌∷◌, ◌++◌, List, ℕ, subst}
use Rattle.std.specs.Fmt.{decimal}
use Rattle.std.specs.Io.KnownBytes.{Appends}
use Rattle.std.specs.Prelude.{OnOk, codes}
use Rattle.lk_status_command.proofs.lines.write_unled.Goals as goal

pub returns : goal.returns
returns g c =
    subst (λ (unit : List ℕ). OnOk c.write.result
    (Appends (g.W.Write.contents c.args.out.now) (g.W.Write.contents c.write.new.self)
    (codes "knows no leader for " ++ (decimal c.args.ticks ++ 32 ∷ unit))))
    c.one_or_many-unit.ensures c.write.ensures.bytes
