use Rattle.std.proofs.Common.{arith, sym, subst, ◌∙◌, Option}
use Rattle.std.specs.Prelude.{IfSome}
use Rattle.lk_locks.specs.Bodies.{SpellsBody}
use Rattle.lk_locks.specs.declared.body.Body.{Body}
use Rattle.lk_locks.proofs.BodyLaws.{found, only}
use Rattle.lk_locks.proofs.body.Body.read.Goals as goal

pub returns-clause-found : goal.returns-clause-found
returns-clause-found c =
    subst (λ (o : Option Body). IfSome o (λ b. SpellsBody b c.args.bytes.now)) (sym c.read_whole.ensures)
    (found c.args.bytes.now (λ i. omega (arith, c.type_inv.bytes i)))

pub returns-clause-only : goal.returns-clause-only
returns-clause-only c = λ body s. c.read_whole.ensures ∙ only body c.args.bytes.now s
