use Rattle.std.proofs.Common.{◌∙◌, sym, subst}
use Rattle.lk_node_files.specs.Older.{BeginsWith}
use Rattle.lk_node_files.proofs.older.generation_at.Goals as goal

pub returns-in-Some-clause-none : goal.returns-in-Some-clause-none
returns-in-Some-clause-none g c honest none generation has =
    let read = rw c.in-Some.is at c.in_ok-text.ensures.some honest in
    c.generation_of.ensures.none none generation
    (subst (BeginsWith generation) (sym (c.deref.ensures.value ∙ read.1)) has.1)
