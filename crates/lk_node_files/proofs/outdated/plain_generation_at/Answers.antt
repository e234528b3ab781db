use Rattle.std.proofs.Common.{◌∙◌, sym, subst}
use Rattle.lk_node_files.specs.Older.{BeginsWith}
use Rattle.lk_node_files.proofs.outdated.plain_generation_at.Goals as goal

pub returns-clause-none : goal.returns-clause-none
returns-clause-none g c honest none generation begins =
    c.generation_of.ensures.none none generation
    (subst (BeginsWith generation) (sym (c.deref.ensures.value ∙ c.in_ok-bytes.ensures.bytes honest)) begins)
