use Rattle.std.proofs.Common.{ℕ, List, ◌∙◌, subst}
use Rattle.lk_store_format.specs.Files.{IsFile}
use Rattle.lk_log.proofs.file.read_file.Goals as goal

pub returns-clause-file : goal.returns-clause-file
returns-clause-file g c honest =
    subst (λ (l : List ℕ). IsFile l c.in_ok-file.file.entries.items c.in_ok-file.file.is_damaged)
    (c.deref.ensures.value ∙ c.in_ok-bytes.ensures.value honest) c.in_ok-file.ensures.file
