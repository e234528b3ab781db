use Rattle.lk_summed_disk.proofs.optional_sums.OptionalSumsLogDisk.append.Goals as goal

pub returns-in-With-clause-err : goal.returns-in-With-clause-err
returns-in-With-clause-err g c honest = rw c.in-With.is (c.append-in-With.ensures.err honest)
