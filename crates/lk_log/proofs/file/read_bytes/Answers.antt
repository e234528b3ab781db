use Rattle.std.proofs.Common.{rules}
use Rattle.lk_disk.proofs.Devices.{passes_on, breaks_on, read_passes, read_breaks}
use Rattle.lk_log.specs.declared.fault.OpenFault.TheVariants.{Device, NoMemory}
use Rattle.lk_log.proofs.OpenMetering.{refused}
use Rattle.lk_log.proofs.file.read_bytes.Goals as goal

pub returns-in_err-count-clause-metered : goal.returns-in_err-count-clause-metered
returns-in_err-count-clause-metered g c metered honest =
    refused _ _ 0 _ Device c.from_residual.ensures.1 (read_breaks _ _ (c.in_err-count.ensures.metered metered))

pub returns-in_err-bytes-clause-metered : goal.returns-in_err-bytes-clause-metered
returns-in_err-bytes-clause-metered g c metered honest =
    refused _ _ 0 _ NoMemory c.from_residual-in_err-bytes.ensures.1
    (0, read_passes _ _ (c.in_ok-count.ensures.metered metered))

pub returns-in_err-read_into-clause-metered : goal.returns-in_err-read_into-clause-metered
returns-in_err-read_into-clause-metered g c metered honest =
    refused _ _ 0 _ Device c.from_residual-in_err-read_into.ensures.1
    (breaks_on 0 (read_passes _ _ (c.in_ok-count.ensures.metered metered))
    (read_breaks _ _ (c.in_err-read_into.ensures.metered honest metered (search rules))))

pub returns-clause-metered : goal.returns-clause-metered
returns-clause-metered g c metered honest =
    passes_on 0 (read_passes _ _ (c.in_ok-count.ensures.metered metered)) 0
    (read_passes _ _ (c.in_ok-read_into.ensures.metered honest metered (search rules)))
