use Rattle.lk_summed_disk.proofs.LegibleLaws.{says_sums, says_magic, too_short}
use Rattle.lk_summed_disk.proofs.legible.has_sums.Goals as goal

pub returns-then-bytes-lt-MAGIC_LENGTH-clause-value : goal.returns-then-bytes-lt-MAGIC_LENGTH-clause-value
returns-then-bytes-lt-MAGIC_LENGTH-clause-value c =
    too_short c.args.side c.args.bytes.now c.if-bytes-lt-MAGIC_LENGTH.true

pub returns-clause-value : goal.returns-clause-value
returns-clause-value c =
    says_sums c.args.side c.args.bytes.now c.magic-magic.result c.eq.result c.magic-magic.ensures c.eq.ensures

pub returns-clause-begins : goal.returns-clause-begins
returns-clause-begins c =
    says_magic c.args.side c.args.bytes.now c.magic-magic.result c.eq.result c.magic-magic.ensures c.eq.ensures
