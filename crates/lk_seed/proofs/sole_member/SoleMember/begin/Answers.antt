use Rattle.std.proofs.Common.{subst}
use Rattle.std.specs.Prelude.{Ok}
use Rattle.lk_memory_disk.specs.Memory.{Memory}
use Rattle.lk_locks.specs.Meaning.{table_meaning}
use Rattle.lk_locks.specs.Packed.{IsTableText}
use Rattle.lk_replica.specs.Revived.{RevivesTo}
use Rattle.lk_seed.proofs.MemberLaws.{begun}
use Rattle.lk_seed.proofs.sole_member.SoleMember.begin.Goals as goal

pub returns-in-Ok : goal.returns-in-Ok
returns-in-Ok c wanted =
    begun c.args.header.now wanted _ c.in-Ok.revived.notes.items
    (subst (λ (d : Memory). RevivesTo table_meaning IsTableText d c.args.header.now
    (Ok (c.in-Ok.revived.replica, c.in-Ok.revived.notes.items))) c.new-disks.ensures c.in-Ok.ensures.exact)
    c.copy.ensures c.new.ensures.items
