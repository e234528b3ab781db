use Rattle.std.proofs.Common.{[], Result, Ok, Err, OnOk}
use Rattle.lk_types.specs.Limits.{max_base_of}
use Rattle.lk_log.specs.Rooms.{StaysWithin}
use Rattle.lk_log.specs.StoreValue.{disks}
use Rattle.lk_replica.specs.ReplicaValue.{device_of}
use Rattle.lk_memory_disk.specs.Memory.{disk_of}
use Rattle.lk_learner.specs.Learners.{executed, alpha}
use Rattle.lk_state.specs.Meanings.{Meaning}
use Rattle.lk_node.specs.Calls.{NodeFits, LeavesFit}
use Rattle.lk_node.specs.Keeping.{ReplicaHolds}
use Rattle.lk_node.specs.Leavings.{DisksFit, AllCover}
use Rattle.lk_recovery.specs.Compacting.{AllStandAt}
use Rattle.lk_replica.proofs.Compactions.{compacted, refused, told, calls_ok, calls_err}
use Rattle.lk_replica.proofs.Going.{remembered}
use Rattle.lk_replica.proofs.OnDevices.{on_device, off_device}
use Rattle.lk_replica.proofs.in_memory.ReplicaMemoryDiskMemoryReplica.compact.Goals as goal

-- what follows of what stands at Ok
on_ok : {T E : Type 0} (P Q : Type 0) (r : Result T E) → (P → Q) → OnOk r P → OnOk r Q
on_ok P Q (Ok x) f p = f p
on_ok P Q (Err e) f p = tt

pub returns-clause-goes : goal.returns-clause-goes
returns-clause-goes g c h n fits =
    let m : Meaning = g.M.Machine.meaning in
    let own = c.args.self.now in
    on_ok _ _ c.compact.result
    (λ done. on_device (λ d. LeavesFit m h n
    (ReplicaHolds m c.compact.new.self.node c.compact.new.self.store h.genesis n) d [] []) c.compact.new.self.store
    (done.goes h n (off_device (λ d. NodeFits m h n (ReplicaHolds m own.node own.store h.genesis n) d) own.store fits)))
    (c.compact.ensures.done tt)

pub returns-clause-ends : goal.returns-clause-ends
returns-clause-ends g c h n fits =
    let m : Meaning = g.M.Machine.meaning in
    let own = c.args.self.now in
    on_device (DisksFit m h n) c.compact.new.self.store
    ((c.compact.ensures.disks tt).ends h n
    (off_device (λ d. NodeFits m h n (ReplicaHolds m own.node own.store h.genesis n) d) own.store fits) tt)

pub returns-clause-covers : goal.returns-clause-covers
returns-clause-covers g c genesis n held x shown every =
    let m : Meaning = g.M.Machine.meaning in
    on_device (λ d. AllCover m genesis n d x) c.compact.new.self.store
    ((c.compact.ensures.disks tt).covers genesis n x
    (remembered m genesis n held c.args.self.now.node c.args.self.now.store shown)
    (off_device (λ d. AllCover m genesis n d x) c.args.self.now.store every))

pub returns-clause-stands : goal.returns-clause-stands
returns-clause-stands g c genesis n held shown =
    let m : Meaning = g.M.Machine.meaning in
    on_ok _ _ c.compact.result
    (λ done. on_device (λ d. AllStandAt m genesis n d (executed c.compact.new.self.node.learner) held.paxos.done)
    c.compact.new.self.store (done.stands genesis n held shown))
    (c.compact.ensures.done tt)

pub returns-clause-room : goal.returns-clause-room
returns-clause-room g c =
    let most = max_base_of (alpha c.args.self.now.node.learner) in
    on_device (λ d. StaysWithin most (disk_of (device_of c.args.self.now.store)) d) c.compact.new.self.store
    (on_device (λ d. StaysWithin most d (disks c.compact.new.self.store)) c.args.self.now.store
    (c.compact.ensures.disks tt).room)

pub returns-clause-exact : goal.returns-clause-exact
returns-clause-exact g c =
    let m : Meaning = g.M.Machine.meaning in
    compacted m c.args.self.now c.compact.new.self c.compact.result
    (c.compact.ensures.done tt) c.compact.ensures.becomes c.compact.ensures.alive

pub returns-clause-refused : goal.returns-clause-refused
returns-clause-refused g c =
    let m : Meaning = g.M.Machine.meaning in
    refused m c.args.self.now c.compact.new.self c.compact.result c.compact.ensures.cause c.compact.ensures.refused
    c.compact.ensures.halted c.compact.ensures.last

pub returns-clause-told : goal.returns-clause-told
returns-clause-told g c = told c.args.self.now c.compact.new.self c.compact.result c.compact.ensures.refused

pub returns-clause-calls : goal.returns-clause-calls
returns-clause-calls g c =
    let m : Meaning = g.M.Machine.meaning in
    calls_ok m c.args.self.now c.compact.new.self c.compact.result (c.compact.ensures.done tt)

pub returns-clause-calls_err : goal.returns-clause-calls_err
returns-clause-calls_err g c = calls_err c.args.self.now c.compact.new.self c.compact.result c.compact.ensures.refused
