use Rattle.std.proofs.Common.{◌≡◌, ◌∙◌, List, ◌++◌, Result, Ok, Err, OnErr, Contains, refl, ap, sym, subst}
use Rattle.std.specs.Prelude.{⊤}
use Rattle.lk_store_format.specs.Values.{HeaderValue}
use Rattle.lk_replica.specs.ReplicaValue.{device_of}
use Rattle.lk_memory_disk.specs.Memory.{disk_of}
use Rattle.lk_state.specs.Meanings.{Meaning}
use Rattle.lk_node_interface.specs.Envelopes.{batch_of}
use Rattle.lk_node.specs.Calls.{NodeFits, LeavesFit}
use Rattle.lk_node.specs.Histories.{Datagram}
use Rattle.lk_node.specs.Keeping.{ReplicaHolds}
use Rattle.lk_node.specs.Leavings.{DisksFit, AllCover}
use Rattle.lk_node_interface.specs.Faults.{fault_number, IsNumberOfCalls}
use Rattle.lk_replica.specs.Posts.{MemoryPostValue}
use Rattle.lk_replica.specs.Taking.{IsOfLast, IsRefused}
use Rattle.lk_recovery.proofs.Recoveries.{err_as}
use Rattle.lk_replica.proofs.Going.{remembered}
use Rattle.lk_replica.proofs.OnDevices.{on_device, off_device}
use Rattle.lk_replica.proofs.in_memory.ReplicaMemoryDiskMemoryReplica.take.Goals as goal

on_err : {T E : Type 0} (r : Result T E) (P : Type 0) → P → OnErr r P
on_err (Ok x) P p = tt
on_err (Err e) P p = p

pub returns-in-Ok-clause-goes : goal.returns-in-Ok-clause-goes
returns-in-Ok-clause-goes g c h n fits heard =
    let m : Meaning = g.M.Machine.meaning in
    let own = c.args.self.now in
    let all = c.in_ok-notes.ensures.gives.envelopes in
    let by = c.in_ok-notes.ensures.gives.holds tt in
    let went = by.goes h n (off_device
    (λ d. NodeFits m h n (ReplicaHolds m own.node own.store h.genesis n) d) own.store fits) heard in
    let envelopes : c.take.new.post.envelopes ≡ all = by.taken.sent.1 tt
    ∙ ap (λ (p : MemoryPostValue). p.envelopes ++ by.taken.out.envelopes) c.empty_post-post.ensures ∙ by.taken.sent.0 in
    let is : c.number-node.result ≡ n = c.number-node.ensures ∙ ap (λ (w : HeaderValue). w.node) fits.shown.whose in
    let batch : c.in-Ok.sent.items ≡ batch_of n all = c.in-Ok.ensures.ok ∙ (λ i. batch_of (is i) (envelopes i)) in
    subst (λ (ds : List Datagram). LeavesFit m h n
    (ReplicaHolds m c.take.new.self.node c.take.new.self.store h.genesis n)
    (disk_of (device_of c.take.new.self.store)) c.in_ok-notes.notes.items ds) (sym batch)
    (on_device (λ d. LeavesFit m h n
    (ReplicaHolds m c.take.new.self.node c.take.new.self.store h.genesis n) d c.in_ok-notes.notes.items
    (batch_of n all))
    c.take.new.self.store went)

pub returns-in-Ok-clause-syncs : goal.returns-in-Ok-clause-syncs
returns-in-Ok-clause-syncs g c genesis n held x shown =
    let m : Meaning = g.M.Machine.meaning in
    let all = c.in_ok-notes.ensures.gives.envelopes in
    let by = c.in_ok-notes.ensures.gives.holds tt in
    let envelopes : c.take.new.post.envelopes ≡ all = by.taken.sent.1 tt
    ∙ ap (λ (p : MemoryPostValue). p.envelopes ++ by.taken.out.envelopes) c.empty_post-post.ensures ∙ by.taken.sent.0 in
    let is : c.number-node.result ≡ n = c.number-node.ensures ∙ ap (λ (w : HeaderValue). w.node) shown.whose in
    let batch : c.in-Ok.sent.items ≡ batch_of n all = c.in-Ok.ensures.ok ∙ (λ i. batch_of (is i) (envelopes i)) in
    λ d listed said. on_device (λ z. AllCover m genesis n z x) c.take.new.self.store
    (by.syncs genesis n x (remembered m genesis n held c.args.self.now.node c.args.self.now.store shown) d
    (subst (λ (ds : List Datagram). Contains ds d) batch listed) said)

pub returns-in-Ok-clause-exact : goal.returns-in-Ok-clause-exact
returns-in-Ok-clause-exact g c =
    let taken = (c.in_ok-notes.ensures.gives.holds tt).taken in
    let envelopes : c.take.new.post.envelopes ≡ taken.out.envelopes = taken.sent.1 tt
    ∙ ap (λ (p : MemoryPostValue). p.envelopes ++ taken.out.envelopes) c.empty_post-post.ensures in
    record {
      envelopes = taken.out.envelopes;
      batch = c.in-Ok.ensures.ok ∙ (λ i. batch_of (c.number-node.ensures i) (envelopes i));
      taken = record {
        mid = taken.mid;
        between = taken.between;
        rebases = taken.rebases;
        stepped = taken.stepped;
        out = taken.out;
        steps = taken.steps;
        writes = taken.writes;
        noted = taken.noted;
        sent = refl;
        calls = taken.calls;
        alive = taken.alive;
        store_alive = taken.store_alive;
        awake = taken.awake;
      };
    }

-- ---- at every exit

pub returns-in_err-notes-clause-ends : goal.returns-in_err-notes-clause-ends
returns-in_err-notes-clause-ends g c h n fits heard =
    let m : Meaning = g.M.Machine.meaning in
    let own = c.args.self.now in
    on_err c.from_residual.result _ (on_device (DisksFit m h n) c.take.new.self.store
    ((c.take.ensures.disks tt).ends h n
    (off_device (λ d. NodeFits m h n (ReplicaHolds m own.node own.store h.genesis n) d) own.store fits) heard))

pub returns-in-Err-clause-ends : goal.returns-in-Err-clause-ends
returns-in-Err-clause-ends g c h n fits heard =
    let m : Meaning = g.M.Machine.meaning in
    let own = c.args.self.now in
    on_device (DisksFit m h n) c.take.new.self.store
    ((c.take.ensures.disks tt).ends h n
    (off_device (λ d. NodeFits m h n (ReplicaHolds m own.node own.store h.genesis n) d) own.store fits) heard)

pub returns-in_err-notes-clause-covers : goal.returns-in_err-notes-clause-covers
returns-in_err-notes-clause-covers g c genesis n held x shown every =
    let m : Meaning = g.M.Machine.meaning in
    on_device (λ d. AllCover m genesis n d x) c.take.new.self.store
    ((c.take.ensures.disks tt).covers genesis n x
    (remembered m genesis n held c.args.self.now.node c.args.self.now.store shown)
    (off_device (λ d. AllCover m genesis n d x) c.args.self.now.store every))

pub returns-in-Ok-clause-covers : goal.returns-in-Ok-clause-covers
returns-in-Ok-clause-covers g c genesis n held x shown every =
    let m : Meaning = g.M.Machine.meaning in
    on_device (λ d. AllCover m genesis n d x) c.take.new.self.store
    ((c.take.ensures.disks tt).covers genesis n x
    (remembered m genesis n held c.args.self.now.node c.args.self.now.store shown)
    (off_device (λ d. AllCover m genesis n d x) c.args.self.now.store every))

pub returns-in-Err-clause-covers : goal.returns-in-Err-clause-covers
returns-in-Err-clause-covers g c genesis n held x shown every =
    let m : Meaning = g.M.Machine.meaning in
    on_device (λ d. AllCover m genesis n d x) c.take.new.self.store
    ((c.take.ensures.disks tt).covers genesis n x
    (remembered m genesis n held c.args.self.now.node c.args.self.now.store shown)
    (off_device (λ d. AllCover m genesis n d x) c.args.self.now.store every))

pub returns-in_err-notes-clause-told : goal.returns-in_err-notes-clause-told
returns-in_err-notes-clause-told g c =
    err_as (λ e. IsNumberOfCalls (fault_number e)) _ _ c.from_residual.ensures.1 c.in_err-notes.ensures.refused.told

pub returns-in_err-notes-clause-refused : goal.returns-in_err-notes-clause-refused
returns-in_err-notes-clause-refused g c =
    let own = c.args.self.now in
    let new = c.take.new.self in
    err_as (λ e. IsRefused ⊤ ⊤ own new (fault_number e) × IsOfLast own (fault_number e)) _ _ c.from_residual.ensures.1
    (c.in_err-notes.ensures.refused, c.in_err-notes.ensures.last tt)
