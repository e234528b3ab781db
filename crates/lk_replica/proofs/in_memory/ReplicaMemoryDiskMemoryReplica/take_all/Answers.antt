use Rattle.std.proofs.Common.{◌≡◌, ℕ, Bool, ◌+◌, ◌-◌, length, ◌∙◌, ◌∷◌, List, [], refl, ap, sym, subst, inl, inr}
use Rattle.std.proofs.Common.{rules}
use Rattle.std.specs.Prelude.{⊤}
use Rattle.std.proofs.lemmas.List.{nil_from_length}
use Rattle.std.specs.List.{AllByRecursion}
use Rattle.lk_log.specs.StoreValue.{disks}
use Rattle.lk_log.specs.Rooms.{StaysWithin}
use Rattle.lk_log.proofs.Room.{within_first, within_still}
use Rattle.lk_memory_disk.specs.Memory.{disk_of}
use Rattle.lk_disk.specs.Meters.{CallsSucceed}
use Rattle.lk_disk.proofs.Devices.{passes_on}
use Rattle.lk_disk.specs.declared.meter.Meter.{Meter}
use Rattle.lk_node_interface.specs.Envelopes.{batch_of, EnvelopeValue}
use Rattle.lk_node_interface.specs.declared.input.Input.{Input}
use Rattle.lk_node.specs.Calls.{InputFits, NodeFits}
use Rattle.lk_node.specs.Keeping.{ReplicaHolds}
use Rattle.lk_node.specs.Leavings.{DisksFit, AllCover}
use Rattle.lk_node_interface.specs.Faults.{fault_number, RefusedAfter, IsNumberOfCalls}
use Rattle.lk_replica.specs.Groups.{GroupValue, IsGroupSynced, LeavesInGroup, add_step_calls, sync_calls}
use Rattle.lk_replica.specs.ReplicaValue.{ReplicaValue, device_of}
use Rattle.lk_replica.specs.Together.{IsTogetherRefused}
use Rattle.lk_replica.specs.declared.taken.Step.{Step}
use Rattle.lk_recovery.proofs.Recoveries.{err_as}
use Rattle.lk_replica.proofs.Going.{remembered}
use Rattle.lk_replica.proofs.OnDevices.{on_device, off_device}
use Rattle.lk_replica.proofs.TakenTogether.{TakenSoFar, taken_nothing, one_taken, refused_further, refused_in_all}
use Rattle.lk_replica.proofs.TakenTogether.{taken_in_all, gone_in_all, covered_in_all}
use Rattle.lk_replica.proofs.in_memory.ReplicaMemoryDiskMemoryReplica.take_all.Goals as goal

-- a refusal for memory comes after calls that have passed
not_by_the_device : (number : ℕ) (m n : Meter) → number ≡ 8 → (k : ℕ) × CallsSucceed m n k → RefusedAfter number m n
not_by_the_device number m n is passes = subst (λ (k : ℕ). RefusedAfter k m n) (sym is) passes

-- ---- the loop

pub inputs-init : goal.inputs-init
inputs-init g c =
    let same : c.into_iter-input-iterator.result.rest.items ≡ c.args.inputs.items = search rules in
    taken_nothing g.M.Machine.meaning g.M.Machine.IsText c.args.self.now c.args.inputs.items
    c.into_iter-input-iterator.result.rest.items c.new-group.result c.new-steps.result.items c.new-group.ensures
    c.new-steps.ensures.items same

pub inputs-preserved : goal.inputs-preserved
inputs-preserved g c =
    let m = g.M.Machine.meaning in
    let t = g.M.Machine.IsText in
    let own = c.args.self.now in
    let all = c.args.inputs.items in
    let e = c.in_ok-add_step.ensures in
    let rest = c.next.new.self.rest.items in
    let was = subst (λ (l : List Input). TakenSoFar m t own all c.inputs.self c.inputs.group c.inputs.steps.items l)
    c.in-Some.ensures.steps.0 c.inputs.invariant in
    let one = one_taken m t own all c.inputs.self c.add_step.new.self c.inputs.group c.add_step.new.group
    c.inputs.steps.items c.in-Some.input rest c.drain_step-step.result was (e.goes tt) (e.exact tt)
    c.drain_step-step.ensures.notes
    (c.drain_step-step.ensures.sends
    ∙ ap (λ (l : List EnvelopeValue). length c.add_step.new.group.envelopes - length l) c.envelopes-before.ensures)
    (e.keeps tt) (c.add_step.ensures.disks tt) e.alive.0 in
    subst (λ (r : ReplicaValue). TakenSoFar m t own all r c.drain_step-step.new.self c.keep.new.steps.items rest)
    (sym c.in_ok-keep.ensures.same)
    (subst (λ (x : GroupValue). TakenSoFar m t own all c.add_step.new.self x c.keep.new.steps.items rest)
    (sym c.drain_step-step.ensures.others)
    (subst (λ (l : List Step). TakenSoFar m t own all c.add_step.new.self
    (record c.add_step.new.group { notes = [] }) l rest) (sym c.in_ok-keep.ensures.kept) one))

-- ---- a step that is refused

pub returns-in_err-add_step-clause-ends : goal.returns-in_err-add_step-clause-ends
returns-in_err-add_step-clause-ends g c h n fits heard =
    let m = g.M.Machine.meaning in
    let own = c.args.self.now in
    let k = c.inputs.invariant.stays h n
    (off_device (λ d. NodeFits m h n (ReplicaHolds m own.node own.store h.genesis n) d) own.store fits) heard in
    let rest : AllByRecursion (InputFits h) (c.in-Some.input ∷ c.next.new.self.rest.items) =
    subst (λ (l : List Input). AllByRecursion (InputFits h) l) c.in-Some.ensures.steps.0 k.1 in
    on_device (DisksFit m h n) c.add_step.new.self.store ((c.add_step.ensures.disks tt).ends h n k.0 rest.0)

pub returns-in_err-add_step-clause-covers : goal.returns-in_err-add_step-clause-covers
returns-in_err-add_step-clause-covers g c genesis n held x shown every =
    let m = g.M.Machine.meaning in
    let own = c.args.self.now in
    let r = remembered m genesis n held own.node own.store shown in
    let s = c.inputs.invariant in
    on_device (λ d. AllCover m genesis n d x) c.add_step.new.self.store
    ((c.add_step.ensures.disks tt).covers genesis n x (s.recalls genesis n r)
    (s.covers genesis n x r (off_device (λ d. AllCover m genesis n d x) own.store every)))

pub returns-in_err-add_step-clause-room : goal.returns-in_err-add_step-clause-room
returns-in_err-add_step-clause-room g c =
    let own = c.args.self.now in
    on_device (λ d. StaysWithin 132704 (disk_of (device_of own.store)) d) c.add_step.new.self.store
    (on_device (λ d. StaysWithin 132704 d (disks c.add_step.new.self.store)) own.store
    (within_first 132704 (disks own.store) (disks c.inputs.self.store)
    (disks c.add_step.new.self.store) c.inputs.invariant.room (c.add_step.ensures.disks tt).room))

pub returns-in_err-add_step-clause-calls_err : goal.returns-in_err-add_step-clause-calls_err
returns-in_err-add_step-clause-calls_err g c =
    let new = c.add_step.new.self in
    err_as (λ e. RefusedAfter (fault_number e) c.args.self.now.store.meter new.store.meter)
    _ _ c.from_residual.ensures.1
    (refused_further g.M.Machine.meaning g.M.Machine.IsText c.args.self.now _ c.inputs.self new
    _ _ _ _ c.inputs.invariant (c.in_err-add_step.ensures.refused.calls tt tt))

pub returns-in_err-add_step-clause-refused : goal.returns-in_err-add_step-clause-refused
returns-in_err-add_step-clause-refused g c =
    let new = c.add_step.new.self in
    let all = c.args.inputs.items in
    err_as (λ e. IsNumberOfCalls (fault_number e)
    × IsTogetherRefused g.M.Machine.meaning g.M.Machine.IsText c.args.self.now all new (fault_number e))
    _ _ c.from_residual.ensures.1 (
      c.in_err-add_step.ensures.refused.told,
      refused_in_all g.M.Machine.meaning g.M.Machine.IsText c.args.self.now all c.inputs.self new
          _ _ _ _ c.inputs.invariant (inl c.in_err-add_step.ensures.refused),
    )

-- ---- a step that was not kept

pub returns-in_err-keep-clause-ends : goal.returns-in_err-keep-clause-ends
returns-in_err-keep-clause-ends g c h n fits heard =
    let m = g.M.Machine.meaning in
    let own = c.args.self.now in
    let k = c.inputs.invariant.stays h n
    (off_device (λ d. NodeFits m h n (ReplicaHolds m own.node own.store h.genesis n) d) own.store fits) heard in
    let rest : AllByRecursion (InputFits h) (c.in-Some.input ∷ c.next.new.self.rest.items) =
    subst (λ (l : List Input). AllByRecursion (InputFits h) l) c.in-Some.ensures.steps.0 k.1 in
    on_device (DisksFit m h n) c.keep.new.self.store
    (subst (λ (r : ReplicaValue). DisksFit m h n (disks r.store)) (sym c.in_err-keep.ensures.refused.ends)
    ((c.add_step.ensures.disks tt).ends h n k.0 rest.0))

pub returns-in_err-keep-clause-covers : goal.returns-in_err-keep-clause-covers
returns-in_err-keep-clause-covers g c genesis n held x shown every =
    let m = g.M.Machine.meaning in
    let own = c.args.self.now in
    let r = remembered m genesis n held own.node own.store shown in
    let s = c.inputs.invariant in
    on_device (λ d. AllCover m genesis n d x) c.keep.new.self.store
    (subst (λ (r : ReplicaValue). AllCover m genesis n (disks r.store) x) (sym c.in_err-keep.ensures.refused.ends)
    ((c.add_step.ensures.disks tt).covers genesis n x (s.recalls genesis n r)
    (s.covers genesis n x r (off_device (λ d. AllCover m genesis n d x) own.store every))))

pub returns-in_err-keep-clause-room : goal.returns-in_err-keep-clause-room
returns-in_err-keep-clause-room g c =
    let own = c.args.self.now in
    on_device (λ d. StaysWithin 132704 (disk_of (device_of own.store)) d) c.keep.new.self.store
    (on_device (λ d. StaysWithin 132704 d (disks c.keep.new.self.store)) own.store
    (subst (λ (r : ReplicaValue). StaysWithin 132704 (disks own.store) (disks r.store))
    (sym c.in_err-keep.ensures.refused.ends)
    (within_first 132704 (disks own.store) (disks c.inputs.self.store)
    (disks c.add_step.new.self.store) c.inputs.invariant.room (c.add_step.ensures.disks tt).room)))

pub returns-in_err-keep-clause-calls_err : goal.returns-in_err-keep-clause-calls_err
returns-in_err-keep-clause-calls_err g c =
    let own = c.args.self.now in
    let s = c.inputs.invariant in
    let exact = c.in_ok-add_step.ensures.exact tt in
    let room = exact.room.calls tt in
    let made : ℕ = room.0 + add_step_calls exact.out in
    let passes = passes_on s.calls s.passes made
    (passes_on room.0 room.2 (add_step_calls exact.out) (exact.steps.calls tt)) in
    err_as (λ e. RefusedAfter (fault_number e) own.store.meter c.keep.new.self.store.meter)
    _ _ c.from_residual-in_err-keep.ensures.1
    (not_by_the_device _ own.store.meter c.keep.new.self.store.meter c.in_err-keep.ensures.refused.no_memory (
      s.calls + made,
      subst (λ (r : ReplicaValue). CallsSucceed own.store.meter r.store.meter (s.calls + made))
          (sym c.in_err-keep.ensures.refused.ends) passes,
    ))

pub returns-in_err-keep-clause-refused : goal.returns-in_err-keep-clause-refused
returns-in_err-keep-clause-refused g c =
    let m = g.M.Machine.meaning in
    let t = g.M.Machine.IsText in
    let own = c.args.self.now in
    let all = c.args.inputs.items in
    let e = c.in_ok-add_step.ensures in
    let rest = c.next.new.self.rest.items in
    let was = subst (λ (l : List Input). TakenSoFar m t own all c.inputs.self c.inputs.group c.inputs.steps.items l)
    c.in-Some.ensures.steps.0 c.inputs.invariant in
    let one = one_taken m t own all c.inputs.self c.add_step.new.self c.inputs.group c.add_step.new.group
    c.inputs.steps.items c.in-Some.input rest c.drain_step-step.result was (e.goes tt) (e.exact tt)
    c.drain_step-step.ensures.notes
    (c.drain_step-step.ensures.sends
    ∙ ap (λ (l : List EnvelopeValue). length c.add_step.new.group.envelopes - length l) c.envelopes-before.ensures)
    (e.keeps tt) (c.add_step.ensures.disks tt) e.alive.0 in
    err_as (λ e. IsNumberOfCalls (fault_number e)
    × IsTogetherRefused m t own all c.keep.new.self (fault_number e))
    _ _ c.from_residual-in_err-keep.ensures.1 (
      inr (inl c.in_err-keep.ensures.refused.no_memory),
      refused_in_all m t own all c.add_step.new.self c.keep.new.self _ _ _ _ one
          (inr (inl c.in_err-keep.ensures.refused)),
    )

-- ---- the sync that is refused

pub returns-in_err-sync_group-clause-ends : goal.returns-in_err-sync_group-clause-ends
returns-in_err-sync_group-clause-ends g c h n fits heard =
    let m = g.M.Machine.meaning in
    let own = c.args.self.now in
    let k = c.inputs.invariant.stays h n
    (off_device (λ d. NodeFits m h n (ReplicaHolds m own.node own.store h.genesis n) d) own.store fits) heard in
    let ended = subst (λ (w : Bool). LeavesInGroup g.M.Machine.meaning
    (λ h. ⊤) 0 c.inputs.self.node c.inputs.self.store w (disks c.sync_group.new.self.store)) c.needs_sync.ensures
    (c.sync_group.ensures.disks tt) in
    on_device (DisksFit m h n) c.sync_group.new.self.store (ended.ends h n k.0 tt)

pub returns-in_err-sync_group-clause-covers : goal.returns-in_err-sync_group-clause-covers
returns-in_err-sync_group-clause-covers g c genesis n held x shown every =
    let m = g.M.Machine.meaning in
    let own = c.args.self.now in
    let r = remembered m genesis n held own.node own.store shown in
    let s = c.inputs.invariant in
    let ended = subst (λ (w : Bool). LeavesInGroup g.M.Machine.meaning
    (λ h. ⊤) 0 c.inputs.self.node c.inputs.self.store w (disks c.sync_group.new.self.store)) c.needs_sync.ensures
    (c.sync_group.ensures.disks tt) in
    on_device (λ d. AllCover m genesis n d x) c.sync_group.new.self.store
    (ended.covers genesis n x (s.recalls genesis n r)
    (s.covers genesis n x r (off_device (λ d. AllCover m genesis n d x) own.store every)))

pub returns-in_err-sync_group-clause-room : goal.returns-in_err-sync_group-clause-room
returns-in_err-sync_group-clause-room g c =
    let own = c.args.self.now in
    on_device (λ d. StaysWithin 132704 (disk_of (device_of own.store)) d) c.sync_group.new.self.store
    (on_device (λ d. StaysWithin 132704 d (disks c.sync_group.new.self.store)) own.store
    (within_still 132704 (disks own.store) (disks c.inputs.self.store)
    (disks c.sync_group.new.self.store) c.inputs.invariant.room (c.sync_group.ensures.disks tt).room))

pub returns-in_err-sync_group-clause-calls_err : goal.returns-in_err-sync_group-clause-calls_err
returns-in_err-sync_group-clause-calls_err g c =
    let new = c.sync_group.new.self in
    err_as (λ e. RefusedAfter (fault_number e) c.args.self.now.store.meter new.store.meter)
    _ _ c.from_residual-in_err-sync_group.ensures.1
    (refused_further g.M.Machine.meaning g.M.Machine.IsText c.args.self.now _ c.inputs.self new
    _ _ _ _ c.inputs.invariant (c.in_err-sync_group.ensures.refused.calls tt tt))

pub returns-in_err-sync_group-clause-refused : goal.returns-in_err-sync_group-clause-refused
returns-in_err-sync_group-clause-refused g c =
    let new = c.sync_group.new.self in
    let all = c.args.inputs.items in
    err_as (λ e. IsNumberOfCalls (fault_number e)
    × IsTogetherRefused g.M.Machine.meaning g.M.Machine.IsText c.args.self.now all new (fault_number e))
    _ _ c.from_residual-in_err-sync_group.ensures.1 (
      c.in_err-sync_group.ensures.refused.told,
      refused_in_all g.M.Machine.meaning g.M.Machine.IsText c.args.self.now all c.inputs.self new
          _ _ _ _ c.inputs.invariant (inl c.in_err-sync_group.ensures.refused),
    )

-- ---- the envelopes that were not sent

pub returns-in-Err-clause-ends : goal.returns-in-Err-clause-ends
returns-in-Err-clause-ends g c h n fits heard =
    let m = g.M.Machine.meaning in
    let own = c.args.self.now in
    let k = c.inputs.invariant.stays h n
    (off_device (λ d. NodeFits m h n (ReplicaHolds m own.node own.store h.genesis n) d) own.store fits) heard in
    let ended = subst (λ (w : Bool). LeavesInGroup g.M.Machine.meaning
    (λ h. ⊤) 0 c.inputs.self.node c.inputs.self.store w (disks c.sync_group.new.self.store)) c.needs_sync.ensures
    (c.sync_group.ensures.disks tt) in
    on_device (DisksFit m h n) c.sync_group.new.self.store (ended.ends h n k.0 tt)

pub returns-in-Err-clause-covers : goal.returns-in-Err-clause-covers
returns-in-Err-clause-covers g c genesis n held x shown every =
    let m = g.M.Machine.meaning in
    let own = c.args.self.now in
    let r = remembered m genesis n held own.node own.store shown in
    let s = c.inputs.invariant in
    let ended = subst (λ (w : Bool). LeavesInGroup g.M.Machine.meaning
    (λ h. ⊤) 0 c.inputs.self.node c.inputs.self.store w (disks c.sync_group.new.self.store)) c.needs_sync.ensures
    (c.sync_group.ensures.disks tt) in
    on_device (λ d. AllCover m genesis n d x) c.sync_group.new.self.store
    (ended.covers genesis n x (s.recalls genesis n r)
    (s.covers genesis n x r (off_device (λ d. AllCover m genesis n d x) own.store every)))

pub returns-in-Err-clause-room : goal.returns-in-Err-clause-room
returns-in-Err-clause-room g c =
    let own = c.args.self.now in
    on_device (λ d. StaysWithin 132704 (disk_of (device_of own.store)) d) c.sync_group.new.self.store
    (on_device (λ d. StaysWithin 132704 d (disks c.sync_group.new.self.store)) own.store
    (within_still 132704 (disks own.store) (disks c.inputs.self.store)
    (disks c.sync_group.new.self.store) c.inputs.invariant.room (c.sync_group.ensures.disks tt).room))

pub returns-in-Err-clause-calls_err : goal.returns-in-Err-clause-calls_err
returns-in-Err-clause-calls_err g c =
    let s = c.inputs.invariant in (
      s.calls + sync_calls c.needs_sync.result,
      passes_on s.calls s.passes (sync_calls c.needs_sync.result) ((c.in_ok-sync_group.ensures.exact tt).calls tt),
    )

pub returns-in-Err-clause-refused : goal.returns-in-Err-clause-refused
returns-in-Err-clause-refused g c =
    let m = g.M.Machine.meaning in
    let new = c.sync_group.new.self in
    let all = c.args.inputs.items in
    let is_synced = subst (λ (w : Bool). IsGroupSynced ⊤ c.inputs.self w new) c.needs_sync.ensures
    (c.in_ok-sync_group.ensures.exact tt) in (
      inr (inr (inr (inr refl))),
      refused_in_all m g.M.Machine.IsText c.args.self.now all c.inputs.self new _ _ _ _ c.inputs.invariant
          (inr (inr (record { not_sent = refl; is_synced = is_synced }))),
    )

-- ---- all is sent

pub returns-in-Ok-clause-ends : goal.returns-in-Ok-clause-ends
returns-in-Ok-clause-ends g c h n fits heard =
    let m = g.M.Machine.meaning in
    let own = c.args.self.now in
    let k = c.inputs.invariant.stays h n
    (off_device (λ d. NodeFits m h n (ReplicaHolds m own.node own.store h.genesis n) d) own.store fits) heard in
    let ended = subst (λ (w : Bool). LeavesInGroup g.M.Machine.meaning
    (λ h. ⊤) 0 c.inputs.self.node c.inputs.self.store w (disks c.sync_group.new.self.store)) c.needs_sync.ensures
    (c.sync_group.ensures.disks tt) in
    on_device (DisksFit m h n) c.sync_group.new.self.store (ended.ends h n k.0 tt)

pub returns-in-Ok-clause-covers : goal.returns-in-Ok-clause-covers
returns-in-Ok-clause-covers g c genesis n held x shown every =
    let m = g.M.Machine.meaning in
    let own = c.args.self.now in
    let r = remembered m genesis n held own.node own.store shown in
    let s = c.inputs.invariant in
    let ended = subst (λ (w : Bool). LeavesInGroup g.M.Machine.meaning
    (λ h. ⊤) 0 c.inputs.self.node c.inputs.self.store w (disks c.sync_group.new.self.store)) c.needs_sync.ensures
    (c.sync_group.ensures.disks tt) in
    on_device (λ d. AllCover m genesis n d x) c.sync_group.new.self.store
    (ended.covers genesis n x (s.recalls genesis n r)
    (s.covers genesis n x r (off_device (λ d. AllCover m genesis n d x) own.store every)))

pub returns-in-Ok-clause-room : goal.returns-in-Ok-clause-room
returns-in-Ok-clause-room g c =
    let own = c.args.self.now in
    on_device (λ d. StaysWithin 132704 (disk_of (device_of own.store)) d) c.sync_group.new.self.store
    (on_device (λ d. StaysWithin 132704 d (disks c.sync_group.new.self.store)) own.store
    (within_still 132704 (disks own.store) (disks c.inputs.self.store)
    (disks c.sync_group.new.self.store) c.inputs.invariant.room (c.sync_group.ensures.disks tt).room))

pub returns-in-Ok-clause-calls : goal.returns-in-Ok-clause-calls
returns-in-Ok-clause-calls g c =
    let s = c.inputs.invariant in (
      s.calls + sync_calls c.needs_sync.result,
      passes_on s.calls s.passes (sync_calls c.needs_sync.result) ((c.in_ok-sync_group.ensures.exact tt).calls tt),
    )

pub returns-in-Ok-clause-syncs : goal.returns-in-Ok-clause-syncs
returns-in-Ok-clause-syncs g c genesis n held x shown =
    let m = g.M.Machine.meaning in
    let own = c.args.self.now in
    let new = c.sync_group.new.self in
    let r = remembered m genesis n held own.node own.store shown in
    let is_synced = subst (λ (w : Bool). IsGroupSynced ⊤ c.inputs.self w new) c.needs_sync.ensures
    (c.in_ok-sync_group.ensures.exact tt) in
    let batch : c.in-Ok.sent.items ≡ batch_of own.node.header.node c.inputs.group.envelopes = c.in-Ok.ensures.ok
    ∙ (λ i. batch_of (c.number-node.ensures i) (c.into_envelopes.ensures i)) in
    λ d listed spelled. on_device (λ z. AllCover m genesis n z x) new.store
    (covered_in_all m g.M.Machine.IsText own c.args.inputs.items c.inputs.self new _ _ _ _ c.inputs.invariant is_synced
    batch genesis n x r d listed spelled)

pub returns-in-Ok-clause-goes : goal.returns-in-Ok-clause-goes
returns-in-Ok-clause-goes g c genesis n held shown =
    let m = g.M.Machine.meaning in
    let own = c.args.self.now in
    let new = c.sync_group.new.self in
    let r = remembered m genesis n held own.node own.store shown in
    let none : c.inputs.input-iterator.rest.items ≡ [] =
    nil_from_length c.inputs.input-iterator.rest.items
    (sym c.inputs.input-iterator.rest.ok.0 ∙ c.in-None.ensures.steps.0) in
    let is_synced = subst (λ (w : Bool). IsGroupSynced ⊤ c.inputs.self w new) c.needs_sync.ensures
    (c.in_ok-sync_group.ensures.exact tt) in
    let batch : c.in-Ok.sent.items ≡ batch_of own.node.header.node c.inputs.group.envelopes = c.in-Ok.ensures.ok
    ∙ (λ i. batch_of (c.number-node.ensures i) (c.into_envelopes.ensures i)) in
    gone_in_all m g.M.Machine.IsText own c.args.inputs.items c.inputs.self new _ _ _ _ c.inputs.invariant none is_synced
    (c.sync_group.ensures.disks tt).room batch genesis n r

pub returns-in-Ok-clause-exact : goal.returns-in-Ok-clause-exact
returns-in-Ok-clause-exact g c =
    let m = g.M.Machine.meaning in
    let own = c.args.self.now in
    let new = c.sync_group.new.self in
    let none : c.inputs.input-iterator.rest.items ≡ [] =
    nil_from_length c.inputs.input-iterator.rest.items
    (sym c.inputs.input-iterator.rest.ok.0 ∙ c.in-None.ensures.steps.0) in
    let is_synced = subst (λ (w : Bool). IsGroupSynced ⊤ c.inputs.self w new) c.needs_sync.ensures
    (c.in_ok-sync_group.ensures.exact tt) in
    let batch : c.in-Ok.sent.items ≡ batch_of own.node.header.node c.inputs.group.envelopes = c.in-Ok.ensures.ok
    ∙ (λ i. batch_of (c.number-node.ensures i) (c.into_envelopes.ensures i)) in
    taken_in_all m g.M.Machine.IsText own c.args.inputs.items c.inputs.self new _ _ _ _ c.inputs.invariant none
    is_synced
    c.in_ok-sync_group.ensures.alive batch
