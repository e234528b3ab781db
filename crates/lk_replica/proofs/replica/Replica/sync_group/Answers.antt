use Rattle.std.proofs.Common.{◌≡◌, ◌||◌, inl, inr, Bool, true, false, refl, sym, ap, subst, ◌∙◌, arith, Ok}
use Rattle.std.specs.Prelude.{IfErr, ⊤}
use Rattle.lk_disk.specs.Meters.{start}
use Rattle.lk_log.specs.StoreValue.{disks}
use Rattle.lk_log.proofs.Room.{within_same}
use Rattle.lk_node_interface.specs.Faults.{fault_number}
use Rattle.lk_replica.specs.Groups.{IsRefusedInGroup, IsGroupSynced, LeavesInGroup}
use Rattle.lk_replica.specs.ReplicaValue.{ReplicaValue}
use Rattle.lk_replica.proofs.Grouped.{ended_in_group, group_refused, settled_none, settled_still}
use Rattle.lk_replica.specs.Taking.{EndsGroup}
use Rattle.lk_replica.proofs.Refusals.{store_told, store_only, store_awake, not_ok}
use Rattle.lk_recovery.proofs.Recoveries.{err_as, spared_all}
use Rattle.lk_replica.proofs.replica.Replica.sync_group.Goals as goal
use Rattle.lk_replica.proofs.replica.Replica.sync_group.Goals.{then-needs_sync, else-needs_sync}

pub invariant_of-self-2 : goal.invariant_of-self-2
invariant_of-self-2 g c = (λ lives. c.self.invariant.0 c.if-self.false, c.sync_or_flush.ensures.format)

pub returns-clause-exact : goal.returns-clause-exact
returns-clause-exact g c honest =
    let done = c.in_ok-sync_or_flush.ensures in
    let metered = g.D.LogDisk.is_metered in
    subst (λ (r : ReplicaValue). IsGroupSynced metered r c.args.needs_sync
    (record { node = c.self.inside.node; store = c.sync_or_flush.new.store; failed = false })) c.self.view_is
    (record {
      lived = c.if-self.false;
      node = refl;
      syncs_all = done.syncs_all honest;
      calls = λ metered. done.metered metered;
      store_alive = λ alive. done.alive alive;
    })

pub returns-then-self-clause-disks : goal.returns-then-self-clause-disks
returns-then-self-clause-disks g c honest = record {
  ends = λ h n s heard. s.left;
  covers = λ genesis n x r every. every;
  room = within_same 0 (disks c.args.self.now.store) (disks c.args.self.now.store) (λ s. refl);
}

pub returns-in_err-sync_or_flush-clause-disks : goal.returns-in_err-sync_or_flush-clause-disks
returns-in_err-sync_or_flush-clause-disks g c honest =
    subst (λ (r : ReplicaValue). LeavesInGroup g.M.Machine.meaning (λ h. ⊤) 0 r.node r.store c.args.needs_sync
    (disks c.sync_or_flush.new.store)) c.self.view_is
    (ended_in_group g.M.Machine.meaning
    (record { node = c.self.inside.node; store = c.self.inside.store; failed = c.self.inside.failed })
    c.args.needs_sync c.sync_or_flush.new.store (c.sync_or_flush.ensures.every_image honest)
    (c.sync_or_flush.ensures.room honest))

pub returns-clause-disks : goal.returns-clause-disks
returns-clause-disks g c honest =
    subst (λ (r : ReplicaValue). LeavesInGroup g.M.Machine.meaning (λ h. ⊤) 0 r.node r.store c.args.needs_sync
    (disks c.sync_or_flush.new.store)) c.self.view_is
    (ended_in_group g.M.Machine.meaning
    (record { node = c.self.inside.node; store = c.self.inside.store; failed = c.self.inside.failed })
    c.args.needs_sync c.sync_or_flush.new.store (c.sync_or_flush.ensures.every_image honest)
    (c.sync_or_flush.ensures.room honest))

pub returns-then-self-clause-refused : goal.returns-then-self-clause-refused
returns-then-self-clause-refused g c = record {
  told = inr (inr (inl refl));
  no_send = λ is. omega (arith, is);
  failures = refl;
  calls = λ metered honest. (0, start);
  earlier = λ number alive store_alive further. let both : true ≡ false = sym c.if-self.true
      ∙ ap (λ (r : ReplicaValue). r.failed) c.self.view_is ∙ alive in cc both;
  second = λ honest number alive store_alive less. absurd
      (let both : true ≡ false = sym c.if-self.true ∙ ap (λ (r : ReplicaValue). r.failed) c.self.view_is ∙ alive in
      cc both);
  once = λ ended. (refl, refl);
  ends = sym (ap (λ (r : ReplicaValue). r.failed) c.self.view_is) ∙ c.if-self.true;
  halts = λ number. absurd (omega (arith, number));
  awake = λ was other. was;
}

pub returns-in_err-sync_or_flush-clause-refused : goal.returns-in_err-sync_or_flush-clause-refused
returns-in_err-sync_or_flush-clause-refused g c =
    let was = c.in_err-sync_or_flush.ensures.refused.written in
    subst (λ (r : ReplicaValue). IfErr c.from_residual.result
    (λ e. IsRefusedInGroup g.D.LogDisk.is_honest g.D.LogDisk.is_metered r
    (record { node = c.self.inside.node; store = c.sync_or_flush.new.store; failed = true }) (fault_number e)))
    c.self.view_is
    (group_refused g.D.LogDisk.is_honest g.D.LogDisk.is_metered ⊤ ⊤
    _ _ (record { node = c.self.inside.node; store = c.self.inside.store; failed = c.self.inside.failed })
    c.self.inside.node c.sync_or_flush.new.store c.from_residual.ensures.1 c.if-self.false
    c.in_err-sync_or_flush.ensures.cause
    (record {
      told = store_told _ was.of_store;
      only = store_only _ was.of_store;
      calls = was.calls;
      earlier = λ is alive further. was.earlier is alive (omega (arith, further));
      second = λ honest is alive less. absurd (was.earlier is alive less);
      file = λ honest. tt;
      stays = λ honest. spared_all _ _ tt;
      halts = λ is. absurd (store_awake _ was.of_store is);
      awake = λ wakes other. wakes;
    }))

-- ---- of a replica that had not failed

first_waits : (sync flush : Bool) → sync ≡ true → (sync || flush) ≡ true
first_waits true flush is = refl
first_waits false flush is = absurd (cc is)

second_waits : (sync flush : Bool) → flush ≡ true → (sync || flush) ≡ true
second_waits true flush is = refl
second_waits false flush is = is

pub returns-then-self-clause-ends : goal.returns-then-self-clause-ends
returns-then-self-clause-ends g c lived alive =
    absurd (let both : true ≡ false = sym c.if-self.true ∙ ap (λ (r : ReplicaValue). r.failed) c.self.view_is ∙ lived in
    cc both)

pub returns-in_err-sync_or_flush-clause-ends : goal.returns-in_err-sync_or_flush-clause-ends
returns-in_err-sync_or_flush-clause-ends g c lived alive =
    let was = c.in_err-sync_or_flush.ensures.refused in
    let waits : (c.args.needs_sync || c.args.needs_flush) ≡ true = elim c.if-needs_sync.branch [
      | then-needs_sync w ↦ first_waits c.args.needs_sync c.args.needs_flush w.if-needs_sync.true
      | else-needs_sync w ↦ second_waits c.args.needs_sync c.args.needs_flush (sym w.waits-is ∙ c.if-not-waits.false)
    ] in
    let store_alive : c.self.inside.store.failed ≡ false =
    ap (λ (r : ReplicaValue). r.store.failed) c.self.view_is ∙ alive in
    subst (λ (r : ReplicaValue). EndsGroup (c.args.needs_sync || c.args.needs_flush) r
    (record { node = c.self.inside.node; store = c.sync_or_flush.new.store; failed = true }) c.from_residual.result)
    c.self.view_is
    (record {
      node = refl;
      file = c.sync_or_flush.ensures.file;
      store_alive = not_ok _ _ _ c.from_residual.ensures.1;
      refused = err_as _ _ _ c.from_residual.ensures.1
          (ap fault_number (was.device store_alive), waits);
    })

pub returns-clause-ends : goal.returns-clause-ends
returns-clause-ends g c lived alive =
    subst (λ (r : ReplicaValue). EndsGroup {T = Unit {0}} (c.args.needs_sync || c.args.needs_flush) r
    (record { node = c.self.inside.node; store = c.sync_or_flush.new.store; failed = false }) (Ok tt)) c.self.view_is
    (record {
      node = refl;
      file = c.sync_or_flush.ensures.file;
      store_alive = c.in_ok-sync_or_flush.ensures.alive
          (ap (λ (r : ReplicaValue). r.store.failed) c.self.view_is ∙ alive);
      refused = tt;
    })

-- ---- where nothing waits

none_waits : (sync flush : Bool) → (sync || flush) ≡ false → sync ≡ false
none_waits true flush is = absurd (cc is)
none_waits false flush is = refl

pub returns-then-not-waits-clause-exact : goal.returns-then-not-waits-clause-exact
returns-then-not-waits-clause-exact g c honest =
    let none : c.args.needs_sync ≡ false = none_waits c.args.needs_sync c.args.needs_flush (cc c.if-not-waits.true) in
    record {
      lived = sym (ap (λ (r : ReplicaValue). r.failed) c.self.view_is) ∙ c.if-self.false;
      node = refl;
      syncs_all = settled_still c.args.self.now.store c.args.self.now.store c.args.needs_sync none refl;
      calls = λ metered. settled_none c.args.self.now.store.meter c.args.self.now.store.meter c.args.needs_sync none
          start;
      store_alive = λ alive. alive;
    }

pub returns-then-not-waits-clause-disks : goal.returns-then-not-waits-clause-disks
returns-then-not-waits-clause-disks g c honest = record {
  ends = λ h n s heard. s.left;
  covers = λ genesis n x r every. every;
  room = within_same 0 (disks c.args.self.now.store) (disks c.args.self.now.store) (λ s. refl);
}

pub returns-then-not-waits-clause-ends : goal.returns-then-not-waits-clause-ends
returns-then-not-waits-clause-ends g c lived alive =
    record { node = refl; file = (refl, refl, refl, refl); store_alive = alive; refused = tt }
