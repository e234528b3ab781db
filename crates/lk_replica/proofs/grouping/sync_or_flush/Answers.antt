use Rattle.std.proofs.Common.{ap}
use Rattle.lk_log.proofs.StoreLaws.{same_keeps, same_within}
use Rattle.lk_node_interface.specs.Faults.{fault_of}
use Rattle.lk_replica.proofs.Refusals.{sync_wants}
use Rattle.lk_replica.proofs.Grouped.{settled_still, settled_none, settled_once}
use Rattle.lk_recovery.proofs.Recoveries.{err_as, refused_after, sync_refused, sync_spares, sync_not_failed}
use Rattle.lk_replica.proofs.grouping.sync_or_flush.Goals as goal

-- ---- nothing waits for a sync

pub returns-then-not-needs_sync-clause-syncs_all : goal.returns-then-not-needs_sync-clause-syncs_all
returns-then-not-needs_sync-clause-syncs_all g c honest =
    settled_still c.args.store.now c.flush.new.self c.args.needs_sync (cc c.if-not-needs_sync.true)
    (c.in_ok-flush.ensures.ok honest)

pub returns-in_err-flush-clause-every_image : goal.returns-in_err-flush-clause-every_image
returns-in_err-flush-clause-every_image g c honest ks ls holds =
    same_keeps c.args.store.now c.flush.new.self (c.flush.ensures.disks honest) c.flush.ensures.file.0 ks ls holds

pub returns-then-not-needs_sync-clause-every_image : goal.returns-then-not-needs_sync-clause-every_image
returns-then-not-needs_sync-clause-every_image g c honest ks ls holds =
    same_keeps c.args.store.now c.flush.new.self (c.flush.ensures.disks honest) c.flush.ensures.file.0 ks ls holds

pub returns-in_err-flush-clause-room : goal.returns-in_err-flush-clause-room
returns-in_err-flush-clause-room g c honest =
    same_within 0 c.args.store.now c.flush.new.self (c.flush.ensures.disks honest) c.flush.ensures.file.0

pub returns-then-not-needs_sync-clause-room : goal.returns-then-not-needs_sync-clause-room
returns-then-not-needs_sync-clause-room g c honest =
    same_within 0 c.args.store.now c.flush.new.self (c.flush.ensures.disks honest) c.flush.ensures.file.0

pub returns-then-not-needs_sync-clause-metered : goal.returns-then-not-needs_sync-clause-metered
returns-then-not-needs_sync-clause-metered g c metered =
    settled_none c.args.store.now.meter c.flush.new.self.meter c.args.needs_sync (cc c.if-not-needs_sync.true)
    (c.in_ok-flush.ensures.metered metered)

pub returns-in_err-flush-clause-refused : goal.returns-in_err-flush-clause-refused
returns-in_err-flush-clause-refused g c =
    let was = c.in_err-flush.ensures in
    err_as _ _ _ c.from_residual.ensures.1 (record {
      written = record {
        of_store = sync_refused c.args.store.now _ (λ dead. (was.refuses.0 dead).1) was.refuses.1;
        calls = λ metered honest. refused_after _ _ _ (was.metered metered);
        earlier = λ is alive less. sync_not_failed _ (was.refuses.1 alive) is;
        file = c.flush.ensures.file;
        stays = λ honest. sync_spares c.args.store.now c.flush.new.self
            _ (λ dead. (c.flush.ensures.refuses.0 dead).0) was.refuses.1;
      };
      memory = sync_wants c.args.store.now _ (λ dead. (was.refuses.0 dead).1) was.refuses.1;
      device = λ alive. ap fault_of (was.refuses.1 alive);
    })

-- ---- something waits

pub returns-clause-metered : goal.returns-clause-metered
returns-clause-metered g c metered =
    settled_once c.args.store.now.meter c.sync.new.self.meter c.args.needs_sync (cc c.if-not-needs_sync.false)
    (c.in_ok-sync.ensures.metered metered)

pub returns-in_err-sync-clause-refused : goal.returns-in_err-sync-clause-refused
returns-in_err-sync-clause-refused g c =
    let was = c.in_err-sync.ensures in
    err_as _ _ _ c.from_residual-in_err-sync.ensures.1 (record {
      written = record {
        of_store = sync_refused c.args.store.now _ (λ dead. (was.refuses.0 dead).1) was.refuses.1;
        calls = λ metered honest. refused_after _ _ _ (was.metered metered);
        earlier = λ is alive less. sync_not_failed _ (was.refuses.1 alive) is;
        file = c.sync.ensures.file;
        stays = λ honest. sync_spares c.args.store.now c.sync.new.self
            _ (λ dead. (c.sync.ensures.refuses.0 dead).0) was.refuses.1;
      };
      memory = sync_wants c.args.store.now _ (λ dead. (was.refuses.0 dead).1) was.refuses.1;
      device = λ alive. ap fault_of (was.refuses.1 alive);
    })
