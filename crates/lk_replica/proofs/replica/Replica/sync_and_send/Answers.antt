use Rattle.std.proofs.Common.{◌≡◌, ◌||◌, subst, subst₂, Bool, true, List}
use Rattle.std.specs.Prelude.{⊤}
use Rattle.lk_log.specs.StoreValue.{disks}
use Rattle.lk_node_interface.specs.Envelopes.{EnvelopeValue}
use Rattle.lk_replica.specs.Groups.{IsGroupSynced, LeavesInGroup}
use Rattle.lk_replica.specs.Posts.{IsDelivered}
use Rattle.lk_recovery.proofs.Recoveries.{err_as}
use Rattle.lk_replica.proofs.Grouped.{settled_node_fits, settled_covers}
use Rattle.lk_replica.proofs.Refusals.{not_ok}
use Rattle.lk_replica.proofs.replica.Replica.sync_and_send.Goals as goal

pub returns-clause-exact : goal.returns-clause-exact
returns-clause-exact g c honest =
    subst (λ (w : Bool). IsGroupSynced g.D.LogDisk.is_metered c.args.self.now w c.sync_group.new.self)
    c.needs_sync.ensures
    (c.in_ok-sync_group.ensures.exact honest)

pub returns-clause-fits : goal.returns-clause-fits
returns-clause-fits g c honest genesis k r h n f =
    settled_node_fits g.M.Machine.meaning g.D.LogDisk.is_metered c.args.self.now c.args.group.now.needs_sync
    c.sync_group.new.self (returns-clause-exact g c honest) genesis k r h n f

pub returns-clause-syncs : goal.returns-clause-syncs
returns-clause-syncs g c honest genesis n x r every d listed said =
    settled_covers g.M.Machine.meaning genesis n c.args.self.now.node c.args.self.now.store c.sync_group.new.self.store
    c.args.group.now.needs_sync (returns-clause-exact g c honest).syncs_all r x (every x d listed said)

pub returns-clause-delivers : goal.returns-clause-delivers
returns-clause-delivers g c =
    subst (λ (l : List EnvelopeValue). IsDelivered g.P.Post.Carries g.P.Post.sent g.P.Post.failures
    g.P.Post.is_observable l c.deliver-all.result c.args.post.now c.deliver-all.new.post)
    c.envelopes.ensures c.deliver-all.ensures

-- ---- what is on the disks

pub returns-in_err-sync_group-clause-disks : goal.returns-in_err-sync_group-clause-disks
returns-in_err-sync_group-clause-disks g c honest =
    subst (λ (w : Bool). LeavesInGroup g.M.Machine.meaning (λ h. ⊤) 0 c.args.self.now.node c.args.self.now.store w
    (disks c.sync_group.new.self.store)) c.needs_sync.ensures (c.sync_group.ensures.disks honest)

pub returns-clause-disks : goal.returns-clause-disks
returns-clause-disks g c honest =
    subst (λ (w : Bool). LeavesInGroup g.M.Machine.meaning (λ h. ⊤) 0 c.args.self.now.node c.args.self.now.store w
    (disks c.sync_group.new.self.store)) c.needs_sync.ensures (c.sync_group.ensures.disks honest)

-- ---- of a replica that had not failed

pub returns-in_err-sync_group-clause-ends : goal.returns-in_err-sync_group-clause-ends
returns-in_err-sync_group-clause-ends g c lived alive =
    let was = c.in_err-sync_group.ensures.ends lived alive in
    record {
      node = was.node;
      file = was.file;
      store_alive = not_ok _ _ _ c.from_residual.ensures.1;
      refused = err_as _ _ _ c.from_residual.ensures.1 (
        was.refused.0,
        subst₂ (λ (s f : Bool). (s || f) ≡ true) c.needs_sync.ensures c.needs_flush.ensures
            was.refused.1,
      );
    }

pub returns-clause-ends : goal.returns-clause-ends
returns-clause-ends g c lived alive =
    let was = c.in_ok-sync_group.ensures.ends lived alive in
    record { node = was.node; file = was.file; store_alive = was.store_alive; refused = tt }
