use Rattle.std.proofs.Common.{◌≡◌, ◌≤◌, ◌+◌, ◌*◌, ◌++◌, true, false, List}
use Rattle.std.proofs.Common.{length, ◌∙◌, refl, sym, ap, subst}
use Rattle.lk_types.specs.declared.entry.Entry.{Entry}
use Rattle.lk_disk.specs.Disk.{contents}
use Rattle.lk_store_format.specs.Entries.{plain}
use Rattle.lk_log.specs.Stores.{HoldsEntries, KeepsAtLeast}
use Rattle.lk_node_interface.specs.Outboxes.{OutboxValue}
use Rattle.lk_recovery.proofs.Recoveries.{err_as, refused_after, put_refused, not_failed_so, put_spares}
use Rattle.lk_replica.proofs.Based.{based_switched}
use Rattle.lk_replica.proofs.Grouped.{gathered_put, gathered_base}
use Rattle.lk_replica.proofs.grouping.write_to_file.Goals as goal

pub returns-clause-done : goal.returns-clause-done
returns-clause-done g c honest =
    let is : c.deref.result.now ≡ c.args.outbox.now.entries = c.deref.ensures.value
    ∙ ap (λ (o : OutboxValue). o.entries) c.outbox.view_is in
    let not_so : c.args.outbox.now.rebase ≡ false = sym (ap (λ (o : OutboxValue). o.rebase) c.outbox.view_is)
    ∙ c.if-outbox.false in
    record {
      switches = λ yes. absurd (let both : false ≡ true = sym not_so ∙ yes in cc both);
      rebases = λ yes. absurd (let both : false ≡ true = sym not_so ∙ yes in cc both);
      puts = λ no ks ls holds. subst (λ (es : List Entry). HoldsEntries c.put.new.self ks (ls ++ plain es)) is
          (c.in_ok-put.ensures.added honest refl ks ls holds);
      calls = λ metered. gathered_put _ _ c.args.outbox.now _ is not_so
          (c.in_ok-put.ensures.metered metered);
    }

pub returns-then-outbox-clause-done : goal.returns-then-outbox-clause-done
returns-then-outbox-clause-done g c honest =
    let is : c.args.outbox.now.rebase ≡ true = sym (ap (λ (o : OutboxValue). o.rebase) c.outbox.view_is)
    ∙ c.if-outbox.true in
    let done = c.in_ok-write_base.ensures.done honest in
    record {
      switches = λ yes needs_sync ks ls holds. based_switched g.M.Machine.meaning g.D.LogDisk.is_metered
          c.args.node.now c.write_base.new.node needs_sync c.args.store.now c.write_base.new.store
          c.in_ok-write_base.ensures.becomes c.write_base.ensures.near done ks ls holds;
      rebases = λ yes. done.rebases;
      puts = λ no. absurd (let both : true ≡ false = sym is ∙ no in cc both);
      calls = λ metered. gathered_base _ _ c.args.outbox.now is (done.calls metered);
    }

pub returns-clause-goes : goal.returns-clause-goes
returns-clause-goes g c =
    let not_so : c.args.outbox.now.rebase ≡ false = sym (ap (λ (o : OutboxValue). o.rebase) c.outbox.view_is)
    ∙ c.if-outbox.false in
    record {
      store_alive = c.in_ok-put.ensures.failing;
      stands = λ yes. absurd (let both : false ≡ true = sym not_so ∙ yes in cc both);
      rests = λ no. refl;
      file = λ no. c.put.ensures.file;
    }

pub returns-then-outbox-clause-goes : goal.returns-then-outbox-clause-goes
returns-then-outbox-clause-goes g c =
    let is : c.args.outbox.now.rebase ≡ true = sym (ap (λ (o : OutboxValue). o.rebase) c.outbox.view_is)
    ∙ c.if-outbox.true in
    record {
      store_alive = c.in_ok-write_base.ensures.becomes.store_alive;
      stands = λ yes. (c.in_ok-write_base.ensures.becomes, c.write_base.ensures.near);
      rests = λ no. absurd (let both : true ≡ false = sym is ∙ no in cc both);
      file = λ no. absurd (let both : true ≡ false = sym is ∙ no in cc both);
    }

pub returns-clause-disks : goal.returns-clause-disks
returns-clause-disks g c honest =
    let is : c.deref.result.now ≡ c.args.outbox.now.entries = c.deref.ensures.value
    ∙ ap (λ (o : OutboxValue). o.entries) c.outbox.view_is in
    let not_so : c.args.outbox.now.rebase ≡ false = sym (ap (λ (o : OutboxValue). o.rebase) c.outbox.view_is)
    ∙ c.if-outbox.false in
    record {
      based = λ yes. absurd (let both : false ≡ true = sym not_so ∙ yes in cc both);
      put = λ no. record {
        every_image = λ ks ls holds. subst (λ (es : List Entry). KeepsAtLeast c.put.new.self ks (ls ++ plain es)) is
            (c.put.ensures.every_image honest ks ls holds);
        live = c.put.ensures.file.0;
        grows = subst (λ (es : List Entry). length (contents c.put.new.self.live_disk)
            ≤ length (contents c.args.store.now.live_disk) + 102 * length es) is (c.put.ensures.grows honest);
        beside = (c.put.ensures.beside honest).0;
      };
    }

pub returns-in_err-put-clause-disks : goal.returns-in_err-put-clause-disks
returns-in_err-put-clause-disks g c honest =
    let is : c.deref.result.now ≡ c.args.outbox.now.entries = c.deref.ensures.value
    ∙ ap (λ (o : OutboxValue). o.entries) c.outbox.view_is in
    let not_so : c.args.outbox.now.rebase ≡ false = sym (ap (λ (o : OutboxValue). o.rebase) c.outbox.view_is)
    ∙ c.if-outbox.false in
    record {
      based = λ yes. absurd (let both : false ≡ true = sym not_so ∙ yes in cc both);
      put = λ no. record {
        every_image = λ ks ls holds. subst (λ (es : List Entry). KeepsAtLeast c.put.new.self ks (ls ++ plain es)) is
            (c.put.ensures.every_image honest ks ls holds);
        live = c.put.ensures.file.0;
        grows = subst (λ (es : List Entry). length (contents c.put.new.self.live_disk)
            ≤ length (contents c.args.store.now.live_disk) + 102 * length es) is (c.put.ensures.grows honest);
        beside = (c.put.ensures.beside honest).0;
      };
    }

pub returns-in_err-write_base-clause-disks : goal.returns-in_err-write_base-clause-disks
returns-in_err-write_base-clause-disks g c honest =
    let is : c.args.outbox.now.rebase ≡ true = sym (ap (λ (o : OutboxValue). o.rebase) c.outbox.view_is)
    ∙ c.if-outbox.true in
    record {
      based = λ yes. record {
        room = (c.write_base.ensures.disks honest).room;
        near = c.write_base.ensures.near;
        every_image = c.write_base.ensures.every_image honest;
      };
      put = λ no. absurd (let both : true ≡ false = sym is ∙ no in cc both);
    }

pub returns-then-outbox-clause-disks : goal.returns-then-outbox-clause-disks
returns-then-outbox-clause-disks g c honest =
    let is : c.args.outbox.now.rebase ≡ true = sym (ap (λ (o : OutboxValue). o.rebase) c.outbox.view_is)
    ∙ c.if-outbox.true in
    record {
      based = λ yes. record {
        room = (c.write_base.ensures.disks honest).room;
        near = c.write_base.ensures.near;
        every_image = c.write_base.ensures.every_image honest;
      };
      put = λ no. absurd (let both : true ≡ false = sym is ∙ no in cc both);
    }

pub returns-in_err-put-clause-refused : goal.returns-in_err-put-clause-refused
returns-in_err-put-clause-refused g c =
    let was = c.in_err-put.ensures in
    err_as _ _ _ c.from_residual-in_err-put.ensures.1 (record {
      of_store = put_refused c.args.store.now _ (λ dead. (was.refuses.0 dead).1) was.refuses.1;
      calls = λ metered honest. refused_after _ _ _ (was.metered metered);
      earlier = λ is alive further. not_failed_so _ (was.refuses.1 alive) is;
      file = c.put.ensures.file;
      stays = λ honest. put_spares c.args.store.now c.put.new.self _ c.put.ensures.file.0
          (c.put.ensures.beside honest).0 (was.beside honest).1 (λ dead. (c.put.ensures.refuses.0 dead).0)
          was.refuses.1;
    })

pub returns-in_err-write_base-clause-refused : goal.returns-in_err-write_base-clause-refused
returns-in_err-write_base-clause-refused g c =
    err_as _ _ _ c.from_residual.ensures.1 c.in_err-write_base.ensures.refused.why
