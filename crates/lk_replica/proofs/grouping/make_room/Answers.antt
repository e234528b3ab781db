use Rattle.std.proofs.Common.{◌≡◌, Err, rules, true, false, ◌∙◌, sym, ap, arith}
use Rattle.lk_types.specs.Limits.{max_base_of}
use Rattle.lk_store_format.specs.Entries.{plain}
use Rattle.lk_log.specs.StoreValue.{disks}
use Rattle.lk_log.proofs.Room.{most_base, within_first}
use Rattle.lk_state.specs.Meanings.{Meaning}
use Rattle.lk_node.specs.Leavings.{header_of}
use Rattle.lk_recovery.specs.Compacting.{AreSame, IsDue}
use Rattle.lk_recovery.proofs.Recoveries.{before_fits, node_covers, same_room, err_as, refused_on, spared_all}
use Rattle.lk_recovery.proofs.Recoveries.{spared_more, kept_then}
use Rattle.lk_node_interface.specs.Faults.{WantsNoMemory, fault_number}
use Rattle.lk_replica.specs.Groups.{synced_if}
use Rattle.lk_replica.proofs.Based.{based_switched, based_ends, based_covers, room_fits}
use Rattle.lk_replica.proofs.Grouped.{of_store_too, no_room_made, room_made, begin_fits, begun, group_fits, group_keeps}
use Rattle.lk_replica.proofs.Grouped.{same_recalls, same_group_fits, same_group_stays, same_group_covers, asked_same}
use Rattle.lk_replica.proofs.Refusals.{store_told, store_only, store_awake, errs_as, failed_number}
use Rattle.lk_replica.proofs.grouping.make_room.Goals as goal

-- ---- what it keeps

pub returns-then-not-due-clause-keeps : goal.returns-then-not-due-clause-keeps
returns-then-not-due-clause-keeps g c honest = record {
  fits = λ h n f.
      same_group_fits g.M.Machine.meaning c.args.store.now c.is_rebase_due.new.store
      (c.is_rebase_due.ensures.same honest) h n c.args.node.now c.args.needs_sync f;
  stays = λ h n s.
      same_group_stays g.M.Machine.meaning c.args.store.now c.is_rebase_due.new.store
      (c.is_rebase_due.ensures.same honest) h n c.args.node.now c.args.needs_sync s;
  recalls = λ genesis n r.
      same_recalls g.M.Machine.meaning c.args.store.now c.is_rebase_due.new.store
      (c.is_rebase_due.ensures.same honest) c.args.node.now c.args.needs_sync genesis n r;
  still = λ genesis n x r every.
      same_group_covers g.M.Machine.meaning c.args.store.now c.is_rebase_due.new.store
      (c.is_rebase_due.ensures.same honest) genesis n x c.args.needs_sync every;
}

pub returns-clause-keeps : goal.returns-clause-keeps
returns-clause-keeps g c honest = record {
  fits = λ h n f.
      (begin_fits g.M.Machine.meaning h n c.write_base.new.node c.write_base.new.store
      (room_fits g.M.Machine.meaning g.D.LogDisk.is_metered h n c.args.node.now c.write_base.new.node
      c.is_rebase_due.new.store c.write_base.new.store c.args.needs_sync
      (same_group_fits g.M.Machine.meaning c.args.store.now c.is_rebase_due.new.store
      (c.is_rebase_due.ensures.same honest) h n c.args.node.now c.args.needs_sync f)
      c.in_ok-write_base.ensures.becomes c.write_base.ensures.near (c.in_ok-write_base.ensures.done honest))).fits;
  stays = λ h n s.
      begin_fits g.M.Machine.meaning h n c.write_base.new.node c.write_base.new.store
      (room_fits g.M.Machine.meaning g.D.LogDisk.is_metered h n c.args.node.now c.write_base.new.node
      c.is_rebase_due.new.store c.write_base.new.store c.args.needs_sync
      (same_group_fits g.M.Machine.meaning c.args.store.now c.is_rebase_due.new.store
      (c.is_rebase_due.ensures.same honest) h n c.args.node.now c.args.needs_sync s.fits)
      c.in_ok-write_base.ensures.becomes c.write_base.ensures.near (c.in_ok-write_base.ensures.done honest));
  recalls = λ genesis n r.
      let mine = same_recalls g.M.Machine.meaning c.args.store.now c.is_rebase_due.new.store
      (c.is_rebase_due.ensures.same honest) c.args.node.now c.args.needs_sync genesis n r in
      let mid = group_keeps (header_of genesis n) c.is_rebase_due.new.store c.args.needs_sync
      c.args.node.now.acceptor.state mine.keeps in
      begun _ c.write_base.new.store genesis n
      ((based_switched g.M.Machine.meaning g.D.LogDisk.is_metered c.args.node.now c.write_base.new.node
      c.args.needs_sync c.is_rebase_due.new.store c.write_base.new.store c.in_ok-write_base.ensures.becomes
      c.write_base.ensures.near (c.in_ok-write_base.ensures.done honest) mine.keeps.entries (plain mine.keeps.loose)
      mine.keeps.holds).remembers genesis n (record { whose = r.whose; keeps = mid }));
  still = λ genesis n x r every.
      let m : Meaning = g.M.Machine.meaning in
      let mine = same_recalls m c.args.store.now c.is_rebase_due.new.store
      (c.is_rebase_due.ensures.same honest) c.args.node.now c.args.needs_sync genesis n r in
      let mid = group_keeps (header_of genesis n) c.is_rebase_due.new.store c.args.needs_sync
      c.args.node.now.acceptor.state mine.keeps in
      let near = c.write_base.ensures.near in
      (based_switched m g.D.LogDisk.is_metered c.args.node.now c.write_base.new.node c.args.needs_sync
      c.is_rebase_due.new.store c.write_base.new.store c.in_ok-write_base.ensures.becomes near
      (c.in_ok-write_base.ensures.done honest) mine.keeps.entries (plain mine.keeps.loose)
      mine.keeps.holds).syncs genesis n x mid
      (node_covers m genesis n c.args.node.now (synced_if c.args.needs_sync c.is_rebase_due.new.store)
      c.write_base.new.store mid c.in_ok-write_base.ensures.becomes.fits_base near.0.snapshot x
      (same_group_covers m c.args.store.now c.is_rebase_due.new.store
      (c.is_rebase_due.ensures.same honest) genesis n x c.args.needs_sync every));
}

-- ---- what is on the disks

pub returns-then-not-due-clause-disks : goal.returns-then-not-due-clause-disks
returns-then-not-due-clause-disks g c honest = record {
  ends = λ h n s heard.
      (same_group_stays g.M.Machine.meaning c.args.store.now c.is_rebase_due.new.store
      (c.is_rebase_due.ensures.same honest) h n c.args.node.now c.args.needs_sync s).left;
  covers = λ genesis n x r every.
      same_group_covers g.M.Machine.meaning c.args.store.now c.is_rebase_due.new.store
      (c.is_rebase_due.ensures.same honest) genesis n x false every;
  room =
      same_room g.M.Machine.meaning c.args.store.now c.is_rebase_due.new.store (c.is_rebase_due.ensures.same honest)
      (max_base_of c.args.node.now.acceptor.alpha);
}

pub returns-in_err-due-clause-disks : goal.returns-in_err-due-clause-disks
returns-in_err-due-clause-disks g c honest = record {
  ends = λ h n s heard.
      (same_group_stays g.M.Machine.meaning c.args.store.now c.is_rebase_due.new.store
      (c.is_rebase_due.ensures.same honest) h n c.args.node.now c.args.needs_sync s).left;
  covers = λ genesis n x r every.
      same_group_covers g.M.Machine.meaning c.args.store.now c.is_rebase_due.new.store
      (c.is_rebase_due.ensures.same honest) genesis n x false every;
  room =
      same_room g.M.Machine.meaning c.args.store.now c.is_rebase_due.new.store (c.is_rebase_due.ensures.same honest)
      (max_base_of c.args.node.now.acceptor.alpha);
}

pub returns-in_err-write_base-clause-disks : goal.returns-in_err-write_base-clause-disks
returns-in_err-write_base-clause-disks g c honest = record {
  ends = λ h n s heard.
      let m : Meaning = g.M.Machine.meaning in
      let mine = same_group_stays m c.args.store.now c.is_rebase_due.new.store
      (c.is_rebase_due.ensures.same honest) h n c.args.node.now c.args.needs_sync s in
      let k = mine.fits.shown.keeps in
      let asked = synced_if c.args.needs_sync c.is_rebase_due.new.store in
      based_ends m c.args.node.now c.args.node.now c.is_rebase_due.new.store c.write_base.new.store c.args.needs_sync
      c.write_base.ensures.near h n mine
      (before_fits m h n c.args.node.now asked
      (group_fits m h n c.args.node.now c.is_rebase_due.new.store c.args.needs_sync mine.fits))
      (c.write_base.ensures.every_image honest k.entries (plain k.loose) k.holds);
  covers = λ genesis n x r every.
      let m : Meaning = g.M.Machine.meaning in
      let mine = same_recalls m c.args.store.now c.is_rebase_due.new.store
      (c.is_rebase_due.ensures.same honest) c.args.node.now c.args.needs_sync genesis n r in
      let k = mine.keeps in
      based_covers m c.args.node.now c.args.node.now c.is_rebase_due.new.store c.write_base.new.store c.args.needs_sync
      c.write_base.ensures.near genesis n mine
      (group_keeps (header_of genesis n) c.is_rebase_due.new.store c.args.needs_sync c.args.node.now.acceptor.state k) x
      (same_group_covers m c.args.store.now c.is_rebase_due.new.store
      (c.is_rebase_due.ensures.same honest) genesis n x false every)
      (c.write_base.ensures.every_image honest k.entries (plain k.loose) k.holds);
  room =
      let most = max_base_of c.args.node.now.acceptor.alpha in
      within_first most (disks c.args.store.now) (disks c.is_rebase_due.new.store) (disks c.write_base.new.store)
      (same_room g.M.Machine.meaning c.args.store.now c.is_rebase_due.new.store
      (c.is_rebase_due.ensures.same honest) most)
      (c.write_base.ensures.disks honest).room;
}

pub returns-clause-disks : goal.returns-clause-disks
returns-clause-disks g c honest = record {
  ends = λ h n s heard.
      let m : Meaning = g.M.Machine.meaning in
      let mine = same_group_stays m c.args.store.now c.is_rebase_due.new.store
      (c.is_rebase_due.ensures.same honest) h n c.args.node.now c.args.needs_sync s in
      let k = mine.fits.shown.keeps in
      let asked = synced_if c.args.needs_sync c.is_rebase_due.new.store in
      based_ends m c.args.node.now c.args.node.now c.is_rebase_due.new.store c.write_base.new.store c.args.needs_sync
      c.write_base.ensures.near h n mine
      (before_fits m h n c.args.node.now asked
      (group_fits m h n c.args.node.now c.is_rebase_due.new.store c.args.needs_sync mine.fits))
      (c.write_base.ensures.every_image honest k.entries (plain k.loose) k.holds);
  covers = λ genesis n x r every.
      let m : Meaning = g.M.Machine.meaning in
      let mine = same_recalls m c.args.store.now c.is_rebase_due.new.store
      (c.is_rebase_due.ensures.same honest) c.args.node.now c.args.needs_sync genesis n r in
      let k = mine.keeps in
      based_covers m c.args.node.now c.args.node.now c.is_rebase_due.new.store c.write_base.new.store c.args.needs_sync
      c.write_base.ensures.near genesis n mine
      (group_keeps (header_of genesis n) c.is_rebase_due.new.store c.args.needs_sync c.args.node.now.acceptor.state k) x
      (same_group_covers m c.args.store.now c.is_rebase_due.new.store
      (c.is_rebase_due.ensures.same honest) genesis n x false every)
      (c.write_base.ensures.every_image honest k.entries (plain k.loose) k.holds);
  room =
      let most = max_base_of c.args.node.now.acceptor.alpha in
      within_first most (disks c.args.store.now) (disks c.is_rebase_due.new.store) (disks c.write_base.new.store)
      (same_room g.M.Machine.meaning c.args.store.now c.is_rebase_due.new.store
      (c.is_rebase_due.ensures.same honest) most)
      (c.write_base.ensures.disks honest).room;
}

-- ---- what it has done

pub returns-then-not-due-clause-exact : goal.returns-then-not-due-clause-exact
returns-then-not-due-clause-exact g c honest =
    let none : IsDue c.args.node.now c.args.store.now
    → ⊥ = λ is. let yes : c.in_ok-due.due ≡ true = (c.in_ok-due.ensures.value honest).1 is in
    let both : false ≡ true = sym (search rules) ∙ yes in cc both in
    no_room_made _ c.args.node.now c.args.store.now c.is_rebase_due.new.store c.args.needs_sync none
    (c.is_rebase_due.ensures.same honest) (λ metered. c.in_ok-due.ensures.metered metered)

pub returns-clause-exact : goal.returns-clause-exact
returns-clause-exact g c honest =
    room_made g.M.Machine.meaning _ c.args.node.now c.write_base.new.node c.args.store.now c.is_rebase_due.new.store
    c.write_base.new.store c.args.needs_sync
    ((c.in_ok-due.ensures.value honest).0 (search rules)) (c.is_rebase_due.ensures.same honest)
    (c.in_ok-write_base.ensures.done honest).rebases
    (λ metered. c.in_ok-due.ensures.metered metered) (c.in_ok-write_base.ensures.done honest).calls

pub returns-then-not-due-clause-alive : goal.returns-then-not-due-clause-alive
returns-then-not-due-clause-alive g c =
    record {
      store_alive = c.in_ok-due.ensures.alive;
      further = omega (arith, c.is_rebase_due.ensures.file.1);
      runs = λ none. none;
    }

pub returns-clause-alive : goal.returns-clause-alive
returns-clause-alive g c = record {
  store_alive = c.in_ok-write_base.ensures.becomes.store_alive;
  further = omega (
    arith,
    c.is_rebase_due.ensures.file.1,
    c.in_ok-write_base.ensures.becomes.generation,
  );
  runs = c.in_ok-write_base.ensures.becomes.runs;
}

pub returns-clause-small : goal.returns-clause-small
returns-clause-small g c honest =
    omega (
      arith,
      (c.in_ok-write_base.ensures.done honest).short,
      most_base c.args.node.now.acceptor.alpha,
    )

-- ---- where it was refused

pub returns-in_err-due-clause-refused : goal.returns-in_err-due-clause-refused
returns-in_err-due-clause-refused g c =
    let was = c.in_err-due.ensures in
    let of_store = of_store_too _ was.memory in
    err_as _ _ _ c.from_residual.ensures.1 (record {
      told = store_told _ of_store;
      only = store_only _ of_store;
      calls = λ metered honest. was.metered metered;
      earlier = λ is alive further. was.failed_before alive (ap Err is);
      second = λ honest is alive less. absurd (was.failed_before alive (ap Err is));
      file = λ honest. c.is_rebase_due.ensures.file;
      stays = λ honest. spared_all (AreSame (disks c.args.store.now) (disks c.is_rebase_due.new.store)) _
          (asked_same c.args.store.now c.is_rebase_due.new.store (c.is_rebase_due.ensures.same honest));
      halts = λ is. absurd (store_awake _ of_store is);
      awake = λ wakes other. wakes;
    })

pub returns-in_err-write_base-clause-refused : goal.returns-in_err-write_base-clause-refused
returns-in_err-write_base-clause-refused g c =
    let was = c.in_err-write_base.ensures.refused.why in
    let left : (honest : g.D.LogDisk.is_honest)
    → AreSame (disks c.is_rebase_due.new.store) (disks c.write_base.new.store)
    → AreSame (disks c.args.store.now) (disks c.write_base.new.store) =
    λ honest same s. same s
    ∙ asked_same c.args.store.now c.is_rebase_due.new.store (c.is_rebase_due.ensures.same honest) s in
    err_as _ _ _ c.from_residual-in_err-write_base.ensures.1 (record {
      told = store_told _ was.of_store;
      only = store_only _ was.of_store;
      calls = λ metered honest. refused_on 0 (c.in_ok-due.ensures.metered metered) _ _ (was.calls metered honest);
      earlier = λ is alive further. was.earlier is c.in_ok-due.ensures.alive
          (omega (arith, further, c.is_rebase_due.ensures.file.1));
      second = λ honest is alive less. absurd
          (was.earlier is c.in_ok-due.ensures.alive (omega (arith, less, c.is_rebase_due.ensures.file.1)));
      file = λ honest. kept_then c.args.store.now c.is_rebase_due.new.store c.write_base.new.store
          c.is_rebase_due.ensures.file was.file;
      stays = λ honest. spared_more _ _ _ (left honest) (was.stays honest);
      halts = λ is. absurd (store_awake _ was.of_store is);
      awake = λ wakes other. c.write_base.ensures.halted ∙ wakes;
    })

-- ---- at the last generation

pub returns-in_err-due-clause-last : goal.returns-in_err-due-clause-last
returns-in_err-due-clause-last g c honest most due =
    errs_as _ _ (λ e. WantsNoMemory (fault_number e)) c.from_residual.ensures.1 c.in_err-due.ensures.memory

pub returns-then-not-due-clause-last : goal.returns-then-not-due-clause-last
returns-then-not-due-clause-last g c honest most due =
    let yes : c.in_ok-due.due ≡ true = (c.in_ok-due.ensures.value honest).1 due in
    let both : false ≡ true = sym (search rules) ∙ yes in cc both

pub returns-in_err-write_base-clause-last : goal.returns-in_err-write_base-clause-last
returns-in_err-write_base-clause-last g c honest most due =
    errs_as _ _ (λ e. WantsNoMemory (fault_number e)) c.from_residual-in_err-write_base.ensures.1
    (failed_number _ (c.in_err-write_base.ensures.last
    (omega (arith, most, c.is_rebase_due.ensures.file.1))).1)

pub returns-clause-last : goal.returns-clause-last
returns-clause-last g c honest most due =
    cc (c.in_ok-write_base.ensures.last
    (omega (arith, most, c.is_rebase_due.ensures.file.1))).1
