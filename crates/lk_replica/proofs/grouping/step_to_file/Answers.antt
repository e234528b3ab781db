use Rattle.std.proofs.Common.{◌≤◌, ◌∙◌, length, refl, sym, subst, arith}
use Rattle.lk_types.specs.Limits.{max_base_of}
use Rattle.lk_store_format.specs.Entries.{plain}
use Rattle.lk_log.specs.StoreValue.{disks}
use Rattle.lk_log.proofs.Room.{within_same, most_base, behind_room, refused_room}
use Rattle.lk_node.proofs.Nodes.{few_entries, step_told}
use Rattle.lk_state.specs.Meanings.{Meaning}
use Rattle.lk_node_interface.specs.Envelopes.{batch_of}
use Rattle.lk_node.specs.Executing.{NothingToRun}
use Rattle.lk_node.specs.NodeValue.{NodeValue}
use Rattle.lk_replica.specs.Groups.{synced_if, needs_sync_after, GroupLeavesFit, GroupStays, RemembersInGroup}
use Rattle.lk_replica.proofs.Behind.{still_keeps, still_remembers, sent_is_covered, stepped_fits}
use Rattle.lk_replica.proofs.Based.{based_ends, based_covers}
use Rattle.lk_replica.proofs.Going.{by_kind}
use Rattle.lk_replica.proofs.Grouped.{add_step_goes, group_leaves, group_stays, add_step_recalls, add_step_syncs}
use Rattle.lk_replica.proofs.Grouped.{add_step_covers, add_step_still_covers}
use Rattle.lk_replica.proofs.Grouped.{group_fits, group_keeps}
use Rattle.lk_replica.proofs.Grouped.{begin_recalls, based_cover, based_goes, based_stays}
use Rattle.lk_disk.specs.Meters.{start}
use Rattle.lk_node_interface.specs.declared.fault.ReplicaFault.TheVariants as fault
use Rattle.lk_recovery.proofs.Recoveries.{err_as, grown_none, grown_base, grown_put, grown_less, node_covers}
use Rattle.lk_replica.proofs.Refusals.{store_told, store_only, store_awake}
use Rattle.lk_replica.proofs.grouping.step_to_file.Goals as goal

-- ---- at every exit

pub returns-in_err-outbox-clause-disks : goal.returns-in_err-outbox-clause-disks
returns-in_err-outbox-clause-disks g c honest w =
    record {
      ends = λ h n s heard. s.left;
      covers = λ genesis n x r every. every;
      room = λ small. within_same 132704 (disks c.args.store.now) (disks c.args.store.now) (λ s. refl);
      grows = grown_none (disks c.args.store.now) (disks c.args.store.now) (λ s. refl);
    }

pub returns-in_err-write_to_file-clause-disks : goal.returns-in_err-write_to_file-clause-disks
returns-in_err-write_to_file-clause-disks g c honest w =
    let m : Meaning = g.M.Machine.meaning in
    let out = c.in_ok-outbox.outbox in
    let after = c.write_to_file.new.store in
    let few : length out.entries ≤ 16 =
    few_entries _ _ c.args.node.now _ c.step.new.self out c.in_ok-outbox.ensures.steps in
    let left = c.write_to_file.ensures.disks honest in
    let based = c.step.new.self.acceptor.alpha in
    record {
      ends = λ h n s heard. by_kind out.rebase
          (λ is. let b = left.based is in
          based_ends m c.args.node.now c.step.new.self c.args.store.now after w b.near h n s
          (stepped_fits m h n c.args.node.now c.step.new.self (synced_if w c.args.store.now) c.args.input out
          (group_fits m h n c.args.node.now c.args.store.now w s.fits) heard c.in_ok-outbox.ensures.safe is)
          (b.every_image _ _ s.fits.shown.keeps.holds))
          (λ not_so. group_leaves m h n c.args.node.now c.step.new.self c.args.store.now after w
          c.args.input out s heard
          c.in_ok-outbox.ensures.safe (step_told _ _ c.args.node.now _ c.step.new.self out
          c.in_ok-outbox.ensures.steps not_so)
          ((left.put not_so).every_image _ _ s.fits.shown.keeps.holds));
      covers = λ genesis n x r every. by_kind out.rebase
          (λ is. let b = left.based is in
          based_covers m c.args.node.now c.step.new.self c.args.store.now after w b.near genesis n r
          (still_keeps m _ genesis n c.args.node.now c.step.new.self (synced_if w c.args.store.now) r.whose
          (group_keeps _ c.args.store.now w _ r.keeps) out c.in_ok-outbox.ensures.safe is) x every
          (b.every_image _ _ r.keeps.holds))
          (λ not_so. add_step_still_covers m genesis n c.args.node.now c.args.store.now after w
          out.entries r
          ((left.put not_so).every_image _ _ r.keeps.holds) x every);
      room = λ small. by_kind out.rebase
          (λ is. refused_room (max_base_of based) (disks c.args.store.now) (disks after) (most_base based)
          (left.based is).room)
          (λ not_so. behind_room (disks c.args.store.now) c.args.store.now after
          (within_same 65536 (disks c.args.store.now) (disks c.args.store.now) (λ s. refl)) small (left.put not_so).live
          (let more = (left.put not_so).grows in omega (arith, more, few)) (left.put not_so).beside);
      grows = by_kind out.rebase
          (λ is. grown_base (max_base_of based) (disks c.args.store.now) (disks after) (most_base based)
          (left.based is).room)
          (λ not_so. grown_less (disks c.args.store.now) (disks after)
          (grown_put c.args.store.now after (left.put not_so).live
          (let more = (left.put not_so).grows in omega (arith, more, few)) (left.put not_so).beside));
    }

pub returns-clause-disks : goal.returns-clause-disks
returns-clause-disks g c honest w =
    let m : Meaning = g.M.Machine.meaning in
    let out = c.in_ok-outbox.outbox in
    let after = c.write_to_file.new.store in
    let few : length out.entries ≤ 16 =
    few_entries _ _ c.args.node.now _ c.step.new.self out c.in_ok-outbox.ensures.steps in
    let left = c.write_to_file.ensures.disks honest in
    let based = c.step.new.self.acceptor.alpha in
    record {
      ends = λ h n s heard. by_kind out.rebase
          (λ is. let b = left.based is in
          based_ends m c.args.node.now c.step.new.self c.args.store.now after w b.near h n s
          (stepped_fits m h n c.args.node.now c.step.new.self (synced_if w c.args.store.now) c.args.input out
          (group_fits m h n c.args.node.now c.args.store.now w s.fits) heard c.in_ok-outbox.ensures.safe is)
          (b.every_image _ _ s.fits.shown.keeps.holds))
          (λ not_so. group_leaves m h n c.args.node.now c.step.new.self c.args.store.now after w
          c.args.input out s heard
          c.in_ok-outbox.ensures.safe (step_told _ _ c.args.node.now _ c.step.new.self out
          c.in_ok-outbox.ensures.steps not_so)
          ((left.put not_so).every_image _ _ s.fits.shown.keeps.holds));
      covers = λ genesis n x r every. by_kind out.rebase
          (λ is. let b = left.based is in
          based_covers m c.args.node.now c.step.new.self c.args.store.now after w b.near genesis n r
          (still_keeps m _ genesis n c.args.node.now c.step.new.self (synced_if w c.args.store.now) r.whose
          (group_keeps _ c.args.store.now w _ r.keeps) out c.in_ok-outbox.ensures.safe is) x every
          (b.every_image _ _ r.keeps.holds))
          (λ not_so. add_step_still_covers m genesis n c.args.node.now c.args.store.now after w
          out.entries r
          ((left.put not_so).every_image _ _ r.keeps.holds) x every);
      room = λ small. by_kind out.rebase
          (λ is. refused_room (max_base_of based) (disks c.args.store.now) (disks after) (most_base based)
          (left.based is).room)
          (λ not_so. behind_room (disks c.args.store.now) c.args.store.now after
          (within_same 65536 (disks c.args.store.now) (disks c.args.store.now) (λ s. refl)) small (left.put not_so).live
          (let more = (left.put not_so).grows in omega (arith, more, few)) (left.put not_so).beside);
      grows = by_kind out.rebase
          (λ is. grown_base (max_base_of based) (disks c.args.store.now) (disks after) (most_base based)
          (left.based is).room)
          (λ not_so. grown_less (disks c.args.store.now) (disks after)
          (grown_put c.args.store.now after (left.put not_so).live
          (let more = (left.put not_so).grows in omega (arith, more, few)) (left.put not_so).beside));
    }

-- ---- what it has done

pub returns-clause-keeps : goal.returns-clause-keeps
returns-clause-keeps g c honest w =
    let m : Meaning = g.M.Machine.meaning in
    let out = c.in_ok-outbox.outbox in
    let after = c.write_to_file.new.store in
    let done = c.in_ok-write_to_file.ensures.done honest in
    let on = c.in_ok-write_to_file.ensures.goes in
    let left = c.write_to_file.ensures.disks honest in
    record {
      goes = λ h n f heard sent among. by_kind out.rebase
          (λ is. let mid = group_fits m h n c.args.node.now c.args.store.now w f in
          let sw = done.switches is w _ _ f.shown.keeps.holds in
          subst (λ (k : NodeValue). GroupLeavesFit m h n k after (needs_sync_after w out) out.notes
          (batch_of n sent)) (sym (on.stands is).0.becomes)
          (based_goes m h n c.args.node.now c.step.new.self (synced_if w c.args.store.now) after w c.args.input out
          mid heard c.in_ok-outbox.ensures.safe is (on.stands is).0.fits_base (on.stands is).1
          (sw.rebases.writes mid.shown.keeps.entries (plain mid.shown.keeps.loose) mid.shown.keeps.holds)
          sent among))
          (λ not_so. subst (λ (k : NodeValue). GroupLeavesFit m h n k after (needs_sync_after w out)
          out.notes
          (batch_of n sent)) (sym (on.rests not_so))
          (add_step_goes m h n c.args.node.now c.step.new.self c.args.store.now after w c.args.input
          out f heard c.in_ok-outbox.ensures.safe
          (step_told _ _ c.args.node.now _ c.step.new.self out c.in_ok-outbox.ensures.steps not_so) not_so
          (done.puts not_so _ _ f.shown.keeps.holds) sent among));
      stays = λ h n s heard. by_kind out.rebase
          (λ is. let mid = group_fits m h n c.args.node.now c.args.store.now w s.fits in
          let sw = done.switches is w _ _ s.fits.shown.keeps.holds in
          subst (λ (k : NodeValue). GroupStays m h n k after (needs_sync_after w out))
          (sym (on.stands is).0.becomes)
          (based_stays m h n c.args.node.now c.step.new.self (synced_if w c.args.store.now) after w c.args.input out
          mid heard c.in_ok-outbox.ensures.safe is (on.stands is).0.fits_base (on.stands is).1
          (sw.rebases.writes mid.shown.keeps.entries (plain mid.shown.keeps.loose) mid.shown.keeps.holds)
          ((returns-clause-disks g c honest w).ends h n s heard)))
          (λ not_so. subst (λ (k : NodeValue). GroupStays m h n k after (needs_sync_after w out))
          (sym (on.rests not_so))
          (group_stays m h n c.args.node.now c.step.new.self c.args.store.now after w c.args.input
          out s heard c.in_ok-outbox.ensures.safe
          (step_told _ _ c.args.node.now _ c.step.new.self out c.in_ok-outbox.ensures.steps not_so) not_so
          ((left.put not_so).every_image _ _ s.fits.shown.keeps.holds)
          (done.puts not_so _ _ s.fits.shown.keeps.holds)));
      recalls = λ genesis n r. by_kind out.rebase
          (λ is. begin_recalls _ after genesis n w out is
          ((done.switches is w _ _ r.keeps.holds).remembers genesis n
          (still_remembers m _ genesis n c.args.node.now c.step.new.self (synced_if w c.args.store.now) r.whose
          (group_keeps _ c.args.store.now w _ r.keeps) out c.in_ok-outbox.ensures.safe is)))
          (λ not_so. subst (λ (k : NodeValue). RemembersInGroup k after (needs_sync_after w out)
          genesis n)
          (sym (on.rests not_so))
          (add_step_recalls m genesis n c.args.node.now c.step.new.self c.args.store.now after w _ out r
          c.in_ok-outbox.ensures.safe not_so (done.puts not_so _ _ r.keeps.holds)));
      syncs = λ genesis n x r d listed said. by_kind out.rebase
          (λ is. let mid = group_keeps _ c.args.store.now w _ r.keeps in
          based_cover m genesis n after w out x is
          ((done.switches is w _ _ r.keeps.holds).syncs genesis n x
          (still_keeps m _ genesis n c.args.node.now c.step.new.self (synced_if w c.args.store.now) r.whose mid out
          c.in_ok-outbox.ensures.safe is)
          (sent_is_covered m _ genesis n c.args.node.now c.step.new.self (synced_if w c.args.store.now) r.whose mid
          out c.in_ok-outbox.ensures.safe is x d listed said)))
          (λ not_so. add_step_syncs m genesis n c.args.node.now c.step.new.self c.args.store.now after w
          _ out r
          c.in_ok-outbox.ensures.safe not_so (done.puts not_so _ _ r.keeps.holds) x d listed said);
      still = λ genesis n x r every. by_kind out.rebase
          (λ is. let kept = still_keeps m _ genesis n c.args.node.now c.step.new.self (synced_if w c.args.store.now)
          r.whose (group_keeps _ c.args.store.now w _ r.keeps) out c.in_ok-outbox.ensures.safe is in
          based_cover m genesis n after w out x is
          ((done.switches is w _ _ r.keeps.holds).syncs genesis n x kept
          (node_covers m genesis n c.step.new.self (synced_if w c.args.store.now) after kept
          (on.stands is).0.fits_base (on.stands is).1.0.snapshot x every)))
          (λ not_so. add_step_covers m genesis n c.args.node.now c.step.new.self c.args.store.now after w
          _ out r
          c.in_ok-outbox.ensures.safe not_so (done.puts not_so _ _ r.keeps.holds) x every);
    }

pub returns-clause-runs : goal.returns-clause-runs
returns-clause-runs g c none =
    let on = c.in_ok-write_to_file.ensures.goes in
    by_kind c.in_ok-outbox.outbox.rebase (λ is. (on.stands is).0.runs (c.in_ok-outbox.ensures.runs none))
    (λ not_so. subst NothingToRun (sym (on.rests not_so)) (c.in_ok-outbox.ensures.runs none))

pub returns-clause-exact : goal.returns-clause-exact
returns-clause-exact g c honest =
    let out = c.in_ok-outbox.outbox in
    let few : length out.entries ≤ 16 =
    few_entries _ _ c.args.node.now _ c.step.new.self out c.in_ok-outbox.ensures.steps in
    let done = c.in_ok-write_to_file.ensures.done honest in
    record {
      stepped = c.step.new.self;
      steps = c.in_ok-outbox.ensures.steps;
      rebases = done.rebases;
      puts = λ no. (c.in_ok-write_to_file.ensures.goes.rests no, done.puts no);
      grows = λ no. let put = (c.write_to_file.ensures.disks honest).put no in
          grown_put c.args.store.now c.write_to_file.new.store put.live
          (let more = put.grows in omega (arith, more, few))
          put.beside;
      file = c.in_ok-write_to_file.ensures.goes.file;
      calls = done.calls;
    }

pub returns-clause-alive : goal.returns-clause-alive
returns-clause-alive g c =
    (c.in_ok-write_to_file.ensures.goes.store_alive, c.write_to_file.ensures.halted ∙ c.in_ok-outbox.ensures.awake)

-- ---- what a refusal leaves

pub returns-in_err-outbox-clause-refused : goal.returns-in_err-outbox-clause-refused
returns-in_err-outbox-clause-refused g c =
    err_as _ _ fault.Halted c.from_residual.ensures.1 (record {
      told = tt;
      only = tt;
      calls = λ metered honest. (0, start);
      earlier = λ is alive further. cc is;
      second = λ honest is alive less. absurd (cc is);
      file = λ honest. (refl, refl, refl, refl);
      stays = λ honest s. refl;
      halts = λ is. c.in_err-outbox.ensures.halts;
      awake = λ was other. absurd (other refl);
    })

pub returns-in_err-write_to_file-clause-refused : goal.returns-in_err-write_to_file-clause-refused
returns-in_err-write_to_file-clause-refused g c =
    let was = c.in_err-write_to_file.ensures.refused in
    err_as _ _ _ c.from_residual-in_err-write_to_file.ensures.1 (record {
      told = store_told _ was.of_store;
      only = store_only _ was.of_store;
      calls = was.calls;
      earlier = λ is alive further. was.earlier is alive (omega (arith, further));
      second = λ honest is alive less. absurd (was.earlier is alive less);
      file = λ honest. was.file;
      stays = was.stays;
      halts = λ is. absurd (store_awake _ was.of_store is);
      awake = λ wakes other. c.write_to_file.ensures.halted ∙ c.in_ok-outbox.ensures.awake;
    })
