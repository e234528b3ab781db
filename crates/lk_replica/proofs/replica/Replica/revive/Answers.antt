use Rattle.std.proofs.Common.{ℕ, [], sym, ap, subst, inl, inr, refl, ◌∙◌, arith}
use Rattle.std.proofs.lemmas.Bool.{cases_lt}
use Rattle.lk_types.specs.Limits.{max_base_of, max_count}
use Rattle.lk_disk.specs.declared.meter.Meter.{Meter}
use Rattle.lk_log.proofs.Room.{within_first}
use Rattle.lk_log.proofs.StoreLaws.{opens_holds}
use Rattle.lk_log.specs.Images.{seen}
use Rattle.lk_log.specs.Rooms.{StaysWithin}
use Rattle.lk_log.specs.StoreValue.{disks}
use Rattle.lk_state.specs.Meanings.{Meaning}
use Rattle.lk_node.specs.Keeping.{ReplicaHolds}
use Rattle.lk_node.specs.NewBases.{standing_of}
use Rattle.lk_node.specs.NodeValue.{NodeValue}
use Rattle.lk_node.specs.BorneOut.{text}
use Rattle.lk_node_interface.specs.Faults.{fault_number, RefusedAfter}
use Rattle.lk_recovery.proofs.Recoveries.{before_fits, refused_on, goes_fit, then_goes, taken_keeps, revival_calls}
use Rattle.lk_recovery.proofs.Recoveries.{renew_left, given_renew, last_old, of_last_old, not_of_store, given_fit}
use Rattle.lk_recovery.proofs.Recoveries.{given_cover, given_room}
use Rattle.lk_replica.proofs.replica.Replica.revive.Goals as goal

pub invariant_of-result : goal.invariant_of-result
invariant_of-result g c =
    (λ alive. c.in-Ok-renew.ensures.ready.runs c.in-Ok.ensures.ready.runs, c.in-Ok-renew.ensures.ready.format)

pub returns-in-Ok-renew-clause-fits : goal.returns-in-Ok-renew-clause-fits
returns-in-Ok-renew-clause-fits g c honest h n is lawful before =
    let m : Meaning = g.M.Machine.meaning in
    let goes = c.in-Ok.ensures.fits honest h n is lawful before in
    let fits = goes_fit m h n (ReplicaHolds m c.in-Ok.up.node c.in-Ok.up.store h.genesis n)
    (disks c.in-Ok.up.store) c.in-Ok.up.notes.items lawful goes in
    then_goes m h n (ReplicaHolds m c.in-Ok.up.node c.in-Ok.up.store h.genesis n)
    (ReplicaHolds m c.renew.new.node c.renew.new.store h.genesis n) (disks c.in-Ok.up.store)
    (disks c.renew.new.store) c.in-Ok.up.notes.items goes
    ((c.in-Ok-renew.ensures.renewed honest).goes h n fits)

pub returns-in-Ok-renew-clause-covers : goal.returns-in-Ok-renew-clause-covers
returns-in-Ok-renew-clause-covers g c honest genesis n x is every =
    let m : Meaning = g.M.Machine.meaning in
    let keeps = taken_keeps m g.M.Machine.IsText
    (g.D.LogDisk.disk c.args.device) genesis n c.args.header.now c.in-Ok.up.node c.in-Ok.up.store
    c.in-Ok.up.notes.items is c.in-Ok.ensures.ready.whose (c.in-Ok.ensures.exact honest).0 in
    (c.renew.ensures.safe honest).covers genesis n x keeps (c.in-Ok.ensures.covers honest genesis n x is every)

pub returns-in-Ok-renew-clause-metered : goal.returns-in-Ok-renew-clause-metered
returns-in-Ok-renew-clause-metered g c metered honest =
    let m : Meaning = g.M.Machine.meaning in
    let t = (c.in-Ok.ensures.exact honest).0 in
    revival_calls (g.D.LogDisk.disk c.args.device)
    (g.D.LogDisk.meter c.args.device) c.in-Ok.up.store.meter c.renew.new.store.meter c.args.header.now
    (text m t.genesis []) c.in-Ok.up.store t.standing t.opens
    (c.in-Ok.ensures.metered metered honest) (c.in-Ok-renew.ensures.metered metered honest)

pub returns-in-Ok-renew-clause-remembers : goal.returns-in-Ok-renew-clause-remembers
returns-in-Ok-renew-clause-remembers g c honest genesis n is =
    (c.in-Ok-renew.ensures.renewed honest).remembers genesis n (c.in-Ok.ensures.remembers honest genesis n is)

pub returns-in-Ok-renew-clause-exact : goal.returns-in-Ok-renew-clause-exact
returns-in-Ok-renew-clause-exact g c honest =
    let m : Meaning = g.M.Machine.meaning in
    let t = (c.in-Ok.ensures.exact honest).0 in (
      record {
        node = c.in-Ok.up.node;
        store = c.in-Ok.up.store;
        restarts = t;
        renews = (c.in-Ok-renew.ensures.renewed honest).renews;
        further = λ last.
            let was = of_last_old (seen (g.D.LogDisk.disk c.args.device)) c.args.header.now
            (text m t.genesis []) c.in-Ok.up.store t.standing t.opens last in
            absurd (cc (c.in-Ok-renew.ensures.last was.0 was.1).1);
        alive = refl;
        store_alive = c.in-Ok-renew.ensures.ready.alive c.in-Ok.ensures.ready.store_alive;
      },
      (c.in-Ok.ensures.exact honest).1,
    )

pub returns-in-Ok-renew-clause-ready : goal.returns-in-Ok-renew-clause-ready
returns-in-Ok-renew-clause-ready g c = record {
  whose = c.in-Ok-renew.ensures.ready.header ∙ c.in-Ok.ensures.ready.of_node;
  format = c.in-Ok-renew.ensures.ready.format;
  alive = refl;
  store_alive = c.in-Ok-renew.ensures.ready.alive c.in-Ok.ensures.ready.store_alive;
  awake = c.renew.ensures.halted ∙ c.in-Ok.ensures.ready.awake;
  runs = c.in-Ok-renew.ensures.ready.runs c.in-Ok.ensures.ready.runs;
}

pub returns-in-Ok-renew-clause-room : goal.returns-in-Ok-renew-clause-room
returns-in-Ok-renew-clause-room g c honest =
    let old = g.D.LogDisk.disk c.args.device in
    within_first (max_base_of c.args.header.now.alpha) old (disks c.in-Ok.up.store) (disks c.renew.new.store)
    (c.in-Ok.ensures.room honest)
    (subst (λ (k : ℕ). StaysWithin (max_base_of k) (disks c.in-Ok.up.store) (disks c.renew.new.store))
    (ap (λ (k : NodeValue). k.acceptor.alpha) (c.in-Ok.ensures.exact honest).0.restores.node_is)
    (c.renew.ensures.safe honest).room)

-- ---- a refused rebase

pub returns-in-Err-renew-clause-fits : goal.returns-in-Err-renew-clause-fits
returns-in-Err-renew-clause-fits g c honest h n is lawful before =
    let m : Meaning = g.M.Machine.meaning in
    let fits = goes_fit m h n (ReplicaHolds m c.in-Ok.up.node c.in-Ok.up.store h.genesis n)
    (disks c.in-Ok.up.store) c.in-Ok.up.notes.items lawful (c.in-Ok.ensures.fits honest h n is lawful before) in (
      c.in-Err-renew.ensures.refused.of_store,
      given_fit m h n c.renew.new.store
          (g.D.LogDisk.disk c.into_disks.result) c.into_disks.ensures.live_disk c.into_disks.ensures.other_disk
          ((c.renew.ensures.safe honest).fits h n (before_fits m h n c.in-Ok.up.node c.in-Ok.up.store fits)),
    )

pub returns-in-Err-renew-clause-covers : goal.returns-in-Err-renew-clause-covers
returns-in-Err-renew-clause-covers g c honest genesis n x is every =
    let m : Meaning = g.M.Machine.meaning in
    let keeps = taken_keeps m g.M.Machine.IsText
    (g.D.LogDisk.disk c.args.device) genesis n c.args.header.now c.in-Ok.up.node c.in-Ok.up.store
    c.in-Ok.up.notes.items is c.in-Ok.ensures.ready.whose (c.in-Ok.ensures.exact honest).0 in
    given_cover m genesis n x c.renew.new.store
    (g.D.LogDisk.disk c.into_disks.result) c.into_disks.ensures.live_disk c.into_disks.ensures.other_disk
    ((c.renew.ensures.safe honest).covers genesis n x keeps (c.in-Ok.ensures.covers honest genesis n x is every))

pub returns-in-Err-renew-clause-stays_err : goal.returns-in-Err-renew-clause-stays_err
returns-in-Err-renew-clause-stays_err g c honest genesis is =
    let m : Meaning = g.M.Machine.meaning in
    let old = g.D.LogDisk.disk c.args.device in
    let t = (c.in-Ok.ensures.exact honest).0 in
    let holds = opens_holds (seen old) c.args.header.now
    (text m t.genesis []) c.in-Ok.up.store t.standing t.opens c.in-Ok.ensures.ready.whose in
    given_renew old c.args.header.now (text m genesis []) c.renew.new.store
    (g.D.LogDisk.disk c.into_disks.result) c.into_disks.ensures.live_disk c.into_disks.ensures.other_disk
    (renew_left old (disks c.renew.new.store) c.args.header.now (text m t.genesis [])
    (text m genesis []) c.in-Ok.up.store t.standing
    (standing_of c.in-Ok.up.node) t.opens c.in-Err-renew.ensures.refused.old
    (c.in-Err-renew.ensures.left honest t.opens.entries [] holds))

pub returns-in-Err-renew-clause-refused : goal.returns-in-Err-renew-clause-refused
returns-in-Err-renew-clause-refused g c honest =
    let m : Meaning = g.M.Machine.meaning in
    let t = (c.in-Ok.ensures.exact honest).0 in
    let number = fault_number c.in-Err-renew.fault in
    let by = c.in-Err-renew.ensures.refused.of_store in
    record {
      damaged = λ nine. absurd (not_of_store number 9 by (omega arith) (omega arith) nine);
      wrong = λ ten. absurd (not_of_store number 10 by (omega arith) (omega arith) ten);
      last = λ eleven. elim (cases_lt c.in-Ok.up.store.generation max_count) [
        | inl less ↦ absurd (c.in-Err-renew.ensures.refused.earlier c.in-Ok.ensures.ready.store_alive less eleven)
        | inr most ↦ last_old (seen (g.D.LogDisk.disk c.args.device)) c.args.header.now
            (text m t.genesis []) c.in-Ok.up.store t.standing t.opens c.in-Err-renew.ensures.refused.old most
      ];
      last_revives = λ eleven. record {
        genesis = t.genesis;
        whose_is = t.whose_is;
        standing = t.standing;
        stands = record {
          entries = t.opens.entries;
          found = t.opens.found;
          header = t.opens.header;
          stands = t.opens.stands;
        };
        whole = t.restores.whole;
        may = t.restores.may;
      };
      damaged_stays = λ damaged nine. absurd (not_of_store number 9 by (omega arith) (omega arith) nine);
      wrong_stays = λ ten. absurd (not_of_store number 10 by (omega arith) (omega arith) ten);
    }

pub returns-in-Err-renew-clause-metered : goal.returns-in-Err-renew-clause-metered
returns-in-Err-renew-clause-metered g c metered honest =
    let o = c.in-Ok.ensures.metered metered honest in
    subst (λ (z : Meter). RefusedAfter (fault_number c.in-Err-renew.fault) (g.D.LogDisk.meter c.args.device) z)
    (sym c.into_disks.ensures.meter)
    (refused_on o.0 o.2 c.renew.new.store.meter (fault_number c.in-Err-renew.fault)
    (c.in-Err-renew.ensures.metered metered honest))

pub returns-in-Err-renew-clause-room : goal.returns-in-Err-renew-clause-room
returns-in-Err-renew-clause-room g c honest =
    let old = g.D.LogDisk.disk c.args.device in
    let most = max_base_of c.args.header.now.alpha in
    given_room most old c.renew.new.store
    (g.D.LogDisk.disk c.into_disks.result) c.into_disks.ensures.live_disk c.into_disks.ensures.other_disk
    (within_first most old (disks c.in-Ok.up.store) (disks c.renew.new.store) (c.in-Ok.ensures.room honest)
    (subst (λ (k : ℕ). StaysWithin (max_base_of k) (disks c.in-Ok.up.store) (disks c.renew.new.store))
    (ap (λ (k : NodeValue). k.acceptor.alpha) (c.in-Ok.ensures.exact honest).0.restores.node_is)
    (c.renew.ensures.safe honest).room))
