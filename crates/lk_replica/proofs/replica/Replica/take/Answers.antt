use Rattle.std.proofs.Common.{◌≡◌, true, false, [], Bool, inr, refl, sym, ◌∙◌, ap, subst, arith}
use Rattle.lk_log.specs.StoreValue.{disks}
use Rattle.lk_node_interface.specs.Faults.{WantsNoMemory, fault_number}
use Rattle.lk_node.specs.Executing.{NothingToRun}
use Rattle.lk_node.specs.NodeValue.{NodeValue}
use Rattle.lk_recovery.proofs.Recoveries.{err_as}
use Rattle.lk_replica.specs.Posts.{SendsWhether}
use Rattle.lk_replica.specs.Taking.{IsRefused}
use Rattle.lk_replica.proofs.Alone.{one_goes, one_leaves, one_passes, one_refused, one_remembers, one_syncs, one_taken}
use Rattle.lk_replica.proofs.Alone.{none_leaves}
use Rattle.lk_replica.proofs.NoSend.{ends_silently, goes_not}
use Rattle.lk_replica.proofs.Refusals.{errs_as}
use Rattle.lk_replica.proofs.replica.Replica.take.Goals as goal

-- ---- what it gives to the post

pub returns-in_err-add_step-clause-gives : goal.returns-in_err-add_step-clause-gives
returns-in_err-add_step-clause-gives g c = record {
  envelopes = [];
  carried = refl;
  holds = λ honest. record {
    taken = goes_not _ _ _ c.from_residual.ensures.1 c.in_err-add_step.ensures.refused.no_send;
    goes = λ h n f heard. goes_not _ _ _ c.from_residual.ensures.1 c.in_err-add_step.ensures.refused.no_send;
    syncs = λ genesis n x shown d listed said. absurd (omega (arith, listed.1));
  };
}

pub returns-in_err-all-clause-gives : goal.returns-in_err-all-clause-gives
returns-in_err-all-clause-gives g c = record {
  envelopes = [];
  carried = c.in_err-all.ensures.silent;
  holds = λ honest. record {
    taken = goes_not _ _ _ c.from_residual-in_err-all.ensures.1 c.in_err-all.ensures.refused.no_send;
    goes = λ h n f heard. goes_not _ _ _ c.from_residual-in_err-all.ensures.1 c.in_err-all.ensures.refused.no_send;
    syncs = λ genesis n x shown d listed said. absurd (omega (arith, listed.1));
  };
}

pub returns-then-not-all-clause-gives : goal.returns-then-not-all-clause-gives
returns-then-not-all-clause-gives g c =
    let m = g.M.Machine.meaning in
    let t = g.M.Machine.IsText in
    let metered = g.D.LogDisk.is_metered in
    let old = c.args.self.now in
    let mid = c.add_step.new.self in
    let new = c.sync_and_send.new.self in
    let group = c.add_step.new.group in
    let is = c.new-group.ensures in
    let first = c.in_ok-add_step.ensures in
    let last = c.in_ok-all.ensures in
    let ends = last.ends first.alive.0 first.alive.1 in
    let lost : c.in_ok-all.all ≡ false = cc c.if-not-all.true in
    record {
      envelopes = group.envelopes;
      carried = last.delivers.carried;
      holds = λ honest. record {
        taken = one_taken m t metered old mid new c.args.input c.new-group.result group is (first.exact honest)
            (last.exact honest) (c.sync_and_send.ensures.disks honest).room c.into_notes-notes.result.items
            c.into_notes-notes.ensures _
            (λ observable. subst (λ (all : Bool). SendsWhether all group.envelopes (g.P.Post.sent c.args.post.now)
            (g.P.Post.sent c.sync_and_send.new.post) (g.P.Post.failures c.args.post.now)
            (g.P.Post.failures c.sync_and_send.new.post)) lost (last.delivers.sends observable))
            last.alive ends.store_alive (ap (λ (k : NodeValue). k.halted) ends.node ∙ first.alive.2);
        goes = one_goes m old mid c.args.input c.new-group.result group is (first.keeps honest) metered new
            (last.exact honest) (first.goes honest) c.into_notes-notes.result.items c.into_notes-notes.ensures;
        syncs = one_syncs m old mid c.args.input c.new-group.result group is (first.keeps honest) metered new
            (last.exact honest);
      };
    }

pub returns-clause-gives : goal.returns-clause-gives
returns-clause-gives g c =
    let m = g.M.Machine.meaning in
    let t = g.M.Machine.IsText in
    let metered = g.D.LogDisk.is_metered in
    let old = c.args.self.now in
    let mid = c.add_step.new.self in
    let new = c.sync_and_send.new.self in
    let group = c.add_step.new.group in
    let is = c.new-group.ensures in
    let first = c.in_ok-add_step.ensures in
    let last = c.in_ok-all.ensures in
    let ends = last.ends first.alive.0 first.alive.1 in
    let all_went : c.in_ok-all.all ≡ true = cc c.if-not-all.false in
    record {
      envelopes = group.envelopes;
      carried = last.delivers.carried;
      holds = λ honest. record {
        taken = one_taken m t metered old mid new c.args.input c.new-group.result group is (first.exact honest)
            (last.exact honest) (c.sync_and_send.ensures.disks honest).room c.into_notes-notes.result.items
            c.into_notes-notes.ensures _
            (λ observable. subst (λ (all : Bool). SendsWhether all group.envelopes (g.P.Post.sent c.args.post.now)
            (g.P.Post.sent c.sync_and_send.new.post) (g.P.Post.failures c.args.post.now)
            (g.P.Post.failures c.sync_and_send.new.post)) all_went (last.delivers.sends observable))
            last.alive ends.store_alive (ap (λ (k : NodeValue). k.halted) ends.node ∙ first.alive.2);
        goes = one_goes m old mid c.args.input c.new-group.result group is (first.keeps honest) metered new
            (last.exact honest) (first.goes honest) c.into_notes-notes.result.items c.into_notes-notes.ensures;
        syncs = one_syncs m old mid c.args.input c.new-group.result group is (first.keeps honest) metered new
            (last.exact honest);
      };
    }

-- ---- where it goes on

pub returns-in_err-add_step-clause-alive : goal.returns-in_err-add_step-clause-alive
returns-in_err-add_step-clause-alive g c =
    goes_not _ _ _ c.from_residual.ensures.1 c.in_err-add_step.ensures.refused.no_send

pub returns-in_err-all-clause-alive : goal.returns-in_err-all-clause-alive
returns-in_err-all-clause-alive g c =
    goes_not _ _ _ c.from_residual-in_err-all.ensures.1 c.in_err-all.ensures.refused.no_send

pub returns-then-not-all-clause-alive : goal.returns-then-not-all-clause-alive
returns-then-not-all-clause-alive g c =
    let first = c.in_ok-add_step.ensures in
    let last = c.in_ok-all.ensures in
    let ends = last.ends first.alive.0 first.alive.1 in
    record {
      alive = last.alive;
      store_alive = ends.store_alive;
      awake = ap (λ (k : NodeValue). k.halted) ends.node ∙ first.alive.2;
      runs = subst NothingToRun (sym ends.node) (first.first c.new-group.ensures).runs;
      remembers = λ honest. one_remembers g.M.Machine.meaning c.args.self.now c.add_step.new.self c.args.input
          c.new-group.result c.add_step.new.group c.new-group.ensures (first.keeps honest) g.D.LogDisk.is_metered
          c.sync_and_send.new.self (last.exact honest);
    }

pub returns-clause-alive : goal.returns-clause-alive
returns-clause-alive g c =
    let first = c.in_ok-add_step.ensures in
    let last = c.in_ok-all.ensures in
    let ends = last.ends first.alive.0 first.alive.1 in
    record {
      alive = last.alive;
      store_alive = ends.store_alive;
      awake = ap (λ (k : NodeValue). k.halted) ends.node ∙ first.alive.2;
      runs = subst NothingToRun (sym ends.node) (first.first c.new-group.ensures).runs;
      remembers = λ honest. one_remembers g.M.Machine.meaning c.args.self.now c.add_step.new.self c.args.input
          c.new-group.result c.add_step.new.group c.new-group.ensures (first.keeps honest) g.D.LogDisk.is_metered
          c.sync_and_send.new.self (last.exact honest);
    }

-- ---- at every exit

pub returns-in_err-add_step-clause-disks : goal.returns-in_err-add_step-clause-disks
returns-in_err-add_step-clause-disks g c honest =
    none_leaves g.M.Machine.meaning c.args.self.now c.args.input c.new-group.result c.new-group.ensures
    (disks c.add_step.new.self.store) (c.add_step.ensures.disks honest) (c.add_step.ensures.grows honest)

pub returns-in_err-all-clause-disks : goal.returns-in_err-all-clause-disks
returns-in_err-all-clause-disks g c honest =
    one_leaves g.M.Machine.meaning c.args.self.now c.add_step.new.self c.args.input c.new-group.result
    c.add_step.new.group c.new-group.ensures (c.in_ok-add_step.ensures.keeps honest)
    (disks c.sync_and_send.new.self.store)
    (c.add_step.ensures.disks honest) (c.add_step.ensures.grows honest) (c.sync_and_send.ensures.disks honest)

pub returns-then-not-all-clause-disks : goal.returns-then-not-all-clause-disks
returns-then-not-all-clause-disks g c honest =
    one_leaves g.M.Machine.meaning c.args.self.now c.add_step.new.self c.args.input c.new-group.result
    c.add_step.new.group c.new-group.ensures (c.in_ok-add_step.ensures.keeps honest)
    (disks c.sync_and_send.new.self.store)
    (c.add_step.ensures.disks honest) (c.add_step.ensures.grows honest) (c.sync_and_send.ensures.disks honest)

pub returns-clause-disks : goal.returns-clause-disks
returns-clause-disks g c honest =
    one_leaves g.M.Machine.meaning c.args.self.now c.add_step.new.self c.args.input c.new-group.result
    c.add_step.new.group c.new-group.ensures (c.in_ok-add_step.ensures.keeps honest)
    (disks c.sync_and_send.new.self.store)
    (c.add_step.ensures.disks honest) (c.add_step.ensures.grows honest) (c.sync_and_send.ensures.disks honest)

-- ---- what a refusal leaves

pub returns-in_err-add_step-clause-refused : goal.returns-in_err-add_step-clause-refused
returns-in_err-add_step-clause-refused g c =
    err_as _ _ _ c.from_residual.ensures.1 (c.in_err-add_step.ensures.first c.new-group.ensures).refused

pub returns-in_err-all-clause-refused : goal.returns-in_err-all-clause-refused
returns-in_err-all-clause-refused g c =
    let first = c.in_ok-add_step.ensures in
    let was = c.in_err-all.ensures in
    let ends = was.ends first.alive.0 first.alive.1 in
    err_as (λ e. IsRefused g.D.LogDisk.is_honest g.D.LogDisk.is_metered c.args.self.now c.sync_and_send.new.self
    (fault_number e)) _ _ c.from_residual-in_err-all.ensures.1
    (one_refused g.M.Machine.meaning g.M.Machine.IsText g.D.LogDisk.is_honest g.D.LogDisk.is_metered c.args.self.now
    c.add_step.new.self c.sync_and_send.new.self c.args.input c.new-group.result c.add_step.new.group
    c.new-group.ensures
    first.exact (λ ended. cc (first.failed ended)) first.cause first.alive.2 _ was.refused ends.node ends.file
    ends.refused.0 ends.refused.1)

pub returns-then-not-all-clause-refused : goal.returns-then-not-all-clause-refused
returns-then-not-all-clause-refused g c =
    let first = c.in_ok-add_step.ensures in
    let last = c.in_ok-all.ensures in
    let ends = last.ends first.alive.0 first.alive.1 in
    record {
      told = inr (inr (inr (inr refl)));
      failures = last.cause ∙ first.cause;
      calls = λ metered honest.
          let k = one_passes g.M.Machine.meaning g.M.Machine.IsText g.D.LogDisk.is_metered c.args.self.now
          c.add_step.new.self c.sync_and_send.new.self c.args.input c.new-group.result c.add_step.new.group
          c.new-group.ensures
          (first.exact honest) (last.exact honest) (c.sync_and_send.ensures.disks honest).room metered in (_, k.2);
      earlier = λ number alive store_alive further. omega (arith, number);
      second = λ honest number alive store_alive less. absurd (omega (arith, number));
      once = λ ended. absurd (cc (first.failed ended));
      ends = λ other. absurd (other refl);
      file = λ honest post. absurd (post refl);
      stays = λ honest device post. absurd (post refl);
      halts = λ number. absurd (omega (arith, number));
      awake = λ was other. ap (λ (k : NodeValue). k.halted) ends.node ∙ first.alive.2;
    }

pub returns-in_err-add_step-clause-sends : goal.returns-in_err-add_step-clause-sends
returns-in_err-add_step-clause-sends g c =
    err_as _ _ _ c.from_residual.ensures.1 (ends_silently _ _ c.in_err-add_step.ensures.refused.no_send refl)

pub returns-in_err-all-clause-sends : goal.returns-in_err-all-clause-sends
returns-in_err-all-clause-sends g c =
    err_as _ _ _ c.from_residual-in_err-all.ensures.1
    (ends_silently _ _ c.in_err-all.ensures.refused.no_send c.in_err-all.ensures.silent)

-- ---- at the last generation

pub returns-in_err-add_step-clause-last : goal.returns-in_err-add_step-clause-last
returns-in_err-add_step-clause-last g c honest most due =
    errs_as _ _ (λ e. WantsNoMemory (fault_number e)) c.from_residual.ensures.1
    ((c.in_err-add_step.ensures.first c.new-group.ensures).last honest most due)

pub returns-in_err-all-clause-last : goal.returns-in_err-all-clause-last
returns-in_err-all-clause-last g c honest most due =
    absurd ((c.in_ok-add_step.ensures.first c.new-group.ensures).last honest most due)

pub returns-then-not-all-clause-last : goal.returns-then-not-all-clause-last
returns-then-not-all-clause-last g c honest most due =
    absurd ((c.in_ok-add_step.ensures.first c.new-group.ensures).last honest most due)

pub returns-clause-last : goal.returns-clause-last
returns-clause-last g c honest most due = (c.in_ok-add_step.ensures.first c.new-group.ensures).last honest most due
