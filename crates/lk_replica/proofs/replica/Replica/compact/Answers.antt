use Rattle.std.proofs.Common.{◌≡◌, ◌∙◌, ℕ, true, false, refl, sym, ap, subst, inr}
use Rattle.std.specs.Prelude.{⊤, IfErr}
use Rattle.lk_types.specs.Limits.{max_base_of}
use Rattle.lk_log.specs.StoreValue.{disks}
use Rattle.lk_learner.specs.Learners.{alpha}
use Rattle.lk_state.specs.Meanings.{Meaning}
use Rattle.lk_log.proofs.Room.{within_same}
use Rattle.lk_disk.specs.Meters.{start}
use Rattle.lk_replica.specs.Compacted.{IsNotCompacted}
use Rattle.lk_node_interface.specs.Faults.{fault_number}
use Rattle.lk_recovery.specs.Rebased.{MatchesBase, HasSwitchedFiles, LeavesDisks}
use Rattle.lk_replica.specs.ReplicaValue.{ReplicaValue}
use Rattle.lk_recovery.proofs.Recoveries.{grown_none, leaves_safe}
use Rattle.lk_replica.proofs.Refusals.{not_compacted_by_parts}
use Rattle.lk_replica.proofs.replica.Replica.compact.Goals as goal

-- ---- where it has gone over

pub returns-clause-done : goal.returns-clause-done
returns-clause-done g c honest =
    let m : Meaning = g.M.Machine.meaning in
    subst (λ (r : ReplicaValue). HasSwitchedFiles m g.D.LogDisk.is_metered r.node r.store c.write_base.new.node
    c.write_base.new.store) c.self.view_is (c.in_ok-write_base.ensures.done honest)

pub returns-clause-becomes : goal.returns-clause-becomes
returns-clause-becomes g c =
    subst (λ (r : ReplicaValue). MatchesBase r.node r.store c.write_base.new.node c.write_base.new.store)
    c.self.view_is c.in_ok-write_base.ensures.becomes

pub invariant_of-self-2 : goal.invariant_of-self-2
invariant_of-self-2 g c = (
  λ alive. c.in_ok-write_base.ensures.becomes.runs (c.self.invariant.0 c.if-self.false),
  c.write_base.ensures.format_stays c.self.invariant.1,
)

-- ---- at every exit

pub returns-then-self-clause-disks : goal.returns-then-self-clause-disks
returns-then-self-clause-disks g c honest = record {
  ends = λ h n f heard. f.left;
  covers = λ genesis n x shown every. every;
  room = within_same (max_base_of (alpha c.args.self.now.node.learner)) (disks c.args.self.now.store)
      (disks c.args.self.now.store) (λ s. refl);
  grows = grown_none (disks c.args.self.now.store) (disks c.args.self.now.store) (λ s. refl);
}

pub returns-in_err-write_base-clause-disks : goal.returns-in_err-write_base-clause-disks
returns-in_err-write_base-clause-disks g c honest =
    let m : Meaning = g.M.Machine.meaning in
    let node = c.self.inside.node in
    let store = c.self.inside.store in
    let left : LeavesDisks m (λ h. ⊤) (max_base_of (alpha node.learner)) node store (disks c.write_base.new.store) =
    subst (λ (k : ℕ). LeavesDisks m (λ h. ⊤) (max_base_of k) node store (disks c.write_base.new.store))
    c.write_base.ensures.near.0.alpha_is
    (leaves_safe m node store c.write_base.new.store (c.write_base.ensures.disks honest)) in
    subst (λ (r : ReplicaValue). LeavesDisks m (λ h. ⊤) (max_base_of (alpha r.node.learner)) r.node r.store
    (disks c.write_base.new.store)) c.self.view_is left

pub returns-clause-disks : goal.returns-clause-disks
returns-clause-disks g c honest =
    let m : Meaning = g.M.Machine.meaning in
    let node = c.self.inside.node in
    let store = c.self.inside.store in
    let left : LeavesDisks m (λ h. ⊤) (max_base_of (alpha node.learner)) node store (disks c.write_base.new.store) =
    subst (λ (k : ℕ). LeavesDisks m (λ h. ⊤) (max_base_of k) node store (disks c.write_base.new.store))
    c.write_base.ensures.near.0.alpha_is
    (leaves_safe m node store c.write_base.new.store (c.write_base.ensures.disks honest)) in
    subst (λ (r : ReplicaValue). LeavesDisks m (λ h. ⊤) (max_base_of (alpha r.node.learner)) r.node r.store
    (disks c.write_base.new.store)) c.self.view_is left

-- ---- where it was refused

pub returns-then-self-clause-refused : goal.returns-then-self-clause-refused
returns-then-self-clause-refused g c = record {
  of_store = inr (inr refl);
  calls = λ metered honest. (0, start);
  earlier = λ number alive store_alive less. let both : true ≡ false = sym c.if-self.true
      ∙ ap (λ (r : ReplicaValue). r.failed) c.self.view_is ∙ alive in cc both;
  once = λ ended. (refl, refl);
  rests = refl;
  file = (refl, refl, refl, refl);
  ends = sym (ap (λ (r : ReplicaValue). r.failed) c.self.view_is) ∙ c.if-self.true;
  stays = λ honest device s. refl;
}

pub returns-in_err-write_base-clause-refused : goal.returns-in_err-write_base-clause-refused
returns-in_err-write_base-clause-refused g c =
    let node = c.write_base.new.node in
    let store = c.write_base.new.store in
    subst (λ (r : ReplicaValue). IfErr c.from_residual.result
    (λ e. IsNotCompacted g.D.LogDisk.is_honest g.D.LogDisk.is_metered r
    (record { node = node; store = store; failed = true }) (fault_number e))) c.self.view_is
    (not_compacted_by_parts g.D.LogDisk.is_honest g.D.LogDisk.is_metered
    _ _ (record { node = c.self.inside.node; store = c.self.inside.store; failed = c.self.inside.failed }) node store
    c.from_residual.ensures.1 c.if-self.false c.in_err-write_base.ensures.refused)
