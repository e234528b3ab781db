use Rattle.std.proofs.Common.{◌≡◌, inl, inr, true, false, refl, sym, ap, subst, ◌∙◌, arith, Ok}
use Rattle.std.specs.Prelude.{IfErr}
use Rattle.lk_disk.specs.Meters.{start}
use Rattle.lk_node_interface.specs.Faults.{WantsNoMemory, fault_number}
use Rattle.lk_log.specs.StoreValue.{disks}
use Rattle.lk_log.proofs.Room.{within_same}
use Rattle.lk_node_interface.specs.Envelopes.{batch_of}
use Rattle.lk_node.specs.Calls.{InputFits, NodeFits}
use Rattle.lk_node.specs.Keeping.{ReplicaHolds}
use Rattle.lk_replica.specs.Groups.{IsGathered, IsRefusedInGroup, KeepsGroup, LeavesInGroup}
use Rattle.lk_replica.specs.Groups.{synced_if, empty_group, RemembersInGroup}
use Rattle.lk_replica.specs.ReplicaValue.{ReplicaValue}
use Rattle.lk_recovery.specs.Rooms.{GrowsFromBase}
use Rattle.lk_recovery.specs.Compacting.{AreLeft}
use Rattle.lk_replica.specs.Taking.{BeginsGroup}
use Rattle.lk_recovery.proofs.Recoveries.{grown_none, spared_more}
use Rattle.lk_replica.proofs.Grouped.{group_refused, as_gathered, goes_as_sent}
use Rattle.lk_replica.proofs.Refusals.{errs_as, not_ok, refused_by_parts}
use Rattle.lk_replica.proofs.replica.Replica.add_step.Goals as goal

pub returns-clause-goes : goal.returns-clause-goes
returns-clause-goes g c honest =
    let m = g.M.Machine.meaning in
    let w = c.args.group.now.needs_sync in
    let a = c.in_ok-step_in_group.ensures.goes honest in
    record {
      notes = a.notes;
      envelopes = a.envelopes;
      noted = a.noted;
      said = a.said;
      are = λ genesis k r h n f heard sent among.
          let mine = subst (λ (k : ReplicaValue). NodeFits m h n (ReplicaHolds m k.node
          (synced_if w k.store) h.genesis n)
          (disks (synced_if w k.store))) (sym c.self.view_is) f in
          let was = subst (λ (x : ReplicaValue). RemembersInGroup x.node x.store w genesis k) (sym c.self.view_is) r in
          goes_as_sent m h n c.step_in_group.new.node c.step_in_group.new.store c.step_in_group.new.group.needs_sync
          a.notes (batch_of n sent)
          (a.are h n (as_gathered m genesis k c.self.inside.node c.self.inside.store w was h n mine) heard sent among);
    }

pub returns-clause-keeps : goal.returns-clause-keeps
returns-clause-keeps g c honest =
    subst (λ (k : ReplicaValue). KeepsGroup g.M.Machine.meaning
    (λ h. InputFits h c.args.input) k.node k.store c.args.group.now c.step_in_group.new.node c.step_in_group.new.store
    c.step_in_group.new.group) c.self.view_is (c.in_ok-step_in_group.ensures.keeps honest)

-- ---- what is on the disks

pub returns-then-self-clause-disks : goal.returns-then-self-clause-disks
returns-then-self-clause-disks g c honest = record {
  ends = λ h n s heard. s.left;
  covers = λ genesis n x r every. every;
  room = within_same 132704 (disks c.args.self.now.store) (disks c.args.self.now.store) (λ s. refl);
}

pub returns-then-self-clause-grows : goal.returns-then-self-clause-grows
returns-then-self-clause-grows g c honest =
    grown_none (disks c.args.self.now.store) (disks c.args.self.now.store) (λ s. refl)

pub returns-in_err-step_in_group-clause-disks : goal.returns-in_err-step_in_group-clause-disks
returns-in_err-step_in_group-clause-disks g c honest =
    subst (λ (k : ReplicaValue). LeavesInGroup g.M.Machine.meaning
    (λ h. InputFits h c.args.input) 132704 k.node k.store c.args.group.now.needs_sync
    (disks c.step_in_group.new.store)) c.self.view_is (c.step_in_group.ensures.disks honest)

pub returns-in_err-step_in_group-clause-grows : goal.returns-in_err-step_in_group-clause-grows
returns-in_err-step_in_group-clause-grows g c honest =
    subst (λ (k : ReplicaValue). GrowsFromBase (disks k.store) (disks c.step_in_group.new.store)) c.self.view_is
    (c.step_in_group.ensures.grows honest)

pub returns-clause-disks : goal.returns-clause-disks
returns-clause-disks g c honest =
    subst (λ (k : ReplicaValue). LeavesInGroup g.M.Machine.meaning
    (λ h. InputFits h c.args.input) 132704 k.node k.store c.args.group.now.needs_sync
    (disks c.step_in_group.new.store)) c.self.view_is (c.step_in_group.ensures.disks honest)

pub returns-clause-grows : goal.returns-clause-grows
returns-clause-grows g c honest =
    subst (λ (k : ReplicaValue). GrowsFromBase (disks k.store) (disks c.step_in_group.new.store)) c.self.view_is
    (c.step_in_group.ensures.grows honest)

pub invariant_of-self-2 : goal.invariant_of-self-2
invariant_of-self-2 g c =
    let runs = c.in_ok-step_in_group.ensures.alive.2 in
    (λ lives. runs (c.self.invariant.0 c.if-self.false), c.step_in_group.ensures.format)

-- ---- what it has done

pub returns-clause-exact : goal.returns-clause-exact
returns-clause-exact g c honest =
    subst (λ (r : ReplicaValue). IsGathered g.M.Machine.meaning g.M.Machine.IsText g.D.LogDisk.is_metered r.node
    r.store c.args.group.now c.args.input c.step_in_group.new.node c.step_in_group.new.store c.step_in_group.new.group)
    c.self.view_is (c.in_ok-step_in_group.ensures.exact honest)

pub returns-clause-alive : goal.returns-clause-alive
returns-clause-alive g c = (refl, c.in_ok-step_in_group.ensures.alive.0, c.in_ok-step_in_group.ensures.alive.1)

pub returns-then-self-clause-refused : goal.returns-then-self-clause-refused
returns-then-self-clause-refused g c = record {
  told = inr (inr (inl refl));
  no_send = λ is. omega (arith, is);
  failures = refl;
  calls = λ metered honest. (0, start);
  earlier = λ number alive store_alive further. let both : true ≡ false = sym c.if-self.true
      ∙ ap (λ (r : ReplicaValue). r.failed) c.self.view_is ∙ alive in cc both;
  second = λ honest number alive store_alive less. absurd
      (let both : true ≡ false = sym c.if-self.true ∙ ap (λ (r : ReplicaValue). r.failed) c.self.view_is ∙ alive in
      cc both);
  once = λ ended. (refl, refl);
  ends = sym (ap (λ (r : ReplicaValue). r.failed) c.self.view_is) ∙ c.if-self.true;
  halts = λ number. absurd (omega (arith, number));
  awake = λ was other. was;
}

pub returns-in_err-step_in_group-clause-refused : goal.returns-in_err-step_in_group-clause-refused
returns-in_err-step_in_group-clause-refused g c =
    subst (λ (r : ReplicaValue). IfErr c.from_residual.result
    (λ e. IsRefusedInGroup g.D.LogDisk.is_honest g.D.LogDisk.is_metered r
    (record { node = c.step_in_group.new.node; store = c.step_in_group.new.store; failed = true }) (fault_number e)))
    c.self.view_is
    (group_refused g.D.LogDisk.is_honest g.D.LogDisk.is_metered _ _
    _ _ (record { node = c.self.inside.node; store = c.self.inside.store; failed = c.self.inside.failed })
    c.step_in_group.new.node c.step_in_group.new.store c.from_residual.ensures.1 c.if-self.false
    c.in_err-step_in_group.ensures.cause c.in_err-step_in_group.ensures.refused)

-- ---- of a group that begins

pub returns-then-self-clause-first : goal.returns-then-self-clause-first
returns-then-self-clause-first g c fresh = record {
  runs = tt;
  refused = record {
    told = inr (inr (inl refl));
    failures = refl;
    calls = λ metered honest. (0, start);
    earlier = λ number alive store_alive further. let both : true ≡ false = sym c.if-self.true
        ∙ ap (λ (r : ReplicaValue). r.failed) c.self.view_is ∙ alive in cc both;
    second = λ honest number alive store_alive less. absurd
        (let both : true ≡ false = sym c.if-self.true ∙ ap (λ (r : ReplicaValue). r.failed) c.self.view_is ∙ alive in
        cc both);
    once = λ ended. (refl, refl);
    ends = λ other. sym (ap (λ (r : ReplicaValue). r.failed) c.self.view_is) ∙ c.if-self.true;
    file = λ honest post. inl (refl, refl, refl, refl);
    stays = λ honest device post. inl (λ s. refl);
    halts = λ number. absurd (omega (arith, number));
    awake = λ was other. was;
  };
  last = λ honest most due. inr refl;
}

pub returns-in_err-step_in_group-clause-first : goal.returns-in_err-step_in_group-clause-first
returns-in_err-step_in_group-clause-first g c fresh =
    let node = c.step_in_group.new.node in
    let store = c.step_in_group.new.store in
    let was = c.in_err-step_in_group.ensures.refused in
    let left : (c.args.group.now ≡ empty_group → AreLeft c.self.inside.node c.self.inside.store store)
    → AreLeft c.self.inside.node c.self.inside.store store = λ left. left fresh in
    subst (λ (r : ReplicaValue). BeginsGroup g.D.LogDisk.is_honest g.D.LogDisk.is_metered r
    (record { node = node; store = store; failed = true }) c.from_residual.result) c.self.view_is
    (record {
      runs = not_ok _ _ _ c.from_residual.ensures.1;
      refused = refused_by_parts g.D.LogDisk.is_honest g.D.LogDisk.is_metered
          _ _ (record { node = c.self.inside.node; store = c.self.inside.store; failed = c.self.inside.failed }) node
          store c.from_residual.ensures.1 c.if-self.false c.in_err-step_in_group.ensures.cause
          (record {
            told = was.told;
            only = was.only;
            calls = was.calls;
            earlier = was.earlier;
            second = was.second;
            file = λ honest. was.file honest fresh;
            stays = λ honest. spared_more _ _ _ left (was.stays honest);
            halts = was.halts;
            awake = was.awake;
          });
      last = λ honest most due. errs_as _ _ (λ e. WantsNoMemory (fault_number e)) c.from_residual.ensures.1
          (c.in_err-step_in_group.ensures.last honest most due);
    })

pub returns-clause-first : goal.returns-clause-first
returns-clause-first g c fresh =
    subst (λ (r : ReplicaValue). BeginsGroup {T = Unit {0}} g.D.LogDisk.is_honest g.D.LogDisk.is_metered r
    (record { node = c.step_in_group.new.node; store = c.step_in_group.new.store; failed = false }) (Ok tt))
    c.self.view_is
    (record {
      runs = c.in_ok-step_in_group.ensures.alive.2 (c.self.invariant.0 c.if-self.false);
      refused = tt;
      last = λ honest most due. c.in_ok-step_in_group.ensures.last honest most due;
    })
