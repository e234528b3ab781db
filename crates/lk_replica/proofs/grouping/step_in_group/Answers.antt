use Rattle.std.proofs.Common.{◌≡◌, ℕ, ◌∙◌, Bool, true, false, sym, ap, subst, arith, inl}
use Rattle.lk_types.specs.Limits.{max_base_of}
use Rattle.lk_log.specs.StoreValue.{disks}
use Rattle.lk_log.proofs.Room.{most_base, refused_room, within_first}
use Rattle.lk_node_interface.specs.Envelopes.{batch_of}
use Rattle.lk_node.specs.Histories.{Genesis}
use Rattle.lk_node.specs.Leavings.{AllCover}
use Rattle.lk_replica.specs.Groups.{GroupValue, MakesRoom, synced_if, RemembersInGroup, GroupFits, GroupLeavesFit}
use Rattle.lk_replica.specs.Groups.{GroupStays, empty_group}
use Rattle.lk_disk.proofs.Devices.{passes_on}
use Rattle.lk_node_interface.specs.declared.fault.ReplicaFault.TheVariants as fault
use Rattle.lk_node_interface.specs.Faults.{WantsNoMemory, fault_number}
use Rattle.lk_recovery.proofs.Recoveries.{err_as, refused_on, grown_base, grown_then, spared_more, second_after}
use Rattle.lk_recovery.proofs.Recoveries.{file_after, left_after}
use Rattle.lk_recovery.specs.Compacting.{AreLeft, AreSame}
use Rattle.lk_replica.proofs.Grouped.{says_more}
use Rattle.lk_replica.proofs.Refusals.{errs_as}
use Rattle.lk_replica.proofs.grouping.step_in_group.Goals as goal

pub returns-clause-goes : goal.returns-clause-goes
returns-clause-goes g c honest =
    let m = g.M.Machine.meaning in
    let o = c.in_ok-outbox.outbox in
    let is = c.in_ok-add.ensures.added in
    record {
      notes = o.notes;
      envelopes = o.envelopes;
      noted = ap (λ (x : GroupValue). x.notes) is;
      said = ap (λ (x : GroupValue). x.envelopes) is;
      are = λ h n f heard sent among. subst
          (λ (x : GroupValue). GroupLeavesFit m h n c.step_to_file.new.node c.step_to_file.new.store x.needs_sync
          o.notes
          (batch_of n sent)) (sym is)
          ((c.in_ok-outbox.ensures.keeps honest c.in_ok-needs_sync.needs_sync).goes h n
          ((c.in_ok-needs_sync.ensures.keeps honest).fits h n
          (subst (λ (w : Bool). GroupFits g.M.Machine.meaning h n c.args.node.now c.args.store.now w)
          (sym (ap (λ (y : GroupValue). y.needs_sync) c.group.view_is)) f)) heard sent among);
    }

pub returns-clause-keeps : goal.returns-clause-keeps
returns-clause-keeps g c honest =
    let m = g.M.Machine.meaning in
    let o = c.in_ok-outbox.outbox in
    let is = c.in_ok-add.ensures.added in
    let before = c.args.group.now in
    let room = c.in_ok-needs_sync.ensures.keeps honest in
    let step = c.in_ok-outbox.ensures.keeps honest c.in_ok-needs_sync.needs_sync in
    let w = sym (ap (λ (y : GroupValue). y.needs_sync) c.group.view_is) in
    let mine : (genesis : Genesis) (n : ℕ) → RemembersInGroup c.args.node.now c.args.store.now before.needs_sync
    genesis n
    → RemembersInGroup c.args.node.now c.args.store.now c.group.inside.needs_sync genesis n =
    λ genesis n r. subst (λ (w : Bool). RemembersInGroup c.args.node.now c.args.store.now w genesis n) w r in
    record {
      stays = λ h n s heard.
          subst (λ (x : GroupValue). GroupStays m h n c.step_to_file.new.node c.step_to_file.new.store x.needs_sync)
          (sym is)
          (step.stays h n (room.stays h n
          (subst (λ (w : Bool). GroupStays m h n c.args.node.now c.args.store.now w) w s)) heard);
      recalls = λ genesis n r.
          subst (λ (x : GroupValue). RemembersInGroup c.step_to_file.new.node c.step_to_file.new.store x.needs_sync
          genesis n)
          (sym is)
          (step.recalls genesis n (room.recalls genesis n (mine genesis n r)));
      said = λ genesis n r was.
          says_more m genesis n before c.add.new.self c.args.store.now c.step_to_file.new.store
          (λ x every. subst (λ (y : GroupValue). AllCover m genesis n
          (disks (synced_if y.needs_sync c.step_to_file.new.store)) x) (sym is)
          (step.still genesis n x (room.recalls genesis n (mine genesis n r))
          (room.still genesis n x (mine genesis n r)
          (subst (λ (w : Bool). AllCover m genesis n (disks (synced_if w c.args.store.now)) x) w every))))
          (λ x. record {
            notes = o.notes;
            envelopes = o.envelopes;
            noted = ap (λ (x : GroupValue). x.notes) is;
            said = ap (λ (x : GroupValue). x.envelopes) is;
            are = λ d listed spelled. subst
                (λ (y : GroupValue). AllCover m genesis n (disks (synced_if y.needs_sync c.step_to_file.new.store)) x)
                (sym is)
                (step.syncs genesis n x (room.recalls genesis n (mine genesis n r)) d listed spelled);
          })
          was;
    }

-- ---- at every exit

pub returns-in_err-needs_sync-clause-disks : goal.returns-in_err-needs_sync-clause-disks
returns-in_err-needs_sync-clause-disks g c honest =
    let m = g.M.Machine.meaning in
    let w = sym (ap (λ (y : GroupValue). y.needs_sync) c.group.view_is) in
    record {
      ends = λ h n s heard. (c.make_room.ensures.disks honest).ends h n
          (subst (λ (w : Bool). GroupStays m h n c.args.node.now c.args.store.now w) w s) tt;
      covers = λ genesis n x r every. (c.make_room.ensures.disks honest).covers genesis n x
          (subst (λ (w : Bool). RemembersInGroup c.args.node.now c.args.store.now w genesis n) w r) every;
      room = refused_room (max_base_of c.args.node.now.acceptor.alpha) (disks c.args.store.now)
          (disks c.make_room.new.store) (most_base c.args.node.now.acceptor.alpha)
          (c.make_room.ensures.disks honest).room;
    }

pub returns-in_err-needs_sync-clause-grows : goal.returns-in_err-needs_sync-clause-grows
returns-in_err-needs_sync-clause-grows g c honest =
    let alpha = c.args.node.now.acceptor.alpha in
    grown_base (max_base_of alpha) (disks c.args.store.now) (disks c.make_room.new.store) (most_base alpha)
    (c.make_room.ensures.disks honest).room

pub returns-in_err-outbox-clause-disks : goal.returns-in_err-outbox-clause-disks
returns-in_err-outbox-clause-disks g c honest =
    let m = g.M.Machine.meaning in
    let w = sym (ap (λ (y : GroupValue). y.needs_sync) c.group.view_is) in
    record {
      ends = λ h n s heard. (c.step_to_file.ensures.disks honest c.in_ok-needs_sync.needs_sync).ends h n
          ((c.in_ok-needs_sync.ensures.keeps honest).stays h n
          (subst (λ (w : Bool). GroupStays m h n c.args.node.now c.args.store.now w) w s)) heard;
      covers = λ genesis n x r every.
          let mine = subst (λ (w : Bool). RemembersInGroup c.args.node.now c.args.store.now w genesis n) w r in
          (c.step_to_file.ensures.disks honest c.in_ok-needs_sync.needs_sync).covers genesis n x
          ((c.in_ok-needs_sync.ensures.keeps honest).recalls genesis n mine)
          ((c.make_room.ensures.disks honest).covers genesis n x mine every);
      room = within_first 132704 (disks c.args.store.now) (disks c.make_room.new.store)
          (disks c.step_to_file.new.store)
          (refused_room (max_base_of c.args.node.now.acceptor.alpha) (disks c.args.store.now)
          (disks c.make_room.new.store) (most_base c.args.node.now.acceptor.alpha)
          (c.make_room.ensures.disks honest).room)
          ((c.step_to_file.ensures.disks honest c.in_ok-needs_sync.needs_sync).room
          (c.in_ok-needs_sync.ensures.small honest));
    }

pub returns-in_err-outbox-clause-grows : goal.returns-in_err-outbox-clause-grows
returns-in_err-outbox-clause-grows g c honest =
    let alpha = c.args.node.now.acceptor.alpha in
    grown_then (max_base_of alpha) (disks c.args.store.now) (disks c.make_room.new.store)
    (disks c.step_to_file.new.store) (most_base alpha) (c.make_room.ensures.disks honest).room
    ((c.step_to_file.ensures.disks honest c.in_ok-needs_sync.needs_sync).grows)

pub returns-in_err-add-clause-disks : goal.returns-in_err-add-clause-disks
returns-in_err-add-clause-disks g c honest =
    let m = g.M.Machine.meaning in
    let w = sym (ap (λ (y : GroupValue). y.needs_sync) c.group.view_is) in
    record {
      ends = λ h n s heard. (c.step_to_file.ensures.disks honest c.in_ok-needs_sync.needs_sync).ends h n
          ((c.in_ok-needs_sync.ensures.keeps honest).stays h n
          (subst (λ (w : Bool). GroupStays m h n c.args.node.now c.args.store.now w) w s)) heard;
      covers = λ genesis n x r every.
          let mine = subst (λ (w : Bool). RemembersInGroup c.args.node.now c.args.store.now w genesis n) w r in
          (c.step_to_file.ensures.disks honest c.in_ok-needs_sync.needs_sync).covers genesis n x
          ((c.in_ok-needs_sync.ensures.keeps honest).recalls genesis n mine)
          ((c.make_room.ensures.disks honest).covers genesis n x mine every);
      room = within_first 132704 (disks c.args.store.now) (disks c.make_room.new.store)
          (disks c.step_to_file.new.store)
          (refused_room (max_base_of c.args.node.now.acceptor.alpha) (disks c.args.store.now)
          (disks c.make_room.new.store) (most_base c.args.node.now.acceptor.alpha)
          (c.make_room.ensures.disks honest).room)
          ((c.step_to_file.ensures.disks honest c.in_ok-needs_sync.needs_sync).room
          (c.in_ok-needs_sync.ensures.small honest));
    }

pub returns-in_err-add-clause-grows : goal.returns-in_err-add-clause-grows
returns-in_err-add-clause-grows g c honest =
    let alpha = c.args.node.now.acceptor.alpha in
    grown_then (max_base_of alpha) (disks c.args.store.now) (disks c.make_room.new.store)
    (disks c.step_to_file.new.store) (most_base alpha) (c.make_room.ensures.disks honest).room
    ((c.step_to_file.ensures.disks honest c.in_ok-needs_sync.needs_sync).grows)

pub returns-clause-disks : goal.returns-clause-disks
returns-clause-disks g c honest =
    let m = g.M.Machine.meaning in
    let w = sym (ap (λ (y : GroupValue). y.needs_sync) c.group.view_is) in
    record {
      ends = λ h n s heard. (c.step_to_file.ensures.disks honest c.in_ok-needs_sync.needs_sync).ends h n
          ((c.in_ok-needs_sync.ensures.keeps honest).stays h n
          (subst (λ (w : Bool). GroupStays m h n c.args.node.now c.args.store.now w) w s)) heard;
      covers = λ genesis n x r every.
          let mine = subst (λ (w : Bool). RemembersInGroup c.args.node.now c.args.store.now w genesis n) w r in
          (c.step_to_file.ensures.disks honest c.in_ok-needs_sync.needs_sync).covers genesis n x
          ((c.in_ok-needs_sync.ensures.keeps honest).recalls genesis n mine)
          ((c.make_room.ensures.disks honest).covers genesis n x mine every);
      room = within_first 132704 (disks c.args.store.now) (disks c.make_room.new.store)
          (disks c.step_to_file.new.store)
          (refused_room (max_base_of c.args.node.now.acceptor.alpha) (disks c.args.store.now)
          (disks c.make_room.new.store) (most_base c.args.node.now.acceptor.alpha)
          (c.make_room.ensures.disks honest).room)
          ((c.step_to_file.ensures.disks honest c.in_ok-needs_sync.needs_sync).room
          (c.in_ok-needs_sync.ensures.small honest));
    }

pub returns-clause-grows : goal.returns-clause-grows
returns-clause-grows g c honest =
    let alpha = c.args.node.now.acceptor.alpha in
    grown_then (max_base_of alpha) (disks c.args.store.now) (disks c.make_room.new.store)
    (disks c.step_to_file.new.store) (most_base alpha) (c.make_room.ensures.disks honest).room
    ((c.step_to_file.ensures.disks honest c.in_ok-needs_sync.needs_sync).grows)

-- ---- what it has done

pub returns-clause-exact : goal.returns-clause-exact
returns-clause-exact g c honest = record {
  mid = c.make_room.new.node;
  between = c.make_room.new.store;
  needs_sync = c.in_ok-needs_sync.needs_sync;
  room = subst (λ (w : Bool). MakesRoom g.D.LogDisk.is_metered c.args.node.now c.args.store.now w c.make_room.new.node
      c.make_room.new.store c.in_ok-needs_sync.needs_sync) (ap (λ (y : GroupValue). y.needs_sync) c.group.view_is)
      (c.in_ok-needs_sync.ensures.exact honest);
  out = c.in_ok-outbox.outbox;
  steps = c.in_ok-outbox.ensures.exact honest;
  adds = c.in_ok-add.ensures.added;
}

pub returns-clause-alive : goal.returns-clause-alive
returns-clause-alive g c = (
  c.in_ok-outbox.ensures.alive.0,
  c.in_ok-outbox.ensures.alive.1,
  λ none. c.in_ok-outbox.ensures.runs (c.in_ok-needs_sync.ensures.alive.runs none),
)

-- ---- what a refusal leaves

pub returns-in_err-needs_sync-clause-refused : goal.returns-in_err-needs_sync-clause-refused
returns-in_err-needs_sync-clause-refused g c =
    let was = c.in_err-needs_sync.ensures.refused in
    let left : AreSame (disks c.args.store.now) (disks c.make_room.new.store)
    → c.args.group.now ≡ empty_group → AreLeft c.args.node.now c.args.store.now c.make_room.new.store =
    λ same fresh. inl same in
    err_as _ _ _ c.from_residual.ensures.1 (record {
      told = was.told;
      only = was.only;
      calls = was.calls;
      earlier = λ is alive further. was.earlier is alive (omega (arith, further));
      second = was.second;
      file = λ honest fresh. inl (was.file honest);
      stays = λ honest. spared_more _ _ _ left (was.stays honest);
      halts = was.halts;
      awake = was.awake;
    })

pub returns-in_err-outbox-clause-refused : goal.returns-in_err-outbox-clause-refused
returns-in_err-outbox-clause-refused g c =
    let was = c.in_err-outbox.ensures.refused in
    let before = c.in_ok-needs_sync.ensures in
    let left : (honest : g.D.LogDisk.is_honest)
    → AreSame (disks c.make_room.new.store) (disks c.step_to_file.new.store)
    → c.args.group.now ≡ empty_group → AreLeft c.args.node.now c.args.store.now c.step_to_file.new.store =
    λ honest same fresh. left_after c.args.node.now c.make_room.new.node c.args.store.now c.make_room.new.store
    c.step_to_file.new.store (before.exact honest).rebases same in
    err_as _ _ _ c.from_residual-in_err-outbox.ensures.1 (record {
      told = was.told;
      only = was.only;
      calls = λ metered honest. let d = (before.exact honest).calls metered in
          refused_on d.0 d.2 _ _ (was.calls metered honest);
      earlier =
          λ is alive further. was.earlier is before.alive.store_alive (omega (arith, further, before.alive.further));
      second = λ honest is alive less. second_after c.args.node.now c.make_room.new.node c.args.store.now
          c.make_room.new.store (before.exact honest).rebases (was.earlier is before.alive.store_alive) less;
      file = λ honest fresh. file_after c.args.node.now c.make_room.new.node c.args.store.now c.make_room.new.store
          c.step_to_file.new.store (before.exact honest).rebases (was.file honest);
      stays = λ honest. spared_more _ _ _ (left honest) (was.stays honest);
      halts = was.halts;
      awake = λ wakes other. was.awake (c.make_room.ensures.halted ∙ wakes) other;
    })

pub returns-in_err-add-clause-refused : goal.returns-in_err-add-clause-refused
returns-in_err-add-clause-refused g c =
    let unless_fresh : c.args.group.now ≡ empty_group → ⊥ =
    λ fresh. let taken : false ≡ true = c.in_err-add.ensures.first fresh in cc taken in
    err_as _ _ fault.NoMemory c.from_residual-in_err-add.ensures.1 (record {
      told = tt;
      only = tt;
      calls = λ metered honest. let first = (c.in_ok-needs_sync.ensures.exact honest).calls metered in
          (_, passes_on first.0 first.2 _ ((c.in_ok-outbox.ensures.exact honest).calls metered));
      earlier = λ is alive further. cc is;
      second = λ honest is alive less. absurd (cc is);
      file = λ honest fresh. absurd (unless_fresh fresh);
      stays = λ honest fresh. absurd (unless_fresh fresh);
      halts = λ is. cc is;
      awake = λ wakes other. c.in_ok-outbox.ensures.alive.1;
    })

-- ---- at the last generation

pub returns-in_err-needs_sync-clause-last : goal.returns-in_err-needs_sync-clause-last
returns-in_err-needs_sync-clause-last g c honest most due =
    errs_as _ _ (λ e. WantsNoMemory (fault_number e)) c.from_residual.ensures.1
    (c.in_err-needs_sync.ensures.last honest most due)

pub returns-in_err-outbox-clause-last : goal.returns-in_err-outbox-clause-last
returns-in_err-outbox-clause-last g c honest most due = absurd (c.in_ok-needs_sync.ensures.last honest most due)

pub returns-in_err-add-clause-last : goal.returns-in_err-add-clause-last
returns-in_err-add-clause-last g c honest most due = absurd (c.in_ok-needs_sync.ensures.last honest most due)

pub returns-clause-last : goal.returns-clause-last
returns-clause-last g c honest most due = c.in_ok-needs_sync.ensures.last honest most due
