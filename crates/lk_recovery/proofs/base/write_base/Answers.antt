use Rattle.std.proofs.Common.{◌≡◌, ◌≤◌, rules, arith, [], ◌∷◌, refl, sym, ap, subst, inl, inr}
use Rattle.lk_types.specs.Limits.{max_base_of}
use Rattle.lk_store_format.specs.Values.{StandingValue}
use Rattle.lk_store_format.specs.declared.stored.Stored.TheVariants.{Base}
use Rattle.lk_log.specs.StoreValue.{disks}
use Rattle.lk_log.specs.Stores.{HoldsEntries, FitsBase, base_room, next_base, KeepsOrIs}
use Rattle.lk_state.specs.Meanings.{Meaning}
use Rattle.lk_learner.specs.Learners.{Command, IsNext}
use Rattle.lk_node.specs.NodeValue.{NodeValue}
use Rattle.lk_node.specs.NewBases.{standing_of}
use Rattle.lk_recovery.specs.Rebased.{HasSwitchedFiles}
use Rattle.lk_log.proofs.Room.{within_same, within_wider}
use Rattle.lk_log.proofs.StoreLaws.{holds_keeps}
use Rattle.lk_recovery.proofs.Rebasing.{stays_safe, files_switched}
use Rattle.lk_recovery.proofs.base.write_base.Goals as goal
use Rattle.lk_disk.specs.Meters.{start}
use Rattle.lk_node_interface.specs.declared.fault.ReplicaFault.TheVariants as fault
use Rattle.lk_recovery.proofs.Calling.{err_as, refused_after}
use Rattle.lk_recovery.proofs.Refusing.{rebase_refused}
use Rattle.lk_recovery.proofs.Spared.{rebase_spares, not_failed_so}

-- ---- where it has gone over

pub returns-clause-done : goal.returns-clause-done
returns-clause-done g c honest =
    let m : Meaning = g.M.Machine.meaning in
    let is : c.in_ok-standing.standing ≡ standing_of c.args.node.now = search rules in
    let fits : FitsBase c.in_ok-standing.standing = search rules in
    let may = subst FitsBase is fits in
    let short : base_room c.in_ok-standing.standing ≤ max_base_of c.args.node.now.acceptor.alpha = search rules in
    subst (λ (k : NodeValue). HasSwitchedFiles m g.D.LogDisk.is_metered c.args.node.now c.args.store.now k
    c.rebase.new.self) (sym c.set_snapshot.ensures)
    (files_switched m c.args.node.now c.args.store.now c.rebase.new.self may c.standing-packed.ensures.near
    (λ ks ls holds. subst (λ (s : StandingValue). KeepsOrIs (disks c.rebase.new.self) ks ls
    (next_base c.args.store.now s)) is (c.rebase.ensures.every_image honest ks ls holds)) g.D.LogDisk.is_metered
    c.in_ok-rebase.ensures.file.0
    (λ ks ls holds. subst (λ (s : StandingValue). HoldsEntries c.rebase.new.self
    (Base (next_base c.args.store.now s) ∷ []) []) is (c.in_ok-rebase.ensures.base honest ks ls holds))
    (λ metered. c.in_ok-rebase.ensures.metered metered honest)
    (omega (arith, (c.in_ok-rebase.ensures.left honest).1, short)))

pub returns-clause-becomes : goal.returns-clause-becomes
returns-clause-becomes g c =
    let is : c.in_ok-standing.standing ≡ standing_of c.args.node.now = search rules in
    let fits : FitsBase c.in_ok-standing.standing = search rules in
    record {
      becomes = c.set_snapshot.ensures;
      fits_base = subst FitsBase is fits;
      runs =
          λ none. subst (λ (k : NodeValue). (v : Command) → IsNext k.learner v → ⊥) (sym c.set_snapshot.ensures) none;
      generation = c.in_ok-rebase.ensures.file.0;
      format = c.in_ok-rebase.ensures.file.1;
      store_alive = c.in_ok-rebase.ensures.failing;
    }

pub returns-clause-halted : goal.returns-clause-halted
returns-clause-halted g c = ap (λ (k : NodeValue). k.halted) c.set_snapshot.ensures

-- ---- at every exit

pub returns-then-generation-ge-MAX_COUNT-clause-disks : goal.returns-then-generation-ge-MAX_COUNT-clause-disks
returns-then-generation-ge-MAX_COUNT-clause-disks g c honest = record {
  fits = λ h n f. f.left;
  covers = λ genesis n x keeps every. every;
  room = within_same (max_base_of c.args.node.now.acceptor.alpha) (disks c.args.store.now) (disks c.args.store.now)
      (λ s. refl);
}

pub returns-in_err-standing-clause-disks : goal.returns-in_err-standing-clause-disks
returns-in_err-standing-clause-disks g c honest = record {
  fits = λ h n f. f.left;
  covers = λ genesis n x keeps every. every;
  room = within_same (max_base_of c.args.node.now.acceptor.alpha) (disks c.args.store.now) (disks c.args.store.now)
      (λ s. refl);
}

pub returns-in_err-rebase-clause-disks : goal.returns-in_err-rebase-clause-disks
returns-in_err-rebase-clause-disks g c honest =
    let m : Meaning = g.M.Machine.meaning in
    let is : c.in_ok-standing.standing ≡ standing_of c.args.node.now = search rules in
    let fits : FitsBase c.in_ok-standing.standing = search rules in
    let may = subst FitsBase is fits in
    let short : base_room c.in_ok-standing.standing ≤ max_base_of c.args.node.now.acceptor.alpha = search rules in
    stays_safe m c.args.node.now c.args.store.now c.rebase.new.self may c.standing-packed.ensures.near
    (λ ks ls holds. subst (λ (s : StandingValue). KeepsOrIs (disks c.rebase.new.self) ks ls
    (next_base c.args.store.now s)) is (c.rebase.ensures.every_image honest ks ls holds))
    (within_wider (base_room c.in_ok-standing.standing) (max_base_of c.args.node.now.acceptor.alpha)
    (disks c.args.store.now) (disks c.rebase.new.self) short (c.rebase.ensures.room honest))

pub returns-clause-disks : goal.returns-clause-disks
returns-clause-disks g c honest =
    let m : Meaning = g.M.Machine.meaning in
    let is : c.in_ok-standing.standing ≡ standing_of c.args.node.now = search rules in
    let fits : FitsBase c.in_ok-standing.standing = search rules in
    let may = subst FitsBase is fits in
    let short : base_room c.in_ok-standing.standing ≤ max_base_of c.args.node.now.acceptor.alpha = search rules in
    stays_safe m c.args.node.now c.args.store.now c.rebase.new.self may c.standing-packed.ensures.near
    (λ ks ls holds. subst (λ (s : StandingValue). KeepsOrIs (disks c.rebase.new.self) ks ls
    (next_base c.args.store.now s)) is (c.rebase.ensures.every_image honest ks ls holds))
    (within_wider (base_room c.in_ok-standing.standing) (max_base_of c.args.node.now.acceptor.alpha)
    (disks c.args.store.now) (disks c.rebase.new.self) short (c.rebase.ensures.room honest))

pub returns-then-generation-ge-MAX_COUNT-clause-every_image
    : goal.returns-then-generation-ge-MAX_COUNT-clause-every_image
returns-then-generation-ge-MAX_COUNT-clause-every_image g c honest ks ls holds =
    inl (holds_keeps c.args.store.now ks ls holds)

pub returns-in_err-standing-clause-every_image : goal.returns-in_err-standing-clause-every_image
returns-in_err-standing-clause-every_image g c honest ks ls holds = inl (holds_keeps c.args.store.now ks ls holds)

pub returns-in_err-rebase-clause-every_image : goal.returns-in_err-rebase-clause-every_image
returns-in_err-rebase-clause-every_image g c honest ks ls holds =
    let is : c.in_ok-standing.standing ≡ standing_of c.args.node.now = search rules in
    let fits : FitsBase c.in_ok-standing.standing = search rules in
    inr (
      subst FitsBase is fits,
      subst (λ (s : StandingValue). KeepsOrIs (disks c.rebase.new.self) ks ls (next_base c.args.store.now s)) is
          (c.rebase.ensures.every_image honest ks ls holds),
    )

pub returns-clause-every_image : goal.returns-clause-every_image
returns-clause-every_image g c honest ks ls holds =
    let is : c.in_ok-standing.standing ≡ standing_of c.args.node.now = search rules in
    let fits : FitsBase c.in_ok-standing.standing = search rules in
    inr (
      subst FitsBase is fits,
      subst (λ (s : StandingValue). KeepsOrIs (disks c.rebase.new.self) ks ls (next_base c.args.store.now s)) is
          (c.rebase.ensures.every_image honest ks ls holds),
    )

-- ---- where it was refused

pub returns-then-generation-ge-MAX_COUNT-clause-refused : goal.returns-then-generation-ge-MAX_COUNT-clause-refused
returns-then-generation-ge-MAX_COUNT-clause-refused g c = record {
  rests = refl;
  why = record {
    of_store = inr (inr refl);
    calls = λ metered honest. (0, start);
    earlier = λ is alive less. omega (arith, less, c.if-generation-ge-MAX_COUNT.true, c.generation.ensures);
    file = (refl, refl, refl, refl);
    stays = λ honest s. refl;
  };
}

pub returns-in_err-standing-clause-refused : goal.returns-in_err-standing-clause-refused
returns-in_err-standing-clause-refused g c =
    err_as _ _ fault.NoMemory c.from_residual.ensures.1 (record {
      rests = refl;
      why = record {
        of_store = inr (inl refl);
        calls = λ metered honest. (0, start);
        earlier = λ is alive less. cc is;
        file = (refl, refl, refl, refl);
        stays = λ honest s. refl;
      };
    })

pub returns-in_err-rebase-clause-refused : goal.returns-in_err-rebase-clause-refused
returns-in_err-rebase-clause-refused g c =
    let was = c.in_err-rebase.ensures in
    err_as _ _ _ c.from_residual-in_err-rebase.ensures.1 (record {
      rests = refl;
      why = record {
        of_store = rebase_refused c.args.store.now _ (λ dead. (was.refuses.0 dead).1)
            (λ last. (was.refuses.1 last).1) was.refuses.2;
        calls = λ metered honest. refused_after _ _ _ (was.metered metered honest);
        earlier = λ is alive less. not_failed_so _ (was.refuses.2 alive less) is;
        file = was.file;
        stays = λ honest. rebase_spares c.args.store.now c.rebase.new.self _ (was.no_memory honest)
            (λ dead. (c.rebase.ensures.refuses.0 dead).0) (λ last. (was.refuses.1 last).0) was.refuses.2;
      };
    })
