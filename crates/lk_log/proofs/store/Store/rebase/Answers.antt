use Rattle.std.proofs.Common.{◌≡◌, ◌≤◌, ◌+◌, false, [], ◌∷◌, length, refl, sym, ◌∙◌, ap, subst, arith}
use Rattle.lk_store_format.specs.Values.{BaseValue}
use Rattle.lk_store_format.specs.declared.stored.Stored.TheVariants.{Base}
use Rattle.lk_log.specs.Stores.{HoldsEntries, base_room, next_base, KeepsOrIs}
use Rattle.lk_log.specs.StoreValue.{StoreValue, pick, disks}
use Rattle.lk_disk.specs.Disk.{other, contents}
use Rattle.lk_disk.specs.declared.device.Side.{Side}
use Rattle.lk_log.proofs.RebaseLaws.{base_fits, base_spelled, keeps_pick, keeps_still, held_at, left_at}
use Rattle.lk_log.specs.Rooms.{StaysWithin}
use Rattle.lk_log.proofs.Room.{within_same, within_pick, within_from}
use Rattle.lk_log.proofs.store.Store.rebase.Goals as goal
use Rattle.lk_disk.specs.Meters.{start}
use Rattle.lk_log.specs.Causes.{IsMetered, rebase_calls}
use Rattle.lk_log.proofs.Metering.{refused}
use Rattle.lk_log.specs.declared.fault.StoreFault.TheVariants.{NoMemory}

pub returns-then-self-clause-every_image : goal.returns-then-self-clause-every_image
returns-then-self-clause-every_image g c honest ks ls holds =
    keeps_still c.args.self.now.live c.args.self.now.live_disk c.args.self.now.other_disk ks ls
    (next_base c.args.self.now c.args.standing.now) holds.on

pub encode_parts-requires : goal.encode_parts-requires
encode_parts-requires g c =
    let b : BaseValue = record {
      generation = c.self.inside.generation + 1;
      format = 2;
      header = c.self.inside.header;
      standing = c.args.standing.now;
    } in
    base_fits b refl (omega arith, omega (arith, c.if-self-ge-MAX_COUNT.false)) c.facts.ensures
    c.facts-2.ensures.promised c.facts-2.ensures.position c.facts-2.ensures.votes c.facts-2.ensures.pairs c.requires

pub returns-in_err-bytes-clause-every_image : goal.returns-in_err-bytes-clause-every_image
returns-in_err-bytes-clause-every_image g c honest ks ls holds =
    let mine = subst (λ (s : StoreValue). HoldsEntries s ks ls) (sym c.self.view_is) holds in
    keeps_still c.self.inside.live (g.D.LogDisk.disk c.self.inside.device c.self.inside.live)
    (g.D.LogDisk.disk c.self.inside.device (other c.self.inside.live)) ks ls
    (next_base c.args.self.now c.args.standing.now) mine.on

pub returns-in_err-switch_files-clause-every_image : goal.returns-in_err-switch_files-clause-every_image
returns-in_err-switch_files-clause-every_image g c honest ks ls holds =
    let mine = subst (λ (s : StoreValue). HoldsEntries s ks ls) (sym c.self.view_is) holds in
    let new = g.D.LogDisk.disk c.switch_files.new.device in
    let b : BaseValue = record {
      generation = c.self.inside.generation + 1;
      format = 2;
      header = c.self.inside.header;
      standing = c.args.standing.now;
    } in
    let fits = base_fits b refl
    (omega arith, omega (arith, c.if-self-ge-MAX_COUNT.false)) c.facts.ensures c.facts-2.ensures.promised
    c.facts-2.ensures.position c.facts-2.ensures.votes c.facts-2.ensures.pairs c.requires in
    subst (λ (s : StoreValue). KeepsOrIs
    (pick c.self.inside.live (new c.self.inside.live) (new (other c.self.inside.live))) ks ls
    (next_base s c.args.standing.now)) c.self.view_is
    (keeps_pick c.self.inside.live new ks ls b
    (c.switch_files.ensures.every_image honest b ks ls mine.on (omega (arith, mine.generation_is)) refl fits
    (c.deref.ensures ∙ c.in_ok-bytes.ensures)))

pub returns-clause-base : goal.returns-clause-base
returns-clause-base g c honest ks ls holds =
    let new = g.D.LogDisk.disk c.switch_files.new.device in
    let b : BaseValue = record {
      generation = c.self.inside.generation + 1;
      format = 2;
      header = c.self.inside.header;
      standing = c.args.standing.now;
    } in
    let fits = base_fits b refl
    (omega arith, omega (arith, c.if-self-ge-MAX_COUNT.false)) c.facts.ensures c.facts-2.ensures.promised
    c.facts-2.ensures.position c.facts-2.ensures.votes c.facts-2.ensures.pairs c.requires in
    let is : b ≡ next_base c.args.self.now c.args.standing.now =
    ap (λ (s : StoreValue). next_base s c.args.standing.now) c.self.view_is in
    subst (λ (x : BaseValue). HoldsEntries (record {
      live_disk = new c.other-self-inside.result;
      other_disk = new (other c.other-self-inside.result);
      failures = g.D.LogDisk.failures c.switch_files.new.device;
      meter = g.D.LogDisk.meter c.switch_files.new.device;
      live = c.other-self-inside.result;
      generation = c.self.inside.generation + 1;
      format = 2;
      header = c.self.inside.header;
      failed = false;
    }) (Base x ∷ []) []) is
    (record {
      on = held_at new c.self.inside.live c.other-self-inside.result (Base b ∷ []) c.other-self-inside.ensures
          (c.in_ok-switch_files.ensures.holds honest b refl fits (c.deref.ensures ∙ c.in_ok-bytes.ensures));
      generation_is = refl;
      format_is = refl;
      header_is = refl;
    })

pub returns-clause-every_image : goal.returns-clause-every_image
returns-clause-every_image g c honest ks ls holds =
    let mine = subst (λ (s : StoreValue). HoldsEntries s ks ls) (sym c.self.view_is) holds in
    let new = g.D.LogDisk.disk c.switch_files.new.device in
    let b : BaseValue = record {
      generation = c.self.inside.generation + 1;
      format = 2;
      header = c.self.inside.header;
      standing = c.args.standing.now;
    } in
    let fits = base_fits b refl
    (omega arith, omega (arith, c.if-self-ge-MAX_COUNT.false)) c.facts.ensures c.facts-2.ensures.promised
    c.facts-2.ensures.position c.facts-2.ensures.votes c.facts-2.ensures.pairs c.requires in
    subst (λ (s : StoreValue). KeepsOrIs
    (pick c.other-self-inside.result (new c.other-self-inside.result) (new (other c.other-self-inside.result))) ks ls
    (next_base s c.args.standing.now)) c.self.view_is
    (keeps_pick c.other-self-inside.result new ks ls b
    (c.switch_files.ensures.every_image honest b ks ls mine.on (omega (arith, mine.generation_is)) refl fits
    (c.deref.ensures ∙ c.in_ok-bytes.ensures)))

pub returns-then-self-clause-room : goal.returns-then-self-clause-room
returns-then-self-clause-room g c honest =
    within_same (base_room c.args.standing.now) (disks c.args.self.now) (disks c.args.self.now) (λ s. refl)

pub returns-in_err-bytes-clause-room : goal.returns-in_err-bytes-clause-room
returns-in_err-bytes-clause-room g c honest =
    let old = g.D.LogDisk.disk c.self.inside.device in
    let is = pick c.self.inside.live (old c.self.inside.live) (old (other c.self.inside.live)) in
    let most = base_room c.args.standing.now in
    subst (λ (s : StoreValue). StaysWithin most (disks s) is) c.self.view_is (within_same most is is (λ s. refl))

pub returns-in_err-switch_files-clause-room : goal.returns-in_err-switch_files-clause-room
returns-in_err-switch_files-clause-room g c honest =
    let old = g.D.LogDisk.disk c.self.inside.device in
    let new = g.D.LogDisk.disk c.switch_files.new.device in
    let b : BaseValue = record {
      generation = c.self.inside.generation + 1;
      format = 2;
      header = c.self.inside.header;
      standing = c.args.standing.now;
    } in
    let most = base_room c.args.standing.now in
    let few : length c.deref.result.now ≤ most =
    omega (
      arith,
      ap length (c.deref.ensures ∙ c.in_ok-bytes.ensures),
      base_spelled b c.facts.ensures c.facts-2.ensures.votes c.facts-2.ensures.pairs,
    ) in
    let live = c.self.inside.live in
    subst (λ (s : StoreValue). StaysWithin most (disks s) (pick live (new live) (new (other live)))) c.self.view_is
    (within_from most live old (pick live (new live) (new (other live)))
    (within_pick most live old new (c.switch_files.ensures.room honest most few)))

pub returns-clause-room : goal.returns-clause-room
returns-clause-room g c honest =
    let old = g.D.LogDisk.disk c.self.inside.device in
    let new = g.D.LogDisk.disk c.switch_files.new.device in
    let b : BaseValue = record {
      generation = c.self.inside.generation + 1;
      format = 2;
      header = c.self.inside.header;
      standing = c.args.standing.now;
    } in
    let most = base_room c.args.standing.now in
    let few : length c.deref.result.now ≤ most =
    omega (
      arith,
      ap length (c.deref.ensures ∙ c.in_ok-bytes.ensures),
      base_spelled b c.facts.ensures c.facts-2.ensures.votes c.facts-2.ensures.pairs,
    ) in
    let live = c.other-self-inside.result in
    subst (λ (s : StoreValue). StaysWithin most (disks s) (pick live (new live) (new (other live)))) c.self.view_is
    (within_from most c.self.inside.live old (pick live (new live) (new (other live)))
    (within_pick most live old new (c.switch_files.ensures.room honest most few)))

pub returns-clause-left : goal.returns-clause-left
returns-clause-left g c honest =
    let new = g.D.LogDisk.disk c.switch_files.new.device in
    let b : BaseValue = record {
      generation = c.self.inside.generation + 1;
      format = 2;
      header = c.self.inside.header;
      standing = c.args.standing.now;
    } in
    let most = base_room c.args.standing.now in
    let few : length c.deref.result.now ≤ most =
    omega (
      arith,
      ap length (c.deref.ensures ∙ c.in_ok-bytes.ensures),
      base_spelled b c.facts.ensures c.facts-2.ensures.votes c.facts-2.ensures.pairs,
    ) in (
      left_at new c.self.inside.live c.other-self-inside.result c.other-self-inside.ensures
          (c.in_ok-switch_files.ensures.left honest),
      subst (λ (k : Side). length (contents (new k)) ≤ most) (sym c.other-self-inside.ensures)
          (c.in_ok-switch_files.ensures.short honest most few),
    )

-- ---- which calls were made

pub returns-then-self-clause-metered : goal.returns-then-self-clause-metered
returns-then-self-clause-metered g c metered honest = (0, start)

pub returns-in_err-bytes-clause-metered : goal.returns-in_err-bytes-clause-metered
returns-in_err-bytes-clause-metered g c metered honest =
    let now = g.D.LogDisk.meter c.self.inside.device in
    subst (λ (s : StoreValue). IsMetered s.meter now rebase_calls c.from_residual.result) c.self.view_is
    (refused now now rebase_calls _ NoMemory c.from_residual.ensures.1 (0, start))
