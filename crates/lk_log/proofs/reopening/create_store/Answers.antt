use Rattle.std.proofs.Common.{◌≡◌, ◌∙◌, refl, sym, ap, subst, List, [], ◌∷◌, ℕ}
use Rattle.lk_disk.specs.declared.device.Side.TheVariants.{A, B}
use Rattle.lk_store_format.specs.Entries.{spelling, IsStored}
use Rattle.lk_store_format.specs.Standings.{StandsFor}
use Rattle.lk_store_format.specs.Values.{BaseValue}
use Rattle.lk_store_format.specs.declared.stored.Stored.TheVariants.{Base}
use Rattle.lk_log.specs.Images.{seen}
use Rattle.lk_log.specs.Stores.{first_base, IsWrittenOver, OpensOn}
use Rattle.lk_log.proofs.BeginLaws.{begins_same, begins, begun_opens, first_fits}
use Rattle.lk_log.proofs.StoreLaws.{first_stands}
use Rattle.lk_log.proofs.reopening.create_store.Goals as goal
use Rattle.lk_log.proofs.RebaseLaws.{first_short}
use Rattle.lk_log.proofs.Room.{within_same, within_side, begun_room}
use Rattle.lk_types.specs.Limits.{max_base_of}
use Rattle.lk_disk.specs.Meters.{start}
use Rattle.lk_log.specs.declared.fault.OpenFault.TheVariants.{NoMemory}
use Rattle.lk_log.proofs.OpenMetering.{refused}

pub encode_base-requires : goal.encode_base-requires
encode_base-requires g c =
    subst (λ (b : BaseValue). IsStored (Base b)) (sym c.in_ok-base.ensures.value)
    (first_fits c.args.header.now c.args.zero.now c.first_base.ensures.header c.requires.some c.requires.room)

pub returns-in_err-base-clause-stays : goal.returns-in_err-base-clause-stays
returns-in_err-base-clause-stays g c honest empty =
    begins_same (g.D.LogDisk.disk c.args.device.now)
    (g.D.LogDisk.disk c.args.device.now) c.args.header.now c.args.zero.now (λ s. refl)

pub returns-in_err-bytes-clause-stays : goal.returns-in_err-bytes-clause-stays
returns-in_err-bytes-clause-stays g c honest empty =
    begins_same (g.D.LogDisk.disk c.args.device.now)
    (g.D.LogDisk.disk c.args.device.now) c.args.header.now c.args.zero.now (λ s. refl)

pub returns-in_err-write_over-clause-stays : goal.returns-in_err-write_over-clause-stays
returns-in_err-write_over-clause-stays g c honest empty =
    let old = g.D.LogDisk.disk c.args.device.now in
    let new = g.D.LogDisk.disk c.write_over.new.device in
    let is = c.in_ok-base.ensures.value in
    let piece = c.deref.ensures ∙ c.in_ok-bytes.ensures ∙ ap (λ (b : BaseValue). spelling (Base b)) is in
    begins old new c.args.header.now c.args.zero.now empty
    (first_fits c.args.header.now c.args.zero.now c.first_base.ensures.header c.requires.some c.requires.room)
    (c.write_over.ensures.beside honest)
    (subst (λ (l : List ℕ). IsWrittenOver (old A) l (new A)) piece (c.write_over.ensures.every_image honest))

pub returns-clause-stays : goal.returns-clause-stays
returns-clause-stays g c honest empty =
    let old = g.D.LogDisk.disk c.args.device.now in
    let new = g.D.LogDisk.disk c.write_over.new.device in
    let is = c.in_ok-base.ensures.value in
    let piece = c.deref.ensures ∙ c.in_ok-bytes.ensures ∙ ap (λ (b : BaseValue). spelling (Base b)) is in
    begins old new c.args.header.now c.args.zero.now empty
    (first_fits c.args.header.now c.args.zero.now c.first_base.ensures.header c.requires.some c.requires.room)
    (c.write_over.ensures.beside honest)
    (subst (λ (l : List ℕ). IsWrittenOver (old A) l (new A)) piece (c.write_over.ensures.every_image honest))

pub returns-clause-opens : goal.returns-clause-opens
returns-clause-opens g c honest empty =
    let old = g.D.LogDisk.disk c.args.device.now in
    let new = g.D.LogDisk.disk c.write_over.new.device in
    let is = c.in_ok-base.ensures.value in
    let piece = c.deref.ensures ∙ c.in_ok-bytes.ensures ∙ ap (λ (b : BaseValue). spelling (Base b)) is in
    let written : new A ≡ record {
      synced = spelling (Base (first_base c.args.header.now c.args.zero.now));
      unsynced = [];
    } = c.in_ok-write_over.ensures.ok honest ∙ (λ i. record { synced = piece i; unsynced = [] }) in
    subst (λ (b : BaseValue). OpensOn (seen old) c.args.header.now c.args.zero.now (new A)
    (new B) b.generation b.format b.standing) (sym (c.base.view_is ∙ is))
    (begun_opens old new c.args.header.now c.args.zero.now empty
    (first_fits c.args.header.now c.args.zero.now c.first_base.ensures.header c.requires.some c.requires.room)
    (c.write_over.ensures.beside honest) written)

pub returns-clause-stands : goal.returns-clause-stands
returns-clause-stands g c =
    let base = first_base c.args.header.now c.args.zero.now in (
      Base base ∷ [],
      subst (λ (b : BaseValue). StandsFor (Base base ∷ []) b.standing)
          (sym (c.base.view_is ∙ c.in_ok-base.ensures.value)) (first_stands c.args.header.now c.args.zero.now),
    )

pub returns-in_err-base-clause-room : goal.returns-in_err-base-clause-room
returns-in_err-base-clause-room g c honest =
    within_same (max_base_of c.args.header.now.alpha) (g.D.LogDisk.disk c.args.device.now)
    (g.D.LogDisk.disk c.args.device.now) (λ s. refl)

pub returns-in_err-bytes-clause-room : goal.returns-in_err-bytes-clause-room
returns-in_err-bytes-clause-room g c honest =
    within_same (max_base_of c.args.header.now.alpha) (g.D.LogDisk.disk c.args.device.now)
    (g.D.LogDisk.disk c.args.device.now) (λ s. refl)

pub returns-in_err-write_over-clause-room : goal.returns-in_err-write_over-clause-room
returns-in_err-write_over-clause-room g c honest =
    let old = g.D.LogDisk.disk c.args.device.now in
    let new = g.D.LogDisk.disk c.write_over.new.device in
    let base = first_base c.args.header.now c.args.zero.now in
    let piece = c.deref.ensures ∙ c.in_ok-bytes.ensures
    ∙ ap (λ (b : BaseValue). spelling (Base b)) c.in_ok-base.ensures.value in
    let most = max_base_of c.args.header.now.alpha in
    let few = first_short c.args.header.now c.args.zero.now c.first_base.ensures.header c.requires.room in
    within_side most A old new
    (begun_room base most (old A) (new A) few
    (subst (λ (l : List ℕ). IsWrittenOver (old A) l (new A)) piece (c.write_over.ensures.every_image honest)))
    (c.write_over.ensures.beside honest)

pub returns-clause-room : goal.returns-clause-room
returns-clause-room g c honest =
    let old = g.D.LogDisk.disk c.args.device.now in
    let new = g.D.LogDisk.disk c.write_over.new.device in
    let base = first_base c.args.header.now c.args.zero.now in
    let piece = c.deref.ensures ∙ c.in_ok-bytes.ensures
    ∙ ap (λ (b : BaseValue). spelling (Base b)) c.in_ok-base.ensures.value in
    let most = max_base_of c.args.header.now.alpha in
    let few = first_short c.args.header.now c.args.zero.now c.first_base.ensures.header c.requires.room in
    within_side most A old new
    (begun_room base most (old A) (new A) few
    (subst (λ (l : List ℕ). IsWrittenOver (old A) l (new A)) piece (c.write_over.ensures.every_image honest)))
    (c.write_over.ensures.beside honest)

-- ---- which calls were made

pub returns-in_err-base-clause-metered : goal.returns-in_err-base-clause-metered
returns-in_err-base-clause-metered g c metered honest = refused _ _ 3 _ NoMemory c.from_residual.ensures.1 (0, start)

pub returns-in_err-bytes-clause-metered : goal.returns-in_err-bytes-clause-metered
returns-in_err-bytes-clause-metered g c metered honest =
    refused _ _ 3 _ NoMemory c.from_residual-in_err-bytes.ensures.1 (0, start)
