use Rattle.std.proofs.Common.{◌∙◌, ◌<◌, sym, subst, arith}
use Rattle.lk_disk.specs.Disk.{other}
use Rattle.lk_disk.specs.Meters.{start}
use Rattle.lk_disk.proofs.Devices.{call_passes, call_breaks}
use Rattle.lk_store_format.specs.Bases.{generation}
use Rattle.lk_store_format.proofs.Mixed.{format-append}
use Rattle.lk_log.specs.Causes.{IsMetered}
use Rattle.lk_log.specs.StoreValue.{StoreValue}
use Rattle.lk_log.specs.Stores.{HoldsEntries}
use Rattle.lk_log.specs.declared.fault.StoreFault.TheVariants.{Device}
use Rattle.lk_disk.specs.Meters.{CallsSucceed}
use Rattle.lk_log.proofs.ImageLaws.{generation-append}
use Rattle.lk_log.proofs.Metering.{refused}
use Rattle.lk_log.proofs.Steps.{stands_at, grows_holds, grows_synced, holds_same, holds_sync}
use Rattle.lk_log.proofs.StoreLaws.{header_more, holds_keeps}
use Rattle.lk_log.proofs.store.Store.sync.Goals as goal

pub returns-then-self-clause-every_image : goal.returns-then-self-clause-every_image
returns-then-self-clause-every_image g c honest ks ls holds = holds_keeps c.args.self.now ks ls holds

pub returns-then-self-clause-metered : goal.returns-then-self-clause-metered
returns-then-self-clause-metered g c metered = (0, start)

pub returns-in_err-sync-clause-every_image : goal.returns-in_err-sync-clause-every_image
returns-in_err-sync-clause-every_image g c honest ks ls holds =
    let mine = subst (λ (s : StoreValue). HoldsEntries s ks ls) (sym c.self.view_is) holds in
    let old = g.D.LogDisk.disk c.self.inside.device in
    let new = g.D.LogDisk.disk c.sync.new.self in
    let live = c.self.inside.live in
    stands_at live (new live) (new (other live)) ks ls
    (grows_holds (new live) (new (other live)) ks ls
    (holds_same (old live) (old (other live)) (new live) (new (other live)) ks ls mine.on
    (c.in_err-sync.ensures.err honest) (c.sync.ensures.beside honest)))

pub returns-in_err-sync-clause-metered : goal.returns-in_err-sync-clause-metered
returns-in_err-sync-clause-metered g c metered =
    subst (λ (s : StoreValue). IsMetered s.meter (g.D.LogDisk.meter c.sync.new.self) 1 c.from_residual.result)
    c.self.view_is
    (refused _ _ 1 _ Device c.from_residual.ensures.1 (call_breaks _ _ (c.in_err-sync.ensures.metered metered)))

pub returns-clause-synced : goal.returns-clause-synced
returns-clause-synced g c honest ks ls holds =
    let mine = subst (λ (s : StoreValue). HoldsEntries s ks ls) (sym c.self.view_is) holds in
    let old = g.D.LogDisk.disk c.self.inside.device in
    let new = g.D.LogDisk.disk c.sync.new.self in
    let live = c.self.inside.live in
    let some : 0 < generation ks = omega (arith, mine.on.older.less) in
    record {
      on = holds_sync (old live) (old (other live)) (new live) (new (other live)) ks ls mine.on
          (c.in_ok-sync.ensures.ok honest) (c.sync.ensures.beside honest);
      generation_is = mine.generation_is ∙ sym (generation-append ks ls some);
      format_is = mine.format_is ∙ sym (format-append ks ls some);
      header_is = header_more ks ls c.self.inside.header mine.header_is;
    }

pub returns-clause-every_image : goal.returns-clause-every_image
returns-clause-every_image g c honest ks ls holds =
    let mine = subst (λ (s : StoreValue). HoldsEntries s ks ls) (sym c.self.view_is) holds in
    let old = g.D.LogDisk.disk c.self.inside.device in
    let new = g.D.LogDisk.disk c.sync.new.self in
    let live = c.self.inside.live in
    stands_at live (new live) (new (other live)) ks ls
    (grows_synced (old live) (old (other live)) (new live) (new (other live)) ks ls mine.on
    (c.in_ok-sync.ensures.ok honest) (c.sync.ensures.beside honest))

pub returns-clause-metered : goal.returns-clause-metered
returns-clause-metered g c metered =
    subst (λ (s : StoreValue). CallsSucceed s.meter (g.D.LogDisk.meter c.sync.new.self) 1) c.self.view_is
    (call_passes _ _ (c.in_ok-sync.ensures.metered metered))
