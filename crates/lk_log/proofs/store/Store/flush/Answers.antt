use Rattle.std.proofs.Common.{◌≡◌, true, false, ap, sym, ◌∙◌, subst}
use Rattle.lk_disk.specs.Disk.{other}
use Rattle.lk_disk.specs.Meters.{CallsSucceed, start}
use Rattle.lk_disk.specs.declared.meter.Meter.{Meter}
use Rattle.lk_log.specs.StoreValue.{StoreValue}
use Rattle.lk_log.proofs.store.Store.flush.Goals as goal

pub returns-clause-ok : goal.returns-clause-ok
returns-clause-ok g c honest =
    let s = c.self.inside in
    (λ i. record {
      live_disk = c.flush.ensures.unchanged honest s.live i;
      other_disk = c.flush.ensures.unchanged honest (other s.live) i;
      failures = c.in_ok-flush.ensures.cause i;
      meter = c.flush.ensures.uncounted i;
      live = s.live;
      generation = s.generation;
      format = s.format;
      header = s.header;
      failed = sym c.if-self.false i;
    })
    ∙ c.self.view_is

pub returns-then-self-clause-metered : goal.returns-then-self-clause-metered
returns-then-self-clause-metered g c metered = (0, start)

pub returns-in_err-flush-clause-metered : goal.returns-in_err-flush-clause-metered
returns-in_err-flush-clause-metered g c metered =
    absurd (let passed : false ≡ true = c.in_err-flush.ensures.metered metered in cc passed)

pub returns-clause-metered : goal.returns-clause-metered
returns-clause-metered g c metered =
    subst (λ (m : Meter). CallsSucceed m (g.D.LogDisk.meter c.flush.new.self) 0)
    (ap (λ (s : StoreValue). s.meter) c.self.view_is)
    (subst (λ (m : Meter). CallsSucceed (g.D.LogDisk.meter c.self.inside.device) m 0)
    (sym c.flush.ensures.uncounted) start)
