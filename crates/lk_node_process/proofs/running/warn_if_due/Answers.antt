use Rattle.std.proofs.Common.{inl, inr, refl}
use Rattle.lk_node_process.proofs.Turning.{on_either}
use Rattle.lk_node_process.proofs.running.warn_if_due.Goals as goal

pub returns-then-not-may_warn : goal.returns-then-not-may_warn
returns-then-not-may_warn g c =
    inl (record { none = c.may_warn.ensures (cc c.if-not-may_warn.true); same = refl; written = refl })

pub returns : goal.returns
returns g c = inr (record {
  status = c.status-status.result;
  told = c.status-status.ensures;
  reminds = on_either c.remind.result c.remind.ensures.reminds c.remind.ensures.fails;
})
