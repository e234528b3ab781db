use Rattle.std.proofs.Common.{◌≡◌, ℕ, Bool, false, eqb, refl, arith, sym, subst, ap}
use Rattle.lk_types.specs.Limits.{max_base_of}
use Rattle.lk_node.specs.NodeValue.{NodeValue}
use Rattle.std.specs.Prelude.{if◌then◌else◌}
use Rattle.std.proofs.lemmas.Bool.{ne_eqb}
use Rattle.lk_log.specs.Causes.{rebase_calls}
use Rattle.lk_recovery.proofs.Calling.{refused_by}
use Rattle.lk_disk.specs.Meters.{CallsSucceed, start}
use Rattle.lk_log.proofs.Room.{within_same}
use Rattle.lk_log.specs.StoreValue.{disks}
use Rattle.lk_state.specs.Meanings.{Meaning}
use Rattle.lk_recovery.specs.Compacting.{renew_calls}
use Rattle.lk_node_interface.specs.Faults.{fault_number}
use Rattle.lk_recovery.specs.Renewals.{IsNotRenewed}
use Rattle.lk_recovery.proofs.Refusing.{failed_alone}
use Rattle.lk_recovery.proofs.Rebasing.{before_fits, goes_fits, or_begins}
use Rattle.lk_recovery.proofs.Renewals.{if_errs_as, on_err}
use Rattle.lk_recovery.proofs.renewing.renew.Goals as goal

-- ---- a store of format 2

pub returns-then-format-eq2-clause-renewed : goal.returns-then-format-eq2-clause-renewed
returns-then-format-eq2-clause-renewed g c honest = record {
  renews = record {
    rebases = λ one. absurd (omega (arith, one, c.if-format-eq2.true, c.format.ensures));
    rests = λ two. (refl, refl);
  };
  goes = λ h n f. f;
  remembers = λ genesis n r. r;
}

pub returns-then-format-eq2-clause-ready : goal.returns-then-format-eq2-clause-ready
returns-then-format-eq2-clause-ready g c = record {
  format = omega (arith, c.if-format-eq2.true, c.format.ensures);
  alive = λ alive. alive;
  runs = λ runs. runs;
  header = refl;
}

pub returns-then-format-eq2-clause-safe : goal.returns-then-format-eq2-clause-safe
returns-then-format-eq2-clause-safe g c honest = record {
  fits = λ h n f. f.left;
  covers = λ genesis n x keeps every. every;
  room = within_same (max_base_of c.args.node.now.acceptor.alpha) (disks c.args.store.now) (disks c.args.store.now)
      (λ s. refl);
}

pub returns-then-format-eq2-clause-metered : goal.returns-then-format-eq2-clause-metered
returns-then-format-eq2-clause-metered g c metered honest =
    let is : c.args.store.now.format ≡ 2 = omega (arith, c.if-format-eq2.true, c.format.ensures) in
    subst (λ (f : ℕ). CallsSucceed c.args.store.now.meter c.args.store.now.meter (renew_calls f)) (sym is) start

-- ---- one of format 1

pub returns-clause-renewed : goal.returns-clause-renewed
returns-clause-renewed g c honest =
    let m : Meaning = g.M.Machine.meaning in
    let done = c.in_ok-write_base.ensures.done honest in
    record {
      renews = record {
        rebases = λ one. done.rebases;
        rests = λ is. absurd (omega (arith, is, c.if-format-eq2.false, c.format.ensures));
      };
      goes = λ h n f. goes_fits m h n c.write_base.new.node c.write_base.new.store f.lawful
          ((c.write_base.ensures.disks honest).fits h n (before_fits m h n c.args.node.now c.args.store.now f))
          (done.goes h n f);
      remembers = done.remembers;
    }

pub returns-clause-ready : goal.returns-clause-ready
returns-clause-ready g c = record {
  format = c.in_ok-write_base.ensures.becomes.format;
  alive = λ alive. c.in_ok-write_base.ensures.becomes.store_alive;
  runs = c.in_ok-write_base.ensures.becomes.runs;
  header = ap (λ (node : NodeValue). node.header) c.in_ok-write_base.ensures.becomes.becomes;
}

pub returns-clause-safe : goal.returns-clause-safe
returns-clause-safe g c honest = c.write_base.ensures.disks honest

pub returns-in_err-write_base-clause-safe : goal.returns-in_err-write_base-clause-safe
returns-in_err-write_base-clause-safe g c honest = c.write_base.ensures.disks honest

pub returns-clause-metered : goal.returns-clause-metered
returns-clause-metered g c metered honest =
    let other : eqb c.args.store.now.format 2 ≡ false =
    ne_eqb c.args.store.now.format 2 (λ two. omega (arith, two, c.if-format-eq2.false, c.format.ensures)) in
    subst (λ (b : Bool). CallsSucceed c.args.store.now.meter c.write_base.new.store.meter
    (if b then 0 else rebase_calls))
    (sym other) ((c.in_ok-write_base.ensures.done honest).calls metered)

pub returns-in_err-write_base-clause-metered : goal.returns-in_err-write_base-clause-metered
returns-in_err-write_base-clause-metered g c metered honest =
    refused_by _ _ _ _ _ c.from_residual.ensures.1 (c.in_err-write_base.ensures.refused.why.calls metered honest)

pub returns-in_err-write_base-clause-refused : goal.returns-in_err-write_base-clause-refused
returns-in_err-write_base-clause-refused g c =
    let was = c.in_err-write_base.ensures.refused.why in
    if_errs_as (λ e. IsNotRenewed c.args.store.now (fault_number e)) _ _ c.from_residual.ensures.1 (record {
      of_store = was.of_store;
      old = λ two. omega (arith, two, c.if-format-eq2.false, c.format.ensures);
      earlier = λ alive less eleven. was.earlier (failed_alone _ eleven) alive less;
    })

pub returns-in_err-write_base-clause-left : goal.returns-in_err-write_base-clause-left
returns-in_err-write_base-clause-left g c honest ks ls holds = on_err _ _
    (or_begins c.args.node.now c.args.store.now ks ls c.write_base.new.store
    (c.write_base.ensures.every_image honest ks ls holds))
