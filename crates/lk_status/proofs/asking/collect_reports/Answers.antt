use Rattle.std.proofs.Common.{rules, [], refl, inl, inr, arith}
use Rattle.lk_transport.proofs.Chaining.{repeats_more}
use Rattle.lk_status.specs.Rounds.{GoesOn, IsOver}
use Rattle.lk_status.proofs.asking.collect_reports.Goals as goal

pub receives-init : goal.receives-init
receives-init g c = (λ are. are, λ observable. record { states = []; are = refl; chain = refl })

pub receives-preserved : goal.receives-preserved
receives-preserved g c =
    let goes_on : GoesOn c.args.inquiry.now c.receives.reports.items c.receives.silences = search rules in (
      λ are. c.in_ok-receive_or_probe.ensures.of_round (c.receives.invariant.0 are),
      λ observable. repeats_more (c.receives.invariant.1 observable)
          (goes_on, c.in_ok-receive_or_probe.ensures.hears observable),
    )

pub returns-then-is_over-clause-hears : goal.returns-then-is_over-clause-hears
returns-then-is_over-clause-hears g c =
    let over : IsOver c.args.inquiry.now c.receives.reports.items c.receives.silences = search rules in
    λ observable. record { receives = c.receives.counter; heard = c.receives.invariant.1 observable; over = inl over }

pub returns-clause-hears : goal.returns-clause-hears
returns-clause-hears g c =
    λ observable. record {
      receives = c.receives.counter;
      heard = c.receives.invariant.1 observable;
      over = inr
          (omega arith);
    }
