use Rattle.std.proofs.Common.{List, subst}
use Rattle.std.specs.Io.KnownBytes.{Appends}
use Rattle.std.specs.Option.{option_copied}
use Rattle.lk_probe.specs.declared.probe.Report.{Report}
use Rattle.lk_status.specs.Measures.{IsFurthestNamedOf}
use Rattle.lk_status_command.specs.Withheld.{known_lines}
use Rattle.lk_types.proofs.Appending.{appends_more}
use Rattle.lk_status_command.proofs.withheld.write_withheld.Goals as goal

pub returns : goal.returns
returns g c = record {
  furthest = option_copied c.furthest_report-furthest.result;
  latest = option_copied c.furthest_report-latest.result;
  is_furthest = subst (λ (l : List Report). IsFurthestNamedOf l (option_copied c.furthest_report-furthest.result))
      c.deref.ensures.value c.furthest_report-furthest.ensures;
  is_latest = subst (λ (l : List Report). IsFurthestNamedOf l (option_copied c.furthest_report-latest.result))
      c.deref-2.ensures.value c.furthest_report-latest.ensures;
  printed = appends_more _ _ _ _ _
      (subst (λ (l : List Report). Appends (g.E.Write.contents c.args.err.now)
      (g.E.Write.contents c.write_known.new.err)
      (known_lines c.args.op.now (option_copied c.furthest_report-furthest.result)
      (option_copied c.furthest_report-latest.result) l)) c.deref-3.ensures.value c.in_ok-write_known.ensures)
      c.in_ok-write_all.ensures.bytes;
}
