-- First the line, and then what to do.
use Rattle.std.proofs.Common.{ℕ, Option, subst}
use Rattle.std.specs.Io.KnownBytes.{Appends}
use Rattle.lk_status_reasons.specs.Reasons.{remedy_text, silent_in}
use Rattle.lk_types.proofs.Appending.{appends_more}
use Rattle.lk_status_reasons.proofs.why.write_leaderless.Goals as goal

pub returns : goal.returns
returns g c =
    let reports = c.args.reports.now in
    let mid = g.W.Write.contents c.write_all.new.self in
    let new = g.W.Write.contents c.write_remedy.new.out in
    appends_more (g.W.Write.contents c.args.out.now) mid new _ (remedy_text (silent_in reports) reports)
    c.in_ok-write_all.ensures.bytes
    (subst (λ (silent : Option ℕ). Appends mid new (remedy_text silent reports)) c.silent_in.ensures
    c.in_ok-write_remedy.ensures)
