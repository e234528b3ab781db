use Rattle.std.proofs.Common.{[], ◌+◌, List, cond, drop, refl, subst, sym, arith}
use Rattle.std.specs.Io.KnownBytes.{Appends}
use Rattle.lk_types.specs.declared.member.Member.{Member}
use Rattle.lk_types.proofs.Appending.{appends_nothing}
use Rattle.lk_inspect.specs.Lines.{are_same, change_line, later_lines}
use Rattle.lk_inspect.proofs.Writing.{SoFar, sets_more, sets_done}
use Rattle.lk_inspect.proofs.lines.write_later.Goals as goal

pub sets-init : goal.sets-init
sets-init g c = record { position = omega arith; written = ([], appends_nothing _, refl) }

pub sets-preserved : goal.sets-preserved
sets-preserved g c =
    let all = later_lines c.args.first c.args.before.now c.args.sets.now in
    let line = subst (λ (ms : List Member). Appends (g.W.Write.contents c.sets.out)
    (g.W.Write.contents c.write_changed.new.out)
    (cond (are_same ms c.sets.last.now) [] (change_line c.sets.position ms))) c.set.ensures
    c.in_ok-write_changed.ensures in
    let more = sets_more _ _ _ all c.sets.position c.sets.last.now c.each-item.result c.args.sets.now
    c.sets.each-index c.sets-test.true c.each-item.is c.sets.invariant.written line in
    record {
      position = omega arith;
      written = subst (λ (ms : List Member). SoFar (g.W.Write.contents c.args.out.now)
          (g.W.Write.contents c.write_changed.new.out) all (c.sets.position + 1) ms
          (drop (c.sets.each-index + 1) c.args.sets.now)) (sym c.set-last.ensures) more;
    }

pub returns : goal.returns
returns g c =
    sets_done _ _ _ c.sets.position c.sets.last.now c.args.sets.now c.sets.each-index c.sets-test.false
    c.sets.invariant.written
