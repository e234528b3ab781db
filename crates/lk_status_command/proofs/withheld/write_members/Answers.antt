use Rattle.std.proofs.Common.{◌∙◌, ◌∷◌, ◌++◌, [], List, sym, ap, subst, take}
use Rattle.std.proofs.lemmas.List.{take_more, take_all}
use Rattle.std.specs.Io.KnownBytes.{Appends}
use Rattle.std.specs.Prelude.{flat_map}
use Rattle.lk_types.specs.declared.member.Member.{Member}
use Rattle.lk_status_command.specs.Withheld.{member_line}
use Rattle.lk_types.proofs.Appending.{appends_nothing}
use Rattle.lk_status_reasons.proofs.Writing.{writes_more}
use Rattle.lk_status_command.proofs.withheld.write_members.Goals as goal

pub all-init : goal.all-init
all-init g c = appends_nothing _

pub all-preserved : goal.all-preserved
all-preserved g c =
    writes_more (member_line c.args.genesis.now c.args.furthest.now c.args.reports.now) [] _ _ _ c.args.members.now
    c.all.member-index c.member-item.result
    (take_more c.args.members.now c.all.member-index c.member-item.result c.all-test.true
    ∙ ap (λ (m : Member). take c.all.member-index c.args.members.now ++ m ∷ []) (sym c.member-item.is))
    c.all.invariant c.in_ok-write_member.ensures

pub returns : goal.returns
returns g c =
    subst (λ (l : List Member). Appends (g.E.Write.contents c.args.err.now) (g.E.Write.contents c.all.err)
    (flat_map (member_line c.args.genesis.now c.args.furthest.now c.args.reports.now) l))
    (take_all c.all.member-index c.args.members.now c.all-test.false) c.all.invariant
