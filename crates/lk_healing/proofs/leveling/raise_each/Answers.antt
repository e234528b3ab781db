use Rattle.std.proofs.Common.{rules, ◌≡◌, Some, length, slice_get, refl}
use Rattle.std.proofs.lemmas.Option.{slice_get_read}
use Rattle.lk_healing.proofs.Levels.{may_close_other}
use Rattle.lk_healing.proofs.Rises.{begins_raising, has_fed, raises_on, there_too}
use Rattle.lk_healing.proofs.leveling.raise_each.Goals as goal

pub nodes-init : goal.nodes-init
nodes-init g c k =
    begins_raising g.M.Machine.meaning g.M.Machine.IsText c.args.candidate c.args.nodes.now c.args.world.now k

pub close_gap-requires : goal.close_gap-requires
close_gap-requires g c =
    let at : slice_get c.args.nodes.now c.nodes.i ≡ Some c.index-nodes-i.result =
    slice_get_read c.args.nodes.now (length c.args.nodes.now) c.nodes.i c.index-nodes-i.result refl
    (search rules) (search rules) in
    let s = c.nodes.invariant c.requires in
    may_close_other g.M.Machine.meaning g.M.Machine.IsText c.args.candidate c.args.nodes.now c.args.world.now c.requires
    c.nodes.world s.still c.index-nodes-i.result
    (there_too g.M.Machine.meaning g.M.Machine.IsText c.args.candidate c.args.nodes.now c.args.world.now c.requires
    c.nodes.i c.nodes.world s c.index-nodes-i.result (search rules) at)

pub nodes-preserved : goal.nodes-preserved
nodes-preserved g c k =
    let at : slice_get c.args.nodes.now c.nodes.i ≡ Some c.index-nodes-i.result =
    slice_get_read c.args.nodes.now (length c.args.nodes.now) c.nodes.i c.index-nodes-i.result refl
    (search rules) (search rules) in
    let s = c.nodes.invariant k in
    raises_on g.M.Machine.meaning g.M.Machine.IsText c.args.candidate c.args.nodes.now c.args.world.now k c.nodes.i
    c.nodes.world s c.index-nodes-i.result (search rules) at c.close_gap.new.world
    c.in_ok-close_gap.field-0
    (c.in_ok-close_gap.ensures.ok
    (may_close_other g.M.Machine.meaning g.M.Machine.IsText c.args.candidate c.args.nodes.now c.args.world.now k
    c.nodes.world s.still c.index-nodes-i.result
    (there_too g.M.Machine.meaning g.M.Machine.IsText c.args.candidate c.args.nodes.now c.args.world.now k
    c.nodes.i c.nodes.world s c.index-nodes-i.result (search rules) at)))

pub returns-clause-ok : goal.returns-clause-ok
returns-clause-ok g c k =
    has_fed g.M.Machine.meaning g.M.Machine.IsText c.args.candidate c.args.nodes.now c.args.world.now k c.nodes.i
    c.nodes.world (c.nodes.invariant k) (search rules)
