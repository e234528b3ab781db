use Rattle.std.proofs.Common.{rules, ◌≡◌, Some, length, slice_get, refl}
use Rattle.std.proofs.lemmas.Option.{slice_get_read}
use Rattle.lk_healing.proofs.Levels.{may_close_first}
use Rattle.lk_healing.proofs.Rises.{begins_rising, has_risen, rises_on, there}
use Rattle.lk_healing.proofs.leveling.rise.Goals as goal

pub nodes-init : goal.nodes-init
nodes-init g c k =
    begins_rising g.M.Machine.meaning g.M.Machine.IsText c.args.candidate c.args.nodes.now c.args.world.now k
    0

pub close_gap-requires : goal.close_gap-requires
close_gap-requires g c =
    let at : slice_get c.args.nodes.now c.nodes.i ≡ Some c.index-nodes-i.result =
    slice_get_read c.args.nodes.now (length c.args.nodes.now) c.nodes.i c.index-nodes-i.result refl
    (search rules) (search rules) in
    let s = c.nodes.invariant c.requires in
    may_close_first g.M.Machine.meaning g.M.Machine.IsText c.args.candidate c.args.nodes.now c.args.world.now c.requires
    c.nodes.world s.still c.index-nodes-i.result
    (there g.M.Machine.meaning g.M.Machine.IsText c.args.candidate c.args.nodes.now c.args.world.now c.requires
    c.nodes.i c.nodes.reached c.nodes.world s c.index-nodes-i.result (search rules) at)

pub nodes-preserved : goal.nodes-preserved
nodes-preserved g c k =
    let at : slice_get c.args.nodes.now c.nodes.i ≡ Some c.index-nodes-i.result =
    slice_get_read c.args.nodes.now (length c.args.nodes.now) c.nodes.i c.index-nodes-i.result refl
    (search rules) (search rules) in
    let s = c.nodes.invariant k in
    rises_on g.M.Machine.meaning g.M.Machine.IsText c.args.candidate c.args.nodes.now c.args.world.now k c.nodes.i
    c.nodes.reached c.nodes.world s c.index-nodes-i.result (search rules) at c.close_gap.new.world
    c.in_ok-reached.reached
    (c.in_ok-reached.ensures.ok
    (may_close_first g.M.Machine.meaning g.M.Machine.IsText c.args.candidate c.args.nodes.now c.args.world.now k
    c.nodes.world s.still c.index-nodes-i.result
    (there g.M.Machine.meaning g.M.Machine.IsText c.args.candidate c.args.nodes.now c.args.world.now k
    c.nodes.i c.nodes.reached c.nodes.world s c.index-nodes-i.result (search rules) at)))

pub returns-clause-ok : goal.returns-clause-ok
returns-clause-ok g c k =
    has_risen g.M.Machine.meaning g.M.Machine.IsText c.args.candidate c.args.nodes.now c.args.world.now k c.nodes.i
    c.nodes.reached c.nodes.world (c.nodes.invariant k) (search rules)
