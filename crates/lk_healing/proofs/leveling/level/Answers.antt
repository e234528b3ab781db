use Rattle.std.proofs.Common.{rules}
use Rattle.lk_healing.proofs.Levels.{levels_again, still_both}
use Rattle.lk_healing.proofs.Rises.{are_equal, begins_leveling, levels_on}
use Rattle.lk_healing.proofs.leveling.level.Goals as goal

pub rounds-init : goal.rounds-init
rounds-init g c k =
    begins_leveling g.M.Machine.meaning g.M.Machine.IsText c.args.candidate c.args.nodes.now c.args.world.now k
    c.in_ok-reached.reached c.rise.new.world (c.in_ok-reached.ensures.ok k)

pub raise_each-requires : goal.raise_each-requires
raise_each-requires g c =
    levels_again g.M.Machine.meaning g.M.Machine.IsText c.args.candidate c.args.nodes.now c.args.world.now c.requires
    c.rounds.world (c.rounds.invariant c.requires).still

pub rise-requires-in-rounds : goal.rise-requires-in-rounds
rise-requires-in-rounds g c =
    let s = c.rounds.invariant c.requires in
    levels_again g.M.Machine.meaning g.M.Machine.IsText c.args.candidate c.args.nodes.now c.args.world.now c.requires
    c.raise_each.new.world
    (still_both g.M.Machine.meaning g.M.Machine.IsText c.args.candidate c.args.nodes.now c.args.world.now c.requires
    c.rounds.world s.still c.raise_each.new.world
    (c.in_ok-raise_each.ensures.ok
    (levels_again g.M.Machine.meaning g.M.Machine.IsText c.args.candidate c.args.nodes.now c.args.world.now c.requires
    c.rounds.world s.still)).still)

pub rounds-preserved : goal.rounds-preserved
rounds-preserved g c k =
    let s = c.rounds.invariant k in
    let f = c.in_ok-raise_each.ensures.ok
    (levels_again g.M.Machine.meaning g.M.Machine.IsText c.args.candidate c.args.nodes.now c.args.world.now k
    c.rounds.world s.still) in
    levels_on g.M.Machine.meaning g.M.Machine.IsText c.args.candidate c.args.nodes.now c.args.world.now k
    c.rounds.reached c.rounds.world c.raise_each.new.world c.rise-in-rounds.new.world c.in_ok-next.next s f
    (c.in_ok-next.ensures.ok
    (levels_again g.M.Machine.meaning g.M.Machine.IsText c.args.candidate c.args.nodes.now c.args.world.now k
    c.raise_each.new.world
    (still_both g.M.Machine.meaning g.M.Machine.IsText c.args.candidate c.args.nodes.now c.args.world.now k
    c.rounds.world s.still c.raise_each.new.world f.still)))

pub returns-then-next-reached-clause-ok : goal.returns-then-next-reached-clause-ok
returns-then-next-reached-clause-ok g c k =
    let s = c.rounds.invariant k in
    let f = c.in_ok-raise_each.ensures.ok
    (levels_again g.M.Machine.meaning g.M.Machine.IsText c.args.candidate c.args.nodes.now c.args.world.now k
    c.rounds.world s.still) in
    are_equal g.M.Machine.meaning g.M.Machine.IsText c.args.candidate c.args.nodes.now c.args.world.now k
    c.rounds.reached c.rounds.world c.raise_each.new.world c.rise-in-rounds.new.world c.in_ok-next.next s f
    (c.in_ok-next.ensures.ok
    (levels_again g.M.Machine.meaning g.M.Machine.IsText c.args.candidate c.args.nodes.now c.args.world.now k
    c.raise_each.new.world
    (still_both g.M.Machine.meaning g.M.Machine.IsText c.args.candidate c.args.nodes.now c.args.world.now k
    c.rounds.world s.still c.raise_each.new.world f.still))) (search rules)
