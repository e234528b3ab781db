use Rattle.std.proofs.Common.{rules, get_or}
use Rattle.std.proofs.lemmas.Option.{slice_get-get_or}
use Rattle.lk_healing.proofs.Polls.{delivered_all, delivered_one, may_take_next}
use Rattle.lk_healing.proofs.polling.deliver_all.Goals as goal

pub deliver-requires : goal.deliver-requires
deliver-requires g c =
    may_take_next g.M.Machine.meaning g.M.Machine.IsText c.args.node c.args.places.now c.args.world.now c.places.world
    c.places.i (get_or c.args.places.now c.places.i 0) c.requires.stand
    (slice_get-get_or c.args.places.now c.places.i 0 (search rules)) c.places.invariant

pub places-preserved : goal.places-preserved
places-preserved g c =
    delivered_one g.M.Machine.meaning g.M.Machine.IsText c.args.node c.args.places.now c.args.world.now c.places.world
    c.deliver.new.world c.places.i (get_or c.args.places.now c.places.i 0)
    (slice_get-get_or c.args.places.now c.places.i 0 (search rules)) c.requires.stand c.in_ok-deliver.ensures.ok
    c.places.invariant

pub returns-clause-ok : goal.returns-clause-ok
returns-clause-ok g c =
    delivered_all g.M.Machine.meaning g.M.Machine.IsText c.args.node c.args.places.now c.args.world.now c.places.world
    c.places.i (search rules) c.places.invariant
