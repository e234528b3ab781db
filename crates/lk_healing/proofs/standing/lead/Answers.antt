use Rattle.std.proofs.Common.{subst}
use Rattle.lk_healing.proofs.Persists.{begins_standing, leads_from, not_for_ever, stood_once}
use Rattle.lk_healing.proofs.standing.lead.Goals as goal
use Rattle.lk_healing.specs.Standing.{ComesToLead}

pub ballots-init : goal.ballots-init
ballots-init g c =
    begins_standing g.M.Machine.meaning g.M.Machine.IsText c.args.candidate c.args.nodes.now c.args.world.now c.requires

pub stand-requires : goal.stand-requires
stand-requires g c = c.ballots.invariant.stands

pub returns-in-Some-clause-ok : goal.returns-in-Some-clause-ok
returns-in-Some-clause-ok g c =
    leads_from g.M.Machine.meaning g.M.Machine.IsText c.args.candidate c.args.nodes.now c.args.world.now c.ballots.world
    c.stand.new.world c.ballots.counter c.in-Some.asking c.ballots.invariant
    (subst (ComesToLead g.M.Machine.meaning g.M.Machine.IsText c.args.candidate c.args.nodes.now c.ballots.world
    c.stand.new.world)
    c.in-Some.is c.in_ok-stood.ensures.ok)

pub ballots-preserved : goal.ballots-preserved
ballots-preserved g c =
    stood_once g.M.Machine.meaning g.M.Machine.IsText c.args.candidate c.args.nodes.now c.args.world.now c.ballots.world
    c.stand.new.world c.ballots.counter c.ballots.invariant
    (subst (ComesToLead g.M.Machine.meaning g.M.Machine.IsText c.args.candidate c.args.nodes.now c.ballots.world
    c.stand.new.world)
    c.in-None.is c.in_ok-stood.ensures.ok)

pub unreachable-requires : goal.unreachable-requires
unreachable-requires g c =
    not_for_ever g.M.Machine.meaning g.M.Machine.IsText c.args.candidate c.args.nodes.now c.args.world.now
    c.ballots.world
    c.ballots.counter c.ballots.invariant c.ballots-test.false
