use Rattle.std.proofs.lemmas.Grind.{common_steps}
use Rattle.std.proofs.Common.{rules, refl, inl, arith}
use Rattle.lk_sim_nodes.specs.SimNodes.{IsSeatOf}
use Rattle.lk_sim.proofs.lives.start.Goals as goal

pub returns-in-Some-clause-err : goal.returns-in-Some-clause-err
returns-in-Some-clause-err g c =
    let u : IsSeatOf c.args.parts.now.sim_nodes.items c.in-Some.field-0 c.args.number = search rules in
    inl ((u.0.run_state, (c.in-Some.field-0, u.0, u.1, u.2, refl)), refl)

pub returns-then-len-ge-MAX_NODES-clause-err : goal.returns-then-len-ge-MAX_NODES-clause-err
returns-then-len-ge-MAX_NODES-clause-err g c = grind (arith, common_steps)
