use Rattle.std.proofs.Common.{rules, ◌≤◌, length}
use Rattle.lk_healing.proofs.Heals.{alpha_still, may_contend, restarted_level}
use Rattle.lk_healing.proofs.healing.heal.Goals as goal

pub level-requires : goal.level-requires
level-requires g c =
    restarted_level g.M.Machine.meaning g.M.Machine.IsText c.a_restart_is_fresh.ensures c.restarts_are_fresh.ensures
    c.restarted_nodes_end.ensures c.args.candidate c.args.nodes.now c.args.request.now c.args.world.now
    c.restart_each.new.world c.facts.ensures.keeps c.requires.heals c.in_ok-restart_each.ensures.ok

pub contend-requires-clause-alpha : goal.contend-requires-clause-alpha
contend-requires-clause-alpha g c =
    alpha_still g.M.Machine.meaning g.M.Machine.IsText c.a_restart_is_fresh.ensures c.restarts_are_fresh.ensures
    c.restarted_nodes_end.ensures c.args.candidate c.args.nodes.now c.args.request.now c.args.world.now
    c.restart_each.new.world c.facts.ensures.keeps c.requires.heals c.in_ok-restart_each.ensures.ok c.level.new.world
    (c.in_ok-level.ensures.ok
    (restarted_level g.M.Machine.meaning g.M.Machine.IsText c.a_restart_is_fresh.ensures c.restarts_are_fresh.ensures
    c.restarted_nodes_end.ensures c.args.candidate c.args.nodes.now c.args.request.now c.args.world.now
    c.restart_each.new.world c.facts.ensures.keeps c.requires.heals c.in_ok-restart_each.ensures.ok)) c.args.alpha
    c.requires.alpha

pub contend-requires-clause-contends : goal.contend-requires-clause-contends
contend-requires-clause-contends g c =
    let few : length c.args.world.now.sent ≤ 99000 = search rules in
    may_contend g.M.Machine.meaning g.M.Machine.IsText c.a_restart_is_fresh.ensures c.restarts_are_fresh.ensures
    c.restarted_nodes_end.ensures c.args.candidate c.args.nodes.now c.args.request.now c.args.world.now
    c.restart_each.new.world c.facts.ensures.keeps c.requires.heals c.in_ok-restart_each.ensures.ok c.level.new.world
    (c.in_ok-level.ensures.ok
    (restarted_level g.M.Machine.meaning g.M.Machine.IsText c.a_restart_is_fresh.ensures c.restarts_are_fresh.ensures
    c.restarted_nodes_end.ensures c.args.candidate c.args.nodes.now c.args.request.now c.args.world.now
    c.restart_each.new.world c.facts.ensures.keeps c.requires.heals c.in_ok-restart_each.ensures.ok)) few
