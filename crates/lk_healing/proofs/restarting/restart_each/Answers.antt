use Rattle.std.proofs.Common.{rules, ◌≡◌, List, ℕ, Some, length, slice_get, refl, subst}
use Rattle.std.proofs.lemmas.List.{take_all}
use Rattle.std.proofs.lemmas.Option.{slice_get_read}
use Rattle.lk_world_progress.specs.Restarting.{RestartInTurn}
use Rattle.lk_healing.proofs.Places.{contains_at}
use Rattle.lk_healing.proofs.Restarts.{restarted_one}
use Rattle.lk_healing.proofs.restarting.restart_each.Goals as goal

pub restart-requires : goal.restart-requires
restart-requires g c =
    let at : slice_get c.args.nodes.now c.nodes.i ≡ Some c.index-nodes-i.result =
    slice_get_read c.args.nodes.now (length c.args.nodes.now) c.nodes.i c.index-nodes-i.result refl
    (search rules) (search rules) in
    c.nodes.invariant.1 c.index-nodes-i.result (contains_at c.args.nodes.now c.nodes.i c.index-nodes-i.result at)

pub nodes-preserved : goal.nodes-preserved
nodes-preserved g c =
    let at : slice_get c.args.nodes.now c.nodes.i ≡ Some c.index-nodes-i.result =
    slice_get_read c.args.nodes.now (length c.args.nodes.now) c.nodes.i c.index-nodes-i.result refl
    (search rules) (search rules) in
    restarted_one g.M.Machine.meaning g.M.Machine.IsText c.a_restart_is_fresh.ensures c.args.nodes.now
    c.nodes.i c.index-nodes-i.result
    c.args.world.now c.nodes.world c.restart.new.world at c.nodes.invariant c.in_ok-restart.ensures.ok

pub returns-clause-ok : goal.returns-clause-ok
returns-clause-ok g c =
    subst (λ (ns : List ℕ). RestartInTurn g.M.Machine.meaning g.M.Machine.IsText ns c.args.world.now c.nodes.world)
    (take_all c.nodes.i c.args.nodes.now (search rules)) c.nodes.invariant.0
