use Rattle.std.proofs.Common.{rules, []}
use Rattle.lk_script.specs.Scripts.{table, world}
use Rattle.lk_script.specs.Scripts.RunsLine.{begins, opens}
use Rattle.lk_script.specs.Worlds.{new_world}
use Rattle.lk_script.proofs.ScriptLaws.{no_first}
use Rattle.lk_script.proofs.script.start_mode.Goals as goal

pub returns-in-Ok-clause-ok : goal.returns-in-Ok-clause-ok
returns-in-Ok-clause-ok g c =
    (table c.in-Ok.cluster [], begins c.args.line.now c.in-Ok.cluster c.in-Ok.ensures.ok, c.table_mode.ensures.fits)

pub returns-in_ok-genesis-in-Err-NotUnderstood-clause-ok : goal.returns-in_ok-genesis-in-Err-NotUnderstood-clause-ok
returns-in_ok-genesis-in-Err-NotUnderstood-clause-ok g c =
    let genesis = c.in_ok-genesis-in-Err-NotUnderstood.genesis in (
      world (new_world genesis) 0,
      opens c.args.line.now genesis c.in_ok-genesis-in-Err-NotUnderstood.ensures.ok,
      c.world_mode.ensures.fits,
    )

pub returns-in_err-genesis-in-Err-NotUnderstood-clause-not_understood :
    goal.returns-in_err-genesis-in-Err-NotUnderstood-clause-not_understood
returns-in_err-genesis-in-Err-NotUnderstood-clause-not_understood g c = λ bad.
    no_first c.args.line.now (c.in-Err-NotUnderstood.ensures.not_understood (search rules))
    (c.in_err-genesis-in-Err-NotUnderstood.ensures.not_understood (search rules))
