use Rattle.std.proofs.Common.{rules}
use Rattle.std.proofs.lemmas.Result.{on_ok_weaker}
use Rattle.lk_random_schedules.specs.Lines.{world_line}
use Rattle.lk_random_schedules.proofs.Adding.{script_lines}
use Rattle.lk_random_schedules.proofs.fuzzing.write_script.Goals as goal

pub returns-in-Ok-run_schedule : goal.returns-in-Ok-run_schedule
returns-in-Ok-run_schedule g c =
    let added = c.in-Ok-run_schedule.ensures.adds in
    on_ok_weaker c.write_text.result (λ wrote. (
      c.run_schedule.new.transcript.text.items,
      record {
        begun = c.world_of_three-world.result;
        ended = c.run_schedule.new.world;
        run = record { new_world = c.world_of_three-world.ensures; fuzzes = c.in-Ok-run_schedule.ensures.fuzzes };
        events = added.0;
        are_executed = added.1.0;
        lines = script_lines world_line c.in-Ok.transcript c.run_schedule.new.transcript added.0 c.in-Ok.ensures.kept
            c.in-Ok.ensures.text added.1.2;
      },
      search (rules, wrote),
    )) c.write_text.ensures.ok
