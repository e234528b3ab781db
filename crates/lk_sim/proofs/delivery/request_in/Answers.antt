use Rattle.std.proofs.Common.{rules}
use Rattle.lk_wire.specs.Shown.{shown}
use Rattle.lk_sim.specs.Heard.{IsForged}
use Rattle.lk_sim.proofs.delivery.request_in.Goals as goal

pub returns-in_err-request-clause-err : goal.returns-in_err-request-clause-err
returns-in_err-request-clause-err c =
    let forged : IsForged c.args.viewed.now =
    record {
      message = shown c.in-Ok.message.now;
      spelled = c.in-Ok.ensures.found;
      of_node = c.in_err-request.ensures.err.1;
    } in
    search rules
