use Rattle.std.proofs.Common.{◌∙◌, ap}
use Rattle.lk_node_setup.specs.SelfProbes.{socket_value}
use Rattle.lk_node_process.proofs.Turning.{refused_leaving}
use Rattle.lk_node_process.proofs.running.revive_plan.Goals as goal

pub returns-in-Err-clause-refused : goal.returns-in-Err-clause-refused
returns-in-Err-clause-refused g c =
    let s = g.S.DatagramSocket in
    record {
      refused = record {
        fault = c.in-Err.refused.fault;
        is = c.write_why.ensures.fault;
        refused = refused_leaving c.write_why.ensures.unchanged c.in-Err.ensures.refused;
      };
      untouched = ap (socket_value s.sent s.failures s.incoming)
          (c.write_why.ensures.untouched ∙ c.in-Err.ensures.untouched);
    }
