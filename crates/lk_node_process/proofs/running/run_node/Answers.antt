use Rattle.std.proofs.Common.{inl, inr}
use Rattle.lk_node_setup.specs.HostWatches.{host_path}
use Rattle.lk_node_process.proofs.Turning.{at_one, at_zero, hosts_more}
use Rattle.lk_node_process.proofs.running.run_node.Goals as goal

pub returns-in-Ok-clause-ran_all_turns : goal.returns-in-Ok-clause-ran_all_turns
returns-in-Ok-clause-ran_all_turns g c zero = record {
  started = c.in-Ok.server;
  starts_as = c.in-Ok.ensures.started;
  turns = at_zero c.run_turns-ran.result c.status_after.ensures c.run_turns-ran.ensures.ok zero;
}

pub returns-in-Ok-clause-broken : goal.returns-in-Ok-clause-broken
returns-in-Ok-clause-broken g c one =
    let started = c.in-Ok.server in
    let starts_as = c.in-Ok.ensures.started in
    elim (at_one c.run_turns-ran.result c.status_after.ensures c.run_turns-ran.ensures.err one) [
      | inl breaks ↦ inl (record { started = started; starts_as = starts_as; breaks = breaks })
      | inr leaves ↦ inr (record { started = started; starts_as = starts_as; leaves = leaves })
    ]

pub returns-in-Ok-clause-hosts : goal.returns-in-Ok-clause-hosts
returns-in-Ok-clause-hosts g c =
    hosts_more (g.P.TextFiles.is_text c.args.platform.now) (host_path c.args.plan.now.options)
    c.args.resources.network.hosts c.in-Ok.server.addresses.hosts c.run_turns-ran.new.server.addresses.hosts
    (inl c.in-Ok.ensures.started.configured.hosts) c.run_turns-ran.ensures.hosts
