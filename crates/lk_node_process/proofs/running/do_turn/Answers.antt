use Rattle.std.proofs.Common.{◌∙◌, ap, inl, inr}
use Rattle.std.proofs.lemmas.Result.{on_ok_weaker}
use Rattle.lk_address_book.specs.Hosts.{hosts_after}
use Rattle.lk_node_setup.specs.HostWatches.{host_path}
use Rattle.lk_node_process.specs.Turns.{HasFollowedNoStranger, HasFollowedStranger}
use Rattle.lk_node_process.proofs.Turning.{hosts_found, on_err_weaker, turn_ended, turn_taken}
use Rattle.lk_node_process.proofs.running.do_turn.Goals as goal

pub returns-in-Ok-clause-turn : goal.returns-in-Ok-clause-turn
returns-in-Ok-clause-turn g c =
    let t = c.in-Ok.ensures.turn in
    let e = c.end_turn.ensures in
    on_ok_weaker c.end_turn.result (λ goes.
    turn_taken HasFollowedNoStranger t.0 c.args.buffer.now c.node_turn.new.buffer c.args.server.now
    c.node_turn.new.server
    c.end_turn.new.server t.1 t.2 t.3 c.look_at_hosts-news.result e.acts
    c.node_turn.ensures.network e.network e.failure goes) e.goes_on

pub returns-in-Ok-clause-ends : goal.returns-in-Ok-clause-ends
returns-in-Ok-clause-ends g c =
    let t = c.in-Ok.ensures.turn in
    let e = c.end_turn.ensures in
    on_err_weaker c.end_turn.result (λ leaves.
    inr (turn_taken HasFollowedStranger t.0 c.args.buffer.now c.node_turn.new.buffer c.args.server.now
    c.node_turn.new.server
    c.end_turn.new.server t.1 t.2 t.3 c.look_at_hosts-news.result e.acts
    c.node_turn.ensures.network e.network e.failure leaves)) e.leaves

pub returns-in-Err-clause-ends : goal.returns-in-Err-clause-ends
returns-in-Err-clause-ends g c =
    let e = c.in-Err.ensures.ends in
    inl (turn_ended e.0 c.args.server.now c.node_turn.new.server e.1 e.2 c.node_turn.ensures.network
    c.write_failed_turn.ensures.failure)

pub returns-in-Ok-clause-hosts : goal.returns-in-Ok-clause-hosts
returns-in-Ok-clause-hosts g c =
    hosts_found (g.T.TextFiles.is_text c.args.files.now) (host_path c.args.plan.now.options)
    c.look_at_hosts-news.result c.args.server.now.addresses.hosts c.end_turn.new.server.addresses.hosts
    c.look_at_hosts-news.ensures
    (c.end_turn.ensures.network.0 ∙ ap (hosts_after c.look_at_hosts-news.result) c.node_turn.ensures.network.0)

pub returns-in-Err-clause-hosts : goal.returns-in-Err-clause-hosts
returns-in-Err-clause-hosts g c = inl c.node_turn.ensures.network.0
