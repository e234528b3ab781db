use Rattle.std.proofs.Common.{rules, ◌≡◌, ◌⊎◌, ℕ, [], List, Option, None, inl, refl, subst, subst₂, arith}
use Rattle.lk_probe.specs.declared.reported.Reported.{Reported}
use Rattle.lk_transport.specs.declared.received_probe.ReceivedProbe.{ReceivedProbe}
use Rattle.lk_transport.specs.declared.received_watch.ReceivedWatch.{ReceivedWatch}
use Rattle.lk_transport.proofs.Chaining.{repeats_as, repeats_more}
use Rattle.lk_node_process.specs.Turns.{DoesTurnWith, HasFollowedNoStranger, HasFollowedStranger, EndsTurn}
use Rattle.lk_node_process.specs.Warnings.{Warns}
use Rattle.lk_node_setup.specs.HostWatches.{host_path}
use Rattle.lk_node_process.proofs.Turning.{hosts_more, on_err, turns_end}
use Rattle.lk_node_process.proofs.running.do_turns.Goals as goal

pub turns-init : goal.turns-init
turns-init g c = (
  search rules,
  search rules,
  search rules,
  record { states = []; are = refl; chain = refl },
  record { states = []; are = refl; chain = refl },
  inl refl,
)

pub turns-preserved : goal.turns-preserved
turns-preserved g c =
    let i = c.turns.invariant in
    let e = c.in_ok-do_turn.ensures in
    let turn = subst (λ (wanted : Option ReceivedWatch). DoesTurnWith _ g.S.DatagramSocket.is_observable None None
    wanted HasFollowedNoStranger c.turns.server c.do_turn.new.server) i.2
    (subst₂ (λ (kept : Option ReceivedProbe) (told : Option Reported). DoesTurnWith
    _ g.S.DatagramSocket.is_observable kept told c.turns.buffer.watched HasFollowedNoStranger c.turns.server
    c.do_turn.new.server) i.0 i.1 e.turn) in
    let warning = subst (λ (before : Option (List ℕ)). Warns c.args.plan.now.header.node c.args.plan.now.port
    c.do_turn.new.server c.turns.reminder c.warn_if_due.new.reminder before
    (g.E.Write.contents c.warn_if_due.new.err)) e.quiet c.warn_if_due.ensures in (
      e.spent.0,
      e.spent.1,
      e.spent.2,
      repeats_more i.3 turn,
      repeats_more i.4 (record { turn = turn; warning = warning }),
      hosts_more (g.P.TextFiles.is_text c.args.platform.now) (host_path c.args.plan.now.options)
          c.args.server.now.addresses.hosts c.turns.server.addresses.hosts c.do_turn.new.server.addresses.hosts i.5
          e.hosts,
    )

pub returns-clause-ok : goal.returns-clause-ok
returns-clause-ok g c =
    let all : c.turns.counter ≡ 281474976710656 = omega arith in
    repeats_as all c.turns.invariant.3

pub returns-clause-warns : goal.returns-clause-warns
returns-clause-warns g c =
    let all : c.turns.counter ≡ 281474976710656 = omega arith in
    (c.turns.reminder, repeats_as all c.turns.invariant.4)

pub returns-in_err-do_turn-clause-err : goal.returns-in_err-do_turn-clause-err
returns-in_err-do_turn-clause-err g c =
    let i = c.turns.invariant in
    let observable = g.S.DatagramSocket.is_observable in
    on_err c.from_residual.result (turns_end 281474976710656 c.turns-test.true i.3
    (subst (λ (wanted : Option ReceivedWatch). EndsTurn _ observable c.turns.server c.do_turn.new.server
    ⊎ DoesTurnWith _ observable None None wanted HasFollowedStranger c.turns.server c.do_turn.new.server) i.2
    (subst₂ (λ (kept : Option ReceivedProbe) (told : Option Reported). EndsTurn _ observable c.turns.server
    c.do_turn.new.server ⊎ DoesTurnWith _ observable kept told c.turns.buffer.watched HasFollowedStranger
    c.turns.server c.do_turn.new.server) i.0 i.1 c.in_err-do_turn.ensures.ends)))

pub returns-in_err-do_turn-clause-warned : goal.returns-in_err-do_turn-clause-warned
returns-in_err-do_turn-clause-warned g c =
    let i = c.turns.invariant in
    let observable = g.S.DatagramSocket.is_observable in
    on_err c.from_residual.result (record {
      count = c.turns.counter;
      fewer = c.turns-test.true;
      last = _;
      turns = i.4;
      ends = subst (λ (wanted : Option ReceivedWatch). EndsTurn _ observable c.turns.server c.do_turn.new.server
          ⊎ DoesTurnWith _ observable None None wanted HasFollowedStranger c.turns.server c.do_turn.new.server) i.2
          (subst₂ (λ (kept : Option ReceivedProbe) (told : Option Reported). EndsTurn _ observable c.turns.server
          c.do_turn.new.server ⊎ DoesTurnWith _ observable kept told c.turns.buffer.watched HasFollowedStranger
          c.turns.server c.do_turn.new.server) i.0 i.1 c.in_err-do_turn.ensures.ends);
    })

pub returns-clause-hosts : goal.returns-clause-hosts
returns-clause-hosts g c = c.turns.invariant.5

pub returns-in_err-do_turn-clause-hosts : goal.returns-in_err-do_turn-clause-hosts
returns-in_err-do_turn-clause-hosts g c =
    hosts_more (g.P.TextFiles.is_text c.args.platform.now) (host_path c.args.plan.now.options)
    c.args.server.now.addresses.hosts c.turns.server.addresses.hosts c.do_turn.new.server.addresses.hosts
    c.turns.invariant.5 c.in_err-do_turn.ensures.hosts
