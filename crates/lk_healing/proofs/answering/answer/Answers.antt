use Rattle.std.proofs.Common.{arith}
use Rattle.std.proofs.lemmas.Result.{on_ok_weaker}
use Rattle.lk_healing.proofs.Quiet.{answered_by, begun_as, may_begin, ready_then}
use Rattle.lk_healing.proofs.answering.answer.Goals as goal

pub begin_ballot-requires : goal.begin_ballot-requires
begin_ballot-requires g c =
    may_begin g.M.Machine.meaning g.M.Machine.IsText c.args.world.now c.args.candidate c.args.nodes.now
    c.args.request.now c.requires c.nodes_know_their_members.ensures

pub collect-requires : goal.collect-requires
collect-requires g c =
    begun_as g.M.Machine.meaning g.M.Machine.IsText c.args.world.now c.args.candidate c.args.nodes.now
    c.args.request.now c.requires c.begin_ballot.new.world c.in_ok-asking.asking c.in_ok-asking.ensures.ok
    c.requires.e (omega arith) (omega (arith, c.requires.room))
    c.requires.contends

pub serve-requires : goal.serve-requires
serve-requires g c =
    ready_then g.M.Machine.meaning g.M.Machine.IsText c.a_filled_leader_is_ready.ensures
    c.fresh_requests_are_new.ensures c.args.world.now c.args.candidate
    c.args.nodes.now c.args.request.now c.requires c.begin_ballot.new.world c.collect.new.world c.in_ok-asking.asking
    c.in_ok-asking.ensures.ok c.in_ok-collect.ensures.ok

pub returns-clause-ok : goal.returns-clause-ok
returns-clause-ok g c =
    let ready = ready_then g.M.Machine.meaning g.M.Machine.IsText c.a_filled_leader_is_ready.ensures
    c.fresh_requests_are_new.ensures c.args.world.now c.args.candidate
    c.args.nodes.now c.args.request.now c.requires c.begin_ballot.new.world c.collect.new.world c.in_ok-asking.asking
    c.in_ok-asking.ensures.ok c.in_ok-collect.ensures.ok in
    on_ok_weaker c.serve.result
    (λ a. answered_by g.M.Machine.meaning g.M.Machine.IsText c.collect.new.world c.serve.new.world c.args.candidate
    c.args.nodes.now c.in_ok-asking.asking c.args.request.now ready a) (c.serve.ensures.ok ready)
