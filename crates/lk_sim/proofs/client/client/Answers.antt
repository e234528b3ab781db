use Rattle.std.proofs.Common.{rules, refl, inl, inr, sym, subst, subst₂}
use Rattle.lk_agreement_laws.specs.Worlds.{IsClientRequest}
use Rattle.lk_sim.specs.Refusals.{HasRoom, IsFull}
use Rattle.lk_sim_nodes.specs.SimNodes.{IsSeatOf}
use Rattle.lk_sim.specs.Events.{IsRefused}
use Rattle.lk_sim.specs.Worlds.{WorldInvariant, world_state_of}
use Rattle.lk_sim.specs.declared.event.Event.TheVariants as event
use Rattle.lk_sim_nodes.specs.declared.refused.Refused.TheVariants.{WorldMemory}
use Rattle.lk_sim.proofs.Asking.{asked_holds}
use Rattle.lk_sim.proofs.client.client.Goals as goal
use Rattle.lk_replica.specs.Behaviours.{disks_by}

pub returns-clause-holds : goal.returns-clause-holds
returns-clause-holds g c =
    let p = c.args.parts.now in
    let q = world_state_of c.add_request.new.parts in
    let a = c.in_ok-add_request.ensures.ok in
    let asks : IsClientRequest a.datagram =
    record {
      client = c.args.request.now.client;
      cluster = p.genesis.cluster;
      request = c.args.request.now;
      from = a.from;
      spelled = a.spelled;
    } in
    subst (λ z. WorldInvariant g.R.MemoryReplica.Shows
    (disks_by g.R.MemoryReplica.behaves) g.R.MemoryReplica.meaning z q.sim_nodes q.sent q.trace) (sym a.adds.genesis)
    (subst (λ z. WorldInvariant g.R.MemoryReplica.Shows
    (disks_by g.R.MemoryReplica.behaves) g.R.MemoryReplica.meaning p.genesis z q.sent q.trace) (sym a.sim_nodes)
    (subst₂ (λ l k. WorldInvariant g.R.MemoryReplica.Shows
    (disks_by g.R.MemoryReplica.behaves) g.R.MemoryReplica.meaning p.genesis p.sim_nodes.items l k)
    (sym a.adds.sent) (sym a.adds.trace)
    (asked_holds _ _ _ p.genesis p.sim_nodes.items p.sent.items p.trace.items c.requires
    c.args.request.now a.datagram asks refl)))

pub returns-then-not-has_room-clause-err : goal.returns-then-not-has_room-clause-err
returns-then-not-has_room-clause-err g c =
    let u : IsSeatOf c.args.parts.now.sim_nodes.items c.in-Some.field-0 c.args.number = search rules in
    let full : IsFull c.args.parts.now.sent.items = search rules in
    inl (((u.0.run_state, (c.in-Some.field-0, u.0, u.1, u.2, refl)), full), refl)

pub returns-in_err-add_request-clause-err : goal.returns-in_err-add_request-clause-err
returns-in_err-add_request-clause-err g c =
    let u : IsSeatOf c.args.parts.now.sim_nodes.items c.in-Some.field-0 c.args.number = search rules in
    let room : HasRoom c.args.parts.now.sent.items = search rules in
    let k : IsRefused g.R.MemoryReplica.behaves (world_state_of c.args.parts.now)
    (event.Client c.args.number c.args.request.now) WorldMemory (world_state_of c.add_request.new.parts) =
    inr (refl, ((u.0.run_state, (c.in-Some.field-0, u.0, u.1, u.2, refl)), room), c.in_err-add_request.ensures.err) in
    search rules

pub returns-clause-ok : goal.returns-clause-ok
returns-clause-ok g c =
    let u : IsSeatOf c.args.parts.now.sim_nodes.items c.in-Some.field-0 c.args.number = search rules in
    let room : HasRoom c.args.parts.now.sent.items = search rules in
    (((u.0.run_state, (c.in-Some.field-0, u.0, u.1, u.2, refl)), room), c.in_ok-add_request.ensures.ok)
