use Rattle.std.proofs.Common.{rules, ◌≡◌, ◌∙◌, List, map, refl, inr, ap, subst}
use Rattle.lk_node_interface.specs.declared.input.Input.{Input}
use Rattle.lk_node.specs.Histories.{Datagram}
use Rattle.lk_sim.specs.Events.{IsGivenTogether, IsHalted, IsNotGrouped, LeftByGroup}
use Rattle.lk_sim.specs.Groups.{given_by, input_of}
use Rattle.lk_sim.specs.Refusals.{AreFor, HasRoom}
use Rattle.lk_sim_nodes.specs.SimNodes.{IsUpAt}
use Rattle.lk_sim.specs.Worlds.{world_state_of}
use Rattle.lk_sim_nodes.specs.declared.refused.Refused.TheVariants.{WorldMemory}
use Rattle.lk_sim.proofs.GivenTogether.{were_brought}
use Rattle.lk_sim.proofs.Running.{err_as}
use Rattle.lk_sim.proofs.group.group.Goals as goal

pub give_all-requires-clause-up : goal.give_all-requires-clause-up
give_all-requires-clause-up g c =
    let u : IsUpAt c.args.parts.now.sim_nodes.items c.in_ok-i.i c.args.number = search rules in
    (c.args.number, u)

pub give_all-requires-clause-heard : goal.give_all-requires-clause-heard
give_all-requires-clause-heard g c =
    let p = c.args.parts.now in
    let n = c.args.number in
    let group_inputs = c.args.group_inputs.now in
    let for_it = subst (λ (l : List Datagram). AreFor l n group_inputs) c.deref-2.ensures.value
    (c.are_for.ensures.0 (cc c.if-not-are_for.false)) in
    let same : c.in_ok-inputs.inputs.items ≡ map (given_by p.sent.items) group_inputs = c.in_ok-inputs.ensures.ok
    ∙ ap (map input_of) c.deref-4.ensures.value ∙ c.in_ok-copies.ensures.ok in
    were_brought p.sent.items n group_inputs c.in_ok-inputs.inputs.items for_it same

pub returns-in_err-give_all-clause-err : goal.returns-in_err-give_all-clause-err
returns-in_err-give_all-clause-err g c =
    let p = c.args.parts.now in
    let n = c.args.number in
    let group_inputs = c.args.group_inputs.now in
    let b = g.R.MemoryReplica.behaves in
    let u : IsUpAt p.sim_nodes.items c.in_ok-i.i n = search rules in
    let for_it = subst (λ (l : List Datagram). AreFor l n group_inputs) c.deref-2.ensures.value
    (c.are_for.ensures.0 (cc c.if-not-are_for.false)) in
    let room = subst (λ (l : List Datagram). HasRoom l) c.deref-3.ensures.value
    (c.has_room.ensures.0 (cc c.if-not-has_room.false)) in
    let same : c.in_ok-inputs.inputs.items ≡ map (given_by p.sent.items) group_inputs = c.in_ok-inputs.ensures.ok
    ∙ ap (map input_of) c.deref-4.ensures.value ∙ c.in_ok-copies.ensures.ok in
    let halted = subst (λ (l : List Input). IsHalted (LeftByGroup b l) (world_state_of p)
    (world_state_of c.give_all.new.parts) n) same (c.in_err-give_all.ensures.halted n u) in
    err_as _ WorldMemory (λ e. IsNotGrouped b (world_state_of p) n group_inputs e (world_state_of c.give_all.new.parts))
    c.from_residual-in_err-give_all.ensures.1
    (inr (refl, (((u.1, (c.in_ok-i.i, u.0, u.2, u.3, u.4)), room), for_it), inr halted))

pub returns-clause-ok : goal.returns-clause-ok
returns-clause-ok g c =
    let p = c.args.parts.now in
    let n = c.args.number in
    let group_inputs = c.args.group_inputs.now in
    let b = g.R.MemoryReplica.behaves in
    let u : IsUpAt p.sim_nodes.items c.in_ok-i.i n = search rules in
    let for_it = subst (λ (l : List Datagram). AreFor l n group_inputs) c.deref-2.ensures.value
    (c.are_for.ensures.0 (cc c.if-not-are_for.false)) in
    let room = subst (λ (l : List Datagram). HasRoom l) c.deref-3.ensures.value
    (c.has_room.ensures.0 (cc c.if-not-has_room.false)) in
    let same : c.in_ok-inputs.inputs.items ≡ map (given_by p.sent.items) group_inputs = c.in_ok-inputs.ensures.ok
    ∙ ap (map input_of) c.deref-4.ensures.value ∙ c.in_ok-copies.ensures.ok in (
      (((u.1, (c.in_ok-i.i, u.0, u.2, u.3, u.4)), room), for_it),
      subst (λ (l : List Input). IsGivenTogether b (world_state_of p) (world_state_of c.give_all.new.parts) n l) same
          (c.in_ok-give_all.ensures.given n u),
    )
