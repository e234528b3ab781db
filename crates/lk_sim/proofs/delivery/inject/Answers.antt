use Rattle.std.proofs.Common.{◌≡◌, ℕ, rules, List, refl, inl, inr, ap, subst}
use Rattle.lk_sim.specs.Events.{IsGiven, IsHalted, IsNotInjected, LeftBy}
use Rattle.lk_node_interface.specs.declared.input.Input.TheVariants.{Datagram as Heard}
use Rattle.lk_node_interface.specs.declared.note.Note.{Note}
use Rattle.lk_sim.specs.Heard.{IsRequestIn}
use Rattle.lk_sim.specs.Refusals.{HasRoom}
use Rattle.lk_sim.specs.WorldStates.{WorldState}
use Rattle.lk_sim_nodes.specs.SimNodes.{IsUpAt}
use Rattle.lk_sim.specs.Traces.{asked_note}
use Rattle.lk_sim.specs.Worlds.{world_state_of}
use Rattle.lk_sim_nodes.specs.declared.refused.Refused.TheVariants.{WorldMemory}
use Rattle.lk_sim.proofs.Hearing.{heard_asked, asked_unforged}
use Rattle.lk_sim.proofs.Running.{err_as}
use Rattle.lk_sim.proofs.delivery.inject.Goals as goal

pub give-requires-clause-up : goal.give-requires-clause-up
give-requires-clause-up g c =
    let u : IsUpAt c.args.parts.now.sim_nodes.items c.in_ok-i.i c.args.number = search rules in
    (c.args.number, u)

pub give-requires-clause-heard : goal.give-requires-clause-heard
give-requires-clause-heard g c =
    let p = c.args.parts.now in
    heard_asked p.genesis p.sent.items c.reserve_notes.new.trace.items c.of-viewed.result
    c.in_ok-asked.asked c.in_ok-asked.ensures.ok

pub returns-in_err-reserve_notes-clause-err : goal.returns-in_err-reserve_notes-clause-err
returns-in_err-reserve_notes-clause-err g c =
    let p = c.args.parts.now in
    let n = c.args.number in
    let l = c.args.bytes.now in
    let u : IsUpAt p.sim_nodes.items c.in_ok-i.i n = search rules in
    let room : HasRoom p.sent.items = search rules in
    let a : IsRequestIn l c.in_ok-asked.asked =
    subst (λ (b : List ℕ). IsRequestIn b c.in_ok-asked.asked) c.of-viewed.ensures c.in_ok-asked.ensures.ok in
    let m = c.in_err-reserve_notes.ensures.memory in
    let new : WorldState g.row.R.Denot = record (world_state_of p) { trace = c.reserve_notes.new.trace.items } in
    let same : new ≡ world_state_of p = ap (λ (t : List Note). record
    (world_state_of p) { trace = t }) c.reserve_notes.ensures.same in
    err_as _ WorldMemory (λ e. IsNotInjected g.R.MemoryReplica.behaves (world_state_of p) n l e new)
    c.from_residual-in_err-reserve_notes.ensures.1
    (inr (
      refl,
      (((u.1, (c.in_ok-i.i, u.0, u.2, u.3, u.4)), room), asked_unforged l c.in_ok-asked.asked a),
      inl (same, (m.0, subst (IsRequestIn l) m.1 a)),
    ))

pub returns-in_err-give-clause-err : goal.returns-in_err-give-clause-err
returns-in_err-give-clause-err g c =
    let p = c.args.parts.now in
    let n = c.args.number in
    let l = c.args.bytes.now in
    let u : IsUpAt p.sim_nodes.items c.in_ok-i.i n = search rules in
    let room : HasRoom p.sent.items = search rules in
    let new : WorldState g.row.R.Denot = world_state_of c.give.new.parts in
    let a : IsRequestIn l c.in_ok-asked.asked =
    subst (λ (b : List ℕ). IsRequestIn b c.in_ok-asked.asked) c.of-viewed.ensures c.in_ok-asked.ensures.ok in
    let of_it = subst (λ (b : List ℕ). IsHalted (LeftBy g.R.MemoryReplica.behaves (Heard b))
    (record (world_state_of p) { trace = c.reserve_notes.new.trace.items }) new n) c.of-viewed.ensures
    (c.in_err-give.ensures.halted n u) in
    let halted = subst (λ (t : List Note). IsHalted (LeftBy g.R.MemoryReplica.behaves (Heard l))
    (record (world_state_of p) { trace = t }) new n) c.reserve_notes.ensures.same of_it in
    err_as _ WorldMemory (λ e. IsNotInjected g.R.MemoryReplica.behaves (world_state_of p) n l e new)
    c.from_residual-in_err-give.ensures.1
    (inr (refl, (((u.1, (c.in_ok-i.i, u.0, u.2, u.3, u.4)), room), asked_unforged l c.in_ok-asked.asked a), inr halted))

pub returns-clause-ok : goal.returns-clause-ok
returns-clause-ok g c =
    let p = c.args.parts.now in
    let u : IsUpAt p.sim_nodes.items c.in_ok-i.i c.args.number = search rules in
    let room : HasRoom p.sent.items = search rules in
    let a : IsRequestIn c.args.bytes.now c.in_ok-asked.asked =
    subst (λ (b : List ℕ). IsRequestIn b c.in_ok-asked.asked) c.of-viewed.ensures c.in_ok-asked.ensures.ok in
    let of_it = subst (λ (b : List ℕ). IsGiven g.R.MemoryReplica.behaves
    (record (world_state_of p) { trace = c.reserve_notes.new.trace.items }) (world_state_of c.give.new.parts)
    c.args.number
    (Heard b) (asked_note c.in_ok-asked.asked)) c.of-viewed.ensures (c.in_ok-give.ensures.given c.args.number u) in (
      (((u.1, (c.in_ok-i.i, u.0, u.2, u.3, u.4)), room), asked_unforged c.args.bytes.now c.in_ok-asked.asked a),
      record {
        request = c.in_ok-asked.asked;
        asks = a;
        given = subst (λ (l : List Note). IsGiven g.R.MemoryReplica.behaves (record (world_state_of p) { trace = l })
            (world_state_of c.give.new.parts) c.args.number (Heard c.args.bytes.now) (asked_note c.in_ok-asked.asked))
            c.reserve_notes.ensures.same of_it;
      },
    )
