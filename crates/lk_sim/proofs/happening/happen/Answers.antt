use Rattle.std.proofs.Common.{◌≡◌, ℕ, List, map, subst, rules}
use Rattle.std.specs.Prelude.{IfErr, OnOk}
use Rattle.lk_sim.specs.Events.{IsGivenTogether, IsNotGrouped, IsNotInjected}
use Rattle.lk_sim.specs.Groups.{given_by}
use Rattle.lk_sim.specs.Refusals.{MayGroup}
use Rattle.lk_sim.specs.declared.event.GroupInput.{GroupInput}
use Rattle.lk_sim.specs.Worlds.{world_state_of}
use Rattle.lk_sim.proofs.Running.{if_err, group_refused, injected_refused}
use Rattle.lk_sim.proofs.happening.happen.Goals as goal

pub returns-in-Deliver-clause-err : goal.returns-in-Deliver-clause-err
returns-in-Deliver-clause-err g c = rw c.in-Deliver.is c.deliver.ensures.err

pub returns-in-Inject-clause-err : goal.returns-in-Inject-clause-err
returns-in-Inject-clause-err g c =
    let p = c.args.parts.now in
    let n = c.in-Inject.number in
    let same : c.deref-in-Inject.result.now ≡ c.in-Inject.bytes.items = c.deref-in-Inject.ensures.value in
    rw c.in-Inject.is
    (if_err _ _ c.inject.result
    (λ e k. injected_refused g.R.MemoryReplica.behaves (world_state_of p)
    (world_state_of c.inject.new.parts) n c.in-Inject.bytes e k)
    (subst (λ (l : List ℕ). IfErr c.inject.result
    (λ e. IsNotInjected g.R.MemoryReplica.behaves (world_state_of p) n l e (world_state_of c.inject.new.parts)))
    same c.inject.ensures.err))

pub returns-in-Group-clause-ok : goal.returns-in-Group-clause-ok
returns-in-Group-clause-ok g c =
    let p = c.args.parts.now in
    let n = c.in-Group.number in
    let b = g.R.MemoryReplica.behaves in
    let same : c.deref.result.now ≡ c.in-Group.group_inputs.items = c.deref.ensures.value in
    rw c.in-Group.is
    (subst (λ (l : List GroupInput). OnOk c.group.result
    (MayGroup (world_state_of p) n l
    × IsGivenTogether b (world_state_of p) (world_state_of c.group.new.parts) n (map (given_by p.sent.items) l))) same
    c.group.ensures.ok)

pub returns-in-Group-clause-err : goal.returns-in-Group-clause-err
returns-in-Group-clause-err g c =
    let p = c.args.parts.now in
    let n = c.in-Group.number in
    let same : c.deref.result.now ≡ c.in-Group.group_inputs.items = c.deref.ensures.value in
    rw c.in-Group.is
    (if_err _ _ c.group.result
    (λ e k. group_refused g.R.MemoryReplica.behaves (world_state_of p)
    (world_state_of c.group.new.parts) n c.in-Group.group_inputs e k)
    (subst (λ (l : List GroupInput). IfErr c.group.result
    (λ e. IsNotGrouped g.R.MemoryReplica.behaves (world_state_of p) n l e (world_state_of c.group.new.parts)))
    same c.group.ensures.err))

pub returns-in-Tick-clause-ok : goal.returns-in-Tick-clause-ok
returns-in-Tick-clause-ok g c = search rules

pub returns-in-Nudge-clause-ok : goal.returns-in-Nudge-clause-ok
returns-in-Nudge-clause-ok g c = search rules

pub returns-in-Compact-clause-ok : goal.returns-in-Compact-clause-ok
returns-in-Compact-clause-ok g c = search rules
