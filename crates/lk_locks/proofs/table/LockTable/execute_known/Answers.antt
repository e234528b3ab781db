-- What a transition writes may stand.
use Rattle.std.proofs.Common.{◌≡◌, ◌∙◌, ℕ, Option, Some, ap, subst, sym, rules}
use Rattle.std.specs.FinMap as map
use Rattle.lk_locks.specs.Bodies.{name_of}
use Rattle.lk_locks.specs.NextLaws.{IsNextLockEntry, row_in_may}
use Rattle.lk_locks.specs.Plain.{transition, transition_in}
use Rattle.lk_locks.specs.declared.body.Body.{Body}
use Rattle.lk_locks.specs.declared.transition.Transition.{Transition}
use Rattle.lk_locks.specs.declared.lock_entry.LockEntry.{LockEntry}
use Rattle.lk_locks.proofs.table.LockTable.execute_known.Goals as goal

row_is : (client : ℕ) (body : Body) (old old_is : Option LockEntry) (names names_are : ℕ) (r : Transition)
    → r ≡ transition client body old names → old ≡ old_is → names ≡ names_are
    → r ≡ transition client body old_is names_are
row_is client body old old_is names names_are r e o n =
    e ∙ ap (λ (s : Option LockEntry). transition client body s names) o ∙ ap (transition client body old_is) n

pub set-requires-clause-kept : goal.set-requires-clause-kept
set-requires-clause-kept c =
    let t = c.args.self.now in
    let body : Body = c.args.body in
    let is : c.transition-answer.result ≡ transition_in c.args.client body t.names =
    row_is c.args.client body c.lock_entry.result (map.get t.names (name_of body)) c.len.result
    (map.len t.names) c.transition-answer.result c.transition-answer.ensures
    (c.lock_entry.ensures ∙ ap (map.get t.names) c.name-name.ensures) c.len.ensures.len in
    let change : (transition_in c.args.client body t.names).change ≡ Some c.in-Some.lock_entry =
    ap (λ (r : Transition). r.change) (sym is)
    ∙ c.in-Some.is in
    let may = subst (IsNextLockEntry t.raised (map.get t.names (name_of body)) (map.len t.names)) change
    (row_in_may t.raised c.args.client body t.names c.requires c.get.ensures.in_range c.facts.ensures) in
    may.0.1.1

pub set-requires-clause-room : goal.set-requires-clause-room
set-requires-clause-room c =
    let t = c.args.self.now in
    let body : Body = c.args.body in
    let is : c.transition-answer.result ≡ transition_in c.args.client body t.names =
    row_is c.args.client body c.lock_entry.result (map.get t.names (name_of body)) c.len.result
    (map.len t.names) c.transition-answer.result c.transition-answer.ensures
    (c.lock_entry.ensures ∙ ap (map.get t.names) c.name-name.ensures) c.len.ensures.len in
    let change : (transition_in c.args.client body t.names).change ≡ Some c.in-Some.lock_entry =
    ap (λ (r : Transition). r.change) (sym is)
    ∙ c.in-Some.is in
    let may = subst (IsNextLockEntry t.raised (map.get t.names (name_of body)) (map.len t.names)) change
    (row_in_may t.raised c.args.client body t.names c.requires c.get.ensures.in_range c.facts.ensures) in
    λ none. may.1 (ap (map.get t.names) (sym (c.copy.ensures ∙ c.name-name.ensures)) ∙ none)

pub returns-clause-ok : goal.returns-clause-ok
returns-clause-ok c = search rules
