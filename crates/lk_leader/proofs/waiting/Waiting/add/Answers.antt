-- The client's entry tells whether the request is newer.
use Rattle.std.proofs.Common.{◌≡◌, ◌∙◌, ◌≤◌, ◌<◌, eqb, Some, None, List, ap, sym, subst, rules}
use Rattle.std.specs.Map.{lookup}
use Rattle.indexmap.specs.IndexMap.{insert_entry}
use Rattle.lk_leader.specs.Waits.{RequestValue, asked, waiting_of}
use Rattle.lk_leader.specs.declared.waiting.Asked.{Asked}
use Rattle.lk_leader.proofs.WaitLaws.{requests_of, request_of, asked-inserted, asked-dropped, waiting-none}
use Rattle.lk_leader.proofs.waiting.Waiting.add.Goals.{in-Some+else-ge, in_default}
use Rattle.lk_leader.proofs.waiting.Waiting.add.Goals as goal

pub returns-then-ge-clause-ok : goal.returns-then-ge-clause-ok
returns-then-ge-clause-ok c =
    let at : lookup (eqb c.args.client) c.self.inside.requests.entries ≡ Some c.in-Some.waits.now =
    search (rules, c.in-Some.ensures.value) in
    let least : c.args.number ≤ c.in-Some.waits.now.number = search rules in
    let r : Asked = record { number = c.args.number; op = c.args.op.now } in
    sym c.self.view_is
    ∙ asked-dropped c.self.inside.requests.entries c.args.client r c.in-Some.waits.now at least
    ∙ ap (asked (request_of (c.args.client, r))) c.self.view_is

pub returns-clause-ok : goal.returns-clause-ok
returns-clause-ok c =
    let r : Asked = record { number = c.args.number; op = c.args.op.now } in
    elim c.match-get.branch [
      | in-Some+else-ge w ↦
          (let at : lookup (eqb c.args.client) c.self.inside.requests.entries ≡ Some w.in-Some.waits.now =
          search (rules, w.in-Some.ensures.value) in
          let older : w.in-Some.waits.now.number < c.args.number = search rules in
          let entries : c.insert.new.self.entries ≡ insert_entry eqb c.self.inside.requests.entries c.args.client r =
          rw (w.self-inside-is, c.copy-op.ensures) at c.in_ok-insert.ensures.entries in
          ap requests_of entries
          ∙ asked-inserted c.self.inside.requests.entries c.args.client r
          (λ v is. (let same : w.in-Some.waits.now ≡ v = cc (at, is) in
          subst (λ (a : Asked). a.number < c.args.number) same older))
          ∙ ap (asked (request_of (c.args.client, r))) c.self.view_is)
      | in_default w ↦
          (let none : lookup (eqb c.args.client) c.self.inside.requests.entries ≡ None =
          search (rules, w.in_default.ensures.value) in
          let entries : c.insert.new.self.entries ≡ insert_entry eqb c.self.inside.requests.entries c.args.client r =
          rw (w.self-inside-is, c.copy-op.ensures) at c.in_ok-insert.ensures.entries in
          ap requests_of entries
          ∙ asked-inserted c.self.inside.requests.entries c.args.client r (λ v is. absurd (cc (none, is)))
          ∙ ap (asked (request_of (c.args.client, r))) c.self.view_is)
    ]

pub returns-in_err-insert-clause-memory : goal.returns-in_err-insert-clause-memory
returns-in_err-insert-clause-memory c =
    elim c.match-get.branch [
      | in-Some+else-ge w ↦
          (let none : lookup (eqb c.args.client) c.self.inside.requests.entries ≡ None =
          rw w.self-inside-is at c.in_err-insert.ensures.absent in
          let free : waiting_of c.args.client c.args.self.now ≡ None =
          subst (λ (qs : List RequestValue). waiting_of c.args.client qs ≡ None) c.self.view_is
          (waiting-none c.self.inside.requests.entries c.args.client none) in
          search (rules, free))
      | in_default w ↦
          (let none : lookup (eqb c.args.client) c.self.inside.requests.entries ≡ None =
          rw w.self-inside-is at c.in_err-insert.ensures.absent in
          let free : waiting_of c.args.client c.args.self.now ≡ None =
          subst (λ (qs : List RequestValue). waiting_of c.args.client qs ≡ None) c.self.view_is
          (waiting-none c.self.inside.requests.entries c.args.client none) in
          search (rules, free))
    ]
