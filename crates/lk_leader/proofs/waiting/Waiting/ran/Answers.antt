-- The client's entry tells what is left.
use Rattle.std.proofs.Common.{◌≡◌, ◌∙◌, ◌≤◌, ◌<◌, eqb, Some, None, ap, sym, subst, rules}
use Rattle.std.specs.Map.{lookup}
use Rattle.lk_leader.specs.Waits.{waiting_of, number_up_to, left_by}
use Rattle.lk_leader.specs.declared.waiting.Asked.{Asked}
use Rattle.lk_leader.proofs.WaitLaws.{requests_of, told-above, told-up_to, waiting-none, left-all, left-others}
use Rattle.lk_leader.proofs.waiting.Waiting.ran.Goals as goal

pub returns-in_err-waits-clause-told : goal.returns-in_err-waits-clause-told
returns-in_err-waits-clause-told c =
    let none : lookup (eqb c.args.client) c.self.inside.requests.entries ≡ None =
    search (rules, c.in_err-waits.ensures.value) in
    c.from_residual.ensures ∙ ap (number_up_to c.args.number)
    (sym (waiting-none c.self.inside.requests.entries c.args.client none)
    ∙ ap (waiting_of c.args.client) c.self.view_is)

pub returns-in_err-waits-clause-left : goal.returns-in_err-waits-clause-left
returns-in_err-waits-clause-left c =
    let none : lookup (eqb c.args.client) c.self.inside.requests.entries ≡ None =
    search (rules, c.in_err-waits.ensures.value) in
    sym c.self.view_is ∙ left-all c.self.inside.requests.entries c.args.client c.args.number
    (λ w at. absurd (cc (none, at))) ∙ ap (left_by c.args.client c.args.number) c.self.view_is

pub returns-then-gt-clause-told : goal.returns-then-gt-clause-told
returns-then-gt-clause-told c =
    let at : lookup (eqb c.args.client) c.self.inside.requests.entries ≡ Some c.in_ok-waits.field-0.now =
    search (rules, c.in_ok-waits.ensures.value) in
    let above : c.args.number < c.in_ok-waits.field-0.now.number = search rules in
    sym (told-above c.self.inside.requests.entries c.args.client c.args.number c.in_ok-waits.field-0.now at above)
    ∙ ap (λ rs. number_up_to c.args.number (waiting_of c.args.client rs)) c.self.view_is

pub returns-then-gt-clause-left : goal.returns-then-gt-clause-left
returns-then-gt-clause-left c =
    let at : lookup (eqb c.args.client) c.self.inside.requests.entries ≡ Some c.in_ok-waits.field-0.now =
    search (rules, c.in_ok-waits.ensures.value) in
    let above : c.args.number < c.in_ok-waits.field-0.now.number = search rules in
    sym c.self.view_is
    ∙ left-all c.self.inside.requests.entries c.args.client c.args.number
    (λ w is. (let same : c.in_ok-waits.field-0.now ≡ w = cc (at, is) in
    subst (λ (a : Asked). c.args.number < a.number) same above))
    ∙ ap (left_by c.args.client c.args.number) c.self.view_is

pub returns-clause-told : goal.returns-clause-told
returns-clause-told c =
    let at : lookup (eqb c.args.client) c.self.inside.requests.entries ≡ Some c.in_ok-waits.field-0.now =
    search (rules, c.in_ok-waits.ensures.value) in
    let below : c.in_ok-waits.field-0.now.number ≤ c.args.number = search rules in
    sym (told-up_to c.self.inside.requests.entries c.args.client c.args.number c.in_ok-waits.field-0.now at below)
    ∙ ap (λ rs. number_up_to c.args.number (waiting_of c.args.client rs)) c.self.view_is

pub returns-clause-left : goal.returns-clause-left
returns-clause-left c =
    let at : lookup (eqb c.args.client) c.self.inside.requests.entries ≡ Some c.in_ok-waits.field-0.now =
    search (rules, c.in_ok-waits.ensures.value) in
    let below : c.in_ok-waits.field-0.now.number ≤ c.args.number = search rules in
    ap requests_of c.shift_remove.ensures.entries
    ∙ left-others c.self.inside.requests.entries c.args.client c.args.number c.in_ok-waits.field-0.now at below
    ∙ ap (left_by c.args.client c.args.number) c.self.view_is
