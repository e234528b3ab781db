-- The three cases, in their order.
use Rattle.std.proofs.Common.{◌≡◌, ◌∙◌, Option, ap, sym, subst, MatchOption}
use Rattle.lk_members.specs.Effects.{Command}
use Rattle.lk_leader.specs.Terms.{TermValue}
use Rattle.lk_leader.specs.Values.{NoneIsNew, IsLeadersValue, highest, first_new}
use Rattle.lk_leader.proofs.ValueLaws.{filled}
use Rattle.lk_leader.proofs.term.Term.value.Goals as goal

pub returns-in-Some : goal.returns-in-Some
returns-in-Some c =
    subst (λ (v : Command). IsLeadersValue c.args.self.now c.args.waiting.now c.args.roster.now c.args.set.now
    c.args.position v) (sym c.copy.ensures) (highest c.in-Some.reported c.in-Some.ensures)

pub returns-in-Some-first_new : goal.returns-in-Some-first_new
returns-in-Some-first_new c =
    let ps : c.as_slice.result.now ≡ c.args.self.now.proposals = c.as_slice.ensures.value
    ∙ ap (λ (t : TermValue). t.proposals) c.self.view_is in
    let first = rw (ps, c.executed.ensures) at c.in-Some-first_new.ensures in
    first_new c.in-Some-first_new.request c.in_default.ensures first

pub returns : goal.returns
returns c =
    let ps : c.as_slice.result.now ≡ c.args.self.now.proposals = c.as_slice.ensures.value
    ∙ ap (λ (t : TermValue). t.proposals) c.self.view_is in
    let old : NoneIsNew c.args.roster.now.executed c.args.self.now.proposals c.args.waiting.now =
    rw (ps, c.executed.ensures) at c.in_default-first_new.ensures in
    subst (λ (o : Option Command). MatchOption o
    ((v : Command) → IsLeadersValue c.args.self.now c.args.waiting.now c.args.roster.now c.args.set.now c.args.position
    v → ⊥) (λ v. IsLeadersValue c.args.self.now c.args.waiting.now c.args.roster.now c.args.set.now c.args.position v))
    (sym c.then_some.ensures)
    (filled c.args.self.now c.args.waiting.now c.args.roster.now c.args.set.now c.args.position c.in_default.ensures
    old c.is_gap.result c.is_gap.ensures)
