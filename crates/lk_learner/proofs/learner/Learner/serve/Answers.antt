-- What is served fits into a message.
use Rattle.std.proofs.Common.{◌≡◌, ◌∙◌, ℕ, ◌≤◌, List, ap, subst, arith, IsTrue, IfSome}
use Rattle.lk_messages.specs.Values.{are_commands_from}
use Rattle.lk_learner.specs.Learners.{Command, LearnerValue, IsLearner, executed, decided_from}
use Rattle.lk_learner.proofs.LearnerLaws.{decided_fits, some_is}
use Rattle.lk_learner.proofs.learner.Learner.serve.Goals as goal

pub returns-clause-some : goal.returns-clause-some
returns-clause-some g c = λ is.
    let first : ℕ = c.args.first in
    let l : LearnerValue = c.args.self.now in
    let learner : IsLearner l = subst IsLearner c.self.view_is c.self.invariant in
    let e : c.get.result ≡ executed l = c.get.ensures.value ∙ c.executed.ensures
    ∙ ap (λ (x : LearnerValue). executed x) c.self.view_is in
    let small : executed l ≤ 281474976710656 = omega (arith, e, c.get.ensures.in_range) in
    let same : c.in_ok-commands.commands.items ≡ (decided_from first l).commands = c.in_ok-commands.ensures
    ∙ c.in-Some.ensures.1 in
    let fits : IsTrue (are_commands_from first c.in_ok-commands.commands.items) =
    rw same (decided_fits first l learner small is) in
    let value : IfSome c.of.result (λ d. d ≡ decided_from first l) =
    subst (λ (vs : List Command). IfSome c.of.result (λ d. d ≡ record { first = first; commands = vs }))
    same c.of.ensures.value in
    some_is c.of.result (decided_from first l) (c.of.ensures.some.1 fits) value
