-- Where the term proposes nothing, the leader does not.
use Rattle.std.proofs.Common.{◌≡◌, ◌∙◌, Some, Option, List, ap, sym, subst}
use Rattle.lk_members.specs.Effects.{RequestValue}
use Rattle.lk_leader.specs.Terms.{TermValue, LeaderValue}
use Rattle.lk_leader.specs.Proposing.{Proposes}
use Rattle.lk_leader.proofs.leader.Leader.propose.Goals as goal

pub returns-in_default-next-clause-none : goal.returns-in_default-next-clause-none
returns-in_default-next-clause-none c = λ none.
    let term : c.args.self.now.term ≡ Some c.in-Some.term = ap (λ (l : LeaderValue). l.term) (sym c.self.view_is)
    ∙ c.in-Some.is in
    let waits : c.args.self.now.waiting ≡ c.self.inside.waiting =
    ap (λ (l : LeaderValue). l.waiting) (sym c.self.view_is) in (
      ap (λ (o : Option TermValue). record { term = o; waiting = c.self.inside.waiting }) (sym c.in-Some.is)
          ∙ c.self.view_is,
      λ i v h.
          let same : h.0 ≡ c.in-Some.term = cc (h.1, term) in
          c.in_default-next.ensures i v
          (subst (λ (ws : List RequestValue). Proposes c.in-Some.term ws c.args.roster.now i v) waits
          (subst (λ (t : TermValue). Proposes t c.args.self.now.waiting c.args.roster.now i v) same h.2)),
    )
