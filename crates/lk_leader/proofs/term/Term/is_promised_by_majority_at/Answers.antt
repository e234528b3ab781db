use Rattle.std.proofs.Common.{◌≡◌, List, arith, refl, subst}
use Rattle.std.proofs.lemmas.Option.{slice_get_within}
use Rattle.lk_types.specs.declared.member.Member.{Member}
use Rattle.lk_members.specs.Majorities.{IsMajority}
use Rattle.lk_leader.specs.Proposing.{promisers}
use Rattle.lk_leader.proofs.term.Term.is_promised_by_majority_at.Goals as goal

pub returns-in-Some : goal.returns-in-Some
returns-in-Some c = (
  λ yes. record {
    set = c.in-Some.set.now;
    members = ((c.in-Some.ensures.some.0 refl).0, c.in-Some.ensures.value);
    promised = c.is_promised_by_majority.ensures.0 yes;
  },
  λ at.
      let same : at.set ≡ c.in-Some.set.now = cc (at.members.1, c.in-Some.ensures.value) in
      c.is_promised_by_majority.ensures.1 (subst
      (λ (set : List Member). IsMajority
      (promisers set c.args.position c.args.self.now.received) set) same at.promised),
)

pub returns-in-None : goal.returns-in-None
returns-in-None c = (
  λ no. absurd (cc no),
  λ at.
      let within = slice_get_within c.args.roster.now.sets _ at.set at.members.1 in
      let some = c.in-None.ensures.some.1 (at.members.0, omega (arith, within, at.members.0)) in
      absurd (cc some),
)
