-- The term and the set that the clause names are those that the code has.
use Rattle.std.proofs.Common.{◌≡◌, ◌∙◌, ◌↔◌, Some, List, ap, subst, IsTrue}
use Rattle.lk_types.specs.declared.member.Member.{Member}
use Rattle.lk_leader.specs.Terms.{TermValue, LeaderValue, proposal_at, with_proposals, with_term}
use Rattle.lk_leader.specs.Acceptances.{heard_at, GainsMajority}
use Rattle.lk_leader.proofs.leader.Leader.accepted.Goals as goal

pub returns-clause-heard : goal.returns-clause-heard
returns-clause-heard c = λ t set p current v.
    let own : TermValue = c.in-Some-term.term in
    let named : List Member = c.in-Some.set.now in
    let s : named ≡ set = cc (c.in-Some.ensures.value, v.members.1) in
    let term : c.self.inside.term ≡ Some t = ap (λ (l : LeaderValue). l.term) c.self.view_is ∙ current in
    let e : own ≡ t = cc (c.in-Some-term.is, term) in
    let told = c.record_accepted.ensures.proposed p
    (ap (λ (x : TermValue). proposal_at c.args.position x.proposals) e ∙ v.proposal) v.command in
    let new : c.record_accepted.new.self ≡ with_proposals (heard_at set c.args.node c.args.position t.proposals) t =
    told.0 ∙ ap (λ (x : List Member). with_proposals (heard_at x c.args.node c.args.position own.proposals) own) s
    ∙ ap (λ (x : TermValue). with_proposals (heard_at set c.args.node c.args.position x.proposals) x) e in
    let counts : IsTrue c.record_accepted.result
    ↔ GainsMajority set c.args.node p =
    subst (λ (x : List Member). IsTrue c.record_accepted.result ↔ GainsMajority x c.args.node p) s told.1 in (
      ap (λ (x : TermValue). record { term = Some x; waiting = c.self.inside.waiting }) new
          ∙ ap (with_term (with_proposals (heard_at set c.args.node c.args.position t.proposals) t)) c.self.view_is,
      counts,
    )
