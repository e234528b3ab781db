use Rattle.std.proofs.Common.{◌≡◌, ◌∙◌, Some, List, ap, sym, subst}
use Rattle.std.specs.Prelude.{is_some}
use Rattle.lk_types.specs.declared.member.Member.{Member}
use Rattle.lk_state.specs.States.{WholeValue}
use Rattle.lk_node.specs.Deciding.{IsOnlyHeard, HandlesVote}
use Rattle.lk_node.specs.NodeValue.{NodeValue}
use Rattle.lk_node.proofs.DecidingLaws.{with_leader, only_heard, heard_and_decided, still_promised, still_nothing}
use Rattle.lk_node.proofs.node.Node.count_vote.Goals as goal

pub returns-then-not-chosen : goal.returns-then-not-chosen
returns-then-not-chosen g c =
    let was : NodeValue = record {
      header = c.self.inside.header;
      acceptor = c.self.inside.acceptor;
      learner = c.self.inside.learner;
      leader = c.self.inside.leader;
      ticks = c.self.inside.ticks;
      rounds = c.self.inside.rounds;
      known = c.self.inside.known;
      gathered_before = c.self.inside.gathered_before;
      halted = c.self.inside.halted;
    } in
    let same : c.roster-roster.result.now ≡ was.learner.whole.roster = c.roster-roster.ensures
    ∙ ap (λ (w : WholeValue). w.roster) c.whole.ensures in
    subst (λ (k : NodeValue). IsOnlyHeard c.args.from c.args.vote.now k (with_leader was c.accepted-chosen.new.self))
    c.self.view_is
    (only_heard c.args.from c.args.vote.now was c.accepted-chosen.new.self c.accepted-chosen.result
    c.in-Some.members.now c.roster-roster.result.now same
    ((c.members_at.ensures.some.0 (ap is_some c.in-Some.is)).0, c.in-Some.ensures.value)
    c.accepted-chosen.ensures.heard c.accepted-chosen.ensures.other
    c.if-not-chosen.true)

pub returns : goal.returns
returns g c =
    let was : NodeValue = record {
      header = c.self.inside.header;
      acceptor = c.self.inside.acceptor;
      learner = c.self.inside.learner;
      leader = c.self.inside.leader;
      ticks = c.self.inside.ticks;
      rounds = c.self.inside.rounds;
      known = c.self.inside.known;
      gathered_before = c.self.inside.gathered_before;
      halted = c.self.inside.halted;
    } in
    let same : c.roster-roster.result.now ≡ was.learner.whole.roster = c.roster-roster.ensures
    ∙ ap (λ (w : WholeValue). w.roster) c.whole.ensures in
    subst (λ (k : NodeValue). HandlesVote c.args.from c.args.vote.now k (with_leader was c.accepted-chosen.new.self)
    (Some c.copy.result)) c.self.view_is
    (subst (λ (s : List Member). HandlesVote c.args.from c.args.vote.now was
    (with_leader was c.accepted-chosen.new.self)
    (Some s)) (sym c.copy.ensures)
    (heard_and_decided c.args.from c.args.vote.now was c.accepted-chosen.new.self c.accepted-chosen.result
    c.in-Some.members.now c.roster-roster.result.now same
    ((c.members_at.ensures.some.0 (ap is_some c.in-Some.is)).0, c.in-Some.ensures.value)
    c.accepted-chosen.ensures.heard c.accepted-chosen.ensures.other
    c.if-not-chosen.false))

pub invariant_of-self : goal.invariant_of-self
invariant_of-self g c =
    let was : NodeValue = record {
      header = c.self.inside.header;
      acceptor = c.self.inside.acceptor;
      learner = c.self.inside.learner;
      leader = c.self.inside.leader;
      ticks = c.self.inside.ticks;
      rounds = c.self.inside.rounds;
      known = c.self.inside.known;
      gathered_before = c.self.inside.gathered_before;
      halted = c.self.inside.halted;
    } in
    let same : c.roster-roster.result.now ≡ was.learner.whole.roster = c.roster-roster.ensures
    ∙ ap (λ (w : WholeValue). w.roster) c.whole.ensures in (
      still_promised c.args.from c.args.vote.now was c.accepted-chosen.new.self c.accepted-chosen.result
          c.in-Some.members.now c.roster-roster.result.now same
          ((c.members_at.ensures.some.0 (ap is_some c.in-Some.is)).0, c.in-Some.ensures.value)
          c.accepted-chosen.ensures.heard c.accepted-chosen.ensures.other
          c.self.inside.acceptor.state.promised c.self.invariant.0,
      c.self.invariant.1,
      still_nothing c.args.from c.args.vote.now was c.accepted-chosen.new.self c.accepted-chosen.result
          c.in-Some.members.now c.roster-roster.result.now same
          ((c.members_at.ensures.some.0 (ap is_some c.in-Some.is)).0, c.in-Some.ensures.value)
          c.accepted-chosen.ensures.heard c.accepted-chosen.ensures.other
          c.self.inside.nothing_to_propose c.self.invariant.2,
    )

pub invariant_of-self-2 : goal.invariant_of-self-2
invariant_of-self-2 g c =
    let was : NodeValue = record {
      header = c.self.inside.header;
      acceptor = c.self.inside.acceptor;
      learner = c.self.inside.learner;
      leader = c.self.inside.leader;
      ticks = c.self.inside.ticks;
      rounds = c.self.inside.rounds;
      known = c.self.inside.known;
      gathered_before = c.self.inside.gathered_before;
      halted = c.self.inside.halted;
    } in
    let same : c.roster-roster.result.now ≡ was.learner.whole.roster = c.roster-roster.ensures
    ∙ ap (λ (w : WholeValue). w.roster) c.whole.ensures in (
      still_promised c.args.from c.args.vote.now was c.accepted-chosen.new.self c.accepted-chosen.result
          c.in-Some.members.now c.roster-roster.result.now same
          ((c.members_at.ensures.some.0 (ap is_some c.in-Some.is)).0, c.in-Some.ensures.value)
          c.accepted-chosen.ensures.heard c.accepted-chosen.ensures.other
          c.self.inside.acceptor.state.promised c.self.invariant.0,
      c.self.invariant.1,
      still_nothing c.args.from c.args.vote.now was c.accepted-chosen.new.self c.accepted-chosen.result
          c.in-Some.members.now c.roster-roster.result.now same
          ((c.members_at.ensures.some.0 (ap is_some c.in-Some.is)).0, c.in-Some.ensures.value)
          c.accepted-chosen.ensures.heard c.accepted-chosen.ensures.other
          c.self.inside.nothing_to_propose c.self.invariant.2,
    )
