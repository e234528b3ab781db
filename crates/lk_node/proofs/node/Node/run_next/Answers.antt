use Rattle.std.proofs.Common.{◌∙◌, Some, None, ap, sym, subst}
use Rattle.lk_state.specs.Meanings.{Meaning}
use Rattle.lk_node.specs.Executing.{RunsNext}
use Rattle.lk_node.specs.Learning.{with_learner}
use Rattle.lk_node.specs.NodeValue.{NodeValue}
use Rattle.lk_node.proofs.ExecutionLaws.{none_next, is_served, some_next}
use Rattle.lk_node.proofs.NearLaws.{runs_near}
use Rattle.lk_node.proofs.node.Node.run_next.Goals as goal

pub returns-in_default : goal.returns-in_default
returns-in_default g c =
    let m : Meaning = g.M.Machine.meaning in
    let was : NodeValue = record {
      header = c.self.inside.header;
      acceptor = c.self.inside.acceptor;
      learner = c.self.inside.learner;
      leader = c.self.inside.leader;
      ticks = c.self.inside.ticks;
      rounds = c.self.inside.rounds;
      known = c.self.inside.known;
      gathered_before = c.self.inside.gathered_before;
      halted = c.self.inside.halted;
    } in
    subst (λ (k : NodeValue). RunsNext m k (with_learner was c.execute_next.new.self) None) c.self.view_is
    (none_next m was c.execute_next.new.self c.in_ok-ran.field-0 c.in_ok-ran.ensures.ran
    (λ none. (c.in_ok-ran.ensures.none none).0) c.in_default.not-Some)

pub returns-in_default-executed_at : goal.returns-in_default-executed_at
returns-in_default-executed_at g c =
    let m : Meaning = g.M.Machine.meaning in
    let was : NodeValue = record {
      header = c.self.inside.header;
      acceptor = c.self.inside.acceptor;
      learner = c.self.inside.learner;
      leader = c.self.inside.leader;
      ticks = c.self.inside.ticks;
      rounds = c.self.inside.rounds;
      known = c.self.inside.known;
      gathered_before = c.self.inside.gathered_before;
      halted = c.self.inside.halted;
    } in
    absurd (c.in_default-executed_at.ensures.some
    (is_served m was c.execute_next.new.self c.in-Some.ran c.facts.ensures c.in_ok-ran.ensures.next
    (λ v h. sym c.in-Some.is ∙ c.in_ok-ran.ensures.ran v h)
    (λ none. let k = c.in_ok-ran.ensures.none none in cc (k.1, c.in-Some.is))))

pub returns : goal.returns
returns g c =
    let m : Meaning = g.M.Machine.meaning in
    let was : NodeValue = record {
      header = c.self.inside.header;
      acceptor = c.self.inside.acceptor;
      learner = c.self.inside.learner;
      leader = c.self.inside.leader;
      ticks = c.self.inside.ticks;
      rounds = c.self.inside.rounds;
      known = c.self.inside.known;
      gathered_before = c.self.inside.gathered_before;
      halted = c.self.inside.halted;
    } in
    subst (λ (k : NodeValue). RunsNext m k (with_learner was c.execute_next.new.self)
    (Some (c.copy.result, c.in-Some.ran))) c.self.view_is
    (some_next m was c.execute_next.new.self c.in-Some.ran c.facts.ensures c.in_ok-ran.ensures.next
    (λ v h. sym c.in-Some.is ∙ c.in_ok-ran.ensures.ran v h)
    (λ none. let k = c.in_ok-ran.ensures.none none in cc (k.1, c.in-Some.is)) c.copy.result
    (c.in-Some-executed_at.ensures.some.1 ∙ ap Some (sym c.copy.ensures)))

pub invariant_of-self-in_default : goal.invariant_of-self-in_default
invariant_of-self-in_default g c =
    let m : Meaning = g.M.Machine.meaning in
    let was : NodeValue = record {
      header = c.self.inside.header;
      acceptor = c.self.inside.acceptor;
      learner = c.self.inside.learner;
      leader = c.self.inside.leader;
      ticks = c.self.inside.ticks;
      rounds = c.self.inside.rounds;
      known = c.self.inside.known;
      gathered_before = c.self.inside.gathered_before;
      halted = c.self.inside.halted;
    } in (
      c.self.invariant.0,
      runs_near m c.self.inside.acceptor was c.execute_next.new.self None c.facts.ensures c.self.invariant.1
          (none_next m was c.execute_next.new.self c.in_ok-ran.field-0 c.in_ok-ran.ensures.ran
          (λ none. (c.in_ok-ran.ensures.none none).0) c.in_default.not-Some),
      tt,
    )

pub invariant_of-self-in_default-executed_at : goal.invariant_of-self-in_default-executed_at
invariant_of-self-in_default-executed_at g c =
    let m : Meaning = g.M.Machine.meaning in
    let was : NodeValue = record {
      header = c.self.inside.header;
      acceptor = c.self.inside.acceptor;
      learner = c.self.inside.learner;
      leader = c.self.inside.leader;
      ticks = c.self.inside.ticks;
      rounds = c.self.inside.rounds;
      known = c.self.inside.known;
      gathered_before = c.self.inside.gathered_before;
      halted = c.self.inside.halted;
    } in
    absurd (c.in_default-executed_at.ensures.some
    (is_served m was c.execute_next.new.self c.in-Some.ran c.facts.ensures c.in_ok-ran.ensures.next
    (λ v h. sym c.in-Some.is ∙ c.in_ok-ran.ensures.ran v h)
    (λ none. let k = c.in_ok-ran.ensures.none none in cc (k.1, c.in-Some.is))))

pub invariant_of-self-2 : goal.invariant_of-self-2
invariant_of-self-2 g c =
    let m : Meaning = g.M.Machine.meaning in
    let was : NodeValue = record {
      header = c.self.inside.header;
      acceptor = c.self.inside.acceptor;
      learner = c.self.inside.learner;
      leader = c.self.inside.leader;
      ticks = c.self.inside.ticks;
      rounds = c.self.inside.rounds;
      known = c.self.inside.known;
      gathered_before = c.self.inside.gathered_before;
      halted = c.self.inside.halted;
    } in (
      c.self.invariant.0,
      runs_near m c.self.inside.acceptor was c.execute_next.new.self
          (Some (c.copy.result, c.in-Some.ran)) c.facts.ensures c.self.invariant.1
          (some_next m was c.execute_next.new.self c.in-Some.ran c.facts.ensures c.in_ok-ran.ensures.next
          (λ v h. sym c.in-Some.is ∙ c.in_ok-ran.ensures.ran v h)
          (λ none. let k = c.in_ok-ran.ensures.none none in cc (k.1, c.in-Some.is)) c.copy.result
          (c.in-Some-executed_at.ensures.some.1 ∙ ap Some (sym c.copy.ensures))),
      tt,
    )
