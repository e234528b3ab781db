use Rattle.std.proofs.Common.{◌∙◌, refl, sym, subst}
use Rattle.lk_learner.specs.Installing.{Installs}
use Rattle.lk_learner.specs.Learners.{LearnerValue}
use Rattle.lk_node.specs.Installing.{GathersPart}
use Rattle.lk_node.specs.Learning.{with_learner}
use Rattle.lk_node.specs.Nearness.{AreNear}
use Rattle.lk_node.specs.NodeValue.{NodeValue}
use Rattle.lk_node.proofs.InstallLaws.{hearing_near, gathered_near}
use Rattle.lk_node.proofs.node.Node.add_part.Goals as goal

pub invariant_of-self-in_err-went : goal.invariant_of-self-in_err-went
invariant_of-self-in_err-went g c = (
  c.self.invariant.0,
  subst (AreNear c.self.inside.acceptor)
      (sym (c.in_err-went.ensures.err ∙ c.in_ok-add_part.ensures.ok))
      (hearing_near c.args.part.now c.self.inside.acceptor c.self.inside.learner c.self.invariant.1),
  tt,
)

pub invariant_of-self-2 : goal.invariant_of-self-2
invariant_of-self-2 g c = (
  c.self.invariant.0,
  gathered_near g.M.Machine.IsText c.in_ok-went.went c.args.part.now c.self.inside.acceptor c.self.inside.learner
      c.install.new.self c.self.invariant.1
      (subst (λ (l : LearnerValue). Installs g.M.Machine.IsText c.in_ok-went.went l c.install.new.self)
      c.in_ok-add_part.ensures.ok c.in_ok-went.ensures.exact),
  tt,
)

pub returns : goal.returns
returns g c =
    let was : NodeValue = record {
      header = c.self.inside.header;
      acceptor = c.self.inside.acceptor;
      learner = c.self.inside.learner;
      leader = c.self.inside.leader;
      ticks = c.self.inside.ticks;
      rounds = c.self.inside.rounds;
      known = c.self.inside.known;
      gathered_before = c.self.inside.gathered_before;
      halted = c.self.inside.halted;
    } in
    subst (λ (k : NodeValue). GathersPart g.M.Machine.IsText c.in_ok-went.went c.args.part.now k
    (with_learner was c.install.new.self)) c.self.view_is (
      c.install.new.self,
      subst (λ (l : LearnerValue). Installs g.M.Machine.IsText c.in_ok-went.went l c.install.new.self)
          c.in_ok-add_part.ensures.ok c.in_ok-went.ensures.exact,
      refl,
    )
