use Rattle.std.proofs.Common.{rules, ◌∙◌, ap, ℕ, subst}
use Rattle.lk_acceptor.specs.Replies.{RepliesToAccept}
use Rattle.lk_node.specs.Responding.{Responds}
use Rattle.lk_node.specs.NodeValue.{NodeValue}
use Rattle.lk_state.specs.States.{WholeValue}
use Rattle.lk_node.proofs.NearLaws.{accept_near}
use Rattle.lk_node.proofs.node.Node.respond_to_accept.Goals as goal

pub invariant_of-self-2 : goal.invariant_of-self-2
invariant_of-self-2 g c = (
  search rules,
  accept_near c.self.inside.acceptor c.accept.new.self c.self.inside.learner c.executed.result c.args.vote
      c.in_ok-response.response c.self.invariant.1
      (c.executed.ensures ∙ ap (λ (w : WholeValue). w.roster.executed) c.whole.ensures) c.in_ok-response.ensures.reply,
  c.self.invariant.2,
)

pub returns : goal.returns
returns g c =
    let was : NodeValue = record {
      header = c.self.inside.header;
      acceptor = c.self.inside.acceptor;
      learner = c.self.inside.learner;
      leader = c.self.inside.leader;
      ticks = c.self.inside.ticks;
      rounds = c.self.inside.rounds;
      known = c.self.inside.known;
      gathered_before = c.self.inside.gathered_before;
      halted = c.self.inside.halted;
    } in
    subst (λ (k : NodeValue). Responds k c.args.from
    (RepliesToAccept k.acceptor k.learner.whole.roster.executed c.args.vote) c.respond.new.self c.in_ok-out.out)
    c.self.view_is
    (record {
      response = c.in_ok-response.response;
      acceptor = c.accept.new.self;
      given = subst (λ (e : ℕ). RepliesToAccept was.acceptor e c.args.vote c.in_ok-response.response c.accept.new.self)
          (c.executed.ensures ∙ ap (λ (w : WholeValue). w.roster.executed) c.whole.ensures)
          c.in_ok-response.ensures.reply;
      becomes = c.in_ok-out.ensures.becomes;
      fits = c.in_ok-out.ensures.fits;
      comes_to = c.in_ok-out.ensures.outbox;
    })
