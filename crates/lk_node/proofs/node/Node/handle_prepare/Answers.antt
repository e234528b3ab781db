use Rattle.std.proofs.Common.{rules}
use Rattle.lk_acceptor.specs.Replies.{RepliesToPrepare}
use Rattle.lk_node.specs.Responding.{Responds}
use Rattle.lk_node.proofs.AcceptorLaws.{prepare_goes_on}
use Rattle.lk_node.proofs.NearLaws.{prepare_near}
use Rattle.lk_node.proofs.node.Node.handle_prepare.Goals as goal

pub invariant_of-self-2 : goal.invariant_of-self-2
invariant_of-self-2 g c = (
  search rules,
  prepare_near c.self.inside.acceptor c.prepare.new.self c.self.inside.learner c.executed.result
      c.args.ballot c.args.first c.in_ok-response.response c.self.invariant.1 c.in_ok-response.ensures.reply,
  c.self.invariant.2,
)

pub returns-clause-safe : goal.returns-clause-safe
returns-clause-safe g c =
    let responds : Responds c.args.self.now c.args.from (RepliesToPrepare c.args.self.now.acceptor
    c.args.self.now.learner.whole.roster.executed c.args.ballot c.args.first) c.respond.new.self c.in_ok-out.out =
    search rules in
    prepare_goes_on _ c.args.self.now c.respond.new.self c.args.from _ c.args.ballot c.args.first c.in_ok-out.out
    responds
