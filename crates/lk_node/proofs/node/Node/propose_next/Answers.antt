-- The next one is proposed, and told.
use Rattle.lk_node.proofs.Proposals.{next_told, next_fits, next_goes_on}
use Rattle.lk_node.proofs.node.Node.propose_next.Goals as goal

pub returns-clause-exact : goal.returns-clause-exact
returns-clause-exact g c = (
  c.in-Some.vote,
  c.in-Some.ensures.0,
  c.in-Some.ensures.1,
  next_told c.args.self.now c.next_vote.new.self c.in-Some.vote c.in-Some.ensures.0 c.in-Some.ensures.1 c.args.out.now
      c.send_accepts.new.out c.in_ok-send_accepts.ensures.said,
)

pub returns-clause-safe : goal.returns-clause-safe
returns-clause-safe g c =
    next_goes_on c.args.self.now c.next_vote.new.self c.in-Some.vote c.in-Some.ensures.0 c.in-Some.ensures.1
    _ c.args.out.now c.send_accepts.new.out c.facts.ensures
    (next_fits c.args.self.now c.next_vote.new.self c.in-Some.vote c.in-Some.ensures.0 c.in-Some.ensures.1
    c.in_ok-send_accepts.ensures.fits)
    (next_told c.args.self.now c.next_vote.new.self c.in-Some.vote c.in-Some.ensures.0 c.in-Some.ensures.1
    c.args.out.now c.send_accepts.new.out c.in_ok-send_accepts.ensures.said)
