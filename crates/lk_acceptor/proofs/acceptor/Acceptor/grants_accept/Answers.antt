use Rattle.std.proofs.Common.{subst, arith, IsTrue}
use Rattle.lk_acceptor.specs.AcceptorValue.{AcceptorValue}
use Rattle.lk_acceptor.specs.Replies.{GrantsAccept}
use Rattle.lk_acceptor.proofs.Granting.{by_test, accept_by_last}
use Rattle.lk_acceptor.proofs.acceptor.Acceptor.grants_accept.Goals as goal

pub returns : goal.returns
returns c =
    let inside : AcceptorValue =
    record {
      alpha = c.self.inside.alpha;
      state = record {
        promised = c.self.inside.promised;
        votes = c.self.inside.votes.items;
        snapshot_position = c.self.inside.snapshot_position;
      };
    } in
    subst (λ (a : AcceptorValue). (IsTrue c.agree.result → GrantsAccept a c.args.executed c.args.vote.now)
    × (GrantsAccept a c.args.executed c.args.vote.now → IsTrue c.agree.result)) c.self.view_is
    (accept_by_last inside c.args.executed c.args.vote.now c.deref.result.now c.agree.result
    (by_test c.args.vote.now.ballot c.self.inside.promised c.get-2.result c.is_below.result c.is_below.ensures.test
    c.get-2.ensures.value c.if-is_below.false)
    (omega arith) (omega arith) c.agree.ensures c.deref.ensures.value)
