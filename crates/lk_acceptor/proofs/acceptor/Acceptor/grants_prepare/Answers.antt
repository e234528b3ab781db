use Rattle.std.proofs.Common.{subst, arith, IsTrue}
use Rattle.lk_acceptor.specs.AcceptorValue.{AcceptorValue}
use Rattle.lk_acceptor.specs.Replies.{GrantsPrepare}
use Rattle.lk_acceptor.proofs.Granting.{by_test, prepare_by_last}
use Rattle.lk_acceptor.proofs.acceptor.Acceptor.grants_prepare.Goals as goal

pub returns : goal.returns
returns c =
    let inside : AcceptorValue =
    record {
      alpha = c.self.inside.alpha;
      state = record {
        promised = c.self.inside.promised;
        votes = c.self.inside.votes.items;
        snapshot_position = c.self.inside.snapshot_position;
      };
    } in
    subst (λ (a : AcceptorValue). (IsTrue c.lie_below.result → GrantsPrepare a c.args.ballot c.args.first)
    × (GrantsPrepare a c.args.ballot c.args.first → IsTrue c.lie_below.result)) c.self.view_is
    (prepare_by_last inside c.args.ballot c.args.first _ c.deref.result.now c.lie_below.result
    (by_test c.args.ballot c.self.inside.promised c.get-2.result c.is_below.result c.is_below.ensures.test
    c.get-2.ensures.value c.if-is_below.false)
    (omega arith) c.lie_below.ensures (omega arith) c.deref.ensures.value)
