use Rattle.std.proofs.Common.{sym, subst, inl}
use Rattle.lk_types.specs.BallotValue.{BallotValue}
use Rattle.lk_types.specs.Ballots.{IsBelow}
use Rattle.lk_acceptor.specs.AcceptorValue.{AcceptorValue}
use Rattle.lk_acceptor.proofs.Keeping.{promise_kept}
use Rattle.lk_acceptor.proofs.acceptor.Acceptor.own.Goals as goal

pub invariant_of-self : goal.invariant_of-self
invariant_of-self c =
    let above = subst (λ (b : BallotValue). IsBelow c.self.inside.promised b) (sym c.get-self-inside.ensures.value)
    (subst (λ (a : AcceptorValue). IsBelow a.state.promised c.args.ballot) (sym c.self.view_is) c.requires) in (
      c.self.invariant.0,
      c.self.invariant.1,
      promise_kept (record {
        promised = c.self.inside.promised;
        votes = c.self.inside.votes.items;
        snapshot_position = c.self.inside.snapshot_position;
      }) c.get-self-inside.result (inl above) c.self.invariant.2,
    )
