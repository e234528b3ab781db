use Rattle.std.proofs.Common.{List, sym, subst}
use Rattle.std.specs.List.{AllByRecursion}
use Rattle.lk_types.specs.Votes.{IsVote}
use Rattle.lk_types.specs.declared.vote.Vote.{Vote}
use Rattle.lk_acceptor.specs.States.{IsOrdered}
use Rattle.lk_acceptor.proofs.Searching.{ranges_above}
use Rattle.lk_acceptor.proofs.Keeping.{rest_kept}
use Rattle.lk_acceptor.proofs.acceptor.Acceptor.forget.Goals as goal

pub invariant_of-self : goal.invariant_of-self
invariant_of-self c = (
  c.self.invariant.0,
  subst (AllByRecursion IsVote) (sym c.forget_to.ensures)
      (ranges_above c.args.position c.self.inside.votes.items c.self.invariant.1),
  subst (λ (l : List Vote). IsOrdered
      (record { promised = c.self.inside.promised; votes = l; snapshot_position = c.args.position }))
      (sym c.forget_to.ensures)
      (rest_kept (record {
        promised = c.self.inside.promised;
        votes = c.self.inside.votes.items;
        snapshot_position = c.self.inside.snapshot_position;
      }) c.args.position c.self.invariant.2),
)
