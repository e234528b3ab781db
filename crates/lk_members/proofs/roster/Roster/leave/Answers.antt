-- Those who stay were members before.
use Rattle.lk_members.proofs.SetLaws.{nodes_below-others}
use Rattle.lk_members.proofs.roster.Roster.leave.Goals as goal

pub advance-requires-clause-bound : goal.advance-requires-clause-bound
advance-requires-clause-bound c =
    rw (c.in-Some.ensures.value, c.greatest-greatest.ensures)
    (nodes_below-others _ c.args.node _ c.newest-2.ensures.bound)
