-- The invariant bounds the members of each set.
use Rattle.std.proofs.Common.{ap}
use Rattle.lk_members.specs.Windows.{RosterValue}
use Rattle.lk_members.proofs.SetLaws.{newest-at_most}
use Rattle.lk_members.proofs.roster.Roster.newest.Goals as goal

pub returns-clause-bound : goal.returns-clause-bound
returns-clause-bound c =
    rw (c.newest-set.ensures, ← (ap (λ (v : RosterValue). v.greatest) c.self.view_is))
    (newest-at_most _ c.self.invariant)
