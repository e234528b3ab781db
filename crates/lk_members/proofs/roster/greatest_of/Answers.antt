-- The numbers rise.
use Rattle.std.proofs.Common.{sym}
use Rattle.lk_types.specs.Rosters.{AreMembers}
use Rattle.lk_members.proofs.SetLaws.{greatest_node-last}
use Rattle.lk_members.proofs.roster.greatest_of.Goals as goal

pub returns : goal.returns
returns c =
    let fits : AreMembers c.as_slice-members.result.now =
    rw c.as_slice-members.ensures.value c.as_slice-members.ensures.fits in
    rw (← c.as_slice-members.ensures.value) (sym (greatest_node-last c.as_slice-members.result.now _ fits))
