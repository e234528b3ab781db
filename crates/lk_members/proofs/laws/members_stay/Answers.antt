use Rattle.lk_members.proofs.Memberships as law
use Rattle.lk_members.proofs.laws.members_stay.Goals as goal

pub returns : goal.returns
returns c = law.members_stay
