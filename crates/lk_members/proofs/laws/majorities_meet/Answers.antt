use Rattle.lk_members.proofs.Memberships as law
use Rattle.lk_members.proofs.laws.majorities_meet.Goals as goal

pub returns : goal.returns
returns c = law.majorities_meet
