use Rattle.lk_seed.proofs.MemberLaws.{goes_on}
use Rattle.lk_seed.proofs.sole_member.SoleMember.lead.Goals as goal

pub ticks-preserved : goal.ticks-preserved
ticks-preserved c header wanted first =
    let member = c.ticks.invariant header wanted first in
    c.in_ok-settle.ensures.keeps header wanted (goes_on header wanted _ _ member
    (c.in_ok-take.ensures.takes header wanted member.sent member.whose member.becomes tt))
