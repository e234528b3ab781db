use Rattle.lk_status.proofs.Looking.{looked_at}
use Rattle.lk_status.proofs.look.look_after.Goals as goal

pub returns-clause-looked : goal.returns-clause-looked
returns-clause-looked g c asker =
    looked_at asker c.ask_members.ensures.alike c.deref.ensures.value c.in_ok-reports.ensures.named
    c.in_ok-reports.ensures.heard
