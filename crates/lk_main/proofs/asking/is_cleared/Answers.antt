use Rattle.lk_main.proofs.Looking.{shown_safe}
use Rattle.lk_main.proofs.asking.is_cleared.Goals as goal

pub returns-then-may : goal.returns-then-may
returns-then-may g c unforced change safe = shown_safe c.in_ok-may.ensures.alike c.in_ok-may.ensures.shown safe
