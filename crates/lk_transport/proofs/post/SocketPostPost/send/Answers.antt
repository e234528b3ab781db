-- One tactic for each goal that a wrong body breaks.
use Rattle.std.proofs.Common.{rules}
use Rattle.lk_transport.proofs.post.SocketPostPost.send.Goals as goal

pub returns-then-is_ok-clause-carries : goal.returns-then-is_ok-clause-carries
returns-then-is_ok-clause-carries g c = search rules
