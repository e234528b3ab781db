-- One tactic for each goal that a wrong body breaks.
use Rattle.std.proofs.Common.{rules}
use Rattle.lk_transport.proofs.post.SocketPost.transmit.Goals as goal

pub returns-in-Err-sent-clause-cause : goal.returns-in-Err-sent-clause-cause
returns-in-Err-sent-clause-cause g c = search rules
