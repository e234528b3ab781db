-- The reply to a client's request that is not new, and the session that an executed command leaves.
use Rattle.std.specs.Prelude.{ℕ, nat_lt, if◌then◌else◌, Option, Some, None}
use Rattle.lk_types.specs.declared.answer.Answer.{Answer as AnswerValue}
use Rattle.lk_members.specs.Effects.{Command, Noop, Request}
use Rattle.lk_messages.specs.declared.message.NodeMessage.{NodeMessage}
use Rattle.lk_messages.specs.declared.message.NodeMessage.TheVariants.{Answer, Passed}
use Rattle.lk_state.specs.declared.session.Session.{Session}
use Rattle.lk_state.specs.declared.whole.Seen.{Seen}
use Rattle.lk_state.specs.declared.whole.Seen.TheVariants as seen

-- the number of the client's last request gets the stored answer, a smaller one the last number, and a new one nothing
abbrev pub kept_reply : ℕ → ℕ → Seen → Option NodeMessage
kept_reply client number seen.New = None
kept_reply client number (seen.Same answer) =
    Some (Answer (record { client = client; number = number; answer = answer }))
kept_reply client number (seen.Passed last) =
    if nat_lt number last then Some (Passed (record { client = client; number = number; last = last }))
    else None

-- the reply to the waiting request of this number, after the session's was executed: if it is that one, its answer; if
-- it is smaller, the number that passed it
abbrev pub session_reply : Session → ℕ → NodeMessage
session_reply s number =
    if nat_lt number s.number then Passed (record { client = s.client; number = number; last = s.number })
    else Answer (record { client = s.client; number = number; answer = s.answer })

-- the session that a command with this answer leaves, if it took effect
abbrev pub session_by : Command → Option AnswerValue → Option Session
session_by Noop answer = None
session_by (Request r) None = None
session_by (Request r) (Some answer) = Some (record { client = r.client; number = r.number; answer = answer })
