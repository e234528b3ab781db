-- The state after one more command, and its answer.
use Rattle.std.specs.Prelude.{ℕ, Bool, true, false, ◌==◌, nat_lt, if◌then◌else◌, Option, Some, None, List}
use Rattle.std.specs.Option.{option_map}
use Rattle.lk_types.specs.declared.answer.Answer.{Answer}
use Rattle.lk_members.specs.Effects.{Command, RequestValue, Noop, Request}
use Rattle.lk_members.specs.Rosters.{Op, Table, Join, Leave, Raise}
use Rattle.lk_members.specs.Windows.{newest_roster, moved_unchanged, changed_by}
use Rattle.lk_state.specs.Meanings.{Meaning}
use Rattle.lk_state.specs.Sessions.{Session, session_of, is_new, with_session}
use Rattle.lk_state.specs.States.{WholeValue, next_text, op_answer}
use Rattle.lk_state.specs.declared.whole.Seen.{Seen}
use Rattle.lk_state.specs.declared.whole.Seen.TheVariants as seen

-- the request of the command, if it takes effect after these sessions
abbrev pub in_effect_now : List Session → Command → Option RequestValue
in_effect_now sessions Noop = None
in_effect_now sessions (Request r) = if is_new (session_of r.client sessions) r.number then Some r else None

-- the request with its answer, as a session
abbrev pub session_for : Meaning → WholeValue → RequestValue → Session
session_for m w r =
    record { client = r.client; number = r.number; answer = op_answer m (newest_roster w.roster) w.text r.client r.op }

-- one position further, with a request that takes effect or with none
abbrev pub after_request : Meaning → WholeValue → Option RequestValue → WholeValue
after_request m w None = record { roster = moved_unchanged w.roster; sessions = w.sessions; text = w.text }
after_request m w (Some r) =
    record {
      roster = changed_by r.op w.roster;
      sessions = with_session (session_for m w r) w.sessions;
      text = next_text m w.text r.client r.op;
    }

-- the state after the command
abbrev pub ran : Meaning → Command → WholeValue → WholeValue
ran m command w = after_request m w (in_effect_now w.sessions command)

-- the answer to the command, if it takes effect
abbrev pub run_answer : Meaning → Command → WholeValue → Option Answer
run_answer m command w = option_map (λ r. (session_for m w r).answer) (in_effect_now w.sessions command)

abbrev pub is_table : Op → Bool
is_table (Table body) = true
is_table (Join node port) = false
is_table (Leave node) = false
is_table Raise = false

-- only a body that the machine executes may need memory
abbrev pub is_body : Option RequestValue → Bool
is_body None = false
is_body (Some r) = is_table r.op

-- how a request's number compares with that of its client's last one
abbrev pub seen_as : Option Session → ℕ → Seen
seen_as None number = seen.New
seen_as (Some s) number =
    if number == s.number then seen.Same s.answer
    else if nat_lt number s.number then seen.Passed s.number
    else seen.New
