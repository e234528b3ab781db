-- The state after a list, and the answer to each request of it.
use Rattle.std.specs.Prelude.{◌≡◌, ℕ, ◌&&◌, ◌==◌, if◌then◌else◌, Option, Some, None, List, [], fold, find}
use Rattle.std.specs.List.{filter_map}
use Rattle.std.specs.Option.{option_map}
use Rattle.lk_types.specs.declared.answer.Answer.{Answer}
use Rattle.lk_members.specs.Effects.{Command, RequestValue, PositionedEntry, positioned, in_effect, effects}
use Rattle.lk_members.specs.Rosters.{Genesis, PlainRoster, Op, Table, Join, Leave, Raise, join_answer, leave_answer}
use Rattle.lk_members.specs.Rosters.{roster_of}
use Rattle.lk_members.specs.Windows.{RosterValue, roster_after}
use Rattle.lk_state.specs.Meanings.{Meaning, Running, Raising}
use Rattle.lk_state.specs.Sessions.{Session, with_session}

-- the machine's text after an op: joins and leaves are not its tasks
abbrev pub next_text : Meaning → List ℕ → ℕ → Op → List ℕ
next_text m text client (Table body) = m.next client (Running body) text
next_text m text client (Join node port) = text
next_text m text client (Leave node) = text
next_text m text client Raise = m.next client Raising text

-- the answer of a roster and a machine to an op
abbrev pub op_answer : Meaning → PlainRoster → List ℕ → ℕ → Op → Answer
op_answer m roster text client (Table body) = m.answer client (Running body) text
op_answer m roster text client (Join node port) = join_answer roster node
op_answer m roster text client (Leave node) = leave_answer roster node
op_answer m roster text client Raise = m.answer client Raising text

-- the machine's text after the requests that take effect, in order
unfoldable pub text_of : Meaning → List Command → List ℕ
text_of m L = fold (λ text q. next_text m text q.client q.op) m.first (effects L)

-- a request that takes effect, with its answer
abbrev pub session_in : Meaning → PlainRoster → List ℕ → Option RequestValue → Option Session
session_in m roster text None = None
session_in m roster text (Some q) =
    Some (record { client = q.client; number = q.number; answer = op_answer m roster text q.client q.op })

-- the session of an entry at its position, if it takes effect
abbrev pub session_of_entry : Meaning → Genesis → PositionedEntry → Option Session
session_of_entry m genesis p = session_in m (roster_of genesis p.before) (text_of m p.before)
    (in_effect p.before p.entry)

-- the requests that take effect with their answers, in order
unfoldable pub ledger : Meaning → Genesis → List Command → List Session
ledger m genesis L = filter_map (λ p. session_of_entry m genesis p) (positioned L)

-- the answer to the client's request of this number at the position where it takes effect; none if it never does
abbrev pub reply : Meaning → Genesis → List Command → ℕ → ℕ → Option Answer
reply m genesis L client number =
    option_map (λ s. s.answer) (find (λ s. s.client == client && s.number == number) (ledger m genesis L))

-- the answer to the request; none if there is none
abbrev pub reply_of : Meaning → Genesis → List Command → Option RequestValue → Option Answer
reply_of m genesis L None = None
reply_of m genesis L (Some r) = reply m genesis L r.client r.number

-- the client's last request that takes effect, with its answer
abbrev pub last_session : Meaning → Genesis → List Command → ℕ → Option Session
last_session m genesis L client = fold (λ last s. if s.client == client then Some s else last) None (ledger m genesis L)

-- the last request of each client, by client
abbrev pub sessions_of : Meaning → Genesis → List Command → List Session
sessions_of m genesis L = fold (λ sessions s. with_session s sessions) [] (ledger m genesis L)

-- a roster, sessions and a machine's text
pub record WholeValue : Type 0 where
  pub roster : RosterValue
  pub sessions : List Session
  pub text : List ℕ

-- the state after the list is executed
unfoldable pub whole_after : Meaning → Genesis → List Command → WholeValue
whole_after m genesis L =
    record { roster = roster_after genesis L; sessions = sessions_of m genesis L; text = text_of m L }

-- the state is the one after this list
abbrev pub SumsUp : Meaning → Genesis → List Command → WholeValue → Type 0
SumsUp m genesis L w = w ≡ whole_after m genesis L
