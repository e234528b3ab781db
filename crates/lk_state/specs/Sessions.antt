-- The sessions: for each client its last request that took effect, and the answer.
pub use Rattle.lk_state.specs.declared.session.Session.{Session}
use Rattle.std.specs.Prelude.{ℕ, Bool, true, false, ◌&&◌, ◌==◌, nat_lt, if◌then◌else◌, Option, Some, None, List, []}
use Rattle.std.specs.Prelude.{◌∷◌, find, IsTrue}
use Rattle.std.specs.List.{AllByRecursion}
use Rattle.lk_types.specs.Ranges.{IsClient, IsCount}
use Rattle.lk_types.specs.Answers.{IsAnswer}

-- the session of a client
abbrev pub session_of : ℕ → List Session → Option Session
session_of client sessions = find (λ s. s.client == client) sessions

-- the session, if it is the client's
abbrev pub if_of_client : ℕ → Option Session → Option Session
if_of_client client None = None
if_of_client client (Some s) = if s.client == client then Some s else None

-- there is a session, and it is the client's
abbrev pub is_at : ℕ → Option Session → Bool
is_at client None = false
is_at client (Some s) = s.client == client

-- the number is above the client's last one
abbrev pub is_new : Option Session → ℕ → Bool
is_new None number = true
is_new (Some s) number = nat_lt s.number number

-- the sessions with s inserted, in place of the one of the same client if there is one
abbrev pub with_session : Session → List Session → List Session
with_session s [] = s ∷ []
with_session s (t ∷ sessions) =
    if nat_lt s.client t.client then s ∷ t ∷ sessions
    else if s.client == t.client then s ∷ sessions
    else t ∷ with_session s sessions

-- each client is above the one before, the first above low
abbrev pub are_sessions_above : ℕ → List Session → Bool
are_sessions_above low [] = true
are_sessions_above low (s ∷ sessions) = nat_lt low s.client && are_sessions_above s.client sessions

abbrev pub IsSession : Session → Type 0
IsSession s = IsClient s.client × (IsCount s.number × IsAnswer s.answer)

-- one for each of some clients, rising by client: so there are at most 256
abbrev pub AreSessions : List Session → Type 0
AreSessions sessions = AllByRecursion IsSession sessions × IsTrue (are_sessions_above 0 sessions)
