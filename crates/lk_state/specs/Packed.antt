-- The packed text of a state. Numbers are big-endian.
use Rattle.std.specs.Prelude.{◌≡◌, ℕ, List, ◌++◌, length}
use Rattle.std.specs.List.{flat_map}
use Rattle.lk_types.specs.declared.member.Member.{Member}
use Rattle.lk_codec.specs.Fields.{one, two, four, eight, members, answer}
use Rattle.lk_members.specs.Windows.{RosterValue, IsRoster}
use Rattle.lk_state.specs.Sessions.{Session, AreSessions}
use Rattle.lk_state.specs.States.{WholeValue}

abbrev pub sets_text : List (List Member) → List ℕ
sets_text sets = one (length sets) ++ flat_map members sets

-- how many positions are executed, the sets of the next ones, the greatest number ever a member, the last change
abbrev pub roster_text : RosterValue → List ℕ
roster_text r = eight r.executed ++ (sets_text r.sets ++ (four r.greatest ++ eight r.changed))

abbrev pub session_text : Session → List ℕ
session_text s = two s.client ++ (eight s.number ++ answer s.answer)

abbrev pub sessions_text : List Session → List ℕ
sessions_text sessions = two (length sessions) ++ flat_map session_text sessions

-- the roster, the sessions, and the machine's text to the end
abbrev pub packed : WholeValue → List ℕ
packed w = (roster_text w.roster ++ sessions_text w.sessions) ++ w.text

-- the state is valid: its parts are in range, and its text is a packed text of the machine
pub record IsWhole (IsText : List ℕ → Type 0) (w : WholeValue) : Type 0 where
  pub roster : IsRoster w.roster
  pub sessions : AreSessions w.sessions
  pub text : IsText w.text

-- the bytes are the packed text of the state
abbrev pub Packs : (List ℕ → Type 0) → WholeValue → List ℕ → Type 0
Packs IsText w bytes = IsWhole IsText w × (bytes ≡ packed w)
