-- What a node executes, and which clients it answers as a result.
use Rattle.std.specs.Prelude.{◌≡◌, ℕ, Bool, true, false, not, ◌&&◌, ◌+◌, if◌then◌else◌, Option, Some, None}
use Rattle.lk_messages.specs.Grammar.{spelling, IsMessage}
use Rattle.lk_members.specs.Effects.{Command}
use Rattle.lk_members.specs.Ports.{is_named}
use Rattle.lk_store_format.specs.Values.{HeaderValue}
use Rattle.lk_state.specs.Meanings.{Meaning}
use Rattle.lk_state.specs.Runs.{run_answer}
use Rattle.lk_state.specs.declared.session.Session.{Session}
use Rattle.lk_state.specs.declared.whole.Ran.{Ran}
use Rattle.lk_leader.specs.Terms.{has_term}
use Rattle.lk_leader.specs.Waits.{waiting_of, number_up_to, left_by}
use Rattle.lk_learner.specs.Learners.{executed, IsNext, advanced}
use Rattle.lk_node_interface.specs.KeptReplies.{session_reply, session_by}
use Rattle.lk_node_interface.specs.Outboxes.{OutboxValue, with_envelope, with_note}
use Rattle.lk_node_interface.specs.Saying.{saying}
use Rattle.lk_node_interface.specs.declared.note.Note.TheVariants as note
use Rattle.lk_node_interface.specs.declared.to.To.TheVariants as to
use Rattle.lk_node.specs.Learning.{with_learner}
use Rattle.lk_node.specs.NodeValue.{NodeValue}
use Rattle.lk_node.specs.Yielding.{without_term}

-- ---- the clients

-- the number of the client's waiting request, if it is at most the session's
abbrev pub waiting_number : Session → NodeValue → Option ℕ
waiting_number s node = number_up_to s.number (waiting_of s.client node.leader.waiting)

-- with an envelope to the client, if its request of this number waits
abbrev pub with_session_reply : HeaderValue → Session → Option ℕ → OutboxValue → OutboxValue
with_session_reply whose s None out = out
with_session_reply whose s (Some number) out =
    with_envelope (record { to = to.Client s.client; bytes = spelling (saying whose (session_reply s number)) }) out

-- the client's requests up to the session's wait no longer
abbrev pub no_longer_waiting : Session → NodeValue → NodeValue
no_longer_waiting s node =
    record node { leader = record { term = node.leader.term; waiting = left_by s.client s.number node.leader.waiting } }

-- a session has become the client's last: its waiting request, if the session has reached it, is answered or passed,
-- and waits no longer
pub record EndsWait (s : Session) (old : NodeValue) (before : OutboxValue) (new : NodeValue)
    (after : OutboxValue) : Type 0 where
  pub becomes : new ≡ no_longer_waiting s old
  pub comes_to : after ≡ with_session_reply old.header s (waiting_number s old) before
  pub fits : (number : ℕ) → waiting_number s old ≡ Some number → IsMessage (saying old.header (session_reply s number))

-- the wait of the session's client ends, if there is a session, and otherwise nothing changes
abbrev pub EndsWaitIfAny : Option Session → NodeValue → OutboxValue → NodeValue → OutboxValue → Type 0
EndsWaitIfAny None old before new after = (new ≡ old) × (after ≡ before)
EndsWaitIfAny (Some s) old before new after = EndsWait s old before new after

-- ---- one execution

-- nothing is left to execute: the command of the next position is not kept
abbrev pub NothingToRun : NodeValue → Type 0
NothingToRun node = (v : Command) → IsNext node.learner v → ⊥

-- the command of the next position, if it is kept, was executed with this answer
abbrev pub RunsNext : Meaning → NodeValue → NodeValue → Option (Command × Ran) → Type 0
RunsNext m old new None = NothingToRun old × (new ≡ old)
RunsNext m old new (Some (v, ran)) =
    IsNext old.learner v × (new ≡ with_learner old (advanced m v old.learner))
    × (ran ≡ record { position = executed old.learner + 1; answer = run_answer m v old.learner.whole })

-- there is a term, and no set of the window names the node
abbrev pub is_outside : NodeValue → Bool
is_outside node = has_term node.leader.term && not (is_named node.header.node node.learner.whole.roster.sets)

-- the node, with its term ended if no set of the window names it
abbrev pub without_term_if_outside : NodeValue → NodeValue
without_term_if_outside node = if is_outside node then without_term node else node

-- The command of the next position is executed and noted, a waiting request of its client is answered, and if no set
-- of the window names the node any more, its term ends.
pub record Executes (m : Meaning) (old : NodeValue) (before : OutboxValue) (new : NodeValue)
    (after : OutboxValue) : Type 0 where
  pub command : Command
  pub next : IsNext old.learner command
  pub mid : NodeValue
  pub ends_wait : EndsWaitIfAny (session_by command (run_answer m command old.learner.whole))
      (with_learner old (advanced m command old.learner))
      (with_note (note.Ran old.header.node (executed old.learner + 1) command) before) mid after
  pub becomes : new ≡ without_term_if_outside mid

-- the command of the next position is executed, or there is none and nothing changes
abbrev pub ExecutesOne : Meaning → Bool → NodeValue → OutboxValue → NodeValue → OutboxValue → Type 0
ExecutesOne m true old before new after = Executes m old before new after
ExecutesOne m false old before new after = NothingToRun old × (new ≡ old) × (after ≡ before)

-- ---- any number of them

-- one execution after another
pub data Runs (m : Meaning) (old : NodeValue) (before : OutboxValue) : NodeValue → OutboxValue → Type 0 where
  stays : Runs m old before old before
  goes_on : {mid new : NodeValue} {between after : OutboxValue} → Runs m old before mid between
      → Executes m mid between new after → Runs m old before new after

-- as many as possible
abbrev pub RunsAll : Meaning → NodeValue → OutboxValue → NodeValue → OutboxValue → Type 0
RunsAll m old before new after = Runs m old before new after × NothingToRun new
