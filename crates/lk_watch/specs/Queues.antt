-- The queue of those who wait for names, in order of arrival.
use Rattle.std.specs.Prelude.{◌≡◌, ◌⊎◌, ℕ, ◌+◌, ◌≤◌, ◌<◌, Bool, true, false, not, nat_le, nat_lt, ◌&&◌}
use Rattle.std.specs.Prelude.{if◌then◌else◌}
use Rattle.std.specs.Prelude.{List, [], ◌∷◌, ◌++◌, length, take, map, filter, slice_get, slice_set, Option, Some, None}
use Rattle.std.specs.List.{All, count_by, position_or_len, remove, sum_by}
use Rattle.std.specs.declared.net.socket_addr.SocketAddr.{SocketAddr}
use Rattle.lk_watch.specs.Standings.{places, opening, news}
use Rattle.lk_watch.specs.Waiters.{is_named, is_client, is_of, waits_for, is_due, told, refreshed, newcomer, ignores}
use Rattle.lk_watch.specs.Waiters.{renewed, load, IsWaiter}
use Rattle.lk_watch.specs.declared.standing.Standing.{Standing}
use Rattle.lk_watch.specs.declared.ticket.Ticket.{Ticket}
use Rattle.lk_watch.specs.declared.watch.Watch.{Watch}
use Rattle.lk_watch.specs.declared.notice.News.TheVariants.{Free}
use Rattle.lk_watch.specs.declared.waiter.Waiter.{Waiter}
use Rattle.lk_watch.specs.declared.waiter.Envelope.{Envelope}

-- the entries in order of arrival, and how many envelopes may still go in this turn
pub record QueueValue : Type 0 where
  pub waiters : List Waiter
  pub left : ℕ

abbrev pub max_waiters : ℕ
max_waiters = 1024

abbrev pub max_of_name : ℕ
max_of_name = 256

abbrev pub max_of_client : ℕ
max_of_client = 4

abbrev pub max_envelopes : ℕ
max_envelopes = 64

-- the bounds of a queue, which has one entry at most for each client and name
pub record IsQueue (q : QueueValue) : Type 0 where
  pub few : length q.waiters ≤ max_waiters
  pub one : (client : ℕ) (name : List ℕ) → count_by (is_of client name) q.waiters ≤ 1
  pub of_client : (client : ℕ) → count_by (is_client client) q.waiters ≤ max_of_client
  pub of_name : (name : List ℕ) → count_by (is_named name) q.waiters ≤ max_of_name
  pub each : All IsWaiter q.waiters
  pub left : q.left ≤ max_envelopes

-- ---- the entry of a ticket's client and name

abbrev pub position : Ticket → List Waiter → ℕ
position t ws = position_or_len (is_of t.client t.name) ws

abbrev pub entry : Ticket → List Waiter → Option Waiter
entry t ws = slice_get ws (position t ws)

abbrev pub place_at : Ticket → List Waiter → Option Waiter → ℕ
place_at t ws None = 0
place_at t ws (Some w) = if w.waits then 1 + count_by (waits_for t.name) (take (position t ws) ws) else 0

-- its place among those who wait for the name, from 1; 0 if it does not wait
abbrev pub place_of : Ticket → List Waiter → ℕ
place_of t ws = place_at t ws (entry t ws)

-- ---- what a watch changes

abbrev pub has_room : Ticket → List Waiter → Bool
has_room t ws = nat_lt (length ws) max_waiters && nat_lt (count_by (is_client t.client) ws) max_of_client
    && nat_lt (count_by (is_named t.name) ws) max_of_name

-- the newcomer is the last, if there is room
abbrev pub entered : Watch → SocketAddr → List Waiter → List Waiter
entered watch from ws = if has_room watch.ticket ws then ws ++ newcomer watch from ∷ [] else ws

-- whether a watch that has no waiter is kept: it does not withdraw, and the name has no place for it, or those who wait
-- take each place
abbrev pub is_kept : Watch → Standing → List Waiter → Bool
is_kept watch s ws =
    nat_lt 0 watch.periods && nat_le (places watch.ticket.mode s) (sum_by (load s watch.ticket.name) ws)

-- without the waiter there, if there is one
abbrev pub without : ℕ → List Waiter → List Waiter
without at ws = if nat_lt at (length ws) then remove ws at else ws

-- the same in place of the entry of its client and name, if there is one
abbrev pub entered_for : Watch → SocketAddr → List Waiter → List Waiter
entered_for watch from ws = entered watch from (without (position watch.ticket ws) ws)

abbrev pub renewed_by : Watch → List Waiter → Option Waiter → List Waiter
renewed_by watch ws None = ws
renewed_by watch ws (Some w) = slice_set ws (position watch.ticket ws) (renewed watch w)

-- the entry of its client and name takes it
abbrev pub renewed_in : Watch → List Waiter → List Waiter
renewed_in watch ws = renewed_by watch ws (entry watch.ticket ws)

abbrev pub is_ignored_by : Watch → SocketAddr → Option Waiter → Bool
is_ignored_by watch from None = false
is_ignored_by watch from (Some w) = ignores watch from w

abbrev pub is_waiting : Option Waiter → Bool
is_waiting None = false
is_waiting (Some w) = w.waits

-- the waiters after a watch that came from there, where the table says this of its name: it renews a waiter that waits,
-- and else enters behind all others
abbrev pub heard : Watch → SocketAddr → Standing → List Waiter → List Waiter
heard watch from s ws =
    if is_ignored_by watch from (entry watch.ticket ws) then ws
    else if is_waiting (entry watch.ticket ws) then renewed_in watch ws
    else if is_kept watch s ws then entered_for watch from ws
    else ws

-- the entries that are not of the ticket's client and name
abbrev pub is_other : Ticket → Waiter → Bool
is_other t w = not (is_of t.client t.name w)

abbrev pub others : Ticket → List Waiter → List Waiter
others t ws = filter (is_other t) ws

-- what is sent for it at once, by the waiters before and after it
abbrev pub answer_to : Watch → SocketAddr → Standing → Bool → List Waiter → List Waiter → Option Envelope
answer_to watch from s speaks old new =
    if is_ignored_by watch from (entry watch.ticket old) then None else
    Some (record {
      to = from;
      ticket = watch.ticket;
      news = news speaks s watch.ticket;
      place = place_of watch.ticket new;
    })

-- ---- what ends and expires

abbrev pub is_alive : Waiter → Bool
is_alive w = nat_lt 0 w.periods

-- after that many periods, where a table says who holds a name: whoever holds the name that it waits for waits no more,
-- and those that have expired are gone
abbrev pub lived : (ℕ → List ℕ → Bool) → ℕ → List Waiter → List Waiter
lived holds count ws = filter is_alive (map (refreshed holds count) ws)

-- so at the beginning of a turn, in which it may hand out all envelopes again
abbrev pub begun : (ℕ → List ℕ → Bool) → ℕ → QueueValue → QueueValue
begun holds count q = record { waiters = lived holds count q.waiters; left = max_envelopes }

-- ---- who is told

-- what a table says of each name
abbrev pub Table : Type 0
Table = List ℕ → Standing

abbrev pub is_due_in : Table → List Waiter → Option Waiter → Bool
is_due_in table before None = false
is_due_in table before (Some w) = is_due (table w.ticket.name) before w

-- the waiter there is to be told
abbrev pub is_due_at : Table → List Waiter → ℕ → Bool
is_due_at table ws i = is_due_in table (take i ws) (slice_get ws i)

-- nobody before that one is to be told
abbrev pub NoneDueBefore : Table → List Waiter → ℕ → Type 0
NoneDueBefore table ws n = (i : ℕ) → i < n → is_due_at table ws i ≡ false

-- the envelope to the waiter there
abbrev pub envelope_to : List Waiter → ℕ → Waiter → Envelope
envelope_to ws i w = record {
  to = w.address;
  ticket = w.ticket;
  news = Free;
  place = 1 + count_by (waits_for w.ticket.name) (take i ws);
}

-- of those who are to be told, the first to arrive is; all others stay as they are
pub record TellsFirst (table : Table) (old : QueueValue) (envelope : Envelope) (new : QueueValue) : Type 0 where
  pub index : ℕ
  pub waiter : Waiter
  pub is : slice_get old.waiters index ≡ Some waiter
  pub due : is_due (table waiter.ticket.name) (take index old.waiters) waiter ≡ true
  pub first : NoneDueBefore table old.waiters index
  pub sent : envelope ≡ envelope_to old.waiters index waiter
  pub becomes : new.waiters ≡ slice_set old.waiters index (told (opening (table waiter.ticket.name)) waiter)
  pub counted : new.left + 1 ≡ old.left

-- these envelopes are handed out, one after another
abbrev pub TellsEach : Table → QueueValue → List Envelope → QueueValue → Type 0
TellsEach table old [] new = new ≡ old
TellsEach table old (envelope ∷ envelopes) new =
    (mid : QueueValue) × TellsFirst table old envelope mid × TellsEach table mid envelopes new

-- these are, until nobody is to be told or no envelope is left in this turn
pub record TellsAll (table : Table) (old : QueueValue) (envelopes : List Envelope) (new : QueueValue) : Type 0 where
  pub each : TellsEach table old envelopes new
  pub ends : (new.left ≡ 0) ⊎ NoneDueBefore table new.waiters (length new.waiters)

-- ---- a watch as a server hears it

abbrev pub listed_envelope : Option Envelope → List Envelope
listed_envelope None = []
listed_envelope (Some envelope) = envelope ∷ []

-- a watch that came from there was heard, and these envelopes are to be sent for it at once: one, or none if it is
-- ignored
pub record Hears (table : Table) (speaks : Bool) (watch : Watch) (from : SocketAddr) (old : QueueValue)
    (envelopes : List Envelope) (new : QueueValue) : Type 0 where
  pub waiters : new.waiters ≡ heard watch from (table watch.ticket.name) old.waiters
  pub left : new.left ≡ old.left
  pub answer : envelopes
      ≡ listed_envelope (answer_to watch from (table watch.ticket.name) speaks old.waiters new.waiters)

-- so, or out of memory nothing happens
abbrev pub HearsOrNot : Table → Bool → Watch → SocketAddr → QueueValue → List Envelope → QueueValue → Type 0
HearsOrNot table speaks watch from old envelopes new =
    Hears table speaks watch from old envelopes new ⊎ ((envelopes ≡ []) × (new ≡ old))
