-- Clients in a queue: whom they hold back, when they are told, and what changes them.
use Rattle.std.specs.Prelude.{ℕ, ◌+◌, ◌-◌, ◌≤◌, Bool, true, false, not, nat_le, nat_lt, nat_eq, ◌&&◌, ◌||◌, ◌==◌}
use Rattle.std.specs.Prelude.{if◌then◌else◌, List, min}
use Rattle.std.specs.Cmp.Lexicographic.{pointwise}
use Rattle.std.specs.List.{sum_by}
use Rattle.std.specs.contracts.net.socket_addr.SocketAddrPartialEq.TheImpl as address
use Rattle.std.specs.declared.net.socket_addr.SocketAddr.{SocketAddr}
use Rattle.lk_types.specs.Limits.{max_sharers}
use Rattle.lk_watch.specs.Standings.{places, opening, serves}
use Rattle.lk_watch.specs.declared.standing.Standing.{Standing}
use Rattle.lk_watch.specs.declared.ticket.Mode.{Mode}
use Rattle.lk_watch.specs.declared.ticket.Mode.TheVariants.{Exclusive, Share}
use Rattle.lk_watch.specs.declared.watch.Watch.{Watch}
use Rattle.lk_watch.specs.declared.waiter.Stage.{Stage}
use Rattle.lk_watch.specs.declared.waiter.Stage.TheVariants.{NotYet, JustNow, Once, Twice}
use Rattle.lk_watch.specs.declared.waiter.Waiter.{Waiter}

-- the most periods that a watch lives
abbrev pub max_periods : ℕ
max_periods = 20

-- the most datagrams that are sent for one watch
abbrev pub max_sent : ℕ
max_sent = 4

-- ---- whose it is

abbrev pub is_named : List ℕ → Waiter → Bool
is_named name w = pointwise nat_eq w.ticket.name name

abbrev pub is_client : ℕ → Waiter → Bool
is_client client w = w.ticket.client == client

abbrev pub is_of : ℕ → List ℕ → Waiter → Bool
is_of client name w = is_client client w && is_named name w

abbrev pub waits_for : List ℕ → Waiter → Bool
waits_for name w = w.waits && is_named name w

-- ---- when it is told

-- how often it was told since the name was free at that fence
abbrev pub stage_at : ℕ → Waiter → Stage
stage_at opening w = if w.opening == opening then w.stage else NotYet

-- whether it was told in an earlier period, or cannot be told any more
abbrev pub is_passed_at : Stage → ℕ → Bool
is_passed_at NotYet sent = nat_le max_sent sent
is_passed_at JustNow sent = false
is_passed_at Once sent = true
is_passed_at Twice sent = true

-- it does not hold back those who came later
abbrev pub is_passed : ℕ → Waiter → Bool
is_passed opening w = is_passed_at (stage_at opening w) w.sent

-- how many places a client takes before those who came later: an exclusive one takes all
abbrev pub weight : Mode → ℕ
weight Exclusive = max_sharers
weight Share = 1

-- how many places for that name it takes before those who came later
abbrev pub load : Standing → List ℕ → Waiter → ℕ
load s name w =
    if waits_for name w && serves s w.ticket && not (is_passed (opening s) w) then weight w.ticket.mode else 0

-- whether it is told: the first time in turn, and once again in a later period
abbrev pub has_turn : Stage → Bool → Bool
has_turn NotYet turn = turn
has_turn JustNow turn = false
has_turn Once turn = true
has_turn Twice turn = false

-- those who came before it leave it a place
abbrev pub is_in_turn : Standing → List Waiter → Waiter → Bool
is_in_turn s before w = nat_lt (sum_by (load s w.ticket.name) before) (places w.ticket.mode s)

-- it is to be told, after these who came before it
abbrev pub is_due : Standing → List Waiter → Waiter → Bool
is_due s before w = w.waits && nat_lt w.sent max_sent && serves s w.ticket
    && has_turn (stage_at (opening s) w) (is_in_turn s before w)

-- ---- what changes it

abbrev pub next_stage : Stage → Stage
next_stage NotYet = JustNow
next_stage JustNow = JustNow
next_stage Once = Twice
next_stage Twice = Twice

-- after a notice
abbrev pub told : ℕ → Waiter → Waiter
told opening w =
    record w { sent = w.sent + 1; opening = opening; stage = next_stage (stage_at opening w) }

abbrev pub aged_stage : Stage → Stage
aged_stage NotYet = NotYet
aged_stage JustNow = Once
aged_stage Once = Once
aged_stage Twice = Twice

-- after that many periods
abbrev pub aged : ℕ → Waiter → Waiter
aged count w =
    record w { periods = w.periods - count; stage = if nat_lt 0 count then aged_stage w.stage else w.stage }

-- it waits no more if it was granted the name
abbrev pub settled : Bool → Waiter → Waiter
settled is_granted w = record w { waits = w.waits && not is_granted }

-- after that many periods, where a table says who holds a name
abbrev pub refreshed : (ℕ → List ℕ → Bool) → ℕ → Waiter → Waiter
refreshed holds count w = settled (holds w.ticket.client w.ticket.name) (aged count w)

-- the waiter of a watch that was answered
abbrev pub newcomer : Watch → SocketAddr → Waiter
newcomer watch from = record {
  ticket = watch.ticket;
  address = from;
  periods = min watch.periods max_periods;
  waits = true;
  sent = 1;
  opening = 0;
  stage = NotYet;
}

-- a watch of its client for its name is not newer than its last one, or comes from another address
abbrev pub ignores : Watch → SocketAddr → Waiter → Bool
ignores watch from w = nat_le watch.ticket.number w.ticket.number || not ((address.ghosts).eq w.address from)

-- after a newer watch of its client for its name, which was answered: it keeps its place and its address. One that
-- withdraws it leaves it the periods that it had.
abbrev pub renewed : Watch → Waiter → Waiter
renewed watch w = record {
  ticket = record w.ticket { number = watch.ticket.number; fence = watch.ticket.fence; mode = watch.ticket.mode };
  address = w.address;
  periods = if nat_lt 0 watch.periods then min watch.periods max_periods else w.periods;
  waits = nat_lt 0 watch.periods;
  sent = 1;
  opening = w.opening;
  stage = w.stage;
}

-- it lives at least one period more, and at most 20, and at most four datagrams were sent for its last watch
pub record IsWaiter (w : Waiter) : Type 0 where
  pub lives : 1 ≤ w.periods
  pub expires : w.periods ≤ max_periods
  pub sent : w.sent ≤ max_sent
