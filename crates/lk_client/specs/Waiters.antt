-- What a client that waits keeps while it asks, listens and pauses.
use Rattle.std.specs.Net.Socket.{socket_port}
use Rattle.std.specs.Prelude.{◌≡◌, ◌⊎◌, ◌+◌, ℕ, Bool, true, Option, None, Some, nat_lt, length, slice_get}
use Rattle.std.specs.Prelude.{if◌then◌else◌}
use Rattle.std.specs.declared.net.socket_addr.SocketAddr.{SocketAddr}
use Rattle.lk_watch.specs.declared.notice.News.{News}
use Rattle.lk_watch.specs.declared.notice.News.TheVariants.{Free, Held, NotHere}
use Rattle.lk_watch.specs.declared.notice.Notice.{Notice}
use Rattle.lk_client.specs.Questions.{IsAt}
use Rattle.lk_client.specs.Schedules.{told}
use Rattle.lk_client.specs.Waits.{WatchesFor}
use Rattle.lk_client.specs.Watches.{news_to}
use Rattle.lk_client.specs.declared.destination.Place.{Place}
use Rattle.lk_client.specs.declared.question.Question.{Question}
use Rattle.lk_client.specs.declared.attempts.Step.{Step}
use Rattle.lk_client.specs.declared.attempts.Step.TheVariants.{Again, Over}
use Rattle.lk_client.specs.declared.waiter.Waiter.{Waiter}

-- it has sent no watch meanwhile, and watches or not as before
abbrev pub KeepsOn : Waiter → Waiter → Type 0
KeepsOn old new = (new.watcher.watch ≡ old.watcher.watch) × (new.is_watching ≡ old.is_watching)

-- its watches are those of the question, and it watches or not
abbrev pub StaysAt : Question → Bool → Waiter → Type 0
StaysAt q is_watching w = WatchesFor q w.watcher.watch × (w.is_watching ≡ is_watching)

-- the same after a request: if it asks again, under the next number, it watches
abbrev pub StaysAfter : Question → Step → Waiter → Type 0
StaysAfter q (Again number) w = (number ≡ q.request.number + 1) × StaysAt q true w
StaysAfter q (Over told) w = WatchesFor q w.watcher.watch

-- ---- whom it asks next

-- the index of the next of so many places: after the last one the first
abbrev pub next_turn : ℕ → ℕ → ℕ
next_turn turn count = if nat_lt (turn + 1) count then turn + 1 else 0

abbrev pub or_same : Option Place → Place → Place
or_same None place = place
or_same (Some other) place = other

-- the next place in turn
abbrev pub turned : Waiter → Waiter
turned w = record w {
  turn = next_turn w.turn (length w.places.items);
  asked = or_same (slice_get w.places.items (next_turn w.turn (length w.places.items))) w.asked;
}

-- a source of datagrams, unless that is port 0
abbrev pub GoesTo : SocketAddr → Place → Place → Type 0
GoesTo source old new = IsAt (new.address, new.port) source ⊎ ((socket_port source ≡ 0) × (new ≡ old))

-- the source of these news, if its node leads
abbrev pub GoesAfter : News → SocketAddr → Place → Place → Type 0
GoesAfter Free source old new = GoesTo source old new
GoesAfter Held source old new = GoesTo source old new
GoesAfter NotHere source old new = new ≡ old

-- a notice from there: what it says to the client changes whom it asks next, and when
pub record Notes (n : Notice) (source : SocketAddr) (now : ℕ) (old new : Waiter) : Type 0 where
  pub is_early : Bool
  pub asked : GoesAfter (news_to is_early n) source old.asked new.asked
  pub schedule : new.schedule ≡ told n.node (news_to is_early n) n.place now old.schedule
