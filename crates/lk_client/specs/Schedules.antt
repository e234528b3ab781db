-- When a client that waits for a lock asks again, and when it sends its next watch. All times are microseconds of one
-- clock, whose greatest reading stands for never.
use Rattle.std.specs.Prelude.{◌≡◌, ◌≤◌, ◌+◌, ◌*◌, ◌==◌, ◌&&◌, min, nat_lt, ℕ, Bool, true, false, Option, None, Some}
use Rattle.std.specs.Prelude.{if◌then◌else◌}
use Rattle.lk_watch.specs.declared.notice.News.{News}
use Rattle.lk_watch.specs.declared.notice.News.TheVariants.{Free, Held, NotHere}
use Rattle.lk_client.specs.declared.schedule.Schedule.{Schedule}

-- so many microseconds after that
abbrev pub after : ℕ → ℕ → ℕ
after now micros = min (now + micros) 18446744073709551615

-- one more, of a count that stops at the greatest
abbrev pub one_more : ℕ → ℕ
one_more n = min (n + 1) 4294967295

-- the milliseconds between two requests, after the lock was found held so often in turn at one fence
abbrev pub interval : ℕ → ℕ
interval count =
    if nat_lt count 2 then 50
    else if nat_lt count 3 then 100
    else if nat_lt count 4 then 200
    else if nat_lt count 5 then 400
    else if nat_lt count 35 then 800
    else if nat_lt count 36 then 1600
    else 3200

-- the time is so many milliseconds after that, times 0.75 to 1.25
abbrev pub IsScattered : ℕ → ℕ → ℕ → Type 0
IsScattered now millis t = (after now (millis * 750) ≤ t) × (t ≤ after now (millis * 1250))

-- it is that fence
abbrev pub is_at : Option ℕ → ℕ → Bool
is_at None fence = false
is_at (Some last) fence = last == fence

-- the lock was found held at this fence: how often in turn, and how often although a node had said that it is free
abbrev pub counted : ℕ → Schedule → Schedule
counted fence s = record s {
  fence = Some fence;
  count = one_more (if is_at s.fence fence then s.count else 0);
  misled = if is_at s.fence fence then (if s.is_told then one_more s.misled else s.misled) else 0;
  is_told = false;
}

-- and then the client watches at once, and asks again after a while, or after a minute if a node keeps a place for it
pub record FollowsBusy (fence now : ℕ) (old new : Schedule) : Type 0 where
  pub same : new ≡ record (counted fence old) {
    without_place = new.without_place;
    with_place = new.with_place;
    watch_at = now;
  }
  pub without_place : IsScattered now (interval (counted fence old).count) new.without_place
  pub with_place : IsScattered now 60000 new.with_place

-- it is the node that keeps a place
abbrev pub is_keeper : Option ℕ → ℕ → Bool
is_keeper None node = false
is_keeper (Some keeper) node = keeper == node

-- a node keeps a place for the client, which is believed for 1.7 seconds, or keeps none any more
abbrev pub kept_by : ℕ → Bool → ℕ → Schedule → Schedule
kept_by node true now s = record s { keeper = Some node; kept_until = after now 1700000 }
kept_by node false now s = record s { kept_until = if is_keeper s.keeper node then 0 else s.kept_until }

-- a node keeps a place if it says that the lock is held, and which place that is
abbrev pub has_place : News → ℕ → Bool
has_place Held place = nat_lt 0 place
has_place Free place = false
has_place NotHere place = false

-- notices are followed unless two in turn were wrong at this fence
abbrev pub is_free : News → Schedule → Bool
is_free Free s = nat_lt s.misled 2
is_free Held s = false
is_free NotHere s = false

abbrev pub told : ℕ → News → ℕ → ℕ → Schedule → Schedule
told node news place now s = record (kept_by node (has_place news place) now s) { is_told = is_free news s }

-- a node keeps a place for the client now
abbrev pub is_kept : ℕ → Schedule → Bool
is_kept now s = nat_lt now s.kept_until && nat_lt s.misled 2

-- when the client asks again, unless a node says something
abbrev pub due : ℕ → Schedule → ℕ
due now s = if is_kept now s then s.with_place else s.without_place

-- when it next has to do something: to ask, to watch, or to believe no more that a node keeps its place
abbrev pub next_event : ℕ → Schedule → ℕ
next_event now s =
    if is_kept now s then min (min (due now s) s.watch_at) s.kept_until else min (due now s) s.watch_at
