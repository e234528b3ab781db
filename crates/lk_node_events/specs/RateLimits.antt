-- The rate limit of one kind of events: what waits to be logged, and when it may be.
use Rattle.std.specs.Prelude.{◌≡◌, ◌+◌, ◌⊎◌, ℕ, nat_lt, nat_le, ◌||◌, Bool, true, false, Option, Some, None, min}
use Rattle.lk_node_events.specs.declared.event.Event.{Event}
use Rattle.lk_node_events.specs.declared.rate_limit.Line.{Line}
use Rattle.lk_node_events.specs.declared.rate_limit.RateLimit.{RateLimit}

-- a line may be logged now: there was none, a second has passed since, or the clock was set back
abbrev pub is_due : Option ℕ → ℕ → Bool
is_due None now = true
is_due (Some logged) now = nat_lt now logged || nat_le (logged + 1000) now

-- one more is counted, as far as a number of 64 bits goes
abbrev pub one_more : ℕ → ℕ
one_more n = min (n + 1) 18446744073709551615

-- how many events the newest one has replaced since the last line, once there is one more
abbrev pub others_with : Option (ℕ × Event) → ℕ → ℕ
others_with None others = others
others_with (Some waiting) others = one_more others

-- nothing has happened
abbrev pub empty : RateLimit
empty = record { newest = None; others = 0; logged = None }

-- after one event more, which is the newest then
abbrev pub having_put : ℕ → Event → RateLimit → RateLimit
having_put now event rate_limit =
    record {
      newest = Some (now, event);
      others = others_with rate_limit.newest rate_limit.others;
      logged =
          rate_limit.logged;
    }

-- after its line was logged: nothing waits
abbrev pub having_logged : ℕ → RateLimit
having_logged now = record { newest = None; others = 0; logged = Some now }

-- the line is that of the newest event of the rate limit, and of how many others there were, and may be logged now
pub record IsLineOf (rate_limit : RateLimit) (now : ℕ) (line : Line) : Type 0 where
  pub due : is_due rate_limit.logged now ≡ true
  pub newest : rate_limit.newest ≡ Some (line.time, line.event)
  pub others : line.others ≡ rate_limit.others

-- nothing waits, or no line may be logged yet
abbrev pub Waits : RateLimit → ℕ → Type 0
Waits rate_limit now = (rate_limit.newest ≡ None) ⊎ (is_due rate_limit.logged now ≡ false)
