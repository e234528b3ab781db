-- Events that depend on how long something lasts: no leader, being behind, and hearing no majority from the start on.
use Rattle.std.specs.Prelude.{◌≡◌, ◌≤◌, ◌<◌, ◌+◌, ◌*◌, ◌⊎◌, ℕ, Bool, true, false, Option, Some, None, IfSome, IsSome}
use Rattle.std.specs.Prelude.{IsNone, ◌||◌, not, is_some}
use Rattle.lk_node_events.specs.declared.event.Event.{Event}
use Rattle.lk_node_events.specs.declared.event.Event.TheVariants.{Leaderless, Outside, Behind, CaughtUp, Deaf}
use Rattle.lk_node_events.specs.declared.timers.LeaderlessTimer.{LeaderlessTimer}
use Rattle.lk_node_events.specs.declared.timers.BehindTimer.{BehindTimer}
use Rattle.lk_node_events.specs.declared.timers.DeafTimer.{DeafTimer}
use Rattle.lk_node_events.specs.declared.observation.Observation.{Observation}

-- that time, or this one where there was none
abbrev pub first_time : Option ℕ → ℕ → ℕ
first_time None now = now
first_time (Some time) now = time

-- when it first asked: now, where it has not asked before
abbrev pub first_asked : Option (ℕ × ℕ) → ℕ → ℕ
first_asked None now = now
first_asked (Some asked) now = asked.0

-- there has been no leader for so many whole seconds: at least two, and at least twice those reported last
pub record IsQuiet (quiet : LeaderlessTimer) (now seconds : ℕ) : Type 0 where
  pub since : ℕ
  pub is_since : quiet.since ≡ Some since
  pub elapsed : since + seconds * 1000 ≤ now
  pub whole : now < since + (seconds + 1) * 1000
  pub long : 2 ≤ seconds
  pub doubled : 2 * quiet.logged ≤ seconds

-- what is told of a node that has had no leader for so many seconds: of a member that it has none, and of another node
-- that it is no member
abbrev pub quiet_event : Bool → ℕ → Event
quiet_event true seconds = Leaderless seconds
quiet_event false seconds = Outside seconds

abbrev pub IsQuietNews : LeaderlessTimer → ℕ → Bool → Event → Type 0
IsQuietNews quiet now is_member event =
    (seconds : ℕ) × (event ≡ quiet_event is_member seconds) × IsQuiet quiet now seconds

-- what a turn of a member or of another node brings, with or without a leader, and what is known of it then
pub record TurnsQuiet (old : LeaderlessTimer) (now : ℕ) (has_leader is_member : Bool) (news : Option Event)
    (new : LeaderlessTimer) : Type 0 where
  pub some : IfSome news (λ e. (has_leader ≡ false) × IsQuietNews old now is_member e)
  pub none : IsNone news → (has_leader ≡ true) ⊎ ((e : Event) → IsQuietNews old now is_member e → ⊥)
  pub leader : has_leader ≡ true → new ≡ record { since = None; logged = 0 }
  pub since : has_leader ≡ false → new.since ≡ Some (first_time old.since now)
  pub logged : IfSome news (λ e. e ≡ quiet_event is_member new.logged)
  pub kept : has_leader ≡ false → IsNone news → new.logged ≡ old.logged

-- it has been asking for a second, and that is not yet reported
pub record IsBehind (lag : BehindTimer) (now : ℕ) : Type 0 where
  pub first : ℕ
  pub last : ℕ
  pub asked : lag.asked ≡ Some (first, last)
  pub long : first + 1000 ≤ now
  pub unlogged : lag.logged ≡ false

-- it has asked nobody for a second, or the clock was set back
pub record IsOver (lag : BehindTimer) (now : ℕ) : Type 0 where
  pub first : ℕ
  pub last : ℕ
  pub asked : lag.asked ≡ Some (first, last)
  pub long : (last + 1000 ≤ now) ⊎ (now < last)

-- the same, and it was reported to be behind
pub record HasRested (lag : BehindTimer) (now : ℕ) : Type 0 where
  pub over : IsOver lag now
  pub logged : lag.logged ≡ true

-- the event that is due after a turn in which it asked that node, or nobody
abbrev pub IsLagNews : BehindTimer → ℕ → Option ℕ → ℕ → Event → Type 0
IsLagNews lag now (Some node) executed event = (event ≡ Behind node) × IsBehind lag now
IsLagNews lag now None executed event = (event ≡ CaughtUp executed) × HasRested lag now

-- it has asked nothing
abbrev pub no_lag : BehindTimer
no_lag = record { asked = None; logged = false }

-- what is known after a turn in which it asked: when that began, and what was reported
pub record HasAsked (old : BehindTimer) (now : ℕ) (news : Option Event) (new : BehindTimer) : Type 0 where
  pub asked : new.asked ≡ Some (first_asked old.asked now, now)
  pub logged : IsSome news → new.logged ≡ true
  pub kept : IsNone news → new.logged ≡ old.logged

-- it has asked nobody: what is over is forgotten, and nothing else
pub record HasPaused (old : BehindTimer) (now : ℕ) (new : BehindTimer) : Type 0 where
  pub over : IsOver old now → new ≡ no_lag
  pub kept : (IsOver old now → ⊥) → new ≡ old

-- what is known of it after a turn in which it asks that node, or nobody
abbrev pub BecomesLag : BehindTimer → ℕ → Option ℕ → Option Event → BehindTimer → Type 0
BecomesLag old now (Some node) news new = HasAsked old now news new
BecomesLag old now None news new = HasPaused old now new

-- the event that is due after such a turn, and what is known then
pub record TurnsLag (old : BehindTimer) (now : ℕ) (wanted : Option ℕ) (executed : ℕ) (news : Option Event)
    (new : BehindTimer) : Type 0 where
  pub some : IfSome news (IsLagNews old now wanted executed)
  pub none : IsNone news → (e : Event) → IsLagNews old now wanted executed e → ⊥
  pub becomes : BecomesLag old now wanted news new

-- it hears no majority, and has heard none since its first turn, two seconds ago or more, and that is not yet reported
pub record IsDeafNews (deaf : DeafTimer) (now : ℕ) (seen : Observation) (event : Event) : Type 0 where
  pub told : event ≡ Deaf seen.heard seen.members
  pub hears_none : seen.deaf ≡ true
  pub unlogged : deaf.is_over ≡ false
  pub since : ℕ
  pub is_since : deaf.since ≡ Some since
  pub long : since + 2000 ≤ now

-- what is known of it after a turn in which it hears a majority or not: that is over if it does, or if it is reported
pub record BecomesDeaf (old : DeafTimer) (now : ℕ) (is_deaf : Bool) (news : Option Event) (new : DeafTimer) : Type 0
  where
    pub over : new.is_over ≡ ((old.is_over || not is_deaf) || is_some news)
    pub since : new.is_over ≡ false → new.since ≡ Some (first_time old.since now)

-- the event that is due after such a turn, and what is known then
pub record TurnsDeaf (old : DeafTimer) (now : ℕ) (seen : Observation) (news : Option Event) (new : DeafTimer) : Type 0
  where
    pub some : IfSome news (IsDeafNews old now seen)
    pub none : IsNone news → (e : Event) → IsDeafNews old now seen e → ⊥
    pub becomes : BecomesDeaf old now seen.deaf news new
