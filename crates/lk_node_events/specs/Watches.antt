-- A turn of a watch: which events it puts into the rate limits, and which line is taken out of them.
use Rattle.std.specs.Prelude.{◌≡◌, ℕ, List, [], ◌∷◌, Option, Some, None, IsSomeAnd, slice_get, slice_set}
use Rattle.lk_node_events.specs.Kinds.{kind_of}
use Rattle.lk_node_events.specs.News.{Topic, topics, Gives, forgetting, story_with}
use Rattle.lk_node_events.specs.Timers.{TurnsQuiet, TurnsLag, TurnsDeaf}
use Rattle.lk_node_events.specs.RateLimits.{having_put, having_logged, IsLineOf}
use Rattle.lk_node_events.specs.declared.event.Event.{Event}
use Rattle.lk_node_events.specs.declared.rate_limit.Line.{Line}
use Rattle.lk_node_events.specs.declared.rate_limit.RateLimit.{RateLimit}
use Rattle.lk_node_events.specs.declared.story.Story.{Story}
use Rattle.lk_node_events.specs.declared.observation.Observation.{Observation}
use Rattle.lk_node_events.specs.declared.watch.Watch.{Watch}
use Rattle.lk_node_events.specs.Observations.{has_leader}

-- the event waits in the rate limit of its kind, and all other rate limits are as they were
pub record Puts (now : ℕ) (event : Event) (old new : List RateLimit) : Type 0 where
  pub rate_limit : RateLimit
  pub is : slice_get old (kind_of event) ≡ Some rate_limit
  pub becomes : new ≡ slice_set old (kind_of event) (having_put now event rate_limit)

-- the same if there is an event, and no change if there is none
abbrev pub PutsSome : ℕ → Option Event → List RateLimit → List RateLimit → Type 0
PutsSome now None old new = new ≡ old
PutsSome now (Some event) old new = Puts now event old new

-- the news of each of these topics, in order, is put into the rate limits
pub data PutsNews (now : ℕ) (story : Story) (seen : Observation) : List Topic → List RateLimit → List RateLimit
    → Type 0 where
  nothing : {rate_limits : List RateLimit} → PutsNews now story seen [] rate_limits rate_limits
  news : {topic : Topic} {rest : List Topic} (event : Option Event) {old mid new : List RateLimit}
      → Gives topic story seen event → PutsSome now event old mid
      → PutsNews now story seen rest mid new → PutsNews now story seen (topic ∷ rest) old new

-- the line is that of this kind's rate limit, in which nothing waits then, and all other rate limits are unchanged
pub record PopsDue (kind now : ℕ) (line : Line) (old new : List RateLimit) : Type 0 where
  pub rate_limit : RateLimit
  pub is : slice_get old kind ≡ Some rate_limit
  pub logged : IsLineOf rate_limit now line
  pub becomes : new ≡ slice_set old kind (having_logged now)

-- the first half of a turn: the events that depend on time are put into the rate limits
pub record TurnsTimes (now : ℕ) (seen : Observation) (old new : Watch) : Type 0 where
  pub leaderless : Option Event
  pub quiet : TurnsQuiet old.quiet now (has_leader seen) seen.is_member leaderless new.quiet
  pub behind : Option Event
  pub lag : TurnsLag old.lag now seen.wanted seen.executed behind new.lag
  pub unheard : Option Event
  pub deaf : TurnsDeaf old.deaf now seen unheard new.deaf
  pub one : List RateLimit
  pub two : List RateLimit
  pub first : PutsSome now leaderless old.rate_limits.all one
  pub second : PutsSome now behind one two
  pub third : PutsSome now unheard two new.rate_limits.all
  pub story : new.story ≡ forgetting leaderless old.story

-- a turn: the events that depend on time are put into the rate limits, and then the news of what is seen
pub record Turns (now : ℕ) (seen : Observation) (old new : Watch) : Type 0 where
  pub timed : Watch
  pub times : TurnsTimes now seen old timed
  pub news : PutsNews now timed.story seen (topics timed.story seen) timed.rate_limits.all new.rate_limits.all
  pub becomes : new ≡ record {
    story = story_with seen timed.story;
    quiet = timed.quiet;
    lag = timed.lag;
    deaf = timed.deaf;
    rate_limits = new.rate_limits;
  }

-- a watch, if there is one, takes such a turn; after it lines may be taken out of its rate limits
abbrev pub WatchesOn : Observation → Option Watch → Option Watch → Type 0
WatchesOn seen None new = new ≡ None
WatchesOn seen (Some old) new =
    (now : ℕ) × (mid : Watch) × Turns now seen old mid
    × IsSomeAnd new (λ watch. watch ≡ record mid { rate_limits = watch.rate_limits })
