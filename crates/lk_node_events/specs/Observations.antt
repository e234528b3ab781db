-- What follows from an observation: whether somebody leads, why a node no longer does, and whose state differs.
use Rattle.std.specs.Prelude.{ℕ, Bool, ◌||◌, Option, Some, None, is_some, if◌then◌else◌}
use Rattle.lk_probe.specs.StateDigests.{do_differ}
use Rattle.lk_probe.specs.declared.state_digest.StateDigest.{StateDigest}
use Rattle.lk_types.specs.BallotValue.{BallotValue}
use Rattle.lk_types.specs.Ballots.{is_below}
use Rattle.lk_node_events.specs.declared.event.Why.{Why}
use Rattle.lk_node_events.specs.declared.event.Why.TheVariants.{Promised, NoMember, HeardGreater}
use Rattle.lk_node_events.specs.declared.observation.Observation.{Observation}

-- why a node no longer leads in this ballot: it is no member, or else it has promised a greater ballot, or else it has
-- heard of one
abbrev pub why_of : Observation → BallotValue → Why
why_of seen ballot =
    if seen.is_member then
    (if is_below ballot seen.promised then Promised seen.promised.node else HeardGreater) else NoMember

-- somebody leads, as far as the node knows
abbrev pub has_leader : Observation → Bool
has_leader seen = is_some seen.leads || is_some seen.follows

-- the node that told a digest, and its position, if the node has another digest of that position
abbrev pub apart_by : StateDigest → Option (ℕ × StateDigest) → Option (ℕ × ℕ)
apart_by own None = None
apart_by own (Some told) = if do_differ own told.1 then Some (told.0, told.1.position) else None

abbrev pub apart_in : Observation → Option (ℕ × ℕ)
apart_in seen = apart_by seen.state seen.told
