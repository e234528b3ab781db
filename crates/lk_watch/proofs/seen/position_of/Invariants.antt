use Rattle.std.proofs.Common.{◌≡◌, ◌+◌, drop}
use Rattle.std.specs.List.{position_or_len}
use Rattle.lk_watch.specs.Seen.{is_seen}
use Rattle.lk_watch.proofs.seen.position_of.Given as goal

-- none so far is of that name
abbrev pub invariant-loop-seen : goal.invariant-loop-seen
invariant-loop-seen l =
    (l.at ≡ l.seen-index) × (position_or_len (is_seen l.name) l.names
    ≡ l.at + position_or_len (is_seen l.name) (drop l.seen-index l.names))
