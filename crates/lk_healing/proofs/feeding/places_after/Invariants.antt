use Rattle.std.proofs.Common.{◌≡◌, ◌⊎◌, ◌-◌, ◌≤◌, length}
use Rattle.lk_healing.specs.Feeds.{places_from}
use Rattle.lk_healing.proofs.feeding.places_after.Given as goal

abbrev pub invariant-places : goal.invariant-places
invariant-places l = (l.places.items ≡ places_from l.fn.count (l.i - l.fn.count))
    × ((l.i ≡ l.fn.count) ⊎ (l.i ≤ length l.sent))
