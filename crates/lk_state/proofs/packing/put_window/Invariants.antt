-- The count stands there, and the sets so far.
use Rattle.std.proofs.Common.{◌≡◌, ◌++◌, length, take}
use Rattle.std.specs.List.{flat_map}
use Rattle.lk_codec.specs.Fields.{one, members}
use Rattle.lk_state.proofs.packing.put_window.Given as goal

abbrev pub invariant-loop-each : goal.invariant-loop-each
invariant-loop-each l =
    l.out.items ≡ l.fn.out.items ++ (one (length l.sets) ++ flat_map members (take l.each-index l.sets))
