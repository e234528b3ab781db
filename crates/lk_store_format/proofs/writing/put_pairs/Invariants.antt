use Rattle.std.proofs.Common.{◌≡◌, ◌++◌, length, take}
use Rattle.std.specs.List.{flat_map}
use Rattle.lk_codec.specs.Fields.{two, pair}
use Rattle.lk_store_format.proofs.writing.put_pairs.Given as goal

abbrev pub invariant-loop-position : goal.invariant-loop-position
invariant-loop-position l =
    l.out.items ≡ l.fn.out.items ++ (two (length l.list) ++ flat_map pair (take l.position-index l.list))
