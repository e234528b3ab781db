use Rattle.std.proofs.Common.{◌≡◌, ◌++◌, length, take}
use Rattle.std.specs.List.{flat_map}
use Rattle.lk_codec.specs.Fields.{two, vote}
use Rattle.lk_store_format.proofs.writing.put_votes.Given as goal

abbrev pub invariant-loop-vote : goal.invariant-loop-vote
invariant-loop-vote l =
    l.out.items ≡ l.fn.out.items ++ (two (length l.list) ++ flat_map vote (take l.vote-index l.list))
