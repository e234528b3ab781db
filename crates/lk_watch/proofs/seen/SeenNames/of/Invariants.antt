use Rattle.std.proofs.Common.{◌≡◌, take}
use Rattle.lk_watch.specs.Seen.{seen_in}
use Rattle.lk_watch.proofs.seen.SeenNames.of.Given as goal

-- those so far
abbrev pub invariant-loop-name : goal.invariant-loop-name
invariant-loop-name l = l.seen ≡ seen_in l.table (take l.name-index l.names)
