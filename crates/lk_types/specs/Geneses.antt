-- The ranges of a genesis' parts.
use Rattle.std.specs.Prelude.{◌<◌, ◌^◌}
use Rattle.std.specs.List.{AllByRecursion}
use Rattle.lk_types.specs.Ranges.{IsAlpha}
use Rattle.lk_types.specs.Rosters.{IsMember, AreMembers}
use Rattle.lk_types.specs.declared.genesis.Genesis.{Genesis}

-- a cluster of 64 bits, alpha 1 to 64, and 1 to 7 members, each in its range, rising by node
abbrev pub IsGenesis : Genesis → Type 0
IsGenesis g = (g.cluster < 2 ^ 64) × IsAlpha g.alpha × AreMembers g.members × AllByRecursion IsMember g.members
