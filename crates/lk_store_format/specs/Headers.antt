-- The valid headers: the range of each part.
use Rattle.std.specs.Prelude.{◌<◌, ◌^◌}
use Rattle.std.specs.List.{AllByRecursion}
use Rattle.lk_types.specs.Ranges.{IsNode, IsAlpha}
use Rattle.lk_types.specs.Rosters.{IsMember, AreMembers}
use Rattle.lk_store_format.specs.Values.{HeaderValue}

abbrev pub IsHeader : HeaderValue → Type 0
IsHeader h =
    (h.cluster < 2 ^ 64) × IsNode h.node × IsAlpha h.alpha × AllByRecursion IsMember h.members × AreMembers h.members
