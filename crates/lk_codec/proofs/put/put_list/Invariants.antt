use Rattle.std.proofs.Common.{◌≡◌, ◌≤◌, ◌+◌, ◌*◌, ◌++◌, ◌∷◌, length, take}
use Rattle.std.specs.List.{flat_map}
use Rattle.lk_codec.specs.Fields.{member}
use Rattle.lk_codec.specs.Rooms.{member_room}
use Rattle.lk_codec.proofs.put.put_list.Given as goal

-- the count stands there, and the members so far
abbrev pub invariant-loop-member : goal.invariant-loop-member
invariant-loop-member l = record {
  so_far : l.out.items ≡ l.fn.out.items ++ (length l.list ∷ flat_map member (take l.member-index l.list));
  room : l.fn.out.spare ≤ l.out.spare + (1 + member_room * l.member-index);
}
