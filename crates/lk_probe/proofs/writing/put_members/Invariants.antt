use Rattle.std.proofs.Common.{◌≡◌, ◌+◌, ◌*◌, ◌++◌, ◌∷◌, length, take}
use Rattle.std.specs.List.{flat_map}
use Rattle.arrayvec.specs.ArrayVec.{array_vec_len}
use Rattle.lk_codec.specs.Fields.{member}
use Rattle.lk_probe.proofs.writing.put_members.Given as goal

-- the count stands there, and the members so far
abbrev pub invariant-loop-member : goal.invariant-loop-member
invariant-loop-member l = record {
  so_far : l.out.items ≡ l.fn.out.items ++ (length l.list ∷ flat_map member (take l.member-index l.list));
  len : array_vec_len l.out ≡ array_vec_len l.fn.out + 1 + 6 * l.member-index;
}
