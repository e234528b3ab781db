use Rattle.std.proofs.Common.{◌≡◌, ◌≤◌, ◌+◌, ◌*◌, ◌++◌, ◌∷◌, length, take}
use Rattle.std.specs.List.{flat_map}
use Rattle.lk_codec.specs.Fields.{vote}
use Rattle.lk_codec.specs.Rooms.{vote_room}
use Rattle.lk_wire.proofs.writing.put_votes.Given as goal

-- the count stands there, and the votes so far
abbrev pub invariant-loop-vote : goal.invariant-loop-vote
invariant-loop-vote l = record {
  so_far : l.out.items ≡ l.fn.out.items ++ (length l.list ∷ flat_map vote (take l.vote-index l.list));
  room : l.fn.out.spare ≤ l.out.spare + (1 + vote_room * l.vote-index);
}
