use Rattle.std.proofs.Common.{◌≡◌, ◌≤◌, ◌+◌, ◌*◌, ◌++◌, ◌∷◌, length, take}
use Rattle.std.specs.List.{flat_map}
use Rattle.lk_codec.specs.Fields.{command}
use Rattle.lk_codec.specs.Rooms.{command_room}
use Rattle.lk_wire.proofs.writing.put_commands.Given as goal

-- the count stands there, and the commands so far
abbrev pub invariant-loop-command : goal.invariant-loop-command
invariant-loop-command l = record {
  so_far : l.out.items ≡ l.fn.out.items ++ (length l.list ∷ flat_map command (take l.command-index l.list));
  room : l.fn.out.spare ≤ l.out.spare + (1 + command_room * l.command-index);
}
