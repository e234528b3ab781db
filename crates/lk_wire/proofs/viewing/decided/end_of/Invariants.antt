-- Some commands were passed; with those still to be read they are what all is.
use Rattle.std.proofs.Common.{◌≡◌, ◌-◌, List}
use Rattle.lk_types.specs.declared.command.Command.{Command}
use Rattle.lk_codec.specs.FieldReading.{read_command}
use Rattle.lk_codec.specs.Parser.{many}
use Rattle.lk_codec.proofs.Spellings.{with_front}
use Rattle.lk_wire.proofs.viewing.decided.end_of.Given as goal

abbrev pub invariant-loop : goal.invariant-loop
invariant-loop l = (front : List Command)
    × (with_front front (many read_command (l.count - l.counter) l.rest) ≡ many read_command l.count l.bytes)
