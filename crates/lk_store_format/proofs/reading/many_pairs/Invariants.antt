use Rattle.std.proofs.Common.{◌≡◌, ◌-◌}
use Rattle.lk_codec.specs.FieldReading.{read_pair}
use Rattle.lk_codec.specs.Parser.{many}
use Rattle.lk_codec.proofs.Spellings.{with_front}
use Rattle.lk_store_format.proofs.reading.many_pairs.Given as goal

abbrev pub invariant-loop : goal.invariant-loop
invariant-loop l =
    with_front l.pairs.items (many read_pair (l.count - l.counter) l.rest) ≡ many read_pair l.count l.bytes
