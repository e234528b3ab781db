use Rattle.std.proofs.Common.{◌≡◌, ◌*◌, length, arith}
use Rattle.hex.proofs.HexLemmas.{decode_of-ok}
use Rattle.lk_word_parsers.proofs.operation.read_hex.Goals as goal

pub returns-in_err-room-clause-none : goal.returns-in_err-room-clause-none
returns-in_err-room-clause-none c = λ none o asks.
    let twice : length c.args.digits.now ≡ 2 * length asks.0 = (decode_of-ok c.args.digits.now asks.0 asks.1).2 in
    grind (arith, twice, asks.2.1, c.in_err-room.ensures.lookup)
