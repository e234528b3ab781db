use Rattle.std.proofs.Common.{refl, rules}
use Rattle.lk_summed_disk.proofs.ParseLaws.{plain_parsed, plain_place_as, says_plain}
use Rattle.lk_summed_disk.proofs.parsing.parse_plain.Goals as goal

pub returns-clause-parsed : goal.returns-clause-parsed
returns-clause-parsed c side =
    record {
      text_is = plain_parsed side c.args.bytes.now c.requires.0 c.in_ok-text.text.items (search rules) c.requires.1;
      holds = plain_place_as side c.args.bytes.now c.requires.0 _ c.requires.1 refl refl refl;
    }

pub returns-clause-sums : goal.returns-clause-sums
returns-clause-sums c side = says_plain side c.args.bytes.now c.requires.0 c.requires.1
