use Rattle.std.proofs.Common.{◌∙◌, refl}
use Rattle.lk_summed_disk.proofs.ParseLaws.{wrong_magic, differs_from_magic, short_magic, torn_magic, torn_magic_text}
use Rattle.lk_summed_disk.proofs.ParseLaws.{says_short}
use Rattle.lk_summed_disk.proofs.parsing.parse_marked.Goals as goal

pub returns-then-ne-clause-damaged : goal.returns-then-ne-clause-damaged
returns-then-ne-clause-damaged c = (
  refl,
  wrong_magic c.args.side c.args.bytes.now c.requires.some c.requires.marked
      (differs_from_magic c.args.side c.args.bytes.now c.magic-magic.result c.min-count.result c.ne.result
      c.magic-magic.ensures c.min-count.ensures c.ne.ensures c.if-ne.true),
)

pub returns-clause-parsed : goal.returns-clause-parsed
returns-clause-parsed c =
    let front = short_magic c.args.side c.args.bytes.now c.magic-magic.result c.min-count.result c.ne.result
    c.magic-magic.ensures c.min-count.ensures c.ne.ensures c.if-ne.false c.if-count-eq-MAGIC_LENGTH.false in
    record {
      text_is = c.new.ensures.items ∙ torn_magic_text c.args.side c.args.bytes.now front;
      holds = torn_magic c.args.side c.args.bytes.now _ front refl refl refl refl;
    }

pub returns-clause-sums : goal.returns-clause-sums
returns-clause-sums c =
    says_short c.args.side c.args.bytes.now c.min-count.result c.min-count.ensures c.if-count-eq-MAGIC_LENGTH.false
