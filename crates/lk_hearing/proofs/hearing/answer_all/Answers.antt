use Rattle.std.proofs.Common.{get_or, arith}
use Rattle.std.proofs.lemmas.List.{get_or_default}
use Rattle.std.proofs.lemmas.List.Edits.{map_over_more}
use Rattle.lk_hearing.specs.Probes.{answered_at}
use Rattle.lk_hearing.proofs.hearing.answer_all.Goals as goal

pub loop-entry-preserved : goal.loop-entry-preserved
loop-entry-preserved c =
    let entries = c.loop-entry.entries in
    let index = c.loop-entry.entry-index in
    let item = get_or entries index c.entry-item.result in
    rw c.answered_at.ensures
    (map_over_more (answered_at c.args.reply.now c.args.now) c.args.entries.now entries index item
    c.loop-entry-test.true c.loop-entry.invariant (get_or_default entries index c.entry-item.result item (omega arith)))
