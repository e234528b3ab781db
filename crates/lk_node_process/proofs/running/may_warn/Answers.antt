use Rattle.std.proofs.Common.{◌≡◌, ◌<◌, None, rules, arith, sym, ◌∙◌, leb-false}
use Rattle.lk_node_process.proofs.running.may_warn.Goals as goal

pub returns-then-is_none : goal.returns-then-is_none
returns-then-is_none g c = λ no status told port due.
    let none : c.args.reminder.now.unreached ≡ None = search rules in
    let both = sym due.unreached ∙ none in cc both

pub returns : goal.returns
returns g c = λ no status told port due.
    let early : c.count_periods.result < c.args.reminder.now.due =
    leb-false c.args.reminder.now.due c.count_periods.result no in
    omega (arith, early, due.minute, told.2.ticks, c.count_periods.ensures)
