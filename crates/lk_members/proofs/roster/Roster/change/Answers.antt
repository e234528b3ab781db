-- What the roster tells is that of the list with the request at its end.
use Rattle.std.proofs.Common.{Option, Some, ap, sym}
use Rattle.lk_members.specs.Rosters.{Answer}
use Rattle.lk_members.proofs.WindowLaws.{change_answered, change_sums_up}
use Rattle.lk_members.proofs.roster.Roster.change.Goals as goal

abbrev some : Answer → Option Answer
some a = Some a

pub returns-in-Join-clause-answers : goal.returns-in-Join-clause-answers
returns-in-Join-clause-answers c =
    change_answered c.args.self.now c.args.op.now _ c.join.result c.in-Join.is (ap some (sym c.join.ensures.answer))

pub returns-in-Join-clause-sums : goal.returns-in-Join-clause-sums
returns-in-Join-clause-sums c =
    change_sums_up c.args.self.now c.join.new.self c.args.op.now _ c.in-Join.is c.join.ensures.next

pub returns-in-Leave-clause-answers : goal.returns-in-Leave-clause-answers
returns-in-Leave-clause-answers c =
    change_answered c.args.self.now c.args.op.now _ c.leave.result c.in-Leave.is (ap some (sym c.leave.ensures.answer))

pub returns-in-Leave-clause-sums : goal.returns-in-Leave-clause-sums
returns-in-Leave-clause-sums c =
    change_sums_up c.args.self.now c.leave.new.self c.args.op.now _ c.in-Leave.is c.leave.ensures.next
