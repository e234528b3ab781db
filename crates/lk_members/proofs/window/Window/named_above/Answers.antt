-- One of the sets names the nodes that all of them name.
use Rattle.std.proofs.Common.{List, subst}
use Rattle.lk_members.specs.Rosters.{Member, is_member}
use Rattle.lk_members.specs.Ports.{IsNextAbove}
use Rattle.lk_members.proofs.AlikeLaws.{above_alike}
use Rattle.lk_members.proofs.window.Window.named_above.Goals as goal

pub returns-then-is_alike : goal.returns-then-is_alike
returns-then-is_alike c =
    let alike = c.is_alike.ensures c.if-is_alike.true in
    above_alike c.args.low c.args.self.now c.next_above.result alike.0 alike.1
    (subst (λ (s : List Member). IsNextAbove (λ k. is_member k s) c.args.low c.next_above.result) c.newest.ensures
    c.next_above.ensures)
