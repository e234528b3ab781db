use Rattle.std.proofs.Common.{rules, ◌≡◌, ◌∙◌, false, sym}
use Rattle.lk_watch.specs.Seen.{holds_some}
use Rattle.lk_watch.proofs.SeenLaws.{held_by_none}
use Rattle.lk_watch.proofs.seen.SeenNamesNameTable.holds.Goals as goal

pub returns-then-not-holds_some : goal.returns-then-not-holds_some
returns-then-not-holds_some c =
    let is : holds_some c.args.client c.args.self.now ≡ c.holds_some.result = search rules in
    let none : c.holds_some.result ≡ false = cc c.if-not-holds_some.true in
    sym (held_by_none c.args.client c.args.self.now c.args.name.now (is ∙ none))
