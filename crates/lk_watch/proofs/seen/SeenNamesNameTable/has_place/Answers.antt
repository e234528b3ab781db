use Rattle.std.proofs.Common.{rules, ◌≡◌, ◌∙◌}
use Rattle.lk_watch.specs.Seen.{some_open}
use Rattle.lk_watch.proofs.SeenLaws.{none_open}
use Rattle.lk_watch.proofs.seen.SeenNamesNameTable.has_place.Goals as goal

pub returns : goal.returns
returns c = λ none.
    let is : some_open c.args.self.now ≡ c.some_open.result = search rules in
    none_open c.args.self.now (is ∙ none)
