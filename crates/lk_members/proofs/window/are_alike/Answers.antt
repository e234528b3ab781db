-- One more set is the last one.
use Rattle.std.proofs.Common.{◌≡◌, ◌∙◌, ◌-◌, ◌<◌, List, [], length, sym, arith}
use Rattle.std.proofs.lemmas.List.{get_or_read}
use borrow.Author.Count.{below_more}
use Rattle.lk_members.specs.Rosters.{Member}
use Rattle.lk_members.proofs.window.are_alike.Goals as goal

pub loop-each-preserved : goal.loop-each-preserved
loop-each-preserved c =
    let sets : List (List Member) = c.args.sets.now in
    let same : c.each.inside.set ≡ c.newest.inside.set = c.are_same.ensures c.if-not-are_same.false in
    let lt : c.loop-each.each-index < length sets = omega arith in
    let last : length sets - 1 < length sets = omega (arith, lt) in
    below_more _ _ c.loop-each.invariant
    (sym (get_or_read sets c.loop-each.each-index c.each-item.result lt c.each-item.is [])
    ∙ sym c.each.view_is ∙ same ∙ c.newest.view_is
    ∙ get_or_read sets (length sets - 1) c.index-sets-sets.result last c.index-sets-sets.is [])
