-- What stands before anything is run.
use Rattle.std.proofs.Common.{◌≡◌, ◌<◌, ◌∙◌, true, length, ap, sym, arith}
use Rattle.lk_members.specs.Sets.{are_at_most}
use Rattle.lk_members.proofs.WindowLaws.{are_at_most-begin, length-sets_from, roster_after-begin}
use Rattle.lk_members.proofs.roster.Roster.begin.Goals as goal

pub unwrap-requires : goal.unwrap-requires
unwrap-requires c =
    let many = ap length c.first_window-window.ensures
    ∙ length-sets_from c.args.genesis.now _ 1 c.args.genesis.now.alpha in
    let some : 0 < length c.first_window-window.result = omega (arith, many, c.args.genesis.now.in_range.0) in
    let bound : are_at_most c.greatest_of-greatest.result c.first_window-window.result ≡ true =
    rw (c.first_window-window.ensures, c.greatest_of-greatest.ensures)
    (are_at_most-begin c.args.genesis.now 1 c.args.genesis.now.alpha) in
    c.of.ensures.some.1 (some, bound)

pub returns : goal.returns
returns c =
    let is = rw c.unwrap.ensures at c.of.ensures.value in
    is ∙ rw (c.first_window-window.ensures, c.greatest_of-greatest.ensures, c.default.ensures, c.default-2.ensures)
    (sym (roster_after-begin c.args.genesis.now))
