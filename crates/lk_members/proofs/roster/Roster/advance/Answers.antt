-- The new set's members are at most the new greatest number, and the others stood so before.
use Rattle.std.proofs.Common.{◌≡◌, ◌+◌, ◌≤◌, ◌∙◌, ap, sym, arith}
use Rattle.lk_types.specs.Ranges.{IsTotal}
use Rattle.lk_members.specs.Windows.{RosterValue}
use Rattle.lk_members.proofs.SetLaws.{IsRoster-moved}
use Rattle.lk_members.proofs.roster.Roster.advance.Goals as goal

pub invariant_of-self : goal.invariant_of-self
invariant_of-self c =
    let before : RosterValue =
    record {
      executed = c.self.inside.executed;
      sets = c.self.inside.window;
      greatest = c.self.inside.greatest;
      changed = c.self.inside.changed;
    } in
    let greatest_is = ap (λ (v : RosterValue). v.greatest) c.self.view_is in
    let executed_is = ap (λ (v : RosterValue). v.executed) c.self.view_is in
    let rises : before.greatest ≤ c.args.greatest = omega (arith, greatest_is, c.requires.rises) in
    let next : c.next-self-inside.result ≡ before.executed + 1 = c.next-self-inside.ensures
    ∙ ap (λ n. n + 1) (sym executed_is) in
    let total : IsTotal c.next-self-inside.result = omega (arith, next, executed_is, c.requires.room) in
    rw c.advance.ensures
    (IsRoster-moved before c.next-self-inside.result c.args.greatest c.args.changed c.args.set c.self.invariant total
    c.facts_of.ensures c.requires.bound rises c.get.ensures.in_range c.get-2.ensures.in_range)
