-- What the roster tells is that of the list with the entry at its end. A window whose sets are all the same stays as it
-- is.
use Rattle.std.proofs.Common.{◌≡◌, ◌∙◌, ap}
use Rattle.lk_members.specs.Windows.{moved_unchanged}
use Rattle.lk_members.proofs.AlikeLaws.{passed_alike}
use Rattle.lk_members.proofs.WindowLaws.{unchanged-sums_up}
use Rattle.lk_members.proofs.roster.Roster.pass.Goals as goal

pub returns-then-is_alike-clause-next : goal.returns-then-is_alike-clause-next
returns-then-is_alike-clause-next c =
    let alike = c.is_alike.ensures c.if-is_alike.true in
    (λ i. record {
      executed = c.next-self-inside.ensures i;
      sets = (c.self.view_is i).sets;
      greatest = (c.self.view_is i).greatest;
      changed = (c.self.view_is i).changed;
    }) ∙ passed_alike c.args.self.now alike.0 alike.1

pub returns-then-is_alike-clause-sums : goal.returns-then-is_alike-clause-sums
returns-then-is_alike-clause-sums c =
    let alike = c.is_alike.ensures c.if-is_alike.true in
    λ genesis L entry e none.
    (λ i. record {
      executed = c.next-self-inside.ensures i;
      sets = (c.self.view_is i).sets;
      greatest = (c.self.view_is i).greatest;
      changed = (c.self.view_is i).changed;
    })
    ∙ passed_alike c.args.self.now alike.0 alike.1 ∙ ap moved_unchanged e
    ∙ unchanged-sums_up genesis L entry genesis.in_range.0 none

pub returns-clause-sums : goal.returns-clause-sums
returns-clause-sums c =
    let next : c.advance.new.self ≡ moved_unchanged c.args.self.now = cc in
    λ genesis L entry e none. next ∙ ap moved_unchanged e ∙ unchanged-sums_up genesis L entry genesis.in_range.0 none
