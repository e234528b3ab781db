-- One of the sets names the nodes that all of them name.
use Rattle.std.proofs.Common.{◌∙◌, ap, sym}
use Rattle.lk_members.specs.Rosters.{is_member}
use Rattle.lk_members.proofs.AlikeLaws.{named_alike}
use Rattle.lk_members.proofs.window.Window.is_named.Goals as goal

pub returns-then-is_alike : goal.returns-then-is_alike
returns-then-is_alike c =
    let alike = c.is_alike.ensures c.if-is_alike.true in
    c.is_member.ensures ∙ ap (is_member c.args.node) c.newest.ensures
    ∙ sym (named_alike c.args.node c.args.self.now alike.0 alike.1)
