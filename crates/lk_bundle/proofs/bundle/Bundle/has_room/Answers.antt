use Rattle.std.proofs.Common.{◌≡◌, length, ap, ◌∙◌, arith}
use Rattle.std.proofs.lemmas.Grind.{common_steps}
use Rattle.lk_bundle.specs.Bundles.{bundle}
use Rattle.lk_bundle.proofs.PieceLaws.{length-more}
use Rattle.lk_bundle.proofs.bundle.Bundle.has_room.Goals as goal

pub returns-then-left-ge-MARK : goal.returns-then-left-ge-MARK
returns-then-left-ge-MARK c =
    let long : length c.self.inside.bytes.items ≡ length (bundle c.args.self.now) =
    ap length c.self.invariant.is ∙ ap (λ ds. length (bundle ds)) c.self.view_is in
    grind (arith, common_steps, length-more c.args.self.now c.args.datagram.now, long)

pub returns-else-left-ge-MARK : goal.returns-else-left-ge-MARK
returns-else-left-ge-MARK c =
    let long : length c.self.inside.bytes.items ≡ length (bundle c.args.self.now) =
    ap length c.self.invariant.is ∙ ap (λ ds. length (bundle ds)) c.self.view_is in
    grind (arith, common_steps, length-more c.args.self.now c.args.datagram.now, long)
