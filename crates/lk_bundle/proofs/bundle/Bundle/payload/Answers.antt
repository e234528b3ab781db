use Rattle.std.proofs.Common.{ap, ◌∙◌, length, drop, arith}
use Rattle.lk_bundle.specs.Bundles.{payload}
use Rattle.lk_bundle.proofs.PieceLaws.{sent_bare, long_enough}
use Rattle.lk_bundle.proofs.bundle.Bundle.payload.Goals as goal

pub split_at-requires : goal.split_at-requires
split_at-requires c =
    omega (
      arith,
      long_enough c.self.inside.count c.self.inside.bytes.items c.self.invariant c.if-self-eq1.true,
      ap length c.as_slice.ensures.value,
    )

pub returns-then-self-eq1 : goal.returns-then-self-eq1
returns-then-self-eq1 c =
    c.split_at.ensures.back ∙ ap (drop 6) c.as_slice.ensures.value
    ∙ sent_bare c.self.inside.count c.self.inside.bytes.items c.self.invariant c.if-self-eq1.true
    ∙ ap payload c.self.view_is
