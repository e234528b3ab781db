use Rattle.std.proofs.Common.{◌≡◌, take, arith, refl, sym, ◌∙◌, eq-eqb}
use Rattle.std.proofs.lemmas.List.{take_all}
use Rattle.lk_auth.proofs.Bits.{tells_more}
use Rattle.lk_auth.proofs.frame.is_same.Goals as goal

pub bytes-init : goal.bytes-init
bytes-init c = record { same = λ _. refl; zero = λ _. refl }

pub bytes-preserved : goal.bytes-preserved
bytes-preserved c = tells_more c.bytes.difference c.bytes.i c.args.left.now c.args.right.now (omega arith)
    (omega arith) c.bytes.invariant

pub returns : goal.returns
returns c =
    let done = c.bytes.auto.i-end in
    let left : take c.bytes.i c.args.left.now ≡ c.args.left.now =
    take_all c.bytes.i c.args.left.now (omega (arith, c.told-left)) in
    let right : take c.bytes.i c.args.right.now ≡ c.args.right.now =
    take_all c.bytes.i c.args.right.now (omega (arith, c.requires)) in (
      λ is. sym left ∙ c.bytes.invariant.same (grind arith) ∙ right,
      λ e. eq-eqb c.bytes.difference 0 (c.bytes.invariant.zero (left ∙ e ∙ sym right)),
    )
