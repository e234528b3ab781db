use Rattle.std.proofs.Common.{◌≡◌, ◌++◌, ◌∷◌, [], List, arith, sym, ap, ◌∙◌, slice_index, bit_xor, take}
use Rattle.std.proofs.lemmas.List.{length-set, take_all, take_more_set, map_more}
use Rattle.lk_auth.specs.Hmac.{with_pad}
use Rattle.lk_auth.proofs.mac.padded.Goals as goal

pub bytes-preserved : goal.bytes-preserved
bytes-preserved c =
    let byte = bit_xor (slice_index c.args.block.now c.bytes.i) c.args.pad in (
      length-set _ _ _ ∙ c.bytes.invariant.0,
      take_more_set c.bytes.mixed c.bytes.i byte (omega arith) ∙ ap (λ (l : List _). l ++ byte ∷ []) c.bytes.invariant.1
          ∙ sym (map_more (λ b. bit_xor b c.args.pad) c.args.block.now c.bytes.i 0 (omega arith)),
    )

pub returns : goal.returns
returns c =
    let done = c.bytes.auto.i-end in
    let e : c.bytes.i ≡ 64 = omega arith in
    let mixed : take c.bytes.i c.bytes.mixed ≡ c.bytes.mixed =
    take_all c.bytes.i c.bytes.mixed (omega (arith, c.bytes.invariant.0)) in
    let block : take c.bytes.i c.args.block.now ≡ c.args.block.now =
    take_all c.bytes.i c.args.block.now (omega (arith, c.told-block)) in
    sym mixed ∙ c.bytes.invariant.1 ∙ ap (with_pad c.args.pad) block
