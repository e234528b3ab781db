use Rattle.std.proofs.Common.{◌≡◌, ◌*◌, ◌/◌, arith}
use Rattle.lk_summed_disk.specs.Frames.{stated, factor}
use Rattle.lk_summed_disk.proofs.FrameLaws.{field_written}
use Rattle.lk_summed_disk.proofs.frame.stated_length.Goals as goal

pub returns-clause-some : goal.returns-clause-some
unfolding stated
returns-clause-some c =
    let number = c.from_be_bytes-number.result in
    let states : number ≡ stated c.args.bytes.now =
    rw (← c.copy_from_slice.ensures.after) c.from_be_bytes-number.ensures in
    let times : number / 16381 * factor ≡ stated c.args.bytes.now = omega (arith, states, c.if-number-ne0.false) in (
      field_written c.args.bytes.now (number / 16381) (λ i. omega (arith, c.type_inv.bytes i)) c.requires times,
      omega (arith, c.from_be_bytes-number.type_inv),
    )
