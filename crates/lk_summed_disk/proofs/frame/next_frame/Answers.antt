use Rattle.std.proofs.Common.{◌+◌, ◌-◌, drop, refl, arith, length-take}
use Rattle.lk_summed_disk.proofs.FrameLaws.{torn_short, torn_long, not_torn, not_torn_long, stated_is, finds_none}
use Rattle.lk_summed_disk.proofs.FrameLaws.{finds_other, finds_as, sum_differs, sum_same}
use Rattle.lk_summed_disk.proofs.frame.next_frame.Goals as goal

pub returns-then-bytes-lt4 : goal.returns-then-bytes-lt4
returns-then-bytes-lt4 c = torn_short c.args.bytes.now c.if-bytes-lt4.true

pub returns-in_default : goal.returns-in_default
returns-in_default c =
    let other = c.in_default.ensures.none refl in (
      not_torn c.args.bytes.now c.if-bytes-lt4.false other,
      λ n. finds_none c.args.chain.now c.args.bytes.now n other,
    )

pub returns-then-bytes-count : goal.returns-then-bytes-count
returns-then-bytes-count c =
    let some = c.in-Some.ensures.some in
    torn_long c.args.bytes.now c.in-Some.count (stated_is c.args.bytes.now c.in-Some.count some.1 some.0)
    c.if-bytes-count.true

pub returns-then-ne : goal.returns-then-ne
returns-then-ne c =
    let some = c.in-Some.ensures.some in
    let states = stated_is c.args.bytes.now c.in-Some.count some.1 some.0 in (
      not_torn_long c.args.bytes.now c.in-Some.count c.if-bytes-lt4.false states c.if-bytes-count.false,
      λ n. finds_other c.args.chain.now c.args.bytes.now c.in-Some.count n states
          (sum_differs c.args.chain.now c.args.bytes.now c.digest-after.result c.in-Some.count c.ne.result
          c.digest-after.ensures c.ne.ensures c.if-ne.true),
    )

pub returns : goal.returns
returns c =
    let some = c.in-Some.ensures.some in (
      finds_as c.args.chain.now c.args.bytes.now c.in-Some.count some.0 c.if-bytes-count.false
          (sum_same c.args.chain.now c.args.bytes.now c.digest-after.result c.in-Some.count c.ne.result
          c.digest-after.ensures c.ne.ensures c.if-ne.false),
      c.digest-after.ensures,
      omega (arith, some.1, length-take (c.in-Some.count + 4 - 4) (drop 4 c.args.bytes.now)),
    )
