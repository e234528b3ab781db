use Rattle.std.proofs.Common.{rules, arith}
use Rattle.lk_bundle.proofs.PieceLaws.{stuck, passes}
use Rattle.lk_bundle.proofs.pieces.count_pieces.Goals as goal

pub returns-in_err-behind-clause-none : goal.returns-in_err-behind-clause-none
returns-in_err-behind-clause-none c _ ds fit is =
    let so_far = c.pieces.invariant.so_far in
    stuck so_far.0 ds c.args.bytes.now c.pieces.rest.now so_far.2 fit so_far.3 is (search rules) (search rules)

pub pieces-preserved : goal.pieces-preserved
pieces-preserved c =
    let so_far = c.pieces.invariant.so_far in
    record {
      counted = omega (arith, c.in_ok-behind.ensures.length, c.pieces.invariant.counted);
      so_far = passes so_far.0 c.args.bytes.now c.pieces.rest.now c.in_ok-behind.field-0-0.now
          c.in_ok-behind.behind.now c.pieces.count so_far.1 so_far.2 so_far.3
          c.in_ok-behind.ensures.found.0 c.in_ok-behind.ensures.found.1;
    }
