use Rattle.std.proofs.Common.{rules, ◌≡◌, ◌∙◌, ◌&&◌, ℕ, Some, ap, sym, ltb}
use Rattle.lk_codec.specs.FieldReading.{read_vote}
use Rattle.lk_codec.specs.Parser.{many}
use Rattle.lk_messages.proofs.Walks.{passed}
use Rattle.lk_messages.proofs.promise.end_of.Goals as goal
use Rattle.lk_messages.proofs.promise.end_of.Goals.{then-rising, else-rising}

pub loop-preserved : goal.loop-preserved
loop-preserved c =
    let is : c.if-rising.rising ≡ (c.loop.rising && ltb c.loop.low c.get-position.result) = elim c.if-rising.branch [
      | then-rising w ↦ search rules
      | else-rising w ↦ search rules
    ] in
    passed c.args.low c.loop.low c.get-position.result c.args.count c.loop.counter c.loop.rest.now
    c.in-Some.found.1.now c.loop.invariant.0 c.loop.rising c.if-rising.rising
    (many read_vote c.args.count c.args.bytes.now) c.loop-test.true
    (c.in-Some.ensures ∙ ap (λ (n : ℕ). Some (n, c.in-Some.found.1.now)) (sym c.get-position.ensures.value)) is
    c.loop.invariant.1 c.loop.invariant.2
