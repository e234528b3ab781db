use Rattle.std.proofs.Common.{rules, ◌≡◌, ◌∙◌, ℕ, List, length, take, drop, ap}
use Rattle.lk_learner.proofs.parts.part_of.Goals as goal

pub returns : goal.returns
returns c =
    let bytes : c.in_ok-bytes.bytes.items ≡ take 1024 (drop c.args.offset c.args.text.now) = search rules in
    rw c.unwrap.ensures at c.of-part.ensures.value
    ∙ ap (λ (b : List ℕ). record {
      position = c.args.position;
      total = length c.args.text.now;
      offset = c.args.offset;
      bytes = b;
    }) bytes
