use Rattle.std.proofs.Common.{◌≡◌, ◌∙◌, ◌-◌, ℕ, min, length, take, drop, ap, arith, length-drop}
use Rattle.std.proofs.lemmas.List.{take_min}
use Rattle.lk_learner.proofs.parts.piece_of.Goals as goal

pub returns-clause-bytes : goal.returns-clause-bytes
returns-clause-bytes c =
    let long : c.min-end.result - c.args.offset ≡ min 1024 (length (drop c.args.offset c.args.text.now)) =
    omega (arith, c.min-end.ensures, length-drop c.args.offset c.args.text.now, c.requires.within) in
    ap (λ (n : ℕ). take n (drop c.args.offset c.args.text.now)) long
    ∙ take_min 1024 (drop c.args.offset c.args.text.now)
