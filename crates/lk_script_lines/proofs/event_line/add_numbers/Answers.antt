use Rattle.std.proofs.Common.{rules, ◌≡◌, ◌≤◌, ◌∙◌, ◌++◌, [], ℕ, List, drop, length, sym, ap, append-nil}
use Rattle.std.proofs.lemmas.List.{drop_all}
use Rattle.lk_script_lines.specs.EventLines.{then_numbers}
use Rattle.lk_script_lines.proofs.event_line.add_numbers.Goals as goal

pub returns : goal.returns
returns c =
    let past : length c.args.numbers.now ≤ c.loop-n.n-index = search rules in
    let none : drop c.loop-n.n-index c.args.numbers.now ≡ [] = drop_all c.loop-n.n-index c.args.numbers.now past in
    sym (append-nil c.loop-n.text.items)
    ∙ ap (λ (l : List ℕ). c.loop-n.text.items ++ then_numbers l) (sym none) ∙ c.loop-n.invariant
