use Rattle.std.proofs.Common.{rules, ◌≡◌, ◌∙◌, ap, ℕ, [], ◌∷◌, ◌++◌, length, take}
use Rattle.std.proofs.Math.Seq.{take-append_seam}
use Rattle.std.proofs.lemmas.List.{nil_from_length}
use Rattle.lk_script_lines.proofs.LineLaws.{ends_line, whole_line, no_line}
use Rattle.lk_script_lines.proofs.lines.drop_line_feed.Goals as goal

pub returns-then-last-eq10 : goal.returns-then-last-eq10
returns-then-last-eq10 c =
    let is : c.args.line.now.items ≡ c.in-Some.front.now ++ c.in-Some.last.now ∷ [] = search rules in
    let last : c.in-Some.last.now ≡ 10 = c.if-last-eq10.true in
    λ text taken. c.truncate.ensures.items ∙ ap (take (length c.in-Some.front.now)) is
    ∙ take-append_seam c.in-Some.front.now (c.in-Some.last.now ∷ [])
    ∙ ends_line text c.args.line.now.items c.in-Some.front.now taken
    (is ∙ ap (λ (b : ℕ). c.in-Some.front.now ++ b ∷ []) last)

pub returns-else-last-eq10 : goal.returns-else-last-eq10
returns-else-last-eq10 c =
    λ text taken. whole_line text c.args.line.now.items c.in-Some.front.now c.in-Some.last.now taken
    (search rules) (search rules)

pub returns-in_default : goal.returns-in_default
returns-in_default c =
    λ text taken. no_line text c.args.line.now.items taken (nil_from_length c.args.line.now.items (search rules))
