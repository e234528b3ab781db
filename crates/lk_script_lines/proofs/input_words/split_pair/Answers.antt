use Rattle.std.proofs.Common.{rules, ◌≡◌, ℕ, List, ◌++◌, Some, codes, inl, refl, subst}
use Rattle.std.proofs.lemmas.Bool.Decides.{Decides-eqb}
use Rattle.std.proofs.lemmas.Slice.Eq.{strip_prefix_is}
use Rattle.lk_script_lines.proofs.input_words.split_pair.Goals as goal

pub returns-in-Some-clause-some : goal.returns-in-Some-clause-some
returns-in-Some-clause-some c =
    let prefix : c.as_slice.result.now ≡ codes "nudge withheld " = search rules in
    let is = strip_prefix_is Decides-eqb c.args.words.now c.as_slice.result.now (Some c.in-Some.rest)
    c.in-Some.ensures.cases in
    (inl refl, subst (λ (l : List ℕ). c.args.words.now ≡ l ++ c.in-Some.rest.now) prefix is)
