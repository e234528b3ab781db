use Rattle.std.proofs.Common.{◌≡◌, ◌∙◌, List, ℕ, Option, Some, None, IfSome, true, refl, sym}
use Rattle.std.specs.Option.{is_some}
use Rattle.lk_node_interface.specs.declared.nudge_reason.NudgeReason.{NudgeReason}
use Rattle.lk_sim.specs.declared.event.GroupInput.TheVariants.{Nudge}
use Rattle.lk_script_lines.specs.WorldLines.{OneInput, SpellsInput}
use Rattle.lk_script_lines.proofs.InputLaws.{first_word, first_pair, one_word, one_nudge}
use Rattle.lk_script_lines.proofs.input_words.split_input.Goals as goal

each : {X : Type 0} {P Q : X → Type 0} (o : Option X) → ((x : X) → P x → Q x) → IfSome o P → IfSome o Q
each None f p = tt
each (Some x) f p = f x p

alone : (words : List ℕ) (o : Option NudgeReason) → is_some o ≡ true
    → IfSome o (λ reason. SpellsInput (Nudge reason) words) → OneInput words
alone words None some is = absurd (cc some)
alone words (Some reason) some is = one_nudge reason words is

pub returns-then-is_some-clause-none : goal.returns-then-is_some-clause-none
returns-then-is_some-clause-none c = λ _.
    alone c.args.words.now c.nudge_of.result (sym c.is_some.ensures ∙ c.if-is_some.true) c.nudge_of.ensures.some

pub returns-in-Some-clause-some : goal.returns-in-Some-clause-some
returns-in-Some-clause-some c =
    first_pair c.in-Some.first.now c.in-Some.rest.now c.args.words.now c.in-Some.ensures.some

pub returns-clause-some : goal.returns-clause-some
returns-clause-some c =
    each c.split_word.result (λ p is. first_word c.args.words.now p.0.now p.1.now is.0 is.1
    (c.nudge_of.ensures.none (sym c.is_some.ensures ∙ c.if-is_some.false)) (c.in_default.ensures.none refl))
    c.split_word.ensures.some

pub returns-clause-none : goal.returns-clause-none
returns-clause-none c = λ none. one_word c.args.words.now (c.split_word.ensures.none none)
