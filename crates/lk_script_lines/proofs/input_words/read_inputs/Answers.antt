use Rattle.std.proofs.Common.{rules, ◌≡◌, ◌∷◌, ◌++◌, [], refl}
use Rattle.lk_script_lines.specs.WorldLines.SpellsInputs.{one}
use Rattle.lk_script_lines.proofs.InputLaws.{one_read, no_input, no_last}
use Rattle.lk_script_lines.proofs.input_words.read_inputs.Goals as goal

pub returns-in_default-input_of-clause-not_understood : goal.returns-in_default-input_of-clause-not_understood
returns-in_default-input_of-clause-not_understood c = λ _ ts spelled.
    no_input c.args.words.now c.words.rest.now c.in-Some.first.now c.in-Some.behind.now c.words.inputs.items
    c.in-Some.ensures.some (c.in_default-input_of.ensures.none refl) c.words.invariant ts spelled

pub words-preserved : goal.words-preserved
words-preserved c =
    let grown : c.push.new.self.items ≡ c.words.inputs.items ++ c.in-Some-input_of.input ∷ [] = search rules in
    rw grown (one_read c.args.words.now c.words.rest.now c.in-Some.first.now c.in-Some.behind.now c.words.inputs.items
    c.in-Some-input_of.input c.in-Some.ensures.some c.in-Some-input_of.ensures.some c.words.invariant)

pub returns-in_default-input_of-2-clause-not_understood : goal.returns-in_default-input_of-2-clause-not_understood
returns-in_default-input_of-2-clause-not_understood c = λ _ ts spelled.
    no_last c.args.words.now c.words.rest.now c.words.inputs.items (c.in_default.ensures.none refl)
    (c.in_default-input_of-2.ensures.none refl) c.words.invariant ts spelled

pub returns-clause-ok : goal.returns-clause-ok
returns-clause-ok c =
    let grown : c.push-2.new.self.items ≡ c.words.inputs.items ++ c.in-Some-input_of-2.input ∷ [] = search rules in
    rw grown (c.words.invariant.0 (c.in-Some-input_of-2.input ∷ [])
    (one c.in-Some-input_of-2.input c.words.rest.now c.in-Some-input_of-2.ensures.some))
