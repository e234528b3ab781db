use Rattle.std.proofs.Common.{refl}
use Rattle.lk_word_parsers.specs.Words.{HasNoSpace}
use Rattle.lk_word_parsers.proofs.Splits.{one_way}
use Rattle.lk_script_lines.specs.WorldLines.{word_of}
use Rattle.lk_script_lines.specs.declared.event_verb.EventVerb.{EventVerb}
use Rattle.lk_script_lines.specs.declared.event_verb.EventVerb.TheVariants.{Start, Restart, Tick, Compact, Deliver}
use Rattle.lk_script_lines.specs.declared.event_verb.EventVerb.TheVariants.{Nudge, Group}
use Rattle.lk_script_lines.specs.declared.event_verb.EventVerb.TheVariants.{Client, Inject, Stop, Fail, Arm}
use Rattle.lk_script_lines.proofs.world_line.read_instruction.Goals as goal

one_verb : (v : EventVerb) → HasNoSpace (word_of v)
one_verb Start = refl
one_verb Restart = refl
one_verb Tick = refl
one_verb Nudge = refl
one_verb Compact = refl
one_verb Deliver = refl
one_verb Group = refl
one_verb Client = refl
one_verb Inject = refl
one_verb Stop = refl
one_verb Fail = refl
one_verb Arm = refl

pub returns-in-None-clause-not_understood : goal.returns-in-None-clause-not_understood
returns-in-None-clause-not_understood c = λ _ o asks.
    let first = c.in-Some.ensures.some in
    let parts = one_way c.args.line.now c.in-Some.word.now c.in-Some.words.now (word_of asks.0) asks.1 first.0 first.1
    (one_verb asks.0) asks.2 in
    c.in-None.ensures.none refl asks.0 parts.0
