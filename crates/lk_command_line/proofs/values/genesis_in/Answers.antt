use Rattle.std.proofs.Common.{◌≡◌, ◌∙◌, ℕ, List, refl, sym, subst}
use Rattle.std.specs.Prelude.{codes}
use Rattle.lk_word_parsers.specs.Geneses.{SpellsGenesis}
use Rattle.lk_command_line.specs.Arguments.{word_of}
use Rattle.lk_command_line.proofs.values.genesis_in.Goals as goal

pub returns-in-None-clause-err : goal.returns-in-None-clause-err
returns-in-None-clause-err c =
    let text : c.as_bytes.result.now ≡ word_of c.args.matches.now (codes "genesis") =
    c.as_bytes.ensures.value ∙ c.word-text.ensures in (
      λ cluster alpha ms spelled. c.in-None.ensures.none refl cluster alpha ms
          (subst (λ (t : List ℕ). SpellsGenesis t cluster alpha ms) (sym text) spelled),
      (c.invalid_genesis.ensures.0, c.invalid_genesis.ensures.1 ∙ c.word-text.ensures),
    )
