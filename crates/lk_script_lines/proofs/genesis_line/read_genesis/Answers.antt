use Rattle.std.proofs.Common.{rules, ℕ, List, refl, sym, subst}
use Rattle.std.specs.Prelude.{codes}
use Rattle.lk_word_parsers.proofs.Splits.{one_way}
use Rattle.lk_script_lines.specs.GenesisLines.{SpellsGenesis}
use Rattle.lk_script_lines.proofs.genesis_line.read_genesis.Goals as goal

pub returns-then-not-is_genesis-clause-not_understood : goal.returns-then-not-is_genesis-clause-not_understood
returns-then-not-is_genesis-clause-not_understood c = λ _ cluster alpha ms line.
    let first = c.in-Some.ensures.some in
    let parts = one_way c.args.line.now c.in-Some.word.now c.in-Some.words.now
    (codes "genesis") line.words first.0 first.1 refl line.line_is in
    c.is_genesis.ensures.other (search rules) parts.0

pub returns-in-None-clause-not_understood : goal.returns-in-None-clause-not_understood
returns-in-None-clause-not_understood c = λ bad cluster alpha ms line.
    let first = c.in-Some.ensures.some in
    let parts = one_way c.args.line.now c.in-Some.word.now c.in-Some.words.now
    (codes "genesis") line.words first.0 first.1 refl line.line_is in
    c.in-None.ensures.none refl cluster alpha ms
    (subst (λ (t : List ℕ). SpellsGenesis t cluster alpha ms) (sym parts.1) line.spelled) line.has_no_fault
