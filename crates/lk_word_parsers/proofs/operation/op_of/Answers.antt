use Rattle.std.proofs.Common.{subst}
use Rattle.lk_word_parsers.specs.Operations.{SpellsOperation}
use Rattle.lk_word_parsers.specs.declared.verb.Verb.{Verb}
use Rattle.lk_word_parsers.proofs.operation.op_of.Goals as goal

pub returns-in-Release-clause-none : goal.returns-in-Release-clause-none
returns-in-Release-clause-none c =
    λ none o asks. c.read_fence_op.ensures.none none o
    (subst (λ (v : Verb). SpellsOperation v c.args.words.now o) c.in-Release.is asks)

pub returns-in-Check-clause-none : goal.returns-in-Check-clause-none
returns-in-Check-clause-none c =
    λ none o asks. c.read_fence_op-in-Check.ensures.none none o
    (subst (λ (v : Verb). SpellsOperation v c.args.words.now o) c.in-Check.is asks)

pub returns-in-Break-clause-none : goal.returns-in-Break-clause-none
returns-in-Break-clause-none c =
    λ none o asks. c.read_fence_op-in-Break.ensures.none none o
    (subst (λ (v : Verb). SpellsOperation v c.args.words.now o) c.in-Break.is asks)

pub returns-in-Join-clause-none : goal.returns-in-Join-clause-none
returns-in-Join-clause-none c =
    λ none o asks. c.read_join.ensures.none none o (subst (λ
    (v : Verb). SpellsOperation v c.args.words.now o) c.in-Join.is asks)

pub returns-in-Leave-clause-none : goal.returns-in-Leave-clause-none
returns-in-Leave-clause-none c =
    λ none o asks. c.read_leave.ensures.none none o (subst (λ
    (v : Verb). SpellsOperation v c.args.words.now o) c.in-Leave.is asks)

pub returns-in-Raw-clause-none : goal.returns-in-Raw-clause-none
returns-in-Raw-clause-none c =
    λ none o asks. c.read_hex.ensures.none none o (subst (λ
    (v : Verb). SpellsOperation v c.args.words.now o) c.in-Raw.is asks)
