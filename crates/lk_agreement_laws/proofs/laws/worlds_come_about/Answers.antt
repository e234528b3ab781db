use Rattle.lk_agreement_laws.specs.Changes.{restarts, leaves}
use Rattle.lk_agreement_laws.specs.Worlds.{sends, asks, changes, begin, next}
use Rattle.lk_agreement_laws.proofs.laws.worlds_come_about.Goals as goal

pub returns-clause-begins : goal.returns-clause-begins
returns-clause-begins c genesis = begin

pub returns-clause-sends : goal.returns-clause-sends
returns-clause-sends c genesis w n batch r may = next r (sends n batch may)

pub returns-clause-asks : goal.returns-clause-asks
returns-clause-asks c genesis w d r asked = next r (asks d asked)

pub returns-clause-changes : goal.returns-clause-changes
returns-clause-changes c genesis w n new r change = next r (changes n new change)

pub returns-clause-restarts : goal.returns-clause-restarts
returns-clause-restarts c genesis w n image r covers stems ended =
    next r (changes n image (restarts image covers stems ended))

pub returns-clause-leaves : goal.returns-clause-leaves
returns-clause-leaves c genesis w n r = next r (changes n _ leaves)
