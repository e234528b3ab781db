use Rattle.lk_agreement_laws.proofs.Example.{alone, last, two_commands, change}
use Rattle.lk_agreement_laws.proofs.laws.members_change_in_some_world.Goals as goal

pub returns-clause-some : goal.returns-clause-some
returns-clause-some c = (alone, last, two_commands, change)

pub returns-clause-plain : goal.returns-clause-plain
returns-clause-plain c =
    (alone, last, two_commands, change.reached, change.chosen, change.two, change.one_member, change.both)
