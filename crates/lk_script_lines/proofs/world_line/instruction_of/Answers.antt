use Rattle.std.proofs.Common.{subst}
use Rattle.lk_script_lines.specs.WorldLines.{SpellsAfterVerb}
use Rattle.lk_script_lines.specs.declared.event_verb.EventVerb.{EventVerb}
use Rattle.lk_script_lines.proofs.world_line.instruction_of.Goals as goal

pub returns-in-Start-clause-not_understood : goal.returns-in-Start-clause-not_understood
returns-in-Start-clause-not_understood c =
    λ bad o asks. c.read_start.ensures.none (c.understood.ensures.not_understood bad) o
    (subst (λ (v : EventVerb). SpellsAfterVerb v c.args.words.now o) c.in-Start.is asks)

pub returns-in-Restart-clause-not_understood : goal.returns-in-Restart-clause-not_understood
returns-in-Restart-clause-not_understood c =
    λ bad o asks. c.read_restart.ensures.none (c.understood-in-Restart.ensures.not_understood bad) o
    (subst (λ (v : EventVerb). SpellsAfterVerb v c.args.words.now o) c.in-Restart.is asks)

pub returns-in-Tick-clause-not_understood : goal.returns-in-Tick-clause-not_understood
returns-in-Tick-clause-not_understood c =
    λ bad o asks. c.read_tick.ensures.none (c.understood-in-Tick.ensures.not_understood bad) o
    (subst (λ (v : EventVerb). SpellsAfterVerb v c.args.words.now o) c.in-Tick.is asks)

pub returns-in-Nudge-clause-not_understood : goal.returns-in-Nudge-clause-not_understood
returns-in-Nudge-clause-not_understood c =
    λ bad o asks. c.read_nudge.ensures.none (c.understood-in-Nudge.ensures.not_understood bad) o
    (subst (λ (v : EventVerb). SpellsAfterVerb v c.args.words.now o) c.in-Nudge.is asks)

pub returns-in-Compact-clause-not_understood : goal.returns-in-Compact-clause-not_understood
returns-in-Compact-clause-not_understood c =
    λ bad o asks. c.read_compact.ensures.none (c.understood-in-Compact.ensures.not_understood bad) o
    (subst (λ (v : EventVerb). SpellsAfterVerb v c.args.words.now o) c.in-Compact.is asks)

pub returns-in-Deliver-clause-not_understood : goal.returns-in-Deliver-clause-not_understood
returns-in-Deliver-clause-not_understood c =
    λ bad o asks. c.read_deliver.ensures.none (c.understood-in-Deliver.ensures.not_understood bad) o
    (subst (λ (v : EventVerb). SpellsAfterVerb v c.args.words.now o) c.in-Deliver.is asks)

pub returns-in-Group-clause-not_understood : goal.returns-in-Group-clause-not_understood
returns-in-Group-clause-not_understood c =
    λ bad o asks. c.read_group.ensures.not_understood bad o
    (subst (λ (v : EventVerb). SpellsAfterVerb v c.args.words.now o) c.in-Group.is asks)

pub returns-in-Client-clause-not_understood : goal.returns-in-Client-clause-not_understood
returns-in-Client-clause-not_understood c =
    λ bad o asks. c.read_ask.ensures.none (c.understood-in-Client.ensures.not_understood bad) o
    (subst (λ (v : EventVerb). SpellsAfterVerb v c.args.words.now o) c.in-Client.is asks)

pub returns-in-Inject-clause-not_understood : goal.returns-in-Inject-clause-not_understood
returns-in-Inject-clause-not_understood c =
    λ bad o asks. c.read_inject.ensures.not_understood bad o
    (subst (λ (v : EventVerb). SpellsAfterVerb v c.args.words.now o) c.in-Inject.is asks)

pub returns-in-Stop-clause-not_understood : goal.returns-in-Stop-clause-not_understood
returns-in-Stop-clause-not_understood c =
    λ bad o asks. c.read_stop.ensures.none (c.understood-in-Stop.ensures.not_understood bad) o
    (subst (λ (v : EventVerb). SpellsAfterVerb v c.args.words.now o) c.in-Stop.is asks)

pub returns-in-Fail-clause-not_understood : goal.returns-in-Fail-clause-not_understood
returns-in-Fail-clause-not_understood c =
    λ bad o asks. c.read_fail.ensures.none (c.understood-in-Fail.ensures.not_understood bad) o
    (subst (λ (v : EventVerb). SpellsAfterVerb v c.args.words.now o) c.in-Fail.is asks)

pub returns-in-Arm-clause-not_understood : goal.returns-in-Arm-clause-not_understood
returns-in-Arm-clause-not_understood c =
    λ bad o asks. c.read_arm.ensures.none (c.understood-in-Arm.ensures.not_understood bad) o
    (subst (λ (v : EventVerb). SpellsAfterVerb v c.args.words.now o) c.in-Arm.is asks)
